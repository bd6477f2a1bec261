use Rattle.std.proofs.Common.{ap, arith, refl}
use Rattle.std.proofs.lemmas.List.Elements.{All-pop}
use Rattle.job_queue.specs.RunPasses.{run_account_of}
use Rattle.pool_host.specs.Hosts.{IsHostPass}
use Rattle.slice_steps.proofs.SliceLemmas.{pass_put, worked_nothing}
use Rattle.slice_steps.proofs.steps.put_kept.Goals as goal

pub loop-pass-init : goal.loop-pass-init
loop-pass-init g c = record {
  place = c.requires.place;
  passes = c.requires.passes;
  enough = c.requires.room;
  room = refl;
  put = worked_nothing g.N.Naming.config c.args.shared.now.host c.args.shared.now.calls.items g.A.InSlices.slice _;
}

pub loop-pass-preserved : goal.loop-pass-preserved
loop-pass-preserved g c =
    let i = c.loop-pass.invariant in
    let passes = All-pop (IsHostPass c.args.shared.now.host) _ _ _ c.pop.ensures.items i.passes in
    let own = rw c.in-Some.is at passes.1 in
    let room = ap (λ r. r.room) c.put.ensures.put in
    let many = c.in-Some.ensures.len in
    let enough = i.enough in
    let whole = i.room in record {
      place = c.put.ensures.own;
      passes = passes.0;
      enough = omega arith;
      room = omega arith;
      put = pass_put g.N.Naming.config c.args.shared.now.host c.args.shared.now.calls.items g.A.InSlices.slice (run_account_of c.args.place.now) (run_account_of c.loop-pass.place) _ c.in-Some.pass own
          i.put c.put.ensures.put;
    }
