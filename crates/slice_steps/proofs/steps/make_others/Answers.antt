use Rattle.std.proofs.Common.{◌∙◌, [], arith, refl}
use Rattle.slice_steps.proofs.SliceLemmas.{nothing_more, worked_more}
use Rattle.slice_steps.proofs.steps.make_others.Goals as goal

pub loop-init : goal.loop-init
loop-init g c = record {
  at_work = c.requires.at_work;
  own = refl;
  kept = omega arith;
  did = nothing_more g.N.Naming.config c.args.shared.now.host c.args.shared.now.calls.items g.A.InSlices.slice _ _ _ _ refl refl;
}

pub loop-preserved : goal.loop-preserved
loop-preserved g c =
    let i = c.loop.invariant in
    let more = c.go_on.ensures.kept in
    let kept = i.kept in record {
      at_work = c.go_on.ensures.at_work;
      own = c.go_on.ensures.own ∙ i.own;
      kept = omega arith;
      did = worked_more g.N.Naming.config c.args.shared.now.host c.args.shared.now.calls.items g.A.InSlices.slice [] _ _ _ _ _ _ i.did c.in_ok-came.ensures.did;
    }

pub returns-then-due-clause-did : goal.returns-then-due-clause-did
returns-then-due-clause-did g c =
    worked_more g.N.Naming.config c.args.shared.now.host c.args.shared.now.calls.items g.A.InSlices.slice [] _ _ _ _ _ _ c.loop.invariant.did c.in_ok-came.ensures.did
