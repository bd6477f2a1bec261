use Rattle.std.proofs.Common.{ap, arith, length}
use Rattle.std.proofs.lemmas.List.Elements.{All-nil}
use Rattle.pool_host.specs.Hosts.{IsHostPass}
use Rattle.slice_steps.proofs.SliceLemmas.{all_put_back}
use Rattle.slice_steps.proofs.work_loop.work_in_slices.Goals as goal

pub work_keeping-worked-requires-clause-at_work : goal.work_keeping-worked-requires-clause-at_work
work_keeping-worked-requires-clause-at_work g c κs within =
    let none = ap length c.new-passes.ensures.items in
    let room = c.requires.room in record {
      own = c.requires.own;
      place = c.requires.place;
      slice_is = c.requires.slice;
      passes = rw c.new-passes.ensures.items (All-nil (IsHostPass c.args.shared.now.host));
      room = omega arith;
    }

pub returns-in-Ok-clause-did : goal.returns-in-Ok-clause-did
returns-in-Ok-clause-did g c =
    all_put_back g.N.Naming.config c.args.shared.now.host c.args.shared.now.calls.items g.A.InSlices.slice _ _ _ _ _ _ _ c.new-made.ensures.items c.in-Ok.ensures.did c.put_kept.ensures.put
