use Rattle.std.proofs.Common.{arith}
use Rattle.std.proofs.lemmas.List.Elements.{All-pop}
use Rattle.slice_workers.specs.Crews.{IsSliceDone}
use Rattle.slice_workers.proofs.ends.join_slicers.Goals as goal

pub join_next-requires-clause-done : goal.join_next-requires-clause-done
join_next-requires-clause-done g c =
    let i = c.loop-next.invariant in
    let rest = All-pop (IsSliceDone c.args.queue.now g.N.Naming.config c.args.shared.now g.A.InSlices.slice) _ _ _ c.pop.ensures.items i.others in
    rw c.in-Some.is at rest.1

pub loop-next-preserved : goal.loop-next-preserved
loop-next-preserved g c =
    let i = c.loop-next.invariant in
    let rest = All-pop (IsSliceDone c.args.queue.now g.N.Naming.config c.args.shared.now g.A.InSlices.slice) _ _ _ c.pop.ensures.items i.others in
    let len = c.in-Some.ensures.len in
    let all = i.share in
    let one = c.in_ok-join_next.ensures.share in record {
      share = omega arith;
      joined = c.in_ok-join_next.ensures.sliced;
      others = rest.0;
    }
