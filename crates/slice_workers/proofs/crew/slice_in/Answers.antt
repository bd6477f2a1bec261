use Rattle.std.proofs.Common.{◌≡◌, ℕ, length, subst, arith}
use Rattle.std.proofs.lemmas.List.Elements.{All-pop}
use Rattle.job_queue.specs.RunPasses.{run_capacity}
use Rattle.slice_workers.specs.Crews.{HasIdle, IsSliceDone}
use Rattle.slice_workers.proofs.crew.slice_in.Goals as goal

pub join_slicers-requires-clause-first : goal.join_slicers-requires-clause-first
join_slicers-requires-clause-first g c =
    let capacity = c.in_ok-queue.ensures.capacity in
    let e : length c.args.passes.items ≡ run_capacity c.in_ok-queue.queue = omega arith in
    subst (λ (n : ℕ). HasIdle c.in_ok-queue.queue n c.put_passes.new.first) e c.put_passes.ensures

pub join_slicers-requires-clause-one : goal.join_slicers-requires-clause-one
join_slicers-requires-clause-one g c =
    let all = All-pop (IsSliceDone _ g.N.Naming.config _ _) _ _ _ c.pop.ensures.items c.in_ok-done.ensures.done in
    rw c.unwrap-one.ensures at all.1

pub join_slicers-requires-clause-others : goal.join_slicers-requires-clause-others
join_slicers-requires-clause-others g c =
    let all = All-pop (IsSliceDone _ g.N.Naming.config _ _) _ _ _ c.pop.ensures.items c.in_ok-done.ensures.done in
    all.0
