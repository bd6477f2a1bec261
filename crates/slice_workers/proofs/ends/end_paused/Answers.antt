use Rattle.std.proofs.Common.{◌∙◌, ap}
use Rattle.slice_workers.proofs.EndLemmas.{ended_paused, made_all, sliced_all, took_idle_pass}
use Rattle.slice_steps.proofs.SliceLemmas.{came_round}
use Rattle.slice_workers.proofs.ends.end_paused.Goals as goal

pub returns-in-None-next-clause-all : goal.returns-in-None-next-clause-all
returns-in-None-next-clause-all g c =
    let i = c.loop.invariant in
    rw c.reserve.ensures.items (sliced_all g.N.Naming.config _ _ _ _ _ _ _ i.sliced (c.in-None-next.ensures.all i.whole))

pub returns-in-None-next-clause-made : goal.returns-in-None-next-clause-made
returns-in-None-next-clause-made g c =
    let i = c.loop.invariant in
    rw c.reserve.ensures.items (made_all g.N.Naming.config _ _ _ _ _ _ _ i.sliced (c.in-None-next.ensures.all i.whole))

pub loop-preserved : goal.loop-preserved
loop-preserved g c =
    let i = c.loop.invariant in
    let took = rw c.in-Some-Paused.field-0-is at c.in-Some-Paused.ensures.given in
    let came = came_round g.A.Admits.fits _ _ _ c.in-Some-Paused.field-0 _ c.requires.fits c.in-Some-Paused.field-0-is c.in-Some-Paused.ensures.fits in record {
      whole = ap (λ r. r.share) c.in-Some-Paused.ensures.given ∙ i.whole;
      sliced = ended_paused g.N.Naming.config _ _ _ _ _ _ _ _ _ c.in-Some-Paused.paused _ c.end_call-worked.result.0 i.sliced c.next-in-loop.ensures.own took came c.end_call-worked.ensures
          (rw c.reserve.ensures.items at c.push_reserved.ensures.items);
    }

pub loop-preserved-in-Some-Idle : goal.loop-preserved-in-Some-Idle
loop-preserved-in-Some-Idle g c =
    let i = c.loop.invariant in
    let took = rw c.in-Some-Idle.field-0-is at c.in-Some-Idle.ensures.given in record {
      whole = ap (λ r. r.share) c.in-Some-Idle.ensures.given ∙ i.whole;
      sliced = rw c.reserve.ensures.items (took_idle_pass g.N.Naming.config _ _ _ _ _ _ _ _ c.in-Some-Idle._pass i.sliced c.next-in-loop.ensures.own took);
    }
