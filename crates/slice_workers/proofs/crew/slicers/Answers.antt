use Rattle.std.proofs.Common.{false, rules}
use Rattle.std.proofs.lemmas.List.Elements.{All-pop, All-push}
use Rattle.job_queue.specs.Passes.{IsNewPassOf}
use Rattle.job_queue.specs.RunPasses.{IsNewRunPass}
use Rattle.slice_workers.specs.Crews.{IsNewSlicer}
use Rattle.slice_workers.proofs.crew.slicers.Goals as goal

pub loop-place-preserved : goal.loop-place-preserved
loop-place-preserved g c =
    let i = c.loop-place.invariant in
    let places = All-pop (IsNewRunPass _) _ _ _ c.pop.ensures.items i.places in
    let owns = All-pop (IsNewPassOf false _) _ _ _ c.pop-in-Some.ensures.items i.owns in
    let place = rw c.in-Some.is at places.1 in
    let own = rw c.unwrap-own.ensures at owns.1 in record {
      places = places.0;
      owns = owns.0;
      many = search rules;
      count = search rules;
      workers = rw (c.push_reserved.ensures.items, c.reserve.ensures.items) (All-push (IsNewSlicer _ _ _ _) _ _ i.workers (record { own = own; place = place; slice_is = c.requires.slice; fits = c.requires.fits }));
    }
