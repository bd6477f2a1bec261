use Rattle.call_rounds.proofs.RunLemmas.{sliced_run}
use Rattle.call_rounds.proofs.modes.in_slices.Goals as goal

pub returns : goal.returns
returns g c =
    sliced_run g.N.Naming.config c.args.requests.now c.args.slice _ _ _ _ c.in_ok-crew.crew _ c.in_ok-lane.lane c.make_left.new.lane c.requires.several c.requires.sliced c.requires.may
    (c.runs_whole-whole.ensures.slices c.requires.may) c.in_ok-crew.ensures.crew c.in_ok-made.ensures.shared c.in_ok-lane.ensures.share c.in_ok-lane.ensures.new c.requires.books c.in_ok-made.ensures.made
    c.of_all-span.ensures.whole c.in_ok-make_left.ensures.lane c.in_ok-make_left.ensures.made c.in_ok-make_left.ensures.registry c.in_ok-make_left.ensures.books

pub by_slicers-requires-clause-books : goal.by_slicers-requires-clause-books
by_slicers-requires-clause-books g c κs within = c.requires.books

pub by_slicers-requires-clause-crew : goal.by_slicers-requires-clause-crew
by_slicers-requires-clause-crew g c κs within = c.in_ok-crew.ensures.crew

pub by_slicers-requires-clause-some : goal.by_slicers-requires-clause-some
by_slicers-requires-clause-some g c κs within = c.in_ok-crew.ensures.some

pub make_left-requires-clause-span : goal.make_left-requires-clause-span
make_left-requires-clause-span g c κs within = c.of_all-span.ensures.span
