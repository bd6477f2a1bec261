use Rattle.std.proofs.Common.{◌∙◌, length, List, Bool, ap, sym, subst}
use Rattle.memory_blocks.specs.Marks.{IsJoined, IsUnmarkedOutside, MarksView}
use Rattle.memory_blocks.proofs.marks.Marks.mark_all_of.Goals as goal

pub mark_those-requires-clause-room : goal.mark_those-requires-clause-room
mark_those-requires-clause-room c = ap length c.deref.ensures.value ∙ ap (λ (v : MarksView). length v.items) c.others.view_is ∙ c.requires

pub mark_those-requires-clause-others : goal.mark_those-requires-clause-others
mark_those-requires-clause-others c =
    subst (λ (l : List Bool). IsUnmarkedOutside c.others.inside.span.first c.others.inside.span.end l) (sym c.deref.ensures.value) c.others.invariant

pub returns : goal.returns
returns c =
    subst (λ (l : List Bool). IsJoined c.args.self.now.items l c.mark_those.new.marks.items)
    (c.deref.ensures.value ∙ ap (λ (v : MarksView). v.items) c.others.view_is) c.mark_those.ensures
