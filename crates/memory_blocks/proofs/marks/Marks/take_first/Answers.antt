use Rattle.std.proofs.Common.{◌∙◌, ap, subst, Some, set, false}
use Rattle.memory_blocks.specs.Marks.{IsFirstMarked, MarksView}
use Rattle.memory_blocks.proofs.MarkLemmas.{found_first}
use Rattle.memory_blocks.proofs.marks.Marks.take_first.Goals as goal

pub returns-in-Some-clause-first : goal.returns-in-Some-clause-first
returns-in-Some-clause-first c =
    subst (λ (v : MarksView). IsFirstMarked v.items (Some c.in-Some.block)) c.self.view_is
    (found_first c.self.inside.span.first c.self.inside.span.end c.self.inside.marks.items (Some c.in-Some.block) c.self.invariant (rw c.deref.ensures.value at c.in-Some.ensures))

pub returns-in-Some-clause-marks : goal.returns-in-Some-clause-marks
returns-in-Some-clause-marks c = c.set_one.ensures ∙ ap (λ (v : MarksView). set v.items c.in-Some.block false) c.self.view_is
