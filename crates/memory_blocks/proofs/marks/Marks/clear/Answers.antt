use Rattle.std.proofs.Common.{◌∙◌, length, ap, arith}
use Rattle.memory_blocks.specs.Marks.{MarksView}
use Rattle.memory_blocks.proofs.marks.Marks.clear.Goals as goal

pub invariant_of-self : goal.invariant_of-self
invariant_of-self c = record { within = omega arith; before = λ k h. c.clear_row.ensures.none k; after = λ k h. c.clear_row.ensures.none k }

pub returns-clause-room : goal.returns-clause-room
returns-clause-room c = c.clear_row.ensures.room ∙ ap (λ (v : MarksView). length v.items) c.self.view_is
