use Rattle.std.proofs.Common.{◌∙◌, ap}
use Rattle.memory_blocks.specs.Marks.{MarksView}
use Rattle.memory_blocks.proofs.marks.Marks.as_slice.Goals as goal

pub returns : goal.returns
returns c = c.deref.ensures.value ∙ ap (λ (v : MarksView). v.items) c.self.view_is
