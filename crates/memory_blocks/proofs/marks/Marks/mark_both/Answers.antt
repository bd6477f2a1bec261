use Rattle.std.proofs.Common.{◌∙◌, ap, List, Bool, set, true}
use Rattle.memory_blocks.proofs.marks.Marks.mark_both.Goals as goal

pub returns : goal.returns
returns c = c.mark-2.ensures ∙ ap (λ (l : List Bool). set l c.args.other true) c.mark.ensures
