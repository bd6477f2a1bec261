use Rattle.std.proofs.Common.{◌∙◌, ap, arith, set, true}
use Rattle.memory_blocks.specs.Marks.{MarksView}
use Rattle.memory_blocks.proofs.MarkLemmas.{widened_set}
use Rattle.memory_blocks.proofs.marks.Marks.mark.Goals as goal

pub returns : goal.returns
returns c = c.set_one.ensures ∙ ap (λ (v : MarksView). set v.items c.args.block true) c.self.view_is

pub invariant_of-self : goal.invariant_of-self
invariant_of-self c =
    rw (c.widened-self-inside.ensures, c.set_one.ensures)
    (widened_set c.self.inside.span.first c.self.inside.span.end c.args.block c.self.inside.marks.items (omega arith) c.self.invariant)
