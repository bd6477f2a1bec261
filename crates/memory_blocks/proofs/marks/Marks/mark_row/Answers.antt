use Rattle.std.proofs.Common.{◌∙◌, ◌+◌, ◌++◌, ap, arith, length, take, drop, replicate, true}
use Rattle.memory_blocks.specs.Marks.{MarksView}
use Rattle.memory_blocks.proofs.MarkLemmas.{widened_row}
use Rattle.memory_blocks.proofs.marks.Marks.mark_row.Goals as goal

pub set_row-requires : goal.set_row-requires
set_row-requires c = let long = ap (λ (v : MarksView). length v.items) c.self.view_is in omega (arith, long, c.requires)

pub returns : goal.returns
returns c =
    c.set_row.ensures
    ∙ ap (λ (v : MarksView). take c.args.first v.items ++ (replicate c.args.count true ++ drop (c.args.first + c.args.count) v.items)) c.self.view_is

pub invariant_of-self : goal.invariant_of-self
invariant_of-self c =
    let long = ap (λ (v : MarksView). length v.items) c.self.view_is in
    rw (c.widened-self-inside.ensures, c.set_row.ensures)
    (widened_row c.self.inside.span.first c.self.inside.span.end c.args.first c.args.count c.self.inside.marks.items (omega (arith, long, c.requires)) c.self.invariant)
