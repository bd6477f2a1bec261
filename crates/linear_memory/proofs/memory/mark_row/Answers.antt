use Rattle.std.proofs.Common.{ℕ, ◌+◌, ◌++◌, ◌∙◌, ap, sym, take, drop, replicate, true}
use Rattle.std.proofs.lemmas.List.{length-replicate}
use Rattle.linear_memory.proofs.memory.mark_row.Goals as goal

pub returns : goal.returns
returns c =
    c.mark_row.ensures
    ∙ ap (λ (n : ℕ). take c.args.first c.args.marks.now.items ++ (replicate c.args.count true ++ drop (c.args.first + n) c.args.marks.now.items)) (sym (length-replicate c.args.count true))
