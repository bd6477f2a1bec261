use Rattle.std.proofs.Common.{◌+◌, ◌-◌, ◌<◌, ℕ, take, drop, arith}
use Rattle.std.proofs.lemmas.Bool.{both_ways}
use Rattle.memory_blocks.proofs.MarkLemmas.{count, none_between, none_further}
use Rattle.memory_blocks.proofs.searching.pass_over.Goals as goal

pub loop-at-preserved : goal.loop-at-preserved
loop-at-preserved c =
    let at : ℕ = c.loop-at.at in
    let next : ℕ = at + c.min.result in
    let inv = c.loop-at.invariant in
    let later = inv.later in
    let none : ¬ (0 < count (take (next - at) (drop at c.args.marks.now))) = λ h. both_ways c.has_marked.result c.if-has_marked.false (c.has_marked.ensures.1 h) in
    record { later = omega arith; none = none_further c.args.from at next c.args.marks.now inv.none (none_between at next c.args.marks.now none) }
