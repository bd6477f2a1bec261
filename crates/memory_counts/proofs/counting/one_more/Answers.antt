use Rattle.std.proofs.Common.{◌≡◌, ◌+◌, ◌%◌, ◌^◌, ◌<◌, ℕ, sym, ap, ◌∙◌, arith}
use Rattle.std.proofs.Math.Nat.{mod-eq_of_lt}
use Rattle.pool_core.specs.StateWords.{bit}
use Rattle.memory_counts.proofs.counting.one_more.Goals as goal

pub returns-then-more : goal.returns-then-more
returns-then-more c = ap (λ (k : ℕ). (c.args.count + k) % 2 ^ 64) (sym (ap bit c.if-more.true))

pub returns : goal.returns
returns c =
    let none = ap bit c.if-more.false in
    let same : c.args.count + bit c.args.more ≡ c.args.count = omega (arith, none) in
    let small : c.args.count < 2 ^ 64 = omega arith in
    sym (ap (λ (k : ℕ). k % 2 ^ 64) same ∙ mod-eq_of_lt small)
