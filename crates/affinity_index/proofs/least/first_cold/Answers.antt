use Rattle.std.proofs.Common.{◌≡◌, ◌<◌, ◌≤◌, ◌∙◌, ◌%◌, ◌==◌, ⊎_elim, ℕ, true, false, sym, ap, arith}
use Rattle.std.specs.Prelude.{slice_index_or}
use Rattle.std.proofs.lemmas.Bool.{cases_lt, eq-eqb, eqb-true, true≢false}
use Rattle.std.proofs.lemmas.List.{get_or_default}
use Rattle.affinity_index.proofs.least.first_cold.Goals as goal

pub loop-n-preserved : goal.loop-n-preserved
loop-n-preserved c = λ m lt. ⊎_elim
    (λ (l : m < c.loop-n.n). c.loop-n.invariant m l)
    (λ (u : c.loop-n.n ≤ m). λ (cold : slice_index_or c.args.seen.now m 1 % 8 ≡ 0).
    let n : ℕ = c.loop-n.n in
    let same : m ≡ n = omega arith in
    let there : slice_index_or c.args.seen.now n 0 % 8 ≡ 0 =
    ap (λ (w : ℕ). w % 8) (get_or_default c.args.seen.now n 0 1 c.loop-n-test.true ∙ ap (λ (k : ℕ). slice_index_or c.args.seen.now k 1) (sym same)) ∙ cold in
    true≢false (sym (eq-eqb (slice_index_or c.args.seen.now n 0 % 8) 0 there) ∙ sym c.is_cold.ensures ∙ c.if-is_cold.false))
    (cases_lt m c.loop-n.n)

pub returns-then-is_cold : goal.returns-then-is_cold
returns-then-is_cold c = record {
  within = c.loop-n-test.true;
  cold = ap (λ (w : ℕ). w % 8) (sym (get_or_default c.args.seen.now c.loop-n.n 0 1 c.loop-n-test.true)) ∙ eqb-true _ 0 (sym c.is_cold.ensures ∙ c.if-is_cold.true);
  before = c.loop-n.invariant;
}
