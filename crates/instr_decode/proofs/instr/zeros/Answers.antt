use Rattle.std.proofs.Common.{◌≡◌, ◌≢◌, ◌<◌, ℕ, zero, suc, List, [], ◌∷◌, ◌++◌, length, replicate, true, false, refl, ap, ◌∙◌, arith, rules}
use Rattle.std.specs.Prelude.{HoldsAt}
use Rattle.std.specs.List.{AllWithin}
use Rattle.std.proofs.lemmas.Iterator.{YieldsList-from_slice, cases_from_all}
use Rattle.std.proofs.lemmas.List.{length-replicate}
use Rattle.leb_read.specs.Reading.{rest, TakesSlice}
use Rattle.instr_decode.specs.Opcodes.{TakesZeros}
use Rattle.instr_decode.specs.declared.fault.DecodeFault.TheVariants.{Malformed}
use Rattle.instr_decode.proofs.Decoding.{exits, read-as}
use Rattle.instr_decode.proofs.instr.zeros.Goals as goal

all_zero : (xs : List ℕ) (n : ℕ) → length xs ≡ n → AllWithin (λ b. b ≡ 0) xs 0 (length xs) → xs ≡ replicate n 0
all_zero [] zero long all = refl
all_zero [] (suc n) long all = absurd (omega (arith, long))
all_zero (x ∷ xs) zero long all = absurd (omega (arith, long))
all_zero (x ∷ xs) (suc n) long all =
    let first : x ≡ 0 = all 0 0 (omega arith) (omega arith) in
    ap (λ (y : ℕ). y ∷ xs) first ∙ ap (λ (l : List ℕ). 0 ∷ l) (all_zero xs n (omega (arith, long)) (λ k d ge lt. all (suc k) d (omega arith) (omega (arith, lt))))

not_zero : (xs : List ℕ) (n k : ℕ) (left after : List ℕ) → length xs ≡ n → k < length xs → HoldsAt (λ b. b ≢ 0) xs k → xs ++ left ≡ replicate n 0 ++ after → ⊥
not_zero [] n k left after long lt other e = omega (arith, lt)
not_zero (x ∷ xs) zero k left after long lt other e = omega (arith, long)
not_zero (x ∷ xs) (suc n) zero left after long lt other e = other 0 (cc (e))
not_zero (x ∷ xs) (suc n) (suc k) left after long lt other e = not_zero xs n k left after (omega (arith, long)) (omega (arith, lt)) (λ d. other d) (cc (e))

pub returns-in_err-bytes-clause-read : goal.returns-in_err-bytes-clause-read
returns-in_err-bytes-clause-read c =
    exits c.from_residual.result _ _ Malformed c.from_residual.ensures.1 (λ x after h. c.in_err-bytes.ensures.none (replicate c.args.count 0) after (length-replicate {A = ℕ} c.args.count 0, h))

pub returns-then-all-clause-read : goal.returns-then-all-clause-read
returns-then-all-clause-read c =
    let all = cases_from_all c.all.new.self _ true (λ (b : ℕ). b ≡ 0) (λ (b : ℕ). b ≢ 0) c.if-all.ensures.ran (YieldsList-from_slice c.in_ok-bytes.bytes.now c.iter.ensures.rest) (λ x q k. (search rules, search rules)) (λ x q k. search rules) in
    read-as (TakesSlice c.args.count) (TakesZeros c.args.count) _ _ _ _ c.in_ok-bytes.ensures
    (λ h. h.1 ∙ ap (λ (l : List ℕ). l ++ rest c.take.new.self) (all_zero c.in_ok-bytes.bytes.now c.args.count h.0 all))

pub returns-else-all-clause-read : goal.returns-else-all-clause-read
returns-else-all-clause-read c = λ x after h.
    let some = cases_from_all c.all.new.self _ false (λ (b : ℕ). b ≡ 0) (λ (b : ℕ). b ≢ 0) c.if-all.ensures.ran (YieldsList-from_slice c.in_ok-bytes.bytes.now c.iter.ensures.rest) (λ x q k. (search rules, search rules)) (λ x q k. search rules) in
    let s = c.in_ok-bytes.ensures.spelled in
    not_zero c.in_ok-bytes.bytes.now c.args.count some.0 (rest c.take.new.self) after s.0 some.1 some.2 (cc (s.1, h))
