-- The slots that nobody held, one word more.
use Rattle.std.proofs.Common.{◌≡◌, ℕ, zero, suc, ◌+◌, ◌%◌, ◌<◌, ◌==◌, Bool, true, false, cond, List, [], ◌∷◌, ◌++◌, length, take, refl, ap, ◌∙◌, arith}
use Rattle.std.specs.Prelude.{slice_index_or}
use Rattle.std.proofs.lemmas.Bool.{eq-eqb}
use Rattle.std.proofs.lemmas.List.{take_more, length-take-le}
use Rattle.affinity_index.specs.Unheld.{unheld_from}

joined : (b : Bool) (k : ℕ) (xs ys : List ℕ) → cond b (k ∷ (xs ++ ys)) (xs ++ ys) ≡ cond b (k ∷ xs) xs ++ ys
joined true k xs ys = refl
joined false k xs ys = refl

unheld-push : (k : ℕ) (rs : List ℕ) (r : ℕ) → unheld_from k (rs ++ r ∷ []) ≡ unheld_from k rs ++ cond (r % 2 == 0) ((k + length rs) ∷ []) []
unheld-push k [] r = ap (λ (j : ℕ). cond (r % 2 == 0) (j ∷ []) []) (let e : k ≡ k + 0 = omega arith in e)
unheld-push k (x ∷ rs) r =
    ap (λ (ns : List ℕ). cond (x % 2 == 0) (k ∷ ns) ns) (unheld-push (k + 1) rs r ∙ ap (λ (j : ℕ). unheld_from (k + 1) rs ++ cond (r % 2 == 0) (j ∷ []) []) (let e : k + 1 + length rs ≡ k + suc (length rs) = omega arith in e))
    ∙ joined (x % 2 == 0) k (unheld_from (k + 1) rs) (cond (r % 2 == 0) ((k + suc (length rs)) ∷ []) [])

pub unheld_more : (seen : List ℕ) (n : ℕ) → n < length seen → unheld_from 0 (take (n + 1) seen) ≡ unheld_from 0 (take n seen) ++ cond (slice_index_or seen n 0 % 2 == 0) (n ∷ []) []
unheld_more seen n h = ap (unheld_from 0) (take_more seen n 0 h) ∙ unheld-push 0 (take n seen) (slice_index_or seen n 0)
    ∙ ap (λ (j : ℕ). unheld_from 0 (take n seen) ++ cond (slice_index_or seen n 0 % 2 == 0) (j ∷ []) []) (let l = length-take-le n seen (omega arith) in let e : 0 + length (take n seen) ≡ n = omega arith in e)

-- what stands before a number that nobody held
unheld_before : (k : ℕ) (seen : List ℕ) (n : ℕ) → n < length seen → slice_index_or seen n 0 % 2 ≡ 0 → (rest : List ℕ) × (unheld_from k seen ≡ unheld_from k (take n seen) ++ ((k + n) ∷ rest))
unheld_before k [] n within free = absurd (omega arith)
unheld_before k (r ∷ rs) zero within free =
    let even : (r % 2 == 0) ≡ true = eq-eqb (r % 2) 0 free in
    (unheld_from (k + 1) rs, rw even (ap (λ (j : ℕ). j ∷ unheld_from (k + 1) rs) (let e : k ≡ k + zero = omega arith in e)))
unheld_before k (r ∷ rs) (suc n) within free =
    let later = unheld_before (k + 1) rs n (omega arith) free in (
      later.0,
      ap (λ (ns : List ℕ). cond (r % 2 == 0) (k ∷ ns) ns) later.1 ∙ joined (r % 2 == 0) k (unheld_from (k + 1) (take n rs)) ((k + 1 + n) ∷ later.0)
          ∙ ap (λ (j : ℕ). unheld_from k (r ∷ take n rs) ++ (j ∷ later.0)) (let e : k + 1 + n ≡ k + suc n = omega arith in e),
    )

pub unheld_at : (seen : List ℕ) (n : ℕ) → n < length seen → slice_index_or seen n 0 % 2 ≡ 0 → (rest : List ℕ) × (unheld_from 0 seen ≡ unheld_from 0 (take n seen) ++ (n ∷ rest))
unheld_at seen n within free = let at = unheld_before 0 seen n within free in
    (at.0, at.1 ∙ ap (λ (j : ℕ). unheld_from 0 (take n seen) ++ (j ∷ at.0)) (let e : 0 + n ≡ n = omega arith in e))
