-- A queue from which each worker was given its 0 has nothing left.
use Rattle.std.proofs.Common.{◌≡◌, ℕ, zero, suc, ◌+◌, ◌<◌, ◌≤◌, ◌==◌, false, true, if◌then◌else◌, List, [], ◌∷◌, ◌++◌, replicate, Option, None, refl, sym, ap, ◌∙◌, subst, arith}
use Rattle.std.specs.List.{All}
use Rattle.std.proofs.lemmas.Bool.Decides.{nat_tests}
use Rattle.std.proofs.lemmas.List.Elements.{All-head, All-tail}
use Rattle.std.proofs.lemmas.List.Folds.{sum_by-replicate}
use Rattle.std.proofs.lemmas.List.Sorted.{sum_by-IsPermutation}
use Rattle.std.proofs.lemmas.List.Sums.{sum_by-append, sum_by-cons}
use Rattle.job_queue.specs.Accounts.{IsNextOf}
use Rattle.pool_model.specs.Contents.{Named}
use Rattle.call_jobs.specs.Entries.{EndsAll, Pair, zeros}

abbrev zero_of : Pair → ℕ
zero_of pair = if pair.0 == 0 then 1 else 0

pub zeros-append : (xs ys : List Pair) → zeros (xs ++ ys) ≡ zeros xs + zeros ys
zeros-append xs ys = sum_by-append zero_of xs ys

no_zero : (pair : Pair) → 0 < pair.0 → zero_of pair ≡ 0
no_zero pair counted = let b : (pair.0 == 0) ≡ false = grind (arith, nat_tests) in rw b refl

pub no_zeros_in : (pair : Pair) → 0 < pair.0 → zeros (pair ∷ []) ≡ 0
no_zeros_in pair counted = let none = no_zero pair counted in omega (arith, sum_by-cons zero_of pair [])

pub one_zero_in : (pair : Pair) → pair.0 ≡ 0 → zeros (pair ∷ []) ≡ 1
one_zero_in pair zeroed = let b : (pair.0 == 0) ≡ true = grind (arith, nat_tests) in rw b refl

no_zeros : (pairs : List Pair) → All (λ (pair : Pair). 0 < pair.0) pairs → zeros pairs ≡ 0
no_zeros [] counted = refl
no_zeros (pair ∷ pairs) counted =
    let first = no_zero pair (All-head (λ (p : Pair). 0 < p.0) pair pairs counted) in
    let rest = no_zeros pairs (All-tail (λ (p : Pair). 0 < p.0) pair pairs counted) in
    omega (arith, sum_by-cons zero_of pair pairs)

pub zeros_before_zero : (pairs : List Pair) (last : Option Named) → All (λ (pair : Pair). 0 < pair.0) pairs → zeros (pairs ++ (0, last) ∷ []) ≡ 1
zeros_before_zero pairs last counted = let none = no_zeros pairs counted in omega (arith, zeros-append pairs ((0, last) ∷ []))

abbrev end : Pair
end = (0, None)

zeros_at_end : (pairs : List Pair) (n : ℕ) → zeros (pairs ++ replicate n end) ≡ zeros pairs + n
zeros_at_end pairs n = omega (arith, zeros-append pairs (replicate n end), sum_by-replicate zero_of n end)

-- whatever comes last has a 0
last_has_zero : (gone : List Pair) (x : Pair) (rest pairs : List Pair) (n : ℕ) → pairs ++ replicate (suc n) end ≡ gone ++ x ∷ rest → 1 ≤ zeros (x ∷ rest)
last_has_zero [] x rest pairs n e = let all : zeros (pairs ++ replicate (suc n) end) ≡ zeros (x ∷ rest) = ap zeros e in omega (arith, zeros_at_end pairs (suc n))
last_has_zero (g ∷ gone) x rest (pair ∷ pairs) n e = let same : pairs ++ replicate (suc n) end ≡ gone ++ x ∷ rest = cc in last_has_zero gone x rest pairs n same
last_has_zero (g ∷ []) x rest [] zero e = cc
last_has_zero (g ∷ (h ∷ gone)) x rest [] zero e = cc
last_has_zero (g ∷ gone) x rest [] (suc n) e = let same : replicate (suc n) end ≡ gone ++ x ∷ rest = cc in last_has_zero gone x rest [] n same

positive : (n : ℕ) → 0 < n → (k : ℕ) × (n ≡ suc k)
positive zero some = absurd (omega arith)
positive (suc k) some = (k, refl)

pub nothing_left : (put given : List Pair) (x : Pair) (n : ℕ) → 0 < n → EndsAll put n → zeros given ≡ n → IsNextOf put given x → ⊥
nothing_left put given x n some ends ended next =
    let (k, is) = positive n some in
    let whole : ends.pairs ++ replicate n end ≡ next.gone ++ x ∷ next.rest = sym ends.put_is ∙ next.order in
    let left = last_has_zero next.gone x next.rest ends.pairs k (subst (λ (m : ℕ). ends.pairs ++ replicate m end ≡ next.gone ++ x ∷ next.rest) is whole) in
    let sums : zeros (ends.pairs ++ replicate n end) ≡ zeros (next.gone ++ x ∷ next.rest) = ap zeros whole in
    let out = sum_by-IsPermutation zero_of next.gone given next.given_out in
    absurd (omega (arith, zeros_at_end ends.pairs n, zeros-append next.gone (x ∷ next.rest), no_zeros ends.pairs ends.counted))
