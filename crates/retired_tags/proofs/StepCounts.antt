-- What more steps tell.
use Rattle.std.proofs.Common.{◌≡◌, ℕ, zero, suc, ◌+◌, ◌≤◌, Bool, true, false, not, cond, ◌&&◌, List, [], ◌∷◌, ◌++◌, refl, ap, ◌∙◌, arith}
use Rattle.std.specs.Prelude.{◌==◌}
use Rattle.std.specs.List.{count_by}
use Rattle.std.proofs.lemmas.List.Sums.{sum_by-append, sum_by-cons, sum_by_push}
use Rattle.std.proofs.lemmas.Bool.{eq-eqb}
use Rattle.std.proofs.Math.Bool.{and-false, and-true}
use lib.Bits.{bit_or}
use Rattle.retired_tags.specs.declared.views.TagView.{TagView}
use Rattle.retired_tags.specs.declared.views.TagStep.{TagStep}
use Rattle.retired_tags.specs.declared.views.TagStep.TheVariants.{RetireOr, RetireLoad}
use Rattle.retired_tags.specs.Steps.{first_sets, sets, sets_first, tells}
use Rattle.retired_tags.specs.Views.{steps_of, view_after, view_joined}

module _ (p : TagStep → Bool) where
  -- one step more counts where it passes
  pub one_more : (v : TagView) (o : TagStep) → count_by p (steps_of (view_after v o)) ≡ count_by p (steps_of v) + cond (p o) 1 0
  one_more v o = let f : TagStep → ℕ = λ o. cond (p o) 1 0 in
      let a : count_by p (steps_of (view_after v o)) ≡ count_by p (v.trail ++ o ∷ []) + count_by p v.joined_trail = sum_by-append f (v.trail ++ o ∷ []) v.joined_trail in
      let b : count_by p (v.trail ++ o ∷ []) ≡ count_by p v.trail + cond (p o) 1 0 = sum_by_push f v.trail o in
      let c : count_by p (steps_of v) ≡ count_by p v.trail + count_by p v.joined_trail = sum_by-append f v.trail v.joined_trail in omega arith

  -- a join has the steps of both
  pub both_count : (v w : TagView) → count_by p (steps_of (view_joined v w)) ≡ count_by p (steps_of v) + count_by p (steps_of w)
  both_count v w = let f : TagStep → ℕ = λ o. cond (p o) 1 0 in
      let a : count_by p (steps_of (view_joined v w)) ≡ count_by p v.trail + count_by p (v.joined_trail ++ steps_of w) = sum_by-append f v.trail (v.joined_trail ++ steps_of w) in
      let b : count_by p (v.joined_trail ++ steps_of w) ≡ count_by p v.joined_trail + count_by p (steps_of w) = sum_by-append f v.joined_trail (steps_of w) in
      let c : count_by p (steps_of v) ≡ count_by p v.trail + count_by p v.joined_trail = sum_by-append f v.trail v.joined_trail in omega arith

  pub counts_together : (done more : List TagStep) → count_by p (done ++ more) ≡ count_by p done + count_by p more
  counts_together done more = sum_by-append (λ (o : TagStep). cond (p o) 1 0) done more

one_tells : (n : ℕ) (o : TagStep) → cond (sets n o) 1 0 ≤ cond (tells n o) 1 0
one_tells n (RetireOr m read) = omega arith
one_tells n (RetireLoad m read) = omega arith

-- who set a bit knows that it is set
pub sets_tell : (n : ℕ) (done : List TagStep) → count_by (sets n) done ≤ count_by (tells n) done
sets_tell n [] = omega arith
sets_tell n (o ∷ os) =
    let a : count_by (sets n) (o ∷ os) ≡ cond (sets n o) 1 0 + count_by (sets n) os = sum_by-cons (λ (o : TagStep). cond (sets n o) 1 0) o os in
    let b : count_by (tells n) (o ∷ os) ≡ cond (tells n o) 1 0 + count_by (tells n) os = sum_by-cons (λ (o : TagStep). cond (tells n o) 1 0) o os in
    let c = one_tells n o in let d = sets_tell n os in omega arith

-- a step that sets a bit first sets it
first_is_set : (n : ℕ) (o : TagStep) → cond (sets_first n o) 1 0 ≤ cond (sets n o) 1 0
first_is_set n (RetireOr m true) = let e : ◌≡◌ {A = ℕ} (cond ((m == n) && not true) 1 0) 0 = ap (λ (q : Bool). cond q 1 0) (and-false (m == n)) in omega arith
first_is_set n (RetireOr m false) = let e : ◌≡◌ {A = ℕ} (cond ((m == n) && not false) 1 0) (cond (m == n) 1 0) = ap (λ (q : Bool). cond q 1 0) (and-true (m == n)) in omega arith
first_is_set n (RetireLoad m read) = omega arith

pub first_sets_set : (n : ℕ) (done : List TagStep) → first_sets n done ≤ count_by (sets n) done
first_sets_set n [] = omega arith
first_sets_set n (o ∷ os) =
    let a : first_sets n (o ∷ os) ≡ cond (sets_first n o) 1 0 + first_sets n os = sum_by-cons (λ (o : TagStep). cond (sets_first n o) 1 0) o os in
    let b : count_by (sets n) (o ∷ os) ≡ cond (sets n o) 1 0 + count_by (sets n) os = sum_by-cons (λ (o : TagStep). cond (sets n o) 1 0) o os in
    let c = first_is_set n o in let d = first_sets_set n os in omega arith

pub or_one : (x : ℕ) → x ≤ 1 → bit_or x 1 ≡ 1
or_one zero h = refl
or_one (suc zero) h = refl
or_one (suc (suc x)) h = absurd (omega arith)

-- a bit is 1 or 0
pub bit_is : (x : ℕ) → x ≤ 1 → ◌≡◌ {A = ℕ} (cond (x == 1) 1 0) x
bit_is zero h = refl
bit_is (suc zero) h = refl
bit_is (suc (suc x)) h = absurd (omega arith)

-- a step that sets a bit sets it first where it read 0
pub first_sets_or : (n x : ℕ) → x ≤ 1 → x + cond (sets_first n (RetireOr n (x == 1))) 1 0 ≡ 1
first_sets_or n zero h = let e : ◌≡◌ {A = ℕ} (cond ((n == n) && not false) 1 0) 1 = ap (λ (q : Bool). cond q 1 0) (and-true (n == n) ∙ eq-eqb n n refl) in omega arith
first_sets_or n (suc zero) h = let e : ◌≡◌ {A = ℕ} (cond ((n == n) && not true) 1 0) 0 = ap (λ (q : Bool). cond q 1 0) (and-false (n == n)) in omega arith
first_sets_or n (suc (suc x)) h = absurd (omega arith)
