-- Pairs of calls, and their entries one after the other.
use Rattle.std.proofs.Common.{◌≡◌, ◌∙◌, ℕ, ◌-◌, ◌<◌, ◌==◌, Bool, true, false, not, List, [], ◌∷◌, ◌++◌, Option, Some, filter, refl, ap, arith, append-nil}
use Rattle.std.specs.Prelude.{slice_get}
use Rattle.std.specs.List.{All, AllZip}
use Rattle.std.specs.List.Sorted.{IsPermutation}
use Rattle.std.proofs.lemmas.Bool.Decides.{nat_tests}
use Rattle.std.proofs.lemmas.List.Elements.{All-cons, All-head, All-nil, All-tail, filter-append}
use Rattle.std.proofs.lemmas.List.Sorted.{All-permutation, IsPermutation-append_left, IsPermutation-filter_both, IsPermutation-trans}
use Rattle.pool_limits.specs.declared.numbers.Numbers.{Numbers}
use Rattle.pool_model.specs.Contents.{Named}
use Rattle.call_jobs.specs.declared.calls.Due.{Due}
use Rattle.call_jobs.specs.declared.entries.Worked.{Worked}
use Rattle.call_jobs.specs.Entries.{AnswersAll, AreNumbered, IsEntry, Pair, called}

pub all_zip_append : {A B : Type 0} (R : A → B → Type 0) (xs xs' : List A) (ys ys' : List B) → AllZip R xs ys → AllZip R xs' ys' → AllZip R (xs ++ xs') (ys ++ ys')
all_zip_append R [] xs' [] ys' h g = g
all_zip_append R [] xs' (y ∷ ys) ys' h g = absurd h
all_zip_append R (x ∷ xs) xs' [] ys' h g = absurd h
all_zip_append R (x ∷ xs) xs' (y ∷ ys) ys' h g = (h.0, all_zip_append R xs xs' ys ys' h.1 g)

-- a call stands at the place before its number
pub number_of_due : (calls : List Due) (number : ℕ) (due : Due) → AreNumbered calls → 0 < number → slice_get calls (number - 1) ≡ Some due → due.number ≡ number
number_of_due calls number due numbered some there = let n = numbered (number - 1) due there in omega arith

-- ---- the pairs of calls

called_call : (pair : Pair) (pairs : List Pair) → 0 < pair.0 → called (pair ∷ pairs) ≡ pair ∷ called pairs
called_call pair pairs counted = let b : (pair.0 == 0) ≡ false = grind (arith, nat_tests) in rw b refl

pub called_one : (pair : Pair) → 0 < pair.0 → called (pair ∷ []) ≡ pair ∷ []
called_one pair counted = called_call pair [] counted

pub called_zero : (pair : Pair) → pair.0 ≡ 0 → called (pair ∷ []) ≡ []
called_zero pair none = let b : (pair.0 == 0) ≡ true = grind (arith, nat_tests) in rw b refl

pub called-append : (xs ys : List Pair) → called (xs ++ ys) ≡ called xs ++ called ys
called-append xs ys = filter-append (λ (pair : Pair). not (pair.0 == 0)) xs ys

counted_more : (pair : Pair) (pairs : List Pair) (zeroed : Bool) → (pair.0 == 0) ≡ zeroed → All (λ (x : Pair). 0 < x.0) (called pairs) → All (λ (x : Pair). 0 < x.0) (called (pair ∷ pairs))
counted_more pair pairs true is h = rw is h
counted_more pair pairs false is h = rw is (All-cons (λ (x : Pair). 0 < x.0) pair (called pairs) (grind (arith, nat_tests, is)) h)

pub called_counted : (pairs : List Pair) → All (λ (pair : Pair). 0 < pair.0) (called pairs)
called_counted [] = All-nil (λ (pair : Pair). 0 < pair.0)
called_counted (pair ∷ pairs) = counted_more pair pairs (pair.0 == 0) refl (called_counted pairs)

-- pairs of calls alone
called_calls : (pairs : List Pair) → All (λ (pair : Pair). 0 < pair.0) pairs → called pairs ≡ pairs
called_calls [] counted = refl
called_calls (pair ∷ pairs) counted =
    called_call pair pairs (All-head (λ (p : Pair). 0 < p.0) pair pairs counted)
    ∙ ap (λ (ps : List Pair). pair ∷ ps) (called_calls pairs (All-tail (λ (p : Pair). 0 < p.0) pair pairs counted))

-- and then a 0
pub called_before_zero : (pairs : List Pair) (last : Option Named) → All (λ (pair : Pair). 0 < pair.0) pairs → called (pairs ++ (0, last) ∷ []) ≡ pairs
called_before_zero pairs last counted =
    called-append pairs ((0, last) ∷ [])
    ∙ (ap (λ (ps : List Pair). called pairs ++ ps) (called_zero (0, last) refl) ∙ (append-nil (called pairs) ∙ called_calls pairs counted))

-- ---- the entries of all calls that were put

abbrev is_call : Pair → Bool
is_call pair = not (pair.0 == 0)

abbrev is_end : Pair → Bool
is_end pair = not (is_call pair)

called_end : (pair : Pair) (pairs : List Pair) (b : Bool) → (pair.0 == 0) ≡ b → called (filter is_end pairs) ≡ [] → called (filter is_end (pair ∷ pairs)) ≡ []
called_end pair pairs true is h =
    let kept : filter is_end (pair ∷ pairs) ≡ pair ∷ filter is_end pairs = rw is refl in
    let gone : called (pair ∷ filter is_end pairs) ≡ called (filter is_end pairs) = rw is refl in
    ap called kept ∙ (gone ∙ h)
called_end pair pairs false is h =
    let gone : filter is_end (pair ∷ pairs) ≡ filter is_end pairs = rw is refl in
    ap called gone ∙ h

called_ends : (pairs : List Pair) → called (filter is_end pairs) ≡ []
called_ends [] = refl
called_ends (pair ∷ pairs) = called_end pair pairs (pair.0 == 0) refl (called_ends pairs)

pub answers_all : (config : Numbers) (calls : List Due) (put given made : List Pair) (entries : List Worked) → IsPermutation put given → IsPermutation (called given) made
    → AllZip (IsEntry config calls) made entries → AnswersAll config calls put entries
answers_all config calls put given made entries out all zip =
    let ends : List Pair = filter is_end given in
    let parts : IsPermutation given (called given ++ ends) = IsPermutation-filter_both is_call is_end (λ _. refl) given in
    let counted = All-permutation (λ (pair : Pair). 0 < pair.0) (called given) made all (called_counted given) in
    let same : called (made ++ ends) ≡ made = called-append made ends ∙ (ap (λ (ps : List Pair). called made ++ ps) (called_ends given) ∙ (append-nil (called made) ∙ called_calls made counted)) in
    record {
      given = made ++ ends;
      all = IsPermutation-trans _ _ _ out (IsPermutation-trans _ _ _ parts (IsPermutation-append_left ends _ _ all));
      made = rw same zip;
    }
