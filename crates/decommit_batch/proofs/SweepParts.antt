-- What each number of a sweep comes to, and what holds of all its numbers.
use Rattle.std.proofs.Common.{◌≡◌, ℕ, ◌≤◌, Bool, true, false, not, ◌&&◌, ◌==◌, MatchBool, if◌then◌else◌, Option, Some, None, List, [], ◌∷◌, ◌++◌, length, refl, sym, ap, ◌∙◌, subst, arith}
use Rattle.std.specs.List.{cons_option, count_by, filter_map, list_all, range_with_len}
use Rattle.std.proofs.lemmas.List.Elements.{filter_map-append}
use Rattle.std.proofs.lemmas.List.Folds.{list_all-append}
use Rattle.std.proofs.lemmas.List.FromFn.{length-range_with_len}
use Rattle.std.proofs.lemmas.List.Sums.{sum_by-append}
use Rattle.pool_core.specs.declared.words.State.{State}
use Rattle.pool_core.specs.declared.words.State.TheVariants.{Cold, Warm, Awaiting}
use Rattle.pool_core.specs.declared.words.StateWord.{StateWord}
use Rattle.pool_core.specs.StateWords.{bit, packed, unpacked, cold_word, is_awaiting, is_cold, is_warm}
use Rattle.pool_core.proofs.WordBits.{bit_le, bits_say_the_word}
use Rattle.slot_words.specs.declared.views.Operation.{Operation}
use Rattle.slot_words.specs.declared.views.Operation.TheVariants.{Load, Claim, Release, WarmDown, AwaitDown}
use Rattle.slot_words.specs.Parts.{Parts}
use Rattle.decommit_batch.specs.Settle.{IsSettledFrom}
use Rattle.decommit_batch.specs.Sweep.{finds_its_own, is_free_of, is_of_module, IsCleaned, IsCleaningTried, IsSweep, IsSweepPart}
use Rattle.decommit_batch.specs.Swept.{finds_its_awaiting, finds_its_warm, gives_mark, gives_permit, is_of_sweeps, slot_claimed, slot_loaded, slot_wanted, word_given, word_owed, AccountsForSlots}

-- what one number of a sweep comes to
pub data Outcome (tag n : ℕ) : List Operation → Type 0 where
  passed_by : (seen : ℕ) → is_free_of tag (unpacked seen) ≡ false → Outcome tag n (Load n seen ∷ [])
  lost : (seen read : ℕ) → is_free_of tag (unpacked seen) ≡ true → (unpacked read).held ≡ true → Outcome tag n (Load n seen ∷ Claim n read ∷ [])
  changed : (seen read : ℕ) → is_free_of tag (unpacked seen) ≡ true → (unpacked read).held ≡ false → is_of_module tag (unpacked read).target ≡ false
      → Outcome tag n (Load n seen ∷ Claim n read ∷ Release n read ∷ [])
  was_warm : (seen read r : ℕ) → is_free_of tag (unpacked seen) ≡ true → (unpacked read).held ≡ false → is_of_module tag (unpacked read).target ≡ true
      → (unpacked read).target.state ≡ Warm → Outcome tag n (Load n seen ∷ Claim n read ∷ WarmDown r ∷ Release n (packed cold_word) ∷ [])
  was_awaiting : (seen read r : ℕ) → is_free_of tag (unpacked seen) ≡ true → (unpacked read).held ≡ false → is_of_module tag (unpacked read).target ≡ true
      → (unpacked read).target.state ≡ Awaiting → Outcome tag n (Load n seen ∷ Claim n read ∷ AwaitDown r ∷ Release n (packed cold_word) ∷ [])

module _ (tag n seen : ℕ) (free : is_free_of tag (unpacked seen) ≡ true) where
  settled_from : (read : ℕ) → (unpacked read).held ≡ false → is_of_module tag (unpacked read).target ≡ true → (s : State) → (unpacked read).target.state ≡ s
      → (settled : List Operation) → IsSettledFrom s settled → Outcome tag n (Load n seen ∷ Claim n read ∷ (settled ++ Release n (packed cold_word) ∷ []))
  settled_from read won own Cold is settled so =
      let none : is_of_module tag (unpacked read).target ≡ false = ap (λ (s : State). not (is_cold s) && ((unpacked read).target.tag == tag)) is in
      absurd (let e : true ≡ false = sym own ∙ none in cc)
  settled_from read won own Warm is settled so =
      subst (λ (os : List Operation). Outcome tag n (Load n seen ∷ Claim n read ∷ (os ++ Release n (packed cold_word) ∷ []))) (sym so.1) (was_warm seen read so.0 free won own is)
  settled_from read won own Awaiting is settled so =
      subst (λ (os : List Operation). Outcome tag n (Load n seen ∷ Claim n read ∷ (os ++ Release n (packed cold_word) ∷ []))) (sym so.1) (was_awaiting seen read so.0 free won own is)

  by_module : (read : ℕ) → (unpacked read).held ≡ false → (b : Bool) → is_of_module tag (unpacked read).target ≡ b → (done : List Operation)
      → MatchBool b ((others : List Operation) × (done ≡ Claim n read ∷ others) × IsCleaned n read others) (done ≡ Claim n read ∷ Release n read ∷ []) → Outcome tag n (Load n seen ∷ done)
  by_module read won false other done is = subst (λ (os : List Operation). Outcome tag n (Load n seen ∷ os)) (sym is) (changed seen read free won other)
  by_module read won true own done is =
      let clean = is.2 in let settled = clean.is_first in
      let whole : done ≡ Claim n read ∷ (clean.first ++ Release n (packed cold_word) ∷ []) = is.1 ∙ ap (λ (os : List Operation). Claim n read ∷ os) (clean.done_is ∙ ap (λ (os : List Operation). clean.first ++ os) clean.is_second) in
      subst (λ (os : List Operation). Outcome tag n (Load n seen ∷ os)) (sym whole)
      (settled_from read won own settled.0.target.state (ap (λ (w : StateWord). w.target.state) (bits_say_the_word read settled.0 settled.1)) clean.first settled.2)

  by_claim : (read : ℕ) → (b : Bool) → (unpacked read).held ≡ b → (done : List Operation)
      → MatchBool b (done ≡ Claim n read ∷ []) (MatchBool (is_of_module tag (unpacked read).target) ((others : List Operation) × (done ≡ Claim n read ∷ others) × IsCleaned n read others) (done ≡ Claim n read ∷ Release n read ∷ []))
      → Outcome tag n (Load n seen ∷ done)
  by_claim read true held done is = subst (λ (os : List Operation). Outcome tag n (Load n seen ∷ os)) (sym is) (lost seen read free held)
  by_claim read false won done is = by_module read won (is_of_module tag (unpacked read).target) refl done is

by_load : (tag n seen : ℕ) (b : Bool) → is_free_of tag (unpacked seen) ≡ b → (done : List Operation)
    → MatchBool b ((others : List Operation) × (done ≡ Load n seen ∷ others) × IsCleaningTried tag n others) (done ≡ Load n seen ∷ []) → Outcome tag n done
by_load tag n seen false other done is = subst (Outcome tag n) (sym is) (passed_by seen other)
by_load tag n seen true free done is =
    let tried = is.2 in subst (Outcome tag n) (sym is.1) (by_claim tag n seen free tried.0 (unpacked tried.0).held refl is.0 tried.1)

pub outcome_of : (tag n : ℕ) (done : List Operation) → IsSweepPart tag n done → Outcome tag n done
outcome_of tag n done is = by_load tag n is.0 (is_free_of tag (unpacked is.0)) refl done is.1

-- what holds of nothing, of each outcome, and of two lists together where it holds of both, holds of a sweep
over_parts : (tag : ℕ) (P : List Operation → Type 0) → P [] → ((a b : List Operation) → P a → P b → P (a ++ b)) → ((n : ℕ) (part : List Operation) → Outcome tag n part → P part)
    → (ns : List ℕ) (done : List Operation) → Parts (IsSweepPart tag) ns done → P done
over_parts tag P none both each [] done is = subst P (sym is) none
over_parts tag P none both each (n ∷ ns) done is = subst P (sym is.2) (both is.0 is.1 (each n is.0 (outcome_of tag n is.0 is.3)) (over_parts tag P none both each ns is.1 is.4))

both_alike : {A : Type 0} (f g : Operation → Option A) (a b : List Operation) → filter_map f a ≡ filter_map g a → filter_map f b ≡ filter_map g b → filter_map f (a ++ b) ≡ filter_map g (a ++ b)
both_alike f g a b p q = let one = filter_map-append f a b in let two = filter_map-append g a b in cc

both_as_many : (p q : Operation → Bool) (a b : List Operation) → count_by p a ≡ count_by q a → count_by p b ≡ count_by q b → count_by p (a ++ b) ≡ count_by q (a ++ b)
both_as_many p q a b e f = let one = sum_by-append (λ (o : Operation). bit (p o)) a b in let two = sum_by-append (λ (o : Operation). bit (q o)) a b in omega arith

-- a load is followed by a claim exactly where it shows the slot free and of the module
load_wants : (tag n seen : ℕ) (free : Bool) → is_free_of tag (unpacked seen) ≡ free → filter_map (slot_wanted tag) (Load n seen ∷ []) ≡ cons_option (if free then Some n else None) []
load_wants tag n seen free is = ap (λ (b : Bool). cons_option (if b then Some n else None) []) is

claimed_alike : (tag n : ℕ) (part : List Operation) → Outcome tag n part → filter_map slot_claimed part ≡ filter_map (slot_wanted tag) part
claimed_alike tag n _ (passed_by seen other) = sym (load_wants tag n seen false other)
claimed_alike tag n _ (lost seen read free held) = sym (load_wants tag n seen true free)
claimed_alike tag n _ (changed seen read free won other) = sym (load_wants tag n seen true free)
claimed_alike tag n _ (was_warm seen read r free won own is) = sym (load_wants tag n seen true free)
claimed_alike tag n _ (was_awaiting seen read r free won own is) = sym (load_wants tag n seen true free)

module _ (tag n read : ℕ) where
  -- what a claim owes, by the word that it read
  claim_owes : (held own : Bool) → (unpacked read).held ≡ held → is_of_module tag (unpacked read).target ≡ own
      → filter_map (word_owed tag) (Claim n read ∷ []) ≡ cons_option (if held then None else Some (n, if own then packed cold_word else read)) []
  claim_owes held own h o =
      ap (λ (b : Bool). cons_option (if b then None else Some (n, if is_of_module tag (unpacked read).target then packed cold_word else read)) []) h
      ∙ ap (λ (b : Bool). cons_option (if held then None else Some (n, if b then packed cold_word else read)) []) o

  -- whether it found the slot free, of the module, and in a state of this kind
  claim_finds : (kind : State → Bool) (held own : Bool) (s : State) → (unpacked read).held ≡ held → is_of_module tag (unpacked read).target ≡ own → (unpacked read).target.state ≡ s
      → bit (is_free_of tag (unpacked read) && kind (unpacked read).target.state) ≡ bit ((not held && own) && kind s)
  claim_finds kind held own s h o is =
      ap (λ (b : Bool). bit ((not b && is_of_module tag (unpacked read).target) && kind (unpacked read).target.state)) h
      ∙ ap (λ (b : Bool). bit ((not held && b) && kind (unpacked read).target.state)) o
      ∙ ap (λ (t : State). bit ((not held && own) && kind t)) is

given_alike : (tag n : ℕ) (part : List Operation) → Outcome tag n part → filter_map word_given part ≡ filter_map (word_owed tag) part
given_alike tag n _ (passed_by seen other) = refl
given_alike tag n _ (lost seen read free held) = sym (claim_owes tag n read true (is_of_module tag (unpacked read).target) held refl)
given_alike tag n _ (changed seen read free won other) = sym (claim_owes tag n read false false won other)
given_alike tag n _ (was_warm seen read r free won own is) = sym (claim_owes tag n read false true won own)
given_alike tag n _ (was_awaiting seen read r free won own is) = sym (claim_owes tag n read false true won own)

permits_alike : (tag n : ℕ) (part : List Operation) → Outcome tag n part → count_by gives_permit part ≡ count_by (finds_its_warm tag) part
permits_alike tag n _ (passed_by seen other) = refl
permits_alike tag n _ (lost seen read free held) = let f = claim_finds tag n read is_warm true (is_of_module tag (unpacked read).target) (unpacked read).target.state held refl refl in omega arith
permits_alike tag n _ (changed seen read free won other) = let f = claim_finds tag n read is_warm false false (unpacked read).target.state won other refl in omega arith
permits_alike tag n _ (was_warm seen read r free won own is) = let f = claim_finds tag n read is_warm false true Warm won own is in omega arith
permits_alike tag n _ (was_awaiting seen read r free won own is) = let f = claim_finds tag n read is_warm false true Awaiting won own is in omega arith

marks_alike : (tag n : ℕ) (part : List Operation) → Outcome tag n part → count_by gives_mark part ≡ count_by (finds_its_awaiting tag) part
marks_alike tag n _ (passed_by seen other) = refl
marks_alike tag n _ (lost seen read free held) = let f = claim_finds tag n read is_awaiting true (is_of_module tag (unpacked read).target) (unpacked read).target.state held refl refl in omega arith
marks_alike tag n _ (changed seen read free won other) = let f = claim_finds tag n read is_awaiting false false (unpacked read).target.state won other refl in omega arith
marks_alike tag n _ (was_warm seen read r free won own is) = let f = claim_finds tag n read is_awaiting false true Warm won own is in omega arith
marks_alike tag n _ (was_awaiting seen read r free won own is) = let f = claim_finds tag n read is_awaiting false true Awaiting won own is in omega arith

both_of_sweeps : (a b : List Operation) → list_all is_of_sweeps a ≡ true → list_all is_of_sweeps b ≡ true → list_all is_of_sweeps (a ++ b) ≡ true
both_of_sweeps a b p q = list_all-append is_of_sweeps a b ∙ ap (λ (c : Bool). c && list_all is_of_sweeps b) p ∙ q

all_of_sweeps : (tag n : ℕ) (part : List Operation) → Outcome tag n part → list_all is_of_sweeps part ≡ true
all_of_sweeps tag n _ (passed_by seen other) = refl
all_of_sweeps tag n _ (lost seen read free held) = refl
all_of_sweeps tag n _ (changed seen read free won other) = refl
all_of_sweeps tag n _ (was_warm seen read r free won own is) = refl
all_of_sweeps tag n _ (was_awaiting seen read r free won own is) = refl

one_load : (tag n : ℕ) (part : List Operation) → Outcome tag n part → filter_map slot_loaded part ≡ n ∷ []
one_load tag n _ (passed_by seen other) = refl
one_load tag n _ (lost seen read free held) = refl
one_load tag n _ (changed seen read free won other) = refl
one_load tag n _ (was_warm seen read r free won own is) = refl
one_load tag n _ (was_awaiting seen read r free won own is) = refl

at_most_one : (tag n : ℕ) (part : List Operation) → Outcome tag n part → count_by (finds_its_own tag) part ≤ 1
at_most_one tag n _ (passed_by seen other) = omega arith
at_most_one tag n _ (lost seen read free held) = let b = bit_le (is_free_of tag (unpacked read)) in omega arith
at_most_one tag n _ (changed seen read free won other) = let b = bit_le (is_free_of tag (unpacked read)) in omega arith
at_most_one tag n _ (was_warm seen read r free won own is) = let b = bit_le (is_free_of tag (unpacked read)) in omega arith
at_most_one tag n _ (was_awaiting seen read r free won own is) = let b = bit_le (is_free_of tag (unpacked read)) in omega arith

all_looked_at : (tag : ℕ) (ns : List ℕ) (done : List Operation) → Parts (IsSweepPart tag) ns done → filter_map slot_loaded done ≡ ns
all_looked_at tag [] done is = ap (filter_map slot_loaded) is
all_looked_at tag (n ∷ ns) done is =
    let whole : filter_map slot_loaded done ≡ filter_map slot_loaded (is.0 ++ is.1) = ap (filter_map slot_loaded) is.2 in
    let here : filter_map slot_loaded is.0 ≡ n ∷ [] = one_load tag n is.0 (outcome_of tag n is.0 is.3) in
    let others : filter_map slot_loaded is.1 ≡ ns = all_looked_at tag ns is.1 is.4 in
    whole ∙ filter_map-append slot_loaded is.0 is.1 ∙ ap (λ (l : List ℕ). l ++ filter_map slot_loaded is.1) here ∙ ap (λ (l : List ℕ). n ∷ l) others

few_own : (tag : ℕ) (ns : List ℕ) (done : List Operation) → Parts (IsSweepPart tag) ns done → count_by (finds_its_own tag) done ≤ length ns
few_own tag [] done is = let none = ap (count_by (finds_its_own tag)) is in omega arith
few_own tag (n ∷ ns) done is =
    let whole : count_by (finds_its_own tag) done ≡ count_by (finds_its_own tag) (is.0 ++ is.1) = ap (count_by (finds_its_own tag)) is.2 in
    let both = sum_by-append (λ (o : Operation). bit (finds_its_own tag o)) is.0 is.1 in
    let here = at_most_one tag n is.0 (outcome_of tag n is.0 is.3) in
    let others = few_own tag ns is.1 is.4 in omega arith

pub sweeps_account : (tag slots cleaned : ℕ) (done : List Operation) → IsSweep tag slots cleaned done → AccountsForSlots tag slots cleaned done
sweeps_account tag slots cleaned done is =
    let numbers = range_with_len 0 slots in let parts = is.parts in record {
      looked_at = all_looked_at tag numbers done parts;
      claimed = over_parts tag (λ os. filter_map slot_claimed os ≡ filter_map (slot_wanted tag) os) refl (both_alike slot_claimed (slot_wanted tag)) (claimed_alike tag) numbers done parts;
      given = over_parts tag (λ os. filter_map word_given os ≡ filter_map (word_owed tag) os) refl (both_alike word_given (word_owed tag)) (given_alike tag) numbers done parts;
      permits = over_parts tag (λ os. count_by gives_permit os ≡ count_by (finds_its_warm tag) os) refl (both_as_many gives_permit (finds_its_warm tag)) (permits_alike tag) numbers done parts;
      marks = over_parts tag (λ os. count_by gives_mark os ≡ count_by (finds_its_awaiting tag) os) refl (both_as_many gives_mark (finds_its_awaiting tag)) (marks_alike tag) numbers done parts;
      nothing_else = over_parts tag (λ os. list_all is_of_sweeps os ≡ true) refl both_of_sweeps (all_of_sweeps tag) numbers done parts;
      few = (let m = few_own tag numbers done parts in let l = length-range_with_len 0 slots in let c = is.cleaned_is in omega arith);
    }
