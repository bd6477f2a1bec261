-- What each history obeys, whatever its events are.
use Rattle.std.proofs.Common.{◌≡◌, ◌≢◌, ◌⊎◌, ⊎_elim, inl, inr, ℕ, ◌≤◌, ◌<◌, ◌%◌, ◌||◌, not, Bool, true, false, true≢false, List, [], ◌∷◌, ◌++◌, length, refl, sym, ap, ◌∙◌, subst, arith, get_or-set_same}
use Rattle.std.specs.Prelude.{slice_index_or}
use Rattle.std.proofs.lemmas.Bool.{not-false, ltb-true}
use Rattle.pool_core.specs.declared.events.Event.{Event}
use Rattle.pool_core.specs.declared.events.Event.TheVariants.{Claim, Close, Home, Join, Out, Split}
use Rattle.pool_core.specs.declared.words.StateWord.{StateWord}
use Rattle.pool_core.specs.StateWords.{bit, cold_word, packed}
use Rattle.pool_core.specs.PoolCore.{PoolCore, is_live, seat_at, word_at}
use Rattle.pool_core.specs.EventEffects.{core_after}
use Rattle.pool_core.specs.RefusalRules.{refusal_of, seat_of}
use Rattle.pool_core.specs.Runs.{AllAllowed, core_after_all}
use Rattle.pool_core.proofs.ChangeLemmas.{changes_only}
use Rattle.pool_core.proofs.LawfulSteps.{live_in, no_rule_broken}
use Rattle.pool_core.proofs.WordBits.{packed-mod_2}
use Rattle.slot_words.specs.declared.views.Operation.{Operation}
use Rattle.slot_words.specs.declared.views.Operation.TheVariants as operation
use Rattle.slot_words.specs.History.{noted, noted_by, trail_of}
use Rattle.slot_words.proofs.NotedBySeats.{both_empty, noted_elsewhere, noted_here}

-- ---- which seats act

first_is_live : (a b d : Bool) → (not a || b || d) ≡ false → a ≡ true
first_is_live true b d e = refl
first_is_live false b d e = absurd (true≢false e)

acts_live : (c : PoolCore) (e : Event) → refusal_of c e ≡ 0 → is_live (seat_at c (seat_of e)).stage ≡ true
acts_live c (Split s t) may = first_is_live _ _ _ (no_rule_broken c (Split s t) may).seat
acts_live c (Join s t) may = first_is_live _ _ _ (no_rule_broken c (Join s t) may).seat
acts_live c e may = not-false _ (no_rule_broken c e may).seat

acts_within : (c : PoolCore) (e : Event) → refusal_of c e ≡ 0 → seat_of e < length c.seats
acts_within c e may = live_in c.seats (seat_of e) (acts_live c e may)

-- a seat that no pass was handed out for notes nothing
pub silent_past : (c : PoolCore) (es : List Event) → AllAllowed c es → (s : ℕ) → length c.seats ≤ s → trail_of s c es ≡ []
silent_past c [] may s past = refl
silent_past c (e ∷ es) may s past =
    let within = acts_within c e may.0 in let as_many = (changes_only c e).seat_count in
    rw (noted_elsewhere s c e (λ same. absurd (omega arith))) (silent_past (core_after c e) es may.1 s (omega arith))

-- a pool keeps its slots
pub same_slots : (c : PoolCore) (es : List Event) → length (core_after_all c es).words ≡ length c.words
same_slots c [] = refl
same_slots c (e ∷ es) = same_slots (core_after c e) es ∙ (changes_only c e).word_count

-- ---- what an event notes

-- nothing, and then the words stay, or one operation
data Notes (c : PoolCore) (e : Event) : Type 0 where
  nothing : noted c e ≡ [] → (core_after c e).words ≡ c.words → Notes c e
  one : (o : Operation) → noted c e ≡ o ∷ [] → Notes c e

notes : (c : PoolCore) (e : Event) → Notes c e
notes c (Out s n) = nothing refl refl
notes c (Home s n) = nothing refl refl
notes c (Split s t) = nothing refl refl
notes c (Join s t) = nothing refl refl
notes c (Close s) = nothing refl refl
notes c e = one _ refl

-- where no seat notes anything the words stay
pub silent_words : (c : PoolCore) (es : List Event) → ((s : ℕ) → trail_of s c es ≡ []) → (core_after_all c es).words ≡ c.words
silent_words c [] silent = refl
silent_words c (e ∷ es) silent = silent_words (core_after c e) es (λ s. (both_empty (noted_by s c e) _ (silent s)).1) ∙ still (notes c e)
  where
    none : noted c e ≡ []
    none = sym (noted_here (seat_of e) c e refl) ∙ (both_empty (noted_by (seat_of e) c e) _ (silent (seat_of e))).0

    still : Notes c e → (core_after c e).words ≡ c.words
    still (nothing is same) = same
    still (one o is) = absurd (let e : [] ≡ o ∷ [] = sym none ∙ is in cc)

-- ---- a slot that two passes win

-- whatever a claim finds, the slot is held then
held_then : (c : PoolCore) (s n : ℕ) (held : Bool) → (word_at c n).held ≡ held → n < length c.words → (word_at (core_after c (Claim s n)) n).held ≡ true
held_then c s n true is some = rw is is
held_then c s n false is some = rw is (ap (λ (w : StateWord). w.held) (get_or-set_same c.words n _ _ some))

won : (c : PoolCore) (e : Event) → refusal_of c e ≡ 0 → noted c e ≡ operation.Claim 0 0 ∷ [] → (packed (word_at c 0) ≡ 0) × ((word_at (core_after c e) 0).held ≡ true)
won c (Claim s n) may is =
    let zero : n ≡ 0 = cc in let read : packed (word_at c n) ≡ 0 = cc in
    let some = ltb-true n (length c.words) (not-false _ (no_rule_broken c (Claim s n) may).slot) in
    subst (λ (k : ℕ). (packed (word_at c k) ≡ 0) × ((word_at (core_after c (Claim s n)) k).held ≡ true)) zero (read, held_then c s n (word_at c n).held refl some)
won c e may is = absurd cc

-- an event of a pool of two seats: nothing is noted, or one operation by one of them
data Step (s t : ℕ) (c : PoolCore) (e : Event) : Type 0 where
  quiet : noted_by s c e ≡ [] → noted_by t c e ≡ [] → (core_after c e).words ≡ c.words → Step s t c e
  first : (o : Operation) → noted c e ≡ o ∷ [] → noted_by s c e ≡ o ∷ [] → noted_by t c e ≡ [] → Step s t c e
  second : (o : Operation) → noted c e ≡ o ∷ [] → noted_by s c e ≡ [] → noted_by t c e ≡ o ∷ [] → Step s t c e

-- two numbers that are 0 and 1
record AreBoth (s t : ℕ) : Type 0 where
  pub apart : s ≢ t
  pub each : (k : ℕ) → k < 2 → (k ≡ s) ⊎ (k ≡ t)

turned : (s t : ℕ) → AreBoth s t → AreBoth t s
turned s t both = record { apart = λ e. both.apart (sym e); each = λ k less. ⊎_elim (λ e. inr e) (λ e. inl e) (both.each k less) }

step_of_first : (s t : ℕ) (c : PoolCore) (e : Event) → s ≢ t → seat_of e ≡ s → Notes c e → Step s t c e
step_of_first s t c e apart is (nothing none same) = quiet (noted_here s c e is ∙ none) (noted_elsewhere t c e (λ q. apart (sym is ∙ q))) same
step_of_first s t c e apart is (one o noted) = first o noted (noted_here s c e is ∙ noted) (noted_elsewhere t c e (λ q. apart (sym is ∙ q)))

other_way : (s t : ℕ) (c : PoolCore) (e : Event) → Step t s c e → Step s t c e
other_way s t c e (quiet a b same) = quiet b a same
other_way s t c e (first o is a b) = second o is b a
other_way s t c e (second o is a b) = first o is b a

step : (s t : ℕ) → AreBoth s t → (c : PoolCore) (e : Event) → refusal_of c e ≡ 0 → length c.seats ≤ 2 → Step s t c e
step s t both c e may few = let within = acts_within c e may in ⊎_elim
    (λ is. step_of_first s t c e both.apart is (notes c e))
    (λ is. other_way s t c e (step_of_first t s c e (turned s t both).apart is (notes c e)))
    (both.each (seat_of e) (omega arith))

-- the claim that wins slot 0
abbrev wins : List Operation
wins = operation.Claim 0 0 ∷ []

module _ (s t : ℕ) (c : PoolCore) (e : Event) (may : refusal_of c e ≡ 0) (xs ys : List Operation) where
  abbrev next : PoolCore
  next = core_after c e

  after_held : (word_at c 0).held ≡ true → noted_by s c e ++ xs ≡ [] → noted_by t c e ++ ys ≡ wins → Step s t c e → ((word_at next 0).held ≡ true → xs ≡ [] → ys ≡ wins → ⊥) → ⊥
  after_held held none win (quiet a b same) more = more (ap (λ (ws : List StateWord). (slice_index_or ws 0 cold_word).held) same ∙ held) (rw a at none) (rw b at win)
  after_held held none win (first o is a b) more = let some : o ∷ xs ≡ [] = rw a at none in cc
  after_held held none win (second o is a b) more =
      let some : o ∷ ys ≡ wins = rw b at win in let claim : noted c e ≡ wins = cc in
      let even : 0 ≡ bit (word_at c 0).held = ap (λ (k : ℕ). k % 2) (sym (won c e may claim).0) ∙ packed-mod_2 (word_at c 0) in
      let odd : bit (word_at c 0).held ≡ 1 = ap bit held in omega arith

  after_free : noted_by s c e ++ xs ≡ wins → noted_by t c e ++ ys ≡ wins → Step s t c e → (xs ≡ wins → ys ≡ wins → ⊥)
      → ((word_at next 0).held ≡ true → xs ≡ [] → ys ≡ wins → ⊥) → ((word_at next 0).held ≡ true → xs ≡ wins → ys ≡ [] → ⊥) → ⊥
  after_free win win_too (quiet a b same) more by_s by_t = more (rw a at win) (rw b at win_too)
  after_free win win_too (first o is a b) more by_s by_t =
      let some : o ∷ xs ≡ wins = rw a at win in let claim : noted c e ≡ wins = cc in by_s (won c e may claim).1 (cc) (rw b at win_too)
  after_free win win_too (second o is a b) more by_s by_t =
      let some : o ∷ ys ≡ wins = rw b at win_too in let claim : noted c e ≡ wins = cc in by_t (won c e may claim).1 (rw a at win) (cc)

-- where a slot is held and its holder does nothing, the other seat does not win it
held_is_not_won : (s t : ℕ) → AreBoth s t → (c : PoolCore) (es : List Event) → AllAllowed c es → length c.seats ≤ 2 → (word_at c 0).held ≡ true → trail_of s c es ≡ [] → trail_of t c es ≡ wins → ⊥
held_is_not_won s t both c [] may few held none win = cc
held_is_not_won s t both c (e ∷ es) may few held none win =
    let as_many = (changes_only c e).seat_count in
    after_held s t c e may.0 _ _ held none win (step s t both c e may.0 few) (held_is_not_won s t both (core_after c e) es may.1 (omega arith))

-- two seats do not both win one slot that none gives back
both_win : (s t : ℕ) → AreBoth s t → (c : PoolCore) (es : List Event) → AllAllowed c es → length c.seats ≤ 2 → trail_of s c es ≡ wins → trail_of t c es ≡ wins → ⊥
both_win s t both c [] may few win win_too = cc
both_win s t both c (e ∷ es) may few win win_too =
    let as_many = (changes_only c e).seat_count in let next : PoolCore = core_after c e in let fewer : length next.seats ≤ 2 = omega arith in
    after_free s t c e may.0 _ _ win win_too (step s t both c e may.0 few) (both_win s t both next es may.1 fewer)
    (held_is_not_won s t both next es may.1 fewer) (λ held a b. held_is_not_won t s (turned s t both) next es may.1 fewer held b a)

below_two : (k : ℕ) → k < 2 → (k ≡ 0) ⊎ (k ≡ 1)
below_two k less = grind arith

pub one_winner : (c : PoolCore) (es : List Event) → AllAllowed c es → length c.seats ≤ 2 → trail_of 0 c es ≡ operation.Claim 0 0 ∷ [] → trail_of 1 c es ≡ operation.Claim 0 0 ∷ [] → ⊥
one_winner = both_win 0 1 (record { apart = λ e. omega arith; each = below_two })
