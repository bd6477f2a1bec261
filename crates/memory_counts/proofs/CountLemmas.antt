-- Tallies that go on counting what their passes do.
use Rattle.std.proofs.Common.{◌≡◌, ℕ, ◌+◌, ◌-◌, ◌%◌, ◌^◌, ◌<◌, ◌≤◌, ◌==◌, ◌&&◌, Bool, true, false, not, cond, ltb, List, [], ◌∷◌, ◌++◌, Option, Some, None, refl, sym, ap, ◌∙◌, subst, arith, append-nil}
use Rattle.std.specs.Prelude.{is_some}
use Rattle.std.specs.List.{count_by}
use Rattle.std.proofs.Math.Nat.{mod-add-mod, mod-lt}
use Rattle.std.proofs.lemmas.Bool.{lt-ltb}
use Rattle.std.proofs.lemmas.List.Sums.{sum_by-append}
use Rattle.pool_core.specs.declared.seats.Seat.{Seat}
use Rattle.pool_core.specs.declared.words.State.TheVariants.{Awaiting, Cold}
use Rattle.pool_core.specs.declared.words.StateWord.{StateWord}
use Rattle.pool_core.specs.declared.words.Target.{Target}
use Rattle.pool_core.specs.StateWords.{bit, free_word, is_warm, is_well_formed, packed, stamp_bound, tag_bound, unpacked}
use Rattle.pool_core.proofs.WordBits.{bits_say_the_word, one_or_other}
use Rattle.slot_words.specs.declared.views.Operation.{Operation}
use Rattle.slot_words.specs.Parts.{Grew}
use Rattle.slot_words.specs.Passes.{Holds, IsIdle, Pass, trail}
use Rattle.decommit_batch.specs.Counts.{claimed_in, cold_in, counted_in, flushes_in, handed, looks_in, warm_in, was_own}
use Rattle.decommit_batch.specs.HandIn.{IsHandIn}
use Rattle.decommit_batch.proofs.TellingLemmas.{HandsOne, Quiet, Tells, claimed-append, counted-append, flushes-append, hand_in_hands, handed-append, looks-append}
use Rattle.slot_pools.specs.declared.policy.Policy.TheVariants.{Batched}
use Rattle.slot_pools.specs.Takes.{IsFullTake, IsTake}
use Rattle.slot_pools.proofs.ToldLemmas.{full_tells, take_claims, take_tells}
use Rattle.memory_counts.specs.declared.tally.MemoryTally.{MemoryTally}
use Rattle.memory_counts.specs.Counted.{AreTakes, IsCounted, claimed_word, given_in, is_holding}

count-append : {A : Type 0} (test : A → Bool) (xs ys : List A) → count_by test (xs ++ ys) ≡ count_by test xs + count_by test ys
count-append test xs ys = let both = sum_by-append (λ x. bit (test x)) xs ys in omega arith

-- ---- counts modulo 2^64

-- what grew by so much
more_of : (old new x y d : ℕ) → new ≡ (old + d) % 2 ^ 64 → old ≡ x % 2 ^ 64 → y ≡ x + d → new ≡ y % 2 ^ 64
more_of old new x y d is was grew = is ∙ ap (λ (k : ℕ). (k + d) % 2 ^ 64) was ∙ mod-add-mod x (2 ^ 64) d ∙ ap (λ (k : ℕ). k % 2 ^ 64) (sym grew)

-- what stayed
same_of : (old new x y : ℕ) → new ≡ old → old ≡ x % 2 ^ 64 → y ≡ x → new ≡ y % 2 ^ 64
same_of old new x y is was same = is ∙ was ∙ ap (λ (k : ℕ). k % 2 ^ 64) (sym same)

-- ---- what a trail tells that grew

module _ (old done new : List Operation) (grown : new ≡ old ++ done) (none_up : counted_in false old ≡ false) where
  -- what was handed in, and in these operations too
  handed_more : handed 0 false new ≡ handed 0 false old ++ handed (claimed_in 0 old) false done
  handed_more = ap (handed 0 false) grown ∙ handed-append 0 false old done ∙ ap (λ (up : Bool). handed 0 false old ++ handed (claimed_in 0 old) up done) none_up

  up_more : counted_in false done ≡ false → counted_in false new ≡ false
  up_more none = ap (counted_in false) grown ∙ counted-append false old done ∙ ap (λ (up : Bool). counted_in up done) none_up ∙ none

  module _ (handed_here : List (ℕ × ℕ)) (is : handed (claimed_in 0 old) false done ≡ handed_here) where
    warm_more : warm_in new ≡ warm_in old + count_by was_own handed_here
    warm_more =
        ap (count_by was_own) (handed_more ∙ ap (λ (slots : List (ℕ × ℕ)). handed 0 false old ++ slots) is) ∙ count-append was_own (handed 0 false old) handed_here

    cold_more : cold_in new ≡ cold_in old + count_by (λ slot. not (was_own slot)) handed_here
    cold_more =
        ap (count_by (λ slot. not (was_own slot))) (handed_more ∙ ap (λ (slots : List (ℕ × ℕ)). handed 0 false old ++ slots) is)
        ∙ count-append (λ (slot : ℕ × ℕ). not (was_own slot)) (handed 0 false old) handed_here

  module _ (l f : ℕ) (tells : Tells l f done) where
    warm_stays : warm_in new ≡ warm_in old
    warm_stays = let more = warm_more [] (tells.hands (claimed_in 0 old)) in omega arith

    cold_stays : cold_in new ≡ cold_in old
    cold_stays = let more = cold_more [] (tells.hands (claimed_in 0 old)) in omega arith

  looks_more : (l : ℕ) → looks_in done ≡ l → looks_in new ≡ looks_in old + l
  looks_more l is = let all = ap looks_in grown ∙ looks-append old done in omega arith

-- ---- what a pass holds

module _ {V : Type 0} where
  holds_none : (p : Pass V) → IsIdle p → is_holding p ≡ false
  holds_none p idle = ap (λ (s : Seat). is_some s.holds) idle.0

  holds_one : (p : Pass V) (n : ℕ) → Holds p n false false false → is_holding p ≡ true
  holds_one p n holds = ap (λ (s : Seat). is_some s.holds) holds.0

  claimed_none : (p : Pass V) → is_holding p ≡ false → claimed_word p ≡ 0
  claimed_none p none = ap (λ (b : Bool). cond b (claimed_in 0 (trail p)) 0) none

  claimed_one : (p : Pass V) → is_holding p ≡ true → claimed_word p ≡ claimed_in 0 (trail p)
  claimed_one p one = ap (λ (b : Bool). cond b (claimed_in 0 (trail p)) 0) one

one_by : {A : Type 0} (test : A → Bool) (x : A) → count_by test (x ∷ []) ≡ bit (test x)
one_by test x = omega arith

-- a slot that awaits under a tag of twenty bits
well_formed_left : (tag s : ℕ) → tag < tag_bound → is_well_formed (record { state = Awaiting; tag = tag; stamp = s % stamp_bound }) ≡ true
well_formed_left tag s small =
    let a = lt-ltb tag tag_bound small in let b = lt-ltb (s % stamp_bound) stamp_bound (mod-lt s (omega arith)) in
    ap (λ (x : Bool). x && ltb (s % stamp_bound) stamp_bound && true) a ∙ ap (λ (x : Bool). true && x && true) b

-- ---- the tally goes on

module _ {V : Type 0} (batch : ℕ) (p q : Pass V) (t : MemoryTally) (was : IsCounted batch p t) where
  -- nothing that counts was done, by a pass that holds nothing
  pub counted_quiet : IsIdle p → IsIdle q → Grew Quiet (trail p) (trail q) → IsCounted batch q t
  counted_quiet idle stays grew =
      let before = holds_none p idle in let after = holds_none q stays in
      let some = ap bit before in let none = ap bit after in
      let warm = warm_stays (trail p) grew.done (trail q) grew.grown was.none_up 0 0 grew.is in
      let cold = cold_stays (trail p) grew.done (trail q) grew.grown was.none_up 0 0 grew.is in
      let looks = looks_more (trail p) grew.done (trail q) grew.grown was.none_up 0 grew.is.looks_are in
      let flushes = ap (flushes_in batch) grew.grown ∙ flushes-append batch (trail p) grew.done in
      let no_flush = grew.is.flushes_are batch in
      let begun = was.begun in record {
        warm_are = same_of t.counts.warm t.counts.warm _ _ refl was.warm_are warm;
        cold_are = same_of t.counts.cold t.counts.cold _ _ refl was.cold_are cold;
        flushes_are = same_of t.counts.flushes t.counts.flushes _ _ refl was.flushes_are (omega arith);
        full_are = same_of t.counts.full t.counts.full _ _ refl was.full_are (omega arith);
        begun = omega arith;
        claimed_is = was.claimed_is ∙ ap (λ (k : ℕ). (unpacked k).target) (claimed_none p before ∙ sym (claimed_none q after));
        none_up = up_more (trail p) grew.done (trail q) grew.grown was.none_up grew.is.counts;
      }

  module _ (u : MemoryTally) where
    -- a take that won a memory
    pub counted_won : (limit slots tag n read : ℕ) (flushed : Bool) → IsIdle p → Holds q n false false false
        → Grew (IsTake (Batched tag) limit slots n read) (trail p) (trail q) → flushes_in batch (trail q) ≡ flushes_in batch (trail p) + bit flushed
        → u.claimed ≡ (unpacked read).target → u.counts.flushes ≡ (t.counts.flushes + bit flushed) % 2 ^ 64
        → u.counts.warm ≡ t.counts.warm → u.counts.cold ≡ t.counts.cold → u.counts.full ≡ t.counts.full → IsCounted batch q u
    counted_won limit slots tag n read flushed idle holds grew told claimed flushes warm_is cold_is full_is =
        let before = holds_none p idle in let after = holds_one q n holds in
        let none = ap bit before in let one = ap bit after in
        let tells = take_tells limit slots tag n read grew.done grew.is in
        let warm = warm_stays (trail p) grew.done (trail q) grew.grown was.none_up 1 tells.0 tells.1 in
        let cold = cold_stays (trail p) grew.done (trail q) grew.grown was.none_up 1 tells.0 tells.1 in
        let looks = looks_more (trail p) grew.done (trail q) grew.grown was.none_up 1 tells.1.looks_are in
        let begun = was.begun in
        let claims : claimed_in 0 (trail q) ≡ read = ap (claimed_in 0) grew.grown ∙ claimed-append 0 (trail p) grew.done ∙ take_claims (Batched tag) limit slots n read grew.done grew.is (claimed_in 0 (trail p)) in record {
          warm_are = same_of t.counts.warm u.counts.warm _ _ warm_is was.warm_are warm;
          cold_are = same_of t.counts.cold u.counts.cold _ _ cold_is was.cold_are cold;
          flushes_are = more_of t.counts.flushes u.counts.flushes _ _ (bit flushed) flushes was.flushes_are told;
          full_are = same_of t.counts.full u.counts.full _ _ full_is was.full_are (omega arith);
          begun = omega arith;
          claimed_is = claimed ∙ ap (λ (k : ℕ). (unpacked k).target) (sym (claimed_one q after ∙ claims));
          none_up = up_more (trail p) grew.done (trail q) grew.grown was.none_up tells.1.counts;
        }

    -- one that won none
    pub counted_full : (limit slots tag : ℕ) → IsIdle p → IsIdle q → Grew (IsFullTake (Batched tag) limit slots) (trail p) (trail q)
        → u.claimed ≡ t.claimed → u.counts.flushes ≡ (t.counts.flushes + bit true) % 2 ^ 64
        → u.counts.warm ≡ t.counts.warm → u.counts.cold ≡ t.counts.cold → u.counts.full ≡ (t.counts.full + bit true) % 2 ^ 64 → IsCounted batch q u
    counted_full limit slots tag idle stays grew claimed flushes_is warm_is cold_is full_is =
        let before = holds_none p idle in let after = holds_none q stays in
        let some = ap bit before in let none = ap bit after in
        let tells = full_tells limit slots tag grew.done grew.is in
        let warm = warm_stays (trail p) grew.done (trail q) grew.grown was.none_up 1 1 tells in
        let cold = cold_stays (trail p) grew.done (trail q) grew.grown was.none_up 1 1 tells in
        let looks = looks_more (trail p) grew.done (trail q) grew.grown was.none_up 1 tells.looks_are in
        let flushes = ap (flushes_in batch) grew.grown ∙ flushes-append batch (trail p) grew.done in
        let one_flush = tells.flushes_are batch in
        let begun = was.begun in record {
          warm_are = same_of t.counts.warm u.counts.warm _ _ warm_is was.warm_are warm;
          cold_are = same_of t.counts.cold u.counts.cold _ _ cold_is was.cold_are cold;
          flushes_are = more_of t.counts.flushes u.counts.flushes _ _ (bit true) flushes_is was.flushes_are (omega arith);
          full_are = more_of t.counts.full u.counts.full _ _ (bit true) full_is was.full_are (omega arith);
          begun = omega arith;
          claimed_is = claimed ∙ was.claimed_is ∙ ap (λ (k : ℕ). (unpacked k).target) (claimed_none p before ∙ sym (claimed_none q after));
          none_up = up_more (trail p) grew.done (trail q) grew.grown was.none_up tells.counts;
        }

    -- the give of a memory
    pub counted_given : (limit slots n tag : ℕ) (own flushed : Bool) → Holds p n false false false → IsIdle q → tag < tag_bound
        → Grew (IsHandIn limit slots n tag batch) (trail p) (trail q) → flushes_in batch (trail q) ≡ flushes_in batch (trail p) + bit flushed
        → own ≡ (is_warm t.claimed.state && (t.claimed.tag == tag))
        → u.claimed ≡ (unpacked 0).target → u.counts.flushes ≡ (t.counts.flushes + bit flushed) % 2 ^ 64
        → u.counts.warm ≡ (t.counts.warm + bit own) % 2 ^ 64 → u.counts.cold ≡ (t.counts.cold + bit (not own)) % 2 ^ 64 → u.counts.full ≡ t.counts.full → IsCounted batch q u
    counted_given limit slots n tag own flushed holds idle small grew told own_is claimed flushes_is warm_is cold_is full_is =
        let before = holds_one p n holds in let after = holds_none q idle in
        let one = ap bit before in let none = ap bit after in
        let hands = hand_in_hands limit slots n tag batch grew.done grew.is in
        let last : ℕ = claimed_in 0 (trail p) in
        let left : Target = record { state = Awaiting; tag = tag; stamp = hands.stamp % stamp_bound } in
        let stored : ℕ = packed (free_word left) in
        let says : (unpacked stored).target.tag ≡ tag = ap (λ (w : StateWord). w.target.tag) (bits_say_the_word stored (free_word left) (record { packed_is = refl; well_formed = well_formed_left tag hands.stamp small })) in
        let claims : t.claimed ≡ (unpacked last).target = was.claimed_is ∙ ap (λ (k : ℕ). (unpacked k).target) (claimed_one p before) in
        let slot : ℕ × ℕ = (last, stored) in
        let was_is : own ≡ was_own slot =
        own_is ∙ ap (λ (x : Target). is_warm x.state && (x.tag == tag)) claims ∙ ap (λ (k : ℕ). is_warm (unpacked last).target.state && ((unpacked last).target.tag == k)) (sym says) in
        let warm : warm_in (trail q) ≡ warm_in (trail p) + bit own =
        warm_more (trail p) grew.done (trail q) grew.grown was.none_up (slot ∷ []) (hands.hands last) ∙ ap (λ (k : ℕ). warm_in (trail p) + k) (one_by was_own slot ∙ sym (ap bit was_is)) in
        let cold : cold_in (trail q) ≡ cold_in (trail p) + bit (not own) =
        cold_more (trail p) grew.done (trail q) grew.grown was.none_up (slot ∷ []) (hands.hands last)
        ∙ ap (λ (k : ℕ). cold_in (trail p) + k) (one_by (λ (s : ℕ × ℕ). not (was_own s)) slot ∙ sym (ap (λ (b : Bool). bit (not b)) was_is)) in
        let looks = looks_more (trail p) grew.done (trail q) grew.grown was.none_up 0 hands.looks in
        let whole = one_or_other own in
        let begun = was.begun in record {
          warm_are = more_of t.counts.warm u.counts.warm _ _ (bit own) warm_is was.warm_are warm;
          cold_are = more_of t.counts.cold u.counts.cold _ _ (bit (not own)) cold_is was.cold_are cold;
          flushes_are = more_of t.counts.flushes u.counts.flushes _ _ (bit flushed) flushes_is was.flushes_are told;
          full_are = same_of t.counts.full u.counts.full _ _ full_is was.full_are (omega arith);
          begun = omega arith;
          claimed_is = claimed ∙ ap (λ (k : ℕ). (unpacked k).target) (sym (claimed_none q after));
          none_up = up_more (trail p) grew.done (trail q) grew.grown was.none_up hands.counts;
        }

-- ---- the first tally, and the last word

pub counted_new : {V : Type 0} (batch : ℕ) (p : Pass V) → IsIdle p → trail p ≡ []
    → IsCounted batch p (record { counts = record { warm = 0; cold = 0; flushes = 0; full = 0 }; claimed = record { state = Cold; tag = 0; stamp = 0 } })
counted_new batch p idle none =
    let holds = holds_none p idle in
    let zero = ap bit holds in let looks = ap looks_in none in let given = ap given_in none in record {
      warm_are = sym (ap (λ (os : List Operation). warm_in os % 2 ^ 64) none);
      cold_are = sym (ap (λ (os : List Operation). cold_in os % 2 ^ 64) none);
      flushes_are = sym (ap (λ (os : List Operation). flushes_in batch os % 2 ^ 64) none);
      full_are = sym (ap (λ (os : List Operation). (looks_in os - (given_in os + bit (is_holding p))) % 2 ^ 64) none ∙ ap (λ (b : Bool). (0 - (0 + bit b)) % 2 ^ 64) holds);
      begun = omega arith;
      claimed_is = sym (ap (λ (k : ℕ). (unpacked k).target) (claimed_none p holds));
      none_up = ap (counted_in false) none;
    }

pub counted_takes : {V : Type 0} (batch : ℕ) (p : Pass V) (t : MemoryTally) → is_holding p ≡ false → IsCounted batch p t → AreTakes batch p t.counts
counted_takes batch p t none is = let zero = ap bit none in record {
  warm_are = is.warm_are;
  cold_are = is.cold_are;
  flushes_are = is.flushes_are;
  full_are = is.full_are ∙ ap (λ (k : ℕ). k % 2 ^ 64) (let e : looks_in (trail p) - (given_in (trail p) + bit (is_holding p)) ≡ looks_in (trail p) - given_in (trail p) = omega arith in e);
}

-- ---- what a take and a give add

module _ (t u : List Operation) (none_up : counted_in false t ≡ false) where
  pub take_adds : (limit slots tag n read : ℕ) → Grew (IsTake (Batched tag) limit slots n read) t u
      → (looks_in u ≡ looks_in t + 1) × (given_in u ≡ given_in t) × (counted_in false u ≡ false)
  take_adds limit slots tag n read grew =
      let tells = take_tells limit slots tag n read grew.done grew.is in
      let warm = warm_stays t grew.done u grew.grown none_up 1 tells.0 tells.1 in
      let cold = cold_stays t grew.done u grew.grown none_up 1 tells.0 tells.1 in (
        looks_more t grew.done u grew.grown none_up 1 tells.1.looks_are,
        omega arith,
        up_more t grew.done u grew.grown none_up tells.1.counts,
      )

  pub full_adds : (limit slots tag : ℕ) → Grew (IsFullTake (Batched tag) limit slots) t u → (looks_in u ≡ looks_in t + 1) × (given_in u ≡ given_in t)
  full_adds limit slots tag grew =
      let tells = full_tells limit slots tag grew.done grew.is in
      let warm = warm_stays t grew.done u grew.grown none_up 1 1 tells in
      let cold = cold_stays t grew.done u grew.grown none_up 1 1 tells in
      (looks_more t grew.done u grew.grown none_up 1 tells.looks_are, omega arith)

  pub hand_in_adds : (limit slots n tag batch : ℕ) → Grew (IsHandIn limit slots n tag batch) t u → (looks_in u ≡ looks_in t) × (given_in u ≡ given_in t + 1)
  hand_in_adds limit slots n tag batch grew =
      let hands = hand_in_hands limit slots n tag batch grew.done grew.is in
      let slot : ℕ × ℕ = (claimed_in 0 t, packed (free_word (record { state = Awaiting; tag = tag; stamp = hands.stamp % stamp_bound }))) in
      let warm : warm_in u ≡ warm_in t + bit (was_own slot) =
      warm_more t grew.done u grew.grown none_up (slot ∷ []) (hands.hands (claimed_in 0 t)) ∙ ap (λ (k : ℕ). warm_in t + k) (one_by was_own slot) in
      let cold : cold_in u ≡ cold_in t + bit (not (was_own slot)) =
      cold_more t grew.done u grew.grown none_up (slot ∷ []) (hands.hands (claimed_in 0 t)) ∙ ap (λ (k : ℕ). cold_in t + k) (one_by (λ (s : ℕ × ℕ). not (was_own s)) slot) in
      let looks = looks_more t grew.done u grew.grown none_up 0 hands.looks in
      let whole = one_or_other (was_own slot) in (omega arith, omega arith)
