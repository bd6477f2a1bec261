-- What one operation does to the words and to the clock, and how operations are counted.
use Rattle.std.proofs.Common.{◌≡◌, ◌≢◌, ℕ, ◌+◌, ◌%◌, ◌^◌, ◌<◌, ◌&&◌, Bool, true, false, true≢false, List, [], ◌∷◌, ◌++◌, length, get_or, set, refl, sym, ap, ◌∙◌, subst, arith, length-set, get_or-set_same, get_or-set_other}
use mathlib.Core.Logic.{dite}
use mathlib.Core.Option.{some}
use native.Mathlib.Decide.{ℕ_discrete}
use lib.ListN.{get_elem?}
use Rattle.std.specs.Prelude.{◌==◌, flat_map}
use Rattle.std.specs.List.{count_by, sum_by}
use Rattle.std.proofs.lemmas.Bool.{eq-eqb, and_right, ne_eqb}
use Rattle.std.proofs.lemmas.List.Concat.{flat_map-cons}
use Rattle.std.proofs.lemmas.List.Sums.{sum_by-cons, sum_by-append, sum_by_push, sum_by-set}
use Rattle.pool_core.specs.declared.words.StateWord.{StateWord}
use Rattle.pool_core.specs.declared.words.Target.{Target}
use Rattle.pool_core.specs.declared.events.Event.TheVariants as event
use Rattle.pool_core.specs.StateWords.{bit, cold_word, packed, free_word, held_word}
use Rattle.pool_core.specs.PoolCore.{PoolCore, word_at}
use Rattle.pool_core.specs.EventEffects.{core_after}
use Rattle.slot_words.specs.declared.views.PassView.{PassView}
use Rattle.slot_words.specs.declared.views.Operation.{Operation}
use Rattle.slot_words.specs.declared.views.Operation.TheVariants.{Claim, Release}
use Rattle.slot_words.specs.CoreLaws.{CoreLaws}
use Rattle.slot_words.specs.Accounts.{gives_word, finds_word, AreLeft, is_release, is_stamp, is_won_claim}
use Rattle.slot_words.specs.Views.{no_view}
use Rattle.slot_words.proofs.Lookups.{found}

-- what is left depends on how often each operation was done, and not on the order
pub left_by_counts : (done other : List Operation) (words : List StateWord) → ((p : Operation → Bool) → count_by p done ≡ count_by p other) → AreLeft done words → AreLeft other words
left_by_counts done other words same left n bits h free = let a = left n bits h free in let b = same (gives_word n bits) in let c = same (finds_word n bits) in omega arith

module _ {X : Type 0} (f : PassView → List X) (p : X → Bool) where
  -- what all views have, counted view by view
  pub count_by-views : (views : List PassView) → count_by p (flat_map f views) ≡ sum_by (λ v. count_by p (f v)) views
  count_by-views [] = refl
  count_by-views (v ∷ vs) =
      ap (λ (xs : List X). count_by p xs) (flat_map-cons f v vs) ∙ sum_by-append (λ x. bit (p x)) (f v) (flat_map f vs)
      ∙ ap (λ (k : ℕ). count_by p (f v) + k) (count_by-views vs) ∙ sym (sum_by-cons (λ v. count_by p (f v)) v vs)

  -- where one view changes, so does its own part
  pub count_by-set_view : (views : List PassView) (id : ℕ) (v w : PassView) → get_elem? views id ≡ some v → count_by p (flat_map f (set views id w)) + count_by p (f v) ≡ count_by p (flat_map f views) + count_by p (f w)
  count_by-set_view views id v w at = let g : PassView → ℕ = λ v. count_by p (f v) in let here = found views id v no_view at in
      let a : count_by p (flat_map f (set views id w)) ≡ sum_by g (set views id w) = count_by-views (set views id w) in
      let b : count_by p (flat_map f views) ≡ sum_by g views = count_by-views views in
      let c : sum_by g (set views id w) + g (get_or views id no_view) ≡ sum_by g views + g w = sum_by-set g views id w no_view here.0 in
      let d : g (get_or views id no_view) ≡ g v = ap g here.1 in omega arith

  -- and one view more adds its part
  pub count_by-view_more : (views : List PassView) (w : PassView) → count_by p (flat_map f (views ++ w ∷ [])) ≡ count_by p (flat_map f views) + count_by p (f w)
  count_by-view_more views w = count_by-views (views ++ w ∷ []) ∙ sum_by_push (λ v. count_by p (f v)) views w ∙ ap (λ (k : ℕ). k + count_by p (f w)) (sym (count_by-views views))

-- an operation that turns the old words into the new ones gives each slot what it then has, and takes from it what it had
pub record Turns (old : List StateWord) (o : Operation) (new : List StateWord) : Type 0 where
  pub slots_are : length new ≡ length old
  pub each : (n bits : ℕ) → n < length old → bits % 2 ≡ 0
      → bit (gives_word n bits o) + bit (packed (get_or old n cold_word) == bits) ≡ bit (finds_word n bits o) + bit (packed (get_or new n cold_word) == bits)

-- a clock that was the count of the stamps so far is so after this operation
abbrev pub Ticks : ℕ → Operation → ℕ → Type 0
Ticks before o after = (stamps : ℕ) → before ≡ stamps % 2 ^ 64 → after ≡ (stamps + bit (is_stamp o)) % 2 ^ 64

-- whether an operation leaves all slots' words alone
abbrev pub is_quiet : Operation → Bool
is_quiet (Claim n r) = false
is_quiet (Release n r) = false
is_quiet o = true

pub quiet_turn : (words : List StateWord) (o : Operation) → is_quiet o ≡ true → Turns words o words
quiet_turn words (Claim n r) quiet = absurd (true≢false (sym quiet))
quiet_turn words (Release n r) quiet = absurd (true≢false (sym quiet))
quiet_turn words o quiet = record { slots_are = refl; each = λ n bits h free. refl }

-- it is no claim that found a free word, and no release
pub quiet_kinds : (o : Operation) → is_quiet o ≡ true → (is_won_claim o ≡ false) × (is_release o ≡ false)
quiet_kinds (Claim n r) quiet = absurd (true≢false (sym quiet))
quiet_kinds (Release n r) quiet = absurd (true≢false (sym quiet))
quiet_kinds o quiet = (refl, refl)

-- an operation that is no stamp leaves the clock, and a stamp moves it on
pub still : (before stamps : ℕ) → before ≡ stamps % 2 ^ 64 → before ≡ (stamps + 0) % 2 ^ 64
still before stamps e = e ∙ ap (λ (k : ℕ). k % 2 ^ 64) (let z : stamps ≡ stamps + 0 = omega arith in z)

pub onward : (before stamps : ℕ) → before ≡ stamps % 2 ^ 64 → (before + 1) % 2 ^ 64 ≡ (stamps + 1) % 2 ^ 64
onward before stamps e = omega arith

pub odd_is_lost : (r : ℕ) → r % 2 ≡ 1 → bit (r % 2 == 0) ≡ 0
odd_is_lost r e = ap (λ (k : ℕ). bit (k == 0)) e

pub even_is_won : (r : ℕ) → r % 2 ≡ 0 → bit (r % 2 == 0) ≡ 1
even_is_won r e = ap (λ (k : ℕ). bit (k == 0)) e

-- a held word is no free one
held_is_not_free : CoreLaws → (w : StateWord) (bits : ℕ) → w.held ≡ true → bits % 2 ≡ 0 → (packed w == bits) ≡ false
held_is_not_free laws w bits held free = ne_eqb (packed w) bits (λ e.
    let a : packed w % 2 ≡ 1 = laws.bit_says w ∙ ap bit held in let b : packed w % 2 ≡ bits % 2 = ap (λ (k : ℕ). k % 2) e in absurd (omega arith))

-- what one slot has after a word was written to slot n
module _ (ws : List StateWord) (n : ℕ) (v : StateWord) (below : n < length ws) where
  word_here : (m : ℕ) → m ≡ n → get_or (set ws n v) m cold_word ≡ v
  word_here m e = ap (λ (k : ℕ). get_or (set ws n v) k cold_word) e ∙ get_or-set_same ws n v cold_word below

  word_else : (m : ℕ) → m ≢ n → get_or (set ws n v) m cold_word ≡ get_or ws m cold_word
  word_else m ne = get_or-set_other ws n m v cold_word ne

-- a claim turns a free word into a held one, and leaves a held word
pub claim_turn : CoreLaws → (c : PoolCore) (s n r : ℕ) → n < length c.words → r ≡ packed (word_at c n) → Turns c.words (Claim n r) (core_after c (event.Claim s n)).words
claim_turn laws c s n r below read = let w : StateWord = word_at c n in
    let split : (b : Bool) → w.held ≡ b → Turns c.words (Claim n r) (core_after c (event.Claim s n)).words = elim [
      | true ↦ λ e. let to : c.words ≡ (core_after c (event.Claim s n)).words = rw e refl in
          subst (Turns c.words (Claim n r)) to record {
            slots_are = refl;
            each = λ m bits h free.
                let lost : ((n == m) && (r == bits)) ≡ false = ap (λ (k : ℕ). (n == m) && (k == bits)) read ∙ ap (λ (b : Bool). (n == m) && b) (held_is_not_free laws w bits e free) ∙ and_right (n == m) false refl in
                sym (ap (λ (b : Bool). bit b + bit (packed (word_at c m) == bits)) lost);
          }
      | false ↦ λ e. let to : set c.words n (held_word w) ≡ (core_after c (event.Claim s n)).words = rw e refl in
          subst (Turns c.words (Claim n r)) to record {
            slots_are = length-set c.words n (held_word w);
            each = λ m bits h free. dite (ℕ_discrete m n)
                (λ here.
                let now : bit (packed (get_or (set c.words n (held_word w)) m cold_word) == bits) ≡ 0 = ap (λ (u : StateWord). bit (packed u == bits)) (word_here c.words n (held_word w) below m here) ∙ ap bit (held_is_not_free laws (held_word w) bits refl free) in
                let won : bit ((n == m) && (r == bits)) ≡ bit (packed (word_at c m) == bits) = ap (λ (b : Bool). bit (b && (r == bits))) (eq-eqb n m (sym here)) ∙ ap (λ (k : ℕ). bit (k == bits)) (read ∙ ap (λ (k : ℕ). packed (word_at c k)) (sym here)) in
                omega arith)
                (λ apart.
                let now : bit (packed (get_or (set c.words n (held_word w)) m cold_word) == bits) ≡ bit (packed (word_at c m) == bits) = ap (λ (u : StateWord). bit (packed u == bits)) (word_else c.words n (held_word w) below m apart) in
                let none : bit ((n == m) && (r == bits)) ≡ 0 = ap (λ (b : Bool). bit (b && (r == bits))) (ne_eqb n m (λ e. apart (sym e))) in
                omega arith);
          }
    ] in split w.held refl

-- a release turns a held word into the free one that it stores
pub release_turn : CoreLaws → (c : PoolCore) (n : ℕ) (to : Target) → n < length c.words → (word_at c n).held ≡ true → Turns c.words (Release n (packed (free_word to))) (set c.words n (free_word to))
release_turn laws c n to below held = record {
  slots_are = length-set c.words n (free_word to);
  each = λ m bits h free. let x : ℕ = packed (free_word to) in dite (ℕ_discrete m n)
      (λ here.
      let was : bit (packed (word_at c m) == bits) ≡ 0 = ap (λ (k : ℕ). bit (packed (word_at c k) == bits)) here ∙ ap bit (held_is_not_free laws (word_at c n) bits held free) in
      let now : bit (packed (get_or (set c.words n (free_word to)) m cold_word) == bits) ≡ bit (x == bits) = ap (λ (u : StateWord). bit (packed u == bits)) (word_here c.words n (free_word to) below m here) in
      let given : bit ((n == m) && (x == bits)) ≡ bit (x == bits) = ap (λ (b : Bool). bit (b && (x == bits))) (eq-eqb n m (sym here)) in
      omega arith)
      (λ apart.
      let now : bit (packed (get_or (set c.words n (free_word to)) m cold_word) == bits) ≡ bit (packed (word_at c m) == bits) = ap (λ (u : StateWord). bit (packed u == bits)) (word_else c.words n (free_word to) below m apart) in
      let none : bit ((n == m) && (x == bits)) ≡ 0 = ap (λ (b : Bool). bit (b && (x == bits))) (ne_eqb n m (λ e. apart (sym e))) in
      omega arith);
}

-- a claim leaves the clock
pub claim_clock : (c : PoolCore) (s n : ℕ) → (core_after c (event.Claim s n)).clock ≡ c.clock
claim_clock c s n = let w : StateWord = word_at c n in
    let split : (b : Bool) → w.held ≡ b → (core_after c (event.Claim s n)).clock ≡ c.clock = elim [ true ↦ λ e. rw e refl | false ↦ λ e. rw e refl ] in split w.held refl
