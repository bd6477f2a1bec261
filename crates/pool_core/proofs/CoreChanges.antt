-- A pool stays lawful where one seat and one word change, or one seat alone, if the old and the new balance.
use Rattle.std.proofs.Common.{◌≡◌, ◌≢◌, ℕ, ◌+◌, ◌-◌, ◌<◌, ◌≤◌, Bool, true, List, length, get_or, set, sym, ap, ◌∙◌, subst, arith, get_or-set_same, get_or-set_other}
use mathlib.Core.Logic.{dite}
use native.Mathlib.Decide.{ℕ_discrete}
use Rattle.std.proofs.lemmas.List.Sums.{sum_by-set, get_or-le-sum_by}
use Rattle.std.specs.List.{count_by}
use Rattle.pool_core.specs.declared.seats.Seat.{Seat}
use Rattle.pool_core.specs.declared.seats.Stage.TheVariants.{Unmade}
use Rattle.pool_core.specs.declared.words.StateWord.{StateWord}
use Rattle.pool_core.specs.Lawful.{IsSoundSeat, Lawful, is_free_awaiting, is_free_warm, has_permit, has_refusal, has_mark}
use Rattle.pool_core.specs.PoolCore.{PoolCore, idle_seat, is_holding, seat_at, word_at}
use Rattle.pool_core.specs.StateWords.{bit, cold_word, is_well_formed}

-- a count after one element has changed
pub counts : {X : Type 0} (p : X → Bool) (xs : List X) (i : ℕ) (y d : X) → i < length xs → count_by p (set xs i y) + bit (p (get_or xs i d)) ≡ count_by p xs + bit (p y)
counts p xs i y d h = sum_by-set (λ x. bit (p x)) xs i y d h

-- one seat and one word change
abbrev pub core_with_both : PoolCore → ℕ → Seat → ℕ → StateWord → ℕ → ℕ → ℕ → PoolCore
core_with_both c s q n v warm awaiting clock = record c { words = set c.words n v; seats = set c.seats s q; warm = warm; awaiting = awaiting; clock = clock }

-- what such a change asks: of the seat and the word before and after
pub record IsFairChange (c : PoolCore) (p q : Seat) (n : ℕ) (w v : StateWord) (warm awaiting : ℕ) : Type 0 where
  pub sound : IsSoundSeat q
  pub well_formed : is_well_formed v.target ≡ true
  pub others : (m : ℕ) → m ≢ n → is_holding q.holds m ≡ is_holding p.holds m
  pub own : bit (is_holding q.holds n) + bit w.held ≡ bit (is_holding p.holds n) + bit v.held
  pub warmth : warm + (bit (is_free_warm w) + (bit p.permit + bit p.refusal)) ≡ c.warm + (bit (is_free_warm v) + (bit q.permit + bit q.refusal))
  pub within : (x : ℕ) → x + (bit (is_free_warm w) + bit p.permit) ≤ c.limit → x + (bit (is_free_warm w) + bit p.permit) ≤ c.warm → x + (bit (is_free_warm v) + bit q.permit) ≤ c.limit
  pub waiting : awaiting + (bit (is_free_awaiting w) + bit p.mark) ≡ c.awaiting + (bit (is_free_awaiting v) + bit q.mark)

abbrev WellFormed : StateWord → Type 0
WellFormed w = is_well_formed w.target ≡ true

-- a lawful pool stays lawful where the seat s becomes q and the word n becomes v
pub lawful_change : (c : PoolCore) (s n : ℕ) (q : Seat) (v : StateWord) (warm awaiting clock : ℕ) → Lawful c → s < length c.seats → n < length c.words
    → IsFairChange c (seat_at c s) q n (word_at c n) v warm awaiting → Lawful (core_with_both c s q n v warm awaiting clock)
lawful_change c s n q v warm awaiting clock law here there f =
    let p : Seat = seat_at c s in let w : StateWord = word_at c n in let ps : List Seat = c.seats in let ws : List StateWord = c.words in
    let permits = counts has_permit ps s q (idle_seat Unmade) here in
    let refusals = counts has_refusal ps s q (idle_seat Unmade) here in
    let marks = counts has_mark ps s q (idle_seat Unmade) here in
    let rests = counts is_free_warm ws n v cold_word there in
    let waits = counts is_free_awaiting ws n v cold_word there in
    let was = law.warm in let lim = law.within in let aw = law.awaiting in
    let fw = f.warmth in let fa = f.waiting in
    let a : ℕ = count_by is_free_warm ws in let b : ℕ = count_by has_permit ps in let r : ℕ = count_by has_refusal ps in
    let a' : ℕ = count_by is_free_warm (set ws n v) in let b' : ℕ = count_by has_permit (set ps s q) in
    record {
      holders = λ m.
          let at = counts (λ (x : Seat). is_holding x.holds m) ps s q (idle_seat Unmade) here in let old = law.holders m in
          dite (ℕ_discrete m n)
          (λ same. subst (λ (k : ℕ). count_by (λ (x : Seat). is_holding x.holds k) (set ps s q) ≡ bit (get_or (set ws n v) k cold_word).held) (sym same)
          (let at' = counts (λ (x : Seat). is_holding x.holds n) ps s q (idle_seat Unmade) here in let old' = law.holders n in let own = f.own in
          rw (get_or-set_same ws n v cold_word there) (omega arith)))
          (λ other. rw (get_or-set_other ws n m v cold_word other) (let e : bit (is_holding q.holds m) ≡ bit (is_holding p.holds m) = ap bit (f.others m other) in omega arith));
      seats = λ t. dite (ℕ_discrete t s) (λ same. subst IsSoundSeat (sym (ap (λ (k : ℕ). get_or (set ps s q) k (idle_seat Unmade)) same ∙ get_or-set_same ps s q (idle_seat Unmade) here)) f.sound)
          (λ other. subst IsSoundSeat (sym (get_or-set_other ps s t q (idle_seat Unmade) other)) (law.seats t));
      warm =
          let r' : ℕ = count_by has_refusal (set ps s q) in
          let e1 : a' + bit (is_free_warm w) ≡ a + bit (is_free_warm v) = rests in
          let e2 : b' + bit p.permit ≡ b + bit q.permit = permits in
          let e3 : r' + bit p.refusal ≡ r + bit q.refusal = refusals in
          let e4 : c.warm ≡ a + (b + r) = law.warm in
          let goal : warm ≡ a' + (b' + r') = omega arith in goal;
      within =
          let x : ℕ = a + b - (bit (is_free_warm w) + bit p.permit) in
          let l1 : bit (is_free_warm w) ≤ a = get_or-le-sum_by (λ y. bit (is_free_warm y)) ws n cold_word there in
          let l2 : bit p.permit ≤ b = get_or-le-sum_by (λ (y : Seat). bit y.permit) ps s (idle_seat Unmade) here in
          let e1 : a' + bit (is_free_warm w) ≡ a + bit (is_free_warm v) = rests in
          let e2 : b' + bit p.permit ≡ b + bit q.permit = permits in
          let e4 : c.warm ≡ a + (b + r) = law.warm in
          let e5 : a + b ≤ c.limit = law.within in
          let e6 : x + (bit (is_free_warm v) + bit q.permit) ≤ c.limit = f.within x (omega arith) (omega arith) in
          let goal : a' + b' ≤ c.limit = omega arith in goal;
      awaiting = omega arith;
      words = λ t. dite (ℕ_discrete t n) (λ same. subst WellFormed (sym (ap (λ (k : ℕ). get_or (set ws n v) k cold_word) same ∙ get_or-set_same ws n v cold_word there)) f.well_formed)
          (λ other. subst WellFormed (sym (get_or-set_other ws n t v cold_word other)) (law.words t));
    }

-- what a change of one seat asks, where the words stay
pub record IsFairSeatChange (c : PoolCore) (p q : Seat) (warm awaiting : ℕ) : Type 0 where
  pub sound : IsSoundSeat q
  pub places : (m : ℕ) → is_holding q.holds m ≡ is_holding p.holds m
  pub warmth : warm + (bit p.permit + bit p.refusal) ≡ c.warm + (bit q.permit + bit q.refusal)
  pub within : (x : ℕ) → x + bit p.permit ≤ c.limit → x + bit p.permit ≤ c.warm → x + bit q.permit ≤ c.limit
  pub waiting : awaiting + bit p.mark ≡ c.awaiting + bit q.mark

-- a lawful pool stays lawful where the seat s becomes q and all words stay
pub lawful_seat_change : (c : PoolCore) (s : ℕ) (q : Seat) (warm awaiting clock : ℕ) → Lawful c → s < length c.seats → IsFairSeatChange c (seat_at c s) q warm awaiting
    → Lawful (record c { seats = set c.seats s q; warm = warm; awaiting = awaiting; clock = clock })
lawful_seat_change c s q warm awaiting clock law here f =
    let p : Seat = seat_at c s in let ps : List Seat = c.seats in let ws : List StateWord = c.words in
    let a : ℕ = count_by is_free_warm ws in let b : ℕ = count_by has_permit ps in let r : ℕ = count_by has_refusal ps in
    let b' : ℕ = count_by has_permit (set ps s q) in let r' : ℕ = count_by has_refusal (set ps s q) in
    let k : ℕ = count_by is_free_awaiting ws in let m : ℕ = count_by has_mark ps in let m' : ℕ = count_by has_mark (set ps s q) in
    let e2 : b' + bit p.permit ≡ b + bit q.permit = counts has_permit ps s q (idle_seat Unmade) here in
    let e3 : r' + bit p.refusal ≡ r + bit q.refusal = counts has_refusal ps s q (idle_seat Unmade) here in
    let e7 : m' + bit p.mark ≡ m + bit q.mark = counts has_mark ps s q (idle_seat Unmade) here in
    let e4 : c.warm ≡ a + (b + r) = law.warm in let e5 : a + b ≤ c.limit = law.within in let e8 : c.awaiting ≡ k + m = law.awaiting in
    let l2 : bit p.permit ≤ b = get_or-le-sum_by (λ (y : Seat). bit y.permit) ps s (idle_seat Unmade) here in
    record {
      holders = λ n.
          let at = counts (λ (x : Seat). is_holding x.holds n) ps s q (idle_seat Unmade) here in let old = law.holders n in
          let e : bit (is_holding q.holds n) ≡ bit (is_holding p.holds n) = ap bit (f.places n) in omega arith;
      seats = λ t. dite (ℕ_discrete t s) (λ same. subst IsSoundSeat (sym (ap (λ (j : ℕ). get_or (set ps s q) j (idle_seat Unmade)) same ∙ get_or-set_same ps s q (idle_seat Unmade) here)) f.sound)
          (λ other. subst IsSoundSeat (sym (get_or-set_other ps s t q (idle_seat Unmade) other)) (law.seats t));
      warm = let w = f.warmth in let goal : warm ≡ a + (b' + r') = omega arith in goal;
      within =
          let x : ℕ = a + b - bit p.permit in let e6 : x + bit q.permit ≤ c.limit = f.within x (omega arith) (omega arith) in
          let goal : a + b' ≤ c.limit = omega arith in goal;
      awaiting = let w = f.waiting in let goal : awaiting ≡ k + m' = omega arith in goal;
      words = law.words;
    }
