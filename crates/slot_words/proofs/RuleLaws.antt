-- What the rule says of any moment.
use Rattle.std.proofs.Common.{◌≡◌, ℕ, ◌+◌, ◌%◌, ◌^◌, ◌<◌, Bool, true, false, length, get_or, refl, sym, ap, ◌∙◌, subst, arith}
use Rattle.pool_core.specs.declared.words.State.{State}
use Rattle.pool_core.specs.declared.words.StateWord.{StateWord}
use Rattle.pool_core.specs.declared.seats.Seat.{Seat}
use Rattle.pool_core.specs.StateWords.{bit}
use Rattle.pool_core.specs.PoolCore.{PoolCore, is_live, word_at}
use Rattle.slot_words.specs.CoreLaws.{CoreLaws}
use Rattle.slot_words.specs.Accounts.{is_stamp}
use Rattle.slot_words.specs.History.{opening_of}
use Rattle.slot_words.specs.Views.{no_view}
use Rattle.slot_words.specs.Rule.{AloneWithAll, ClockCountsStamps, FreeValuesFit, HeldByAnother, NoHiddenSeat, OneHistory, OneHolder, WithinLimit}
use Rattle.slot_words.specs.Shows.{shown_seat, view_share, view_unsplit}
use Rattle.slot_words.proofs.Holdings.{seats-are-shown}
use Rattle.slot_words.proofs.HistoryAccounts.{histories_account}
use Rattle.slot_words.proofs.NotedSums.{operations_are_noted}
use Rattle.slot_words.proofs.HeldShares.{another_holds, counted_at}
use Rattle.slot_words.proofs.Lookups.{live_not_away}
use Rattle.slot_words.proofs.SharedPasses.{shared_beside, views_within}

held_of : (b : Bool) → bit b ≡ 1 → b ≡ true
held_of true e = refl
held_of false e = absurd (omega arith)

module _ (laws : CoreLaws) {V : Type 0} (fits : State → ℕ → V → Type 0) where
  pub one_holder : OneHolder fits
  one_holder bounds s r i j n hi hj = laws.one_seat r.core i j n r.lawful (ap (λ (p : Seat). p.holds) (r.shows.seat_shows i) ∙ hi) (ap (λ (p : Seat). p.holds) (r.shows.seat_shows j) ∙ hj)

  pub held_by_another : HeldByAnother fits
  held_by_another bounds s r n i below odd none = let o = r.shows in let w : StateWord = word_at r.core n in
      let there : n < length r.core.words = let e = o.slots_are in omega arith in
      let one : bit w.held ≡ 1 = sym (laws.bit_says w) ∙ ap (λ (k : ℕ). k % 2) (sym (o.word_shows n there)) ∙ odd in
      another_holds laws fits bounds r.core s r.lawful o n i (held_of w.held one) none

  pub no_hidden_seat : NoHiddenSeat fits
  no_hidden_seat bounds s r = views_within no_view view_share view_unsplit bounds.passes s.views r.shows.shared

  pub alone_with_all : AloneWithAll fits
  alone_with_all bounds s r id v at all j ne = let p : Seat = shown_seat s.views j in
      let both = shared_beside no_view view_share view_unsplit bounds.passes s.views id j v refl at ne r.shows.shared in
      let split : (b : Bool) → is_live p.stage ≡ b → is_live p.stage ≡ false = elim [
        | false ↦ λ e. e
        | true ↦ λ e. let one = counted_at fits bounds r.core s r.shows j (live_not_away p.stage e) in absurd (omega arith)
      ] in split (is_live p.stage) refl

  pub within_limit : WithinLimit fits
  within_limit bounds s r = let o = r.shows in (
    r.core.words,
    sym o.words_are,
    record { each = λ n h. record { packed_is = o.word_shows n h; well_formed = r.lawful.words n } },
    (let w = r.lawful.within in let l = o.limit_is in let p = seats-are-shown laws fits bounds r.core s o (λ q. bit q.permit) refl in omega arith),
  )

  pub free_values_fit : FreeValuesFit fits
  free_values_fit bounds s r n w below is free = let o = r.shows in
      let there : n < length r.core.words = let e = o.slots_are in omega arith in
      let same : word_at r.core n ≡ w = laws.one_word _ _ _ record { packed_is = o.word_shows n there; well_formed = r.lawful.words n } is in
      let h = o.at_home n there (ap (λ (u : StateWord). u.held) same ∙ free) in
      (h.0, h.1, subst (λ (u : StateWord). fits u.target.state u.target.tag h.0) same h.2)

  pub clock_counts_stamps : ClockCountsStamps fits
  clock_counts_stamps bounds s r = let c = r.rule.core in let h = r.history in let opening = opening_of bounds c in
      ap (λ (k : ℕ). get_or s.words (k + 2) 0) r.rule.shows.slots_are ∙ r.rule.shows.clock_shows ∙ ap (λ (k : PoolCore). k.clock) h.leads
      ∙ (histories_account laws (length c.words) bounds.limit bounds.passes h.events h.allowed).clock_is ∙ ap (λ (k : ℕ). k % 2 ^ 64) (sym (operations_are_noted opening c s.views h is_stamp))

module _ {V : Type 0} (fits : State → ℕ → V → Type 0) where
  pub one_history : OneHistory fits
  one_history bounds s r = (r.rule.core, r.rule.shows, r.history)
