-- What the words show when the table is taken apart.
use Rattle.std.proofs.Common.{◌≡◌, ◌≢◌, ℕ, suc, ◌+◌, ◌≤◌, ⊎_elim, Bool, true, false, true≢false, if◌then◌else◌, List, [], ◌∷◌, length, get_or, set, refl, sym, ap, ◌∙◌, subst, arith, ltb}
use mathlib.Core.Option.{some}
use lib.ListN.{get_elem?}
use Rattle.std.specs.Prelude.{Option, None, is_some}
use Rattle.std.specs.List.{count_by, sum_by}
use Rattle.std.proofs.lemmas.List.Sums.{sum_by-cons, sum_by-set, get_or-le-sum_by}
use Rattle.atomic_table.specs.Table.{Final, Seen}
use Rattle.atomic_table.proofs.Lists.{at_set}
use Rattle.pool_core.proofs.RunLemmas.{allowed_more, core_after_all-more}
use Rattle.pool_core.specs.declared.words.State.{State}
use Rattle.pool_core.specs.declared.seats.Seat.{Seat}
use Rattle.pool_core.specs.declared.seats.Stage.TheVariants.{Live}
use Rattle.pool_core.specs.declared.events.Event.TheVariants.{Close}
use Rattle.pool_core.specs.StateWords.{bit}
use Rattle.pool_core.specs.PoolCore.{PoolCore, idle_seat, is_away, opening_core}
use Rattle.pool_core.specs.RefusalRules.{refusal_of}
use Rattle.pool_core.specs.Runs.{core_after_all}
use Rattle.pool_core.specs.Lawful.{Lawful}
use Rattle.slot_words.specs.declared.views.PassView.{PassView}
use Rattle.slot_words.specs.declared.views.SeatTrail.{SeatTrail}
use Rattle.slot_words.specs.declared.views.Bounds.{Bounds}
use Rattle.slot_words.specs.declared.views.Operation.{Operation}
use Rattle.slot_words.specs.KindCounts.{kind_counts, is_held, BeginsWith}
use Rattle.slot_words.specs.Accounts.{AreLeft, AreKept, is_release, is_won_claim}
use Rattle.slot_words.specs.History.{IsHistory, all_noted, all_operations, is_of, opening_of, trails_in}
use Rattle.slot_words.specs.Closing.{ClosesAs}
use Rattle.slot_words.specs.Views.{in_one, no_view, operations_of, trails_of}
use Rattle.slot_words.specs.CoreLaws.{CoreLaws}
use Rattle.slot_words.specs.Shows.{IsCounted, IsKept}
use Rattle.slot_words.proofs.AccountSteps.{left_by_counts, count_by-views}
use Rattle.slot_words.proofs.HistoryAccounts.{histories_account}
use Rattle.slot_words.proofs.NotedSums.{count_by-operations, operations_are_noted}
use Rattle.pool_core.proofs.WordBits.{bit_le}
use Rattle.slot_words.proofs.HistorySteps.{trails_here}
use Rattle.slot_words.proofs.Holdings.{holdings, held-are-holdings}
use Rattle.slot_words.proofs.Lookups.{found}
use Rattle.slot_words.proofs.PassEvents.{closes_are_events}
use Rattle.slot_words.proofs.ShownChanges.{seat_here}

-- what a pass holds
abbrev holds_of : PassView → ℕ
holds_of v = holdings v.seat

module _ (bounds : Bounds) where
  abbrev AreCounted : List PassView → Type 0
  AreCounted views = (j : ℕ) (v : PassView) → get_elem? views j ≡ some v → IsCounted bounds v × (is_away v.seat.stage ≡ true → v.seat.holds ≡ None)

  -- a view that is away has no trail and holds nothing, and any other stands for a pass at least
  pub record IsWithin (v : PassView) : Type 0 where
    pub holds : holds_of v ≤ v.share
    pub idle : v.share ≡ 0 → trails_in v ≡ []

  within : (v : PassView) → IsCounted bounds v → (is_away v.seat.stage ≡ true → v.seat.holds ≡ None) → IsWithin v
  within v counted empty = let low : holds_of v ≤ 1 = bit_le (is_some v.seat.holds) in
      let split : (b : Bool) → is_away v.seat.stage ≡ b → IsWithin v = elim [
        | true ↦ λ e. let none : holds_of v ≡ 0 = ap (λ (h : Option ℕ). bit (is_some h)) (empty e) in record { holds = omega arith; idle = λ _. ap (λ (b : Bool). if b then [] else trails_of v) e }
        | false ↦ λ e. let share = counted.share_is e in record { holds = omega arith; idle = λ none. absurd (omega arith) }
      ] in split (is_away v.seat.stage) refl

  -- no more slots are held than passes are stood for
  held_within : (views : List PassView) → AreCounted views → sum_by holds_of views ≤ sum_by (λ v. v.share) views
  held_within [] each = omega arith
  held_within (v ∷ vs) each = let rest = held_within vs (λ j u at. each (suc j) u at) in let own = each 0 v refl in let one = (within v own.0 own.1).holds in
      let a = sum_by-cons holds_of v vs in let b = sum_by-cons (λ (u : PassView). u.share) v vs in omega arith

  -- views that stand for no pass did nothing
  nothing_done : (p : Operation → Bool) (views : List PassView) → AreCounted views → sum_by (λ v. v.share) views ≡ 0 → sum_by (λ v. count_by p (in_one (trails_in v))) views ≡ 0
  nothing_done p [] each none = refl
  nothing_done p (v ∷ vs) each none = let own = each 0 v refl in let b = sum_by-cons (λ (u : PassView). u.share) v vs in
      let rest = nothing_done p vs (λ j u at. each (suc j) u at) (omega arith) in let idle : count_by p (in_one (trails_in v)) ≡ 0 = ap (λ (ts : List SeatTrail). count_by p (in_one ts)) ((within v own.0 own.1).idle (omega arith)) in
      let a = sum_by-cons (λ (u : PassView). count_by p (in_one (trails_in u))) v vs in omega arith

  -- the views beside one, which stands for nothing any more
  counted_beside : (views : List PassView) (id : ℕ) → AreCounted views → AreCounted (set views id no_view)
  counted_beside views id each j u at = ⊎_elim
      (λ (t : (j ≡ id) × (no_view ≡ u)). subst (λ (v : PassView). IsCounted bounds v × (is_away v.seat.stage ≡ true → v.seat.holds ≡ None)) t.1
      (record { inside = refl; bounds_is = λ l. absurd (true≢false l); share_is = λ l. absurd (true≢false l) }, λ _. refl))
      (λ (t : (j ≢ id) × (get_elem? views j ≡ some u)). each j u t.1) (at_set views id j no_view u at)

  -- what is held beside an idle pass is held by those that it does not stand for, and where it stands for all, all operations are its own and those that were joined
  pub record IsBeside (passes : ℕ) (views : List PassView) (v : PassView) (held : ℕ) : Type 0 where
    pub held_is : held + v.share ≤ passes
    pub alone : v.share ≡ passes → (p : Operation → Bool) → count_by p (all_operations views) ≡ count_by p (operations_of v)

  beside : (passes : ℕ) (views : List PassView) (id : ℕ) (v : PassView) (held : ℕ) → AreCounted views → sum_by (λ v. v.share) views ≡ passes → get_elem? views id ≡ some v → v.seat ≡ idle_seat Live
      → held ≡ sum_by holds_of views → IsBeside passes views v held
  beside passes views id v held each all at rest holders = let here = found views id v no_view at in let others : List PassView = set views id no_view in let counted = counted_beside views id each in
      let shares : sum_by (λ v. v.share) others + (get_or views id no_view).share ≡ sum_by (λ v. v.share) views + 0 = sum_by-set (λ v. v.share) views id no_view no_view here.0 in
      let share : (get_or views id no_view).share ≡ v.share = ap (λ (k : PassView). k.share) here.1 in
      let holds : sum_by holds_of others + holds_of (get_or views id no_view) ≡ sum_by holds_of views + 0 = sum_by-set holds_of views id no_view no_view here.0 in
      let idle : holds_of (get_or views id no_view) ≡ 0 = ap holds_of here.1 ∙ ap holdings rest in let few = held_within others counted in record {
        held_is = omega arith;
        alone = λ whole p. let g : PassView → ℕ = λ u. count_by p (in_one (trails_in u)) in let a = count_by-operations p views in
            let b : sum_by g others + g (get_or views id no_view) ≡ sum_by g views + 0 = sum_by-set g views id no_view no_view here.0 in let none = nothing_done p others counted (omega arith) in
            let own : g (get_or views id no_view) ≡ count_by p (operations_of v) = ap g here.1 ∙ ap (λ (ts : List SeatTrail). count_by p (in_one ts)) (trails_here v (ap (λ (q : Seat). is_away q.stage) rest)) in omega arith;
      }

-- the trails of one view are of different seats
apart_in : (opening core : PoolCore) (views : List PassView) → IsHistory opening core views → (id : ℕ) (v : PassView) → get_elem? views id ≡ some v → is_away v.seat.stage ≡ false → (s : ℕ) → count_by (is_of s) (trails_of v) ≤ 1
apart_in opening core views h id v at lives s = let g : PassView → ℕ = λ u. count_by (is_of s) (trails_in u) in let here = found views id v no_view at in
    let all : sum_by g views ≡ bit (ltb s (length views)) = sym (count_by-views trails_in (is_of s) views) ∙ h.one_each s in
    let le : g (get_or views id no_view) ≤ sum_by g views = get_or-le-sum_by g views id no_view here.0 in let is : g (get_or views id no_view) ≡ g v = ap g here.1 in
    let own : g v ≡ count_by (is_of s) (trails_of v) = ap (λ (ts : List SeatTrail). count_by (is_of s) ts) (trails_here v lives) in let one = bit_le (ltb s (length views)) in omega arith

-- the history of a table that an idle pass closes
closing : (slots limit passes : ℕ) (core : PoolCore) (views : List PassView) → IsHistory (opening_core slots limit passes) core views → (id : ℕ) (v : PassView) → get_elem? views id ≡ some v → is_away v.seat.stage ≡ false
    → v.share ≡ length (trails_of v) → refusal_of core (Close id) ≡ 0 → ClosesAs slots limit passes v.share (trails_of v) (kind_counts core.words)
closing slots limit passes core views h id v at lives stands may = let opening : PoolCore = opening_core slots limit passes in let number = h.number id v at lives in let here : refusal_of core (Close v.number) ≡ 0 = ap (λ (k : ℕ). refusal_of core (Close k)) number ∙ may in record {
  events = h.events;
  allowed = allowed_more opening h.events (Close v.number) h.allowed (ap (λ (c : PoolCore). refusal_of c (Close v.number)) (sym h.leads) ∙ here);
  each = h.each id v at lives;
  apart = apart_in opening core views h id v at lives;
  stands = stands;
  counted = ap (λ (c : PoolCore). kind_counts c.words) h.leads ∙ sym (ap (λ (c : PoolCore). kind_counts c.words) (core_after_all-more opening h.events (Close v.number)));
}

module _ (laws : CoreLaws) {V : Type 0} (fits : State → ℕ → V → Type 0) (bounds : Bounds) where
  -- a lawful core whose words are those of the table, as this pass closes it
  pub record IsLast (v : PassView) (slots : ℕ) (ws : List ℕ) : Type 0 where
    pub core : PoolCore
    pub lawful : Lawful core
    pub slots_are : length core.words ≡ slots
    pub begins : BeginsWith ws core.words
    pub closes : ClosesAs slots bounds.limit bounds.passes v.share (trails_of v) (kind_counts core.words)
    pub held_is : (kind_counts core.words).held + v.share ≤ bounds.passes
    pub left : v.share ≡ bounds.passes → AreLeft (operations_of v) core.words × AreKept (operations_of v) (kind_counts core.words).held

  pub last_core : (id : ℕ) (v : PassView) (slots : ℕ) (ws : List ℕ) (ss : List (Option V)) → length ws ≡ slots + 3 → v.seat ≡ idle_seat Live → v.unsplit ≡ 0
      → Final (Seen (IsKept fits bounds) id v) ws ss → IsLast v slots ws
  last_core id v slots ws ss wide rest none_left fin =
      let s = fin.0 in let r = fin.1.0 in let at = fin.1.1 in let c : PoolCore = r.rule.core in let same : s.words ≡ ws = fin.2 in let o = r.rule.shows in
      let w : length s.words ≡ length c.words + 3 = o.words_are in let l : length s.words ≡ length ws = ap length same in let slots_are : length c.words ≡ slots = omega arith in
      let lives : is_away v.seat.stage ≡ false = ap (λ (q : Seat). is_away q.stage) rest in let share = (o.each id v at).share_is lives in let h = r.history in
      let by = beside bounds bounds.passes s.views id v (count_by is_held c.words) (λ j u e. let seat = seat_here fits bounds c s o j u e in
      (o.each j u e, λ away. ap (λ (q : Seat). q.holds) (sym seat) ∙ (r.rule.lawful.seats j).away (ap (λ (q : Seat). is_away q.stage) seat ∙ away)))
      o.shared.share_sum at rest (held-are-holdings laws fits bounds c s r.rule.lawful o) in
      record {
        core = c;
        lawful = r.rule.lawful;
        slots_are = slots_are;
        begins = record { each = λ k h. record { packed_is = ap (λ (xs : List ℕ). get_or xs k 0) (sym same) ∙ o.word_shows k h; well_formed = r.rule.lawful.words k } };
        closes = closing slots bounds.limit bounds.passes c s.views (subst (λ (k : ℕ). IsHistory (opening_core k bounds.limit bounds.passes) c s.views) slots_are r.history) id v at lives (omega arith)
            (closes_are_events laws fits id v rest bounds c s r.rule.lawful o at).0;
        held_is = by.held_is;
        left = λ whole. let same : (p : Operation → Bool) → count_by p (all_noted (opening_of bounds c) h.events) ≡ count_by p (operations_of v) = λ p. sym (operations_are_noted (opening_of bounds c) c s.views h p) ∙ by.alone whole p in
            let did = histories_account laws (length c.words) bounds.limit bounds.passes h.events h.allowed in let end : PoolCore = core_after_all (opening_of bounds c) h.events in
            subst (λ (k : PoolCore). AreLeft (operations_of v) k.words × AreKept (operations_of v) (kind_counts k.words).held) (sym h.leads) (
              left_by_counts (all_noted (opening_of bounds c) h.events) (operations_of v) end.words same did.left,
              sym (same is_won_claim) ∙ did.kept ∙ ap (λ (k : ℕ). k + count_by is_held end.words) (same is_release),
            );
      }
