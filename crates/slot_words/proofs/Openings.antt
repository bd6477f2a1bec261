-- The words at the start meet the rule.
use Rattle.std.proofs.Common.{◌≡◌, ℕ, zero, suc, ◌+◌, ◌-◌, ◌*◌, ◌^◌, ◌<◌, ◌≤◌, true≢false, List, [], ◌∷◌, map, length, get_or, replicate, refl, sym, ap, ◌∙◌, subst, arith}
use mathlib.Core.Option.{some, some-injective, some-ne-none}
use lib.ListN.{get_elem?}
use Rattle.std.specs.Prelude.{Option, Some}
use Rattle.std.specs.List.{All}
use Rattle.std.proofs.lemmas.List.{get_or-replicate, length-replicate, length-map}
use Rattle.atomic_table.specs.Table.{opening}
use Rattle.pool_core.specs.declared.words.State.{State}
use Rattle.pool_core.specs.declared.words.State.TheVariants.{Cold}
use Rattle.pool_core.specs.declared.words.StateWord.{StateWord}
use Rattle.pool_core.specs.declared.seats.Stage.TheVariants.{Unmade}
use Rattle.pool_core.specs.StateWords.{cold_word, packed}
use Rattle.pool_core.specs.PoolCore.{PoolCore, opening_core, idle_seat}
use Rattle.slot_words.specs.CoreLaws.{CoreLaws}
use Rattle.slot_words.specs.declared.views.Bounds.{Bounds}
use Rattle.slot_words.specs.Views.{first_view, no_view}
use Rattle.slot_words.specs.History.{IsHistory}
use Rattle.slot_words.specs.Shows.{IsCounted, IsKept, view_share, view_unsplit}
use Rattle.slot_words.proofs.HistorySteps.{history_at_opening}
use Rattle.slot_words.proofs.SharedPasses.{shared_at_start}

zero_at : (m k : ℕ) → k < m → ◌≡◌ {A = ℕ} (get_or (replicate m 0) k 0) 0
zero_at m k h = get_or-replicate m k 0 0 h

module _ {V : Type 0} where
  -- each of the values lies at its place, and is as all of them are
  home_of : (P : V → Type 0) (xs : List V) → All P xs → (n : ℕ) → n < length xs → (x : V) × (get_elem? (map some (map Some xs)) n ≡ some (some (Some x))) × P x
  home_of P [] all n h = absurd (omega arith)
  home_of P (x ∷ xs) all zero h = (x, refl, all 0 x (omega arith))
  home_of P (x ∷ xs) all (suc n) h = home_of P xs (λ k d inside. all (suc k) d (omega arith)) n (omega arith)

  shows_opening : CoreLaws → (fits : State → ℕ → V → Type 0) (bounds : Bounds) (xs : List V) → 1 ≤ bounds.passes → length xs + 2 * bounds.passes < 2 ^ 63
      → All (λ x. fits Cold 0 x) xs
      → IsKept fits bounds (opening (replicate (length xs + 3) 0) (map Some xs) (first_view bounds))
  shows_opening laws fits bounds xs some_pass few suits =
      let n : ℕ = length xs in let passes : ℕ = bounds.passes in let c : PoolCore = opening_core n bounds.limit passes in
      let lw : length c.words ≡ n = length-replicate n cold_word in let cold = laws.opens_cold n bounds.limit passes in
      record {
        rule = record {
          core = c;
          lawful = laws.opening n bounds.limit passes;
          shows = record {
            limit_is = refl;
            countable = subst (λ (k : ℕ). k + 2 * passes < 2 ^ 63) (sym lw) few;
            seats_are = let e : length (replicate (passes - 1) (idle_seat Unmade)) ≡ passes - 1 = length-replicate (passes - 1) (idle_seat Unmade) in omega arith;
            words_are = length-replicate (n + 3) 0 ∙ ap (λ (k : ℕ). k + 3) (sym lw);
            slots_are = length-map (map Some xs) (λ (y : Option V). some y) ∙ length-map xs (λ (y : V). Some y) ∙ sym lw;
            word_shows = λ m h. zero_at (n + 3) m (omega arith) ∙ sym (ap packed (cold m));
            warm_shows = zero_at (n + 3) (length c.words) (omega arith);
            await_shows = zero_at (n + 3) (length c.words + 1) (omega arith);
            clock_shows = zero_at (n + 3) (length c.words + 2) (omega arith);
            seat_shows = elim [ zero ↦ refl | suc j ↦ laws.opens_unmade n bounds.limit passes (suc j) (omega arith) ];
            at_home = λ m h free. let o = home_of (λ x. fits Cold 0 x) xs suits m (omega arith) in
                (o.0, o.1, subst (λ (w : StateWord). fits w.target.state w.target.tag o.0) (sym (cold m)) o.2);
            away = λ m h held. absurd (true≢false (sym held ∙ ap (λ (w : StateWord). w.held) (cold m)));
            shared = shared_at_start no_view view_share view_unsplit passes (first_view bounds) refl (omega arith);
            each = elim [
              | zero ↦ λ v e. subst (IsCounted bounds) (some-injective _ v e) record { inside = refl; bounds_is = λ _. refl; share_is = λ _. omega arith }
              | suc j ↦ λ v e. absurd (some-ne-none v (sym e))
            ];
          };
        };
        history = subst (λ (k : ℕ). IsHistory (opening_core k bounds.limit passes) c (first_view bounds ∷ [])) (sym lw) (history_at_opening bounds c);
      }

  -- an opened table shows the opening of its pool, by lists that are equal to those of the opening
  pub shows_opening_of : CoreLaws → (fits : State → ℕ → V → Type 0) (bounds : Bounds) (ws : List ℕ) (ss : List (Option V)) (xs : List V) (n : ℕ)
      → ws ≡ replicate (n + 3) 0 → ss ≡ map (λ x. Some x) xs → length xs ≡ n → 1 ≤ bounds.passes → n + 2 * bounds.passes < 2 ^ 63
      → All (λ x. fits Cold 0 x) xs → IsKept fits bounds (opening ws ss (first_view bounds))
  shows_opening_of laws fits bounds ws ss xs n w e l p few suits =
      subst (λ (t : List ℕ × List (Option V)). IsKept fits bounds (opening t.0 t.1 (first_view bounds))) (λ i. ((sym w) i, (sym e) i))
      (subst (λ (k : ℕ). IsKept fits bounds (opening (replicate (k + 3) 0) (map (λ x. Some x) xs) (first_view bounds))) l
      (shows_opening laws fits bounds xs p (subst (λ (k : ℕ). k + 2 * bounds.passes < 2 ^ 63) (sym l) few) suits))
