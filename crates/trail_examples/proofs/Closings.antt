-- Closes of a pool of one slot: which counts may be told, by which trails.
use Rattle.std.proofs.Common.{◌≡◌, ℕ, zero, suc, ◌≤◌, List, [], ◌∷◌, ◌++◌, length, refl, sym, ap, ◌∙◌, arith}
use Rattle.std.specs.List.{count_by}
use Rattle.std.proofs.lemmas.Bool.Decides.{nat_tests}
use Rattle.std.proofs.lemmas.List.Elements.{All-cons, All-nil}
use Rattle.pool_core.specs.declared.words.StateWord.{StateWord}
use Rattle.pool_core.specs.declared.events.Event.{Event}
use Rattle.pool_core.specs.declared.events.Event.TheVariants as event
use Rattle.pool_core.specs.StateWords.{cold_target}
use Rattle.pool_core.specs.PoolCore.{PoolCore, opening_core}
use Rattle.pool_core.specs.EventEffects.{core_after}
use Rattle.pool_core.specs.Runs.{AllAllowed, core_after_all}
use Rattle.pool_core.proofs.RunLemmas.{core_after_all-more}
use Rattle.slot_words.specs.declared.kinds.KindCounts.{KindCounts}
use Rattle.slot_words.specs.declared.views.Operation.{Operation}
use Rattle.slot_words.specs.declared.views.Operation.TheVariants as operation
use Rattle.slot_words.specs.declared.views.SeatTrail.{SeatTrail}
use Rattle.slot_words.specs.Closing.{ClosesAs}
use Rattle.slot_words.specs.History.{is_of, trail_of, IsTrail}
use Rattle.slot_words.specs.KindCounts.{kind_counts}
use Rattle.trail_examples.proofs.HistoryLemmas.{one_winner, silent_past, silent_words}
use Rattle.trail_examples.proofs.SlotWords.{cold, cold_held, left_warm_5, one_slot}

abbrev pub one_cold : KindCounts
one_cold = record { cold = 1; warm = 0; awaiting = 0; held = 0 }

abbrev pub one_warm : KindCounts
one_warm = record { cold = 0; warm = 1; awaiting = 0; held = 0 }

abbrev pub one_held : KindCounts
one_held = record { cold = 0; warm = 0; awaiting = 0; held = 1 }

abbrev of_seat : ℕ → List Operation → SeatTrail
of_seat seat done = record { seat = seat; trail = done }

-- ---- a pass that is dropped

-- Seat 1 claimed the slot and is dropped. Seat 0 found it held, and closes.
abbrev left_held : List Event
left_held = event.Split 0 1 ∷ event.Claim 1 0 ∷ event.Claim 0 0 ∷ []

-- or seat 1 gave the slot back since, cold or warm
abbrev left_cold : List Event
left_cold = left_held ++ event.Release 1 0 cold_target ∷ []

abbrev left_warm : List Event
left_warm = left_held ++ event.WarmUp 1 ∷ event.Release 1 0 left_warm_5 ∷ []

abbrev found_it_held : SeatTrail
found_it_held = of_seat 0 (operation.Claim 0 cold_held ∷ [])

at_most_one : (s : ℕ) → count_by (is_of s) (found_it_held ∷ []) ≤ 1
at_most_one s = grind (arith, nat_tests)

module _ (es : List Event) (is : IsTrail one_slot es found_it_held) (may : AllAllowed one_slot (es ++ event.Close 0 ∷ [])) where
  -- what the dropped pass did is told by nobody, so any such events are a close
  closes_after : ClosesAs 1 1 2 1 (found_it_held ∷ []) (kind_counts (core_after_all one_slot (es ++ event.Close 0 ∷ [])).words)
  closes_after = record {
    events = es;
    allowed = may;
    each = All-cons (IsTrail one_slot es) found_it_held [] is (All-nil (IsTrail one_slot es));
    apart = at_most_one;
    stands = refl;
    counted = refl;
  }

-- So three counts fit one trail. Where a pass is dropped, a close does not fix what it tells of a slot that this pass had claimed.
dropped_pass_holds_it : ClosesAs 1 1 2 1 (found_it_held ∷ []) one_held
dropped_pass_holds_it = closes_after left_held refl (refl, (refl, (refl, (refl, tt))))

dropped_pass_gave_it_back : ClosesAs 1 1 2 1 (found_it_held ∷ []) one_cold
dropped_pass_gave_it_back = closes_after left_cold refl (refl, (refl, (refl, (refl, (refl, tt)))))

dropped_pass_left_it_warm : ClosesAs 1 1 2 1 (found_it_held ∷ []) one_warm
dropped_pass_left_it_warm = closes_after left_warm refl (refl, (refl, (refl, (refl, (refl, (refl, tt))))))

-- ---- what no close is

allowed_before : (c : PoolCore) (es fs : List Event) → AllAllowed c (es ++ fs) → AllAllowed c es
allowed_before c [] fs may = tt
allowed_before c (e ∷ es) fs may = (may.0, allowed_before (core_after c e) es fs may.1)

abbrev none : SeatTrail
none = of_seat 0 []

-- two passes that both won the slot
two_winners : (counts : KindCounts) → ClosesAs 1 1 2 2 (of_seat 0 (operation.Claim 0 cold ∷ []) ∷ of_seat 1 (operation.Claim 0 cold ∷ []) ∷ []) counts → ⊥
two_winners counts c = one_winner one_slot c.events (allowed_before one_slot c.events _ c.allowed) (omega arith) (sym (c.each 0 none (omega arith))) (sym (c.each 1 none (omega arith)))

-- one pass whose trail stands there twice
same_pass_twice : (counts : KindCounts) → ClosesAs 1 1 2 2 (none ∷ none ∷ []) counts → ⊥
same_pass_twice counts c = let few : ◌≤◌ 2 1 = c.apart 0 in omega (arith, few)

-- a pass that stands for two and tells of one
a_trail_is_kept_back : (counts : KindCounts) → ClosesAs 1 1 2 2 (none ∷ []) counts → ⊥
a_trail_is_kept_back counts c = let two : ◌≡◌ {A = ℕ} 2 1 = c.stands in omega (arith, two)

-- the only pass did nothing, and the slot is told as held
all_silent : (c : PoolCore) (es : List Event) → AllAllowed c es → length c.seats ≤ 1 → trail_of 0 c es ≡ [] → (s : ℕ) → trail_of s c es ≡ []
all_silent c es may one own zero = own
all_silent c es may one own (suc s) = silent_past c es may (suc s) (omega arith)

abbrev one_pass : PoolCore
one_pass = opening_core 1 1 1

held_by_nobody : ClosesAs 1 1 1 1 (none ∷ []) one_held → ⊥
held_by_nobody c =
    let may = allowed_before one_pass c.events _ c.allowed in
    let same = silent_words one_pass c.events (all_silent one_pass c.events may (omega arith) (sym (c.each 0 none (omega arith)))) in
    let one : ◌≡◌ {A = ℕ} 1 0 = ap (λ (k : KindCounts). k.held) c.counted ∙ ap (λ (p : PoolCore). (kind_counts p.words).held) (core_after_all-more one_pass c.events (event.Close 0))
    ∙ ap (λ (ws : List StateWord). (kind_counts ws).held) same in omega (arith, one)
