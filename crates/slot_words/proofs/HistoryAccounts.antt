-- What the seats noted of a list of events accounts for the pool that it leads to.
use Rattle.std.proofs.Common.{◌≡◌, ℕ, ◌+◌, ◌*◌, ◌%◌, ◌^◌, ◌<◌, Bool, true, false, not, ltb, List, [], ◌∷◌, ◌++◌, length, set, refl, sym, ap, ◌∙◌, subst, arith, append_assoc, append-nil}
use Rattle.std.specs.Prelude.{Some, ◌==◌}
use Rattle.std.specs.List.{count_by}
use Rattle.std.proofs.lemmas.Bool.{ltb-true, not-false}
use Rattle.std.proofs.lemmas.List.Folds.{sum_by-replicate}
use Rattle.std.proofs.lemmas.List.Sums.{sum_by_push}
use Rattle.pool_core.proofs.CoreChanges.{counts}
use Rattle.pool_core.proofs.LawfulSteps.{no_rule_broken}
use Rattle.pool_core.proofs.SeatChanges.{holds_it}
use Rattle.pool_core.specs.declared.words.StateWord.{StateWord}
use Rattle.pool_core.specs.declared.words.Target.{Target}
use Rattle.pool_core.specs.declared.events.Event.{Event}
use Rattle.pool_core.specs.declared.events.Event.TheVariants.{Load, Claim, Out, Home, Release, Split, Join, Close, WarmLoad, WarmUp, WarmDown, Stamp, AwaitUp, AwaitDown, AwaitLoad}
use Rattle.pool_core.specs.StateWords.{bit, cold_word, free_word, held_word, packed}
use Rattle.pool_core.specs.PoolCore.{PoolCore, opening_core, word_at, seat_at, is_holding}
use Rattle.pool_core.specs.EventEffects.{core_after}
use Rattle.pool_core.specs.RefusalRules.{refusal_of}
use Rattle.pool_core.specs.Runs.{core_after_all, AllAllowed}
use Rattle.pool_core.specs.Lawful.{Lawful}
use Rattle.slot_words.specs.declared.views.Operation.{Operation}
use Rattle.slot_words.specs.declared.views.Operation.TheVariants as operation
use Rattle.slot_words.specs.CoreLaws.{CoreLaws}
use Rattle.slot_words.specs.KindCounts.{is_held}
use Rattle.slot_words.specs.History.{noted, all_noted}
use Rattle.slot_words.specs.Accounts.{gives_word, finds_word, is_release, is_stamp, is_won_claim, AreAccounts, AreKept, AreLeft, HistoriesAccount}
use Rattle.slot_words.proofs.AccountSteps.{Ticks, Turns, claim_clock, claim_turn, release_turn, even_is_won, odd_is_lost, onward, still, is_quiet, quiet_turn, quiet_kinds}

-- one operation makes of a pool another: it turns the words and the clock so, and holds or frees what is then held more or less
record Does (old : PoolCore) (o : Operation) (new : PoolCore) : Type 0 where
  pub turns : Turns old.words o new.words
  pub holds : bit (is_won_claim o) + count_by is_held old.words ≡ bit (is_release o) + count_by is_held new.words
  pub ticks : Ticks old.clock o new.clock

more : (done : List Operation) (old new : PoolCore) (o : Operation) → AreAccounts done old → Does old o new → AreAccounts (done ++ o ∷ []) new
more done old new o before does = let one : (p : Operation → Bool) → count_by p (done ++ o ∷ []) ≡ count_by p done + bit (p o) = λ p. sum_by_push (λ x. bit (p x)) done o in record {
  left = λ n bits h free. let below : n < length old.words = let e = does.turns.slots_are in omega arith in
      let left = before.left n bits below free in let turn = does.turns.each n bits below free in let given = one (gives_word n bits) in let found = one (finds_word n bits) in omega arith;
  kept =
      let was : count_by is_won_claim done ≡ count_by is_release done + count_by is_held old.words = before.kept in let turn = does.holds in let won = one is_won_claim in let released = one is_release in
      let now : count_by is_won_claim (done ++ o ∷ []) ≡ count_by is_release (done ++ o ∷ []) + count_by is_held new.words = omega arith in now;
  clock_is = does.ticks (count_by is_stamp done) before.clock_is ∙ ap (λ (k : ℕ). k % 2 ^ 64) (sym (one is_stamp));
}

-- an operation that leaves all words alone
quiet : (old new : PoolCore) (o : Operation) → is_quiet o ≡ true → new.words ≡ old.words → Ticks old.clock o new.clock → Does old o new
quiet old new o still_words same ticks = let kinds = quiet_kinds o still_words in record {
  turns = subst (Turns old.words o) (sym same) (quiet_turn old.words o still_words);
  holds = let won : bit (is_won_claim o) ≡ 0 = ap bit kinds.0 in let released : bit (is_release o) ≡ 0 = ap bit kinds.1 in let held : count_by is_held new.words ≡ count_by is_held old.words = ap (λ (ws : List StateWord). count_by is_held ws) same in omega arith;
  ticks = ticks;
}

claims_do : CoreLaws → (c : PoolCore) (s n : ℕ) → n < length c.words → Does c (operation.Claim n (packed (word_at c n))) (core_after c (Claim s n))
claims_do laws c s n below = let w : StateWord = word_at c n in let r : ℕ = packed w in record {
  turns = claim_turn laws c s n r below refl;
  holds =
      let split : (b : Bool) → w.held ≡ b → bit (r % 2 == 0) + count_by is_held c.words ≡ 0 + count_by is_held (core_after c (Claim s n)).words = elim [
        | true ↦ λ e. let lost = odd_is_lost r (laws.bit_says w ∙ ap bit e) in let same : c.words ≡ (core_after c (Claim s n)).words = rw e refl in
            let held : count_by is_held c.words ≡ count_by is_held (core_after c (Claim s n)).words = ap (λ (ws : List StateWord). count_by is_held ws) same in omega arith
        | false ↦ λ e. let won = even_is_won r (laws.bit_says w ∙ ap bit e) in let to : set c.words n (held_word w) ≡ (core_after c (Claim s n)).words = rw e refl in
            let free : bit w.held ≡ 0 = ap bit e in let change : count_by is_held (set c.words n (held_word w)) + bit w.held ≡ count_by is_held c.words + 1 = counts is_held c.words n (held_word w) cold_word below in
            let held : count_by is_held (set c.words n (held_word w)) ≡ count_by is_held (core_after c (Claim s n)).words = ap (λ (ws : List StateWord). count_by is_held ws) to in omega arith
      ] in split w.held refl;
  ticks = λ stamps e. claim_clock c s n ∙ still c.clock stamps e;
}

releases_do : CoreLaws → (c : PoolCore) (s n : ℕ) (to : Target) → Lawful c → refusal_of c (Release s n to) ≡ 0 → Does c (operation.Release n (packed (free_word to))) (core_after c (Release s n to))
releases_do laws c s n to law may =
    let holds : (seat_at c s).holds ≡ Some n = holds_it (seat_at c s).holds n (not-false (is_holding (seat_at c s).holds n) (no_rule_broken c (Release s n to) may).holder) in
    let slot = laws.seats c s n law holds in record {
      turns = release_turn laws c n to slot.0 slot.1;
      holds = let was : bit (word_at c n).held ≡ 1 = ap bit slot.1 in let change : count_by is_held (set c.words n (free_word to)) + bit (word_at c n).held ≡ count_by is_held c.words + 0 = counts is_held c.words n (free_word to) cold_word slot.0 in
          let now : 0 + count_by is_held c.words ≡ 1 + count_by is_held (set c.words n (free_word to)) = omega arith in now;
      ticks = still c.clock;
    }

below_slots : (c : PoolCore) (s n : ℕ) → refusal_of c (Claim s n) ≡ 0 → n < length c.words
below_slots c s n may = ltb-true n (length c.words) (not-false (ltb n (length c.words)) (no_rule_broken c (Claim s n) may).slot)

-- an event of which nothing is noted leaves the words and the clock
nothing : (done : List Operation) (old new : PoolCore) → new.words ≡ old.words → new.clock ≡ old.clock → AreAccounts done old → AreAccounts (done ++ []) new
nothing done old new words clock before = subst (λ (os : List Operation). AreAccounts os new) (sym (append-nil done)) record {
  left = subst (λ (ws : List StateWord). AreLeft done ws) (sym words) before.left;
  kept = subst (λ (ws : List StateWord). AreKept done (count_by is_held ws)) (sym words) before.kept;
  clock_is = clock ∙ before.clock_is;
}

after_event : CoreLaws → (done : List Operation) (c : PoolCore) (e : Event) → Lawful c → refusal_of c e ≡ 0 → AreAccounts done c → AreAccounts (done ++ noted c e) (core_after c e)
after_event laws done c (Load s n) law may before = more done c c (operation.Load n (packed (word_at c n))) before (quiet c c (operation.Load n (packed (word_at c n))) refl refl (still c.clock))
after_event laws done c (Claim s n) law may before = more done c (core_after c (Claim s n)) (operation.Claim n (packed (word_at c n))) before (claims_do laws c s n (below_slots c s n may))
after_event laws done c (Out s n) law may before = nothing done c (core_after c (Out s n)) refl refl before
after_event laws done c (Home s n) law may before = nothing done c (core_after c (Home s n)) refl refl before
after_event laws done c (Release s n to) law may before = more done c (core_after c (Release s n to)) (operation.Release n (packed (free_word to))) before (releases_do laws c s n to law may)
after_event laws done c (Split s t) law may before = nothing done c (core_after c (Split s t)) refl refl before
after_event laws done c (Join s t) law may before = nothing done c (core_after c (Join s t)) refl refl before
after_event laws done c (Close s) law may before = nothing done c (core_after c (Close s)) refl refl before
after_event laws done c (WarmLoad s) law may before = more done c c (operation.WarmLoad c.warm) before (quiet c c (operation.WarmLoad c.warm) refl refl (still c.clock))
after_event laws done c (WarmUp s) law may before = more done c (core_after c (WarmUp s)) (operation.WarmUp c.warm) before (quiet c (core_after c (WarmUp s)) (operation.WarmUp c.warm) refl refl (still c.clock))
after_event laws done c (WarmDown s) law may before = more done c (core_after c (WarmDown s)) (operation.WarmDown c.warm) before (quiet c (core_after c (WarmDown s)) (operation.WarmDown c.warm) refl refl (still c.clock))
after_event laws done c (Stamp s) law may before = more done c (core_after c (Stamp s)) (operation.Stamp c.clock) before (quiet c (core_after c (Stamp s)) (operation.Stamp c.clock) refl refl (onward c.clock))
after_event laws done c (AwaitUp s) law may before = more done c (core_after c (AwaitUp s)) (operation.AwaitUp c.awaiting) before (quiet c (core_after c (AwaitUp s)) (operation.AwaitUp c.awaiting) refl refl (still c.clock))
after_event laws done c (AwaitDown s) law may before = more done c (core_after c (AwaitDown s)) (operation.AwaitDown c.awaiting) before (quiet c (core_after c (AwaitDown s)) (operation.AwaitDown c.awaiting) refl refl (still c.clock))
after_event laws done c (AwaitLoad s) law may before = more done c c (operation.AwaitLoad c.awaiting) before (quiet c c (operation.AwaitLoad c.awaiting) refl refl (still c.clock))

after_events : CoreLaws → (done : List Operation) (c : PoolCore) (es : List Event) → Lawful c → AllAllowed c es → AreAccounts done c → AreAccounts (done ++ all_noted c es) (core_after_all c es)
after_events laws done c [] law may before = nothing done c c refl refl before
after_events laws done c (e ∷ es) law may before = subst (λ (os : List Operation). AreAccounts os (core_after_all (core_after c e) es)) (append_assoc done (noted c e) (all_noted (core_after c e) es))
    (after_events laws (done ++ noted c e) (core_after c e) es (laws.events c e law may.0) may.1 (after_event laws done c e law may.0 before))

pub histories_account : CoreLaws → HistoriesAccount
histories_account laws slots limit passes es may = after_events laws [] (opening_core slots limit passes) es (laws.opening slots limit passes) may record {
  left = λ n bits h free. ap (λ (w : StateWord). 0 + bit (packed w == bits)) (sym (laws.opens_cold slots limit passes n));
  kept = let none : slots * 0 ≡ 0 = omega arith in let held : count_by is_held (opening_core slots limit passes).words ≡ 0 = sum_by-replicate (λ (w : StateWord). bit (is_held w)) slots cold_word ∙ none in omega arith;
  clock_is = refl;
}
