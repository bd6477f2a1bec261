-- Loads, claims and releases are events.
use Rattle.std.proofs.Common.{◌≡◌, ℕ, ◌<◌, Bool, true, false, true≢false, not, ◌&&◌, [], ◌∷◌, length, get_or, set, refl, sym, ap, ◌∙◌, subst, arith, length-set}
use mathlib.Core.Option.{none, some}
use lib.Bits.{bit_or}
use Rattle.std.specs.Prelude.{◌==◌, Option, Some}
use Rattle.std.proofs.lemmas.Bool.{eq-eqb, lt-ltb}
use Rattle.atomic_table.specs.Table.{Act, keeps, takes, gives, step, stepped, Valid, carried_after}
use Rattle.atomic_table.proofs.Lists.{set_else, set_here}
use Rattle.std.proofs.lemmas.List.{set-get_or}
use Rattle.pool_core.specs.declared.words.State.{State}
use Rattle.pool_core.specs.declared.words.Target.{Target}
use Rattle.pool_core.specs.declared.words.StateWord.{StateWord}
use Rattle.pool_core.specs.declared.seats.Seat.{Seat}
use Rattle.pool_core.specs.declared.seats.Stage.TheVariants.{Unmade}
use Rattle.pool_core.specs.declared.events.Event.TheVariants.{Load, Claim, Release}
use Rattle.pool_core.specs.StateWords.{is_warm, is_awaiting, is_well_formed, IsWordOf, packed, held_word, free_word, cold_word}
use Rattle.pool_core.specs.PoolCore.{PoolCore, word_at, seat_at, is_live, is_idle, idle_seat, holding_seat}
use Rattle.pool_core.specs.EventEffects.{core_after, winning_seat}
use Rattle.pool_core.specs.RefusalRules.{refusal_of}
use Rattle.slot_words.specs.declared.views.PassView.{PassView}
use Rattle.slot_words.specs.declared.views.Bounds.{Bounds}
use Rattle.slot_words.specs.declared.views.Operation.TheVariants as operation
use Rattle.slot_words.specs.CoreLaws.{CoreLaws}
use Rattle.slot_words.specs.Views.{view_after}
use Rattle.slot_words.specs.Shows.{Shows}
use Rattle.slot_words.specs.Outcomes.{Claims}
use Rattle.slot_words.specs.Events.{LoadsAreEvents, ClaimsAreEvents, ReleasesAreEvents}
use Rattle.slot_words.proofs.Lookups.{live_not_away}
use Rattle.slot_words.proofs.HeldShares.{share_below}
use Rattle.slot_words.proofs.ShownChanges.{core_changed, shows_changed, seat_here, IsSameView}

-- nothing changes where the seat and the word are written as they were
unchanged : (c : PoolCore) (s n : ℕ) (p : Seat) → seat_at c s ≡ p → core_changed c s p n (word_at c n) ≡ c
unchanged c s n p is = λ k. record c { words = set-get_or c.words n cold_word k; seats = (ap (λ (q : Seat). set c.seats s q) (sym is) ∙ set-get_or c.seats s (idle_seat Unmade)) k }

may_load : (c : PoolCore) (s n : ℕ) → is_live (seat_at c s).stage ≡ true → n < length c.words → refusal_of c (Load s n) ≡ 0
may_load c s n live h = rw (live, lt-ltb n (length c.words) h) refl

may_claim : (c : PoolCore) (s n : ℕ) → is_live (seat_at c s).stage ≡ true → n < length c.words → is_idle (seat_at c s) ≡ true → refusal_of c (Claim s n) ≡ 0
may_claim c s n live h rest = rw (live, lt-ltb n (length c.words) h, rest) refl

and_not : (b : Bool) → (b && not b) ≡ false
and_not true = refl
and_not false = refl

may_release : (c : PoolCore) (s n : ℕ) (to : Target) → seat_at c s ≡ holding_seat n (is_warm to.state) false (is_awaiting to.state) → n < length c.words → is_well_formed to ≡ true → refusal_of c (Release s n to) ≡ 0
may_release c s n to holds h well = let self : (n == n) ≡ true = eq-eqb n n refl in let live : is_live (seat_at c s).stage ≡ true = ap (λ (p : Seat). is_live p.stage) holds in
    let at : (seat_at c s).holds ≡ Some n = ap (λ (p : Seat). p.holds) holds in let inside : (seat_at c s).out ≡ false = ap (λ (p : Seat). p.out) holds in
    let permit : (seat_at c s).permit ≡ is_warm to.state = ap (λ (p : Seat). p.permit) holds in let refusal : (seat_at c s).refusal ≡ false = ap (λ (p : Seat). p.refusal) holds in
    let mark : (seat_at c s).mark ≡ is_awaiting to.state = ap (λ (p : Seat). p.mark) holds in
    rw (live, lt-ltb n (length c.words) h, at, self, inside, permit, mark, refusal, and_not (is_warm to.state), and_not (is_awaiting to.state), well) refl

-- an operation leaves the rest of the view
pub same_view : (v : PassView) (p : Seat) (o : _) → p.stage ≡ v.seat.stage → (v.seat.out ≡ false → p.out ≡ false) → IsSameView v (view_after v p o)
same_view v p o e inside = record { bounds_is = refl; unsplit_is = refl; share_is = refl; joined_is = refl; stage_is = e; inside = inside }

module _ (laws : CoreLaws) {V : Type 0} (fits : State → ℕ → V → Type 0) where
  pub loads_are_events : LoadsAreEvents fits
  loads_are_events slots id n me below live bounds core s law shows wide at =
      let there : n < length core.words = let e = shows.slots_are in omega arith in
      let seat = seat_here fits bounds core s shows id me.0 at in
      let x : ℕ = get_or s.words n 0 in let w : PassView = view_after me.0 me.0.seat (operation.Load n x) in (
        may_load core id n (ap (λ (p : Seat). is_live p.stage) seat ∙ live) there,
        (
          w,
          keeps,
          tt,
          subst (λ (c : PoolCore). Shows fits bounds c (stepped s n x id me.1 w keeps)) (unchanged core id n me.0.seat seat)
              (shows_changed fits bounds core s shows id n x me.0 w (word_at core n) s.homes at there live (same_view me.0 me.0.seat (operation.Load n x) refl (λ e. e))
              (shows.word_shows n there) refl (λ m other. refl) (shows.at_home n there) (shows.away n there)),
          ((refl, refl), (word_at core n, record { packed_is = shows.word_shows n there; well_formed = law.words n })),
        ),
      )

  pub claims_are_events : ClaimsAreEvents fits
  claims_are_events slots id n me below rest bounds core s law shows wide at =
      let live : is_live me.0.seat.stage ≡ true = ap (λ (p : Seat). is_live p.stage) rest in let idle : is_idle me.0.seat ≡ true = ap is_idle rest in
      let there : n < length core.words = let e = shows.slots_are in omega arith in let near : n < length s.homes = omega arith in
      let seat = seat_here fits bounds core s shows id me.0 at in
      let x : ℕ = get_or s.words n 0 in let w : StateWord = word_at core n in
      let shown : x ≡ packed w = shows.word_shows n there in
      let is : IsWordOf x w = record { packed_is = shown; well_formed = law.words n } in
      let becomes : bit_or x 1 ≡ packed (held_word w) = ap (λ (k : ℕ). bit_or k 1) shown ∙ laws.bit_sets w in
      let own : me.0.bounds ≡ bounds = (shows.each id me.0 at).bounds_is (live_not_away me.0.seat.stage live) in
      let fewer : w.held ≡ true → me.0.share < me.0.bounds.passes = λ h.
      let few : me.0.share < bounds.passes = share_below laws fits bounds core s law shows id n me.0 at (ap (λ (p : Seat). p.holds) rest) h in
      subst (λ (b : Bounds). me.0.share < b.passes) (sym own) few in
      let G : Type 0 = (u : PassView) × (a : Act (Option V)) × Valid s.homes me.1 a × Shows fits bounds (core_after core (Claim id n)) (stepped s n (bit_or x 1) id me.1 u a)
      × Claims fits (step slots n 1 0 none) me x (u, carried_after me.1 a) in
      let split : (b : Bool) → w.held ≡ b → G = elim [
        | true ↦ λ (e : w.held ≡ true).
            let u : PassView = view_after me.0 me.0.seat (operation.Claim n x) in
            let same : bit_or x 1 ≡ x = becomes ∙ ap (λ (h : Bool). packed (record { target = w.target; held = h })) (sym e) ∙ sym shown in
            let to : core ≡ core_after core (Claim id n) = rw e refl in (
              u,
              keeps,
              tt,
              subst (λ (z : PoolCore × ℕ). Shows fits bounds z.0 (stepped s n z.1 id me.1 u keeps)) (λ k. ((unchanged core id n me.0.seat seat ∙ to) k, sym same k))
                  (shows_changed fits bounds core s shows id n x me.0 u (word_at core n) s.homes at there live (same_view me.0 me.0.seat (operation.Claim n x) refl (λ e. e))
                  shown refl (λ m other. refl) (shows.at_home n there) (shows.away n there)),
              (w, is, rw e ((refl, refl), fewer e)),
            )
        | false ↦ λ (e : w.held ≡ false).
            let o = shows.at_home n there e in let q : Seat = winning_seat me.0.seat n w in let v : PassView = view_after me.0 q (operation.Claim n x) in
            let to : core_changed core id q n (held_word w) ≡ core_after core (Claim id n) =
            rw e (λ j. record core { words = set core.words n (held_word w); seats = set core.seats id (winning_seat (sym seat j) n w) }) in (
              v,
              takes n (Some o.0),
              o.1,
              subst (λ (c : PoolCore). Shows fits bounds c (stepped s n (bit_or x 1) id me.1 v (takes n (Some o.0)))) to
                  (shows_changed fits bounds core s shows id n (bit_or x 1) me.0 v (held_word w) (set s.homes n none) at there live (same_view me.0 q (operation.Claim n x) refl (λ _. refl))
                  becomes (length-set s.homes n none) (λ m other. set_else s.homes n m none other) (λ f. absurd (true≢false f)) (λ _. set_here s.homes n none (omega arith))),
              (w, is, rw e (refl, (o.0, refl, o.2))),
            )
      ] in
      (may_claim core id n (ap (λ (p : Seat). is_live p.stage) seat ∙ live) there (ap is_idle seat ∙ idle), split w.held refl)

  pub releases_are_events : ReleasesAreEvents fits
  releases_are_events slots id n v y to below holds well suits bounds core s law shows wide there_is =
      let live : is_live v.seat.stage ≡ true = ap (λ (p : Seat). is_live p.stage) holds in
      let there : n < length core.words = let e = shows.slots_are in omega arith in let near : n < length s.homes = omega arith in
      let seat = seat_here fits bounds core s shows id v there_is in
      let x : ℕ = packed (free_word to) in let q : Seat = idle_seat v.seat.stage in let u : PassView = view_after v q (operation.Release n x) in
      let to' : core_changed core id q n (free_word to) ≡ core_after core (Release id n to) =
      λ j. record core { words = set core.words n (free_word to); seats = set core.seats id (idle_seat (sym seat j).stage) } in (
        may_release core id n to (seat ∙ holds) there well,
        (
          u,
          gives,
          tt,
          subst (λ (c : PoolCore). Shows fits bounds c (stepped s n x id ((n, Some y) ∷ []) u gives)) to'
              (shows_changed fits bounds core s shows id n x v u (free_word to) (set s.homes n (some (Some y))) there_is there live (same_view v q (operation.Release n x) refl (λ _. refl))
              refl (length-set s.homes n (some (Some y))) (λ m other. set_else s.homes n m (some (Some y)) other)
              (λ _. (y, set_here s.homes n (some (Some y)) near, suits)) (λ f. absurd (true≢false (sym f)))),
          (refl, refl),
        ),
      )
