-- Splits, joins, closes and exchanges are events.
use Rattle.std.proofs.Common.{◌≡◌, ◌≢◌, ℕ, zero, suc, ◌+◌, ◌<◌, ◌≤◌, ⊎_elim, Bool, false, true, true≢false, List, [], ◌∷◌, ◌++◌, length, get_or, set, refl, sym, ap, ◌∙◌, subst, arith, length-set, length-append, get_or-set_same, get_or-set_other}
use mathlib.Core.Logic.{dite}
use mathlib.Core.Option.{some}
use native.Mathlib.Decide.{ℕ_discrete}
use lib.ListN.{get_elem?}
use Rattle.std.specs.Prelude.{◌==◌, Some}
use Rattle.std.proofs.lemmas.Bool.{eq-eqb, ne_eqb, lt-ltb}
use Rattle.std.specs.List.{sum_by}
use Rattle.std.proofs.lemmas.List.{get_or_past, get_or_push, set-set, set-get_or}
use Rattle.std.proofs.lemmas.List.Sums.{get_or-le-sum_by}
use Rattle.atomic_table.proofs.Lists.{at_set, at_snoc}
use Rattle.pool_core.specs.declared.words.State.{State}
use Rattle.pool_core.specs.declared.seats.Seat.{Seat}
use Rattle.pool_core.specs.declared.seats.Stage.TheVariants.{Unmade, Live, Joined}
use Rattle.pool_core.specs.declared.events.Event.TheVariants.{Out, Home, Split, Join, Close}
use Rattle.pool_core.specs.PoolCore.{PoolCore, seat_at, is_away, is_live, idle_seat}
use Rattle.pool_core.specs.EventEffects.{core_after}
use Rattle.pool_core.specs.RefusalRules.{refusal_of}
use Rattle.slot_words.specs.declared.views.PassView.{PassView}
use Rattle.slot_words.specs.Views.{no_view, trails_of, view_left, view_given, view_joined, spent_view}
use Rattle.slot_words.specs.CoreLaws.{CoreLaws}
use Rattle.slot_words.specs.Shows.{IsCounted, view_share, view_unsplit}
use Rattle.slot_words.specs.Events.{SplitsAreEvents, JoinsAreEvents, ClosesAreEvents, ExchangesAreEvents}
use Rattle.slot_words.proofs.Lookups.{found}
use Rattle.slot_words.proofs.SharedPasses.{shared_after_join, shared_after_split}
use Rattle.slot_words.proofs.ShownChanges.{seat_here, seat_within}

module _ {A : Type 0} where
  snoc_before : (l : List A) (a d : A) (j : ℕ) → j ≢ length l → get_or (l ++ a ∷ []) j d ≡ get_or l j d
  snoc_before [] a d zero n = absurd (n refl)
  snoc_before [] a d (suc j) n = refl
  snoc_before (x ∷ xs) a d zero n = refl
  snoc_before (x ∷ xs) a d (suc j) n = snoc_before xs a d j (λ e. n (ap suc e))

may_split : (c : PoolCore) (s t : ℕ) → seat_at c s ≡ idle_seat Live → t < length c.seats → seat_at c t ≡ idle_seat Unmade → refusal_of c (Split s t) ≡ 0
may_split c s t rest h un = rw (rest, lt-ltb t (length c.seats) h, un) refl

may_join : (c : PoolCore) (s t : ℕ) → ¬ (s ≡ t) → seat_at c s ≡ idle_seat Live → seat_at c t ≡ idle_seat Live → refusal_of c (Join s t) ≡ 0
may_join c s t n rest rest' = rw (rest, rest', ne_eqb s t n) refl

may_close : (c : PoolCore) (s : ℕ) → seat_at c s ≡ idle_seat Live → refusal_of c (Close s) ≡ 0
may_close c s rest = rw rest refl

may_out : (c : PoolCore) (s n : ℕ) → is_live (seat_at c s).stage ≡ true → n < length c.words → (seat_at c s).holds ≡ Some n → (seat_at c s).out ≡ false → refusal_of c (Out s n) ≡ 0
may_out c s n live h at inside = let self : (n == n) ≡ true = eq-eqb n n refl in rw (live, lt-ltb n (length c.words) h, at, self, inside) refl

may_home : (c : PoolCore) (s n : ℕ) → is_live (seat_at c s).stage ≡ true → n < length c.words → (seat_at c s).holds ≡ Some n → (seat_at c s).out ≡ true → refusal_of c (Home s n) ≡ 0
may_home c s n live h at out = let self : (n == n) ≡ true = eq-eqb n n refl in rw (live, lt-ltb n (length c.words) h, at, self, out) refl

module _ (laws : CoreLaws) {V : Type 0} (fits : State → ℕ → V → Type 0) where
  pub splits_are_events : SplitsAreEvents fits
  splits_are_events id v rest unsplit share bounds core s law shows at =
      let c : PoolCore = core in let o = shows in let vs : List PassView = s.views in let t : ℕ = length vs in let l : PassView = view_left v in let g : PassView = view_given v in
      let ls : List PassView = set vs id l in let inside = (found vs id v no_view at).0 in let was : get_or vs id no_view ≡ v = (found vs id v no_view at).1 in
      let sp : ℕ = sum_by view_unsplit vs in let e0 : sp + t ≡ bounds.passes = o.shared.unsplit_sum in
      let e1 : view_unsplit (get_or vs id no_view) ≤ sp = get_or-le-sum_by view_unsplit vs id no_view inside in
      let e2 : view_unsplit (get_or vs id no_view) ≡ v.unsplit = ap view_unsplit was in
      let e3 : length c.seats ≡ bounds.passes = o.seats_are in let here : t < length c.seats = omega arith in
      let unmade : seat_at c t ≡ idle_seat Unmade = o.seat_shows t ∙ ap (λ (k : PassView). k.seat) (get_or_past vs t no_view (omega arith)) in
      let lt : length ls ≡ t = length-set vs id l in
      let seat = seat_here fits bounds core s shows id v at in (
        may_split c id t (seat ∙ rest) here unmade,
        record {
          limit_is = o.limit_is;
          countable = o.countable;
          seats_are = length-set c.seats t (idle_seat Live) ∙ e3;
          words_are = o.words_are;
          slots_are = o.slots_are;
          word_shows = o.word_shows;
          warm_shows = o.warm_shows;
          await_shows = o.await_shows;
          clock_shows = o.clock_shows;
          seat_shows = λ j. dite (ℕ_discrete j t)
              (λ e. ap (λ (k : ℕ). get_or (set c.seats t (idle_seat Live)) k (idle_seat Unmade)) e ∙ get_or-set_same c.seats t (idle_seat Live) (idle_seat Unmade) here
              ∙ sym (ap (λ (k : ℕ). (get_or (ls ++ g ∷ []) k no_view).seat) (e ∙ sym lt) ∙ ap (λ (k : PassView). k.seat) (get_or_push ls g no_view (length ls) refl)))
              (λ ne. get_or-set_other c.seats t j (idle_seat Live) (idle_seat Unmade) ne ∙ o.seat_shows j
              ∙ sym (ap (λ (k : PassView). k.seat) (snoc_before ls g no_view j (λ e. ne (e ∙ lt)))
              ∙ dite (ℕ_discrete j id)
              (λ e. ap (λ (k : ℕ). (get_or ls k no_view).seat) e ∙ ap (λ (k : PassView). k.seat) (get_or-set_same vs id l no_view inside) ∙ sym (ap (λ (k : PassView). k.seat) was) ∙ ap (λ (k : ℕ). (get_or vs k no_view).seat) (sym e))
              (λ other. ap (λ (k : PassView). k.seat) (get_or-set_other vs id j l no_view other))));
          at_home = o.at_home;
          away = o.away;
          shared = shared_after_split no_view view_share view_unsplit bounds.passes vs id v l g at (omega arith) (omega arith) refl refl o.shared;
          each = λ j u e. ⊎_elim
              (λ (h : get_elem? ls j ≡ some u). ⊎_elim
              (λ (y : (j ≡ id) × (l ≡ u)). subst (IsCounted bounds) y.1 record { inside = ap (λ (p : Seat). p.out) rest; bounds_is = (o.each id v at).bounds_is; share_is = λ lives. let own = (o.each id v at).share_is lives in omega arith })
              (λ (y : (j ≢ id) × (get_elem? vs j ≡ some u)). o.each j u y.1) (at_set vs id j l u h))
              (λ (h : g ≡ u). subst (IsCounted bounds) h record { inside = refl; bounds_is = λ _. (o.each id v at).bounds_is (ap (λ (p : Seat). is_away p.stage) rest); share_is = λ _. refl })
              (at_snoc ls g u j e);
        },
      )

  pub joins_are_events : JoinsAreEvents fits
  joins_are_events id other v w mine rest bounds core s law shows at apart at' =
      let live' : is_live w.seat.stage ≡ true = ap (λ (p : Seat). is_live p.stage) rest in
      let c : PoolCore = core in let o = shows in let vs : List PassView = s.views in let b : PassView = view_joined v w in let bs : List PassView = set vs id b in
      let was' : get_elem? vs other ≡ some w = ⊎_elim (λ (t : (other ≡ id) × (b ≡ w)). absurd (apart t.0)) (λ (t : (other ≢ id) × (get_elem? vs other ≡ some w)). t.1) (at_set vs id other b w at') in
      let inside = (found vs id v no_view at).0 in let was : get_or vs id no_view ≡ v = (found vs id v no_view at).1 in
      let inside' = (found bs other w no_view at').0 in let wis : get_or bs other no_view ≡ w = (found bs other w no_view at').1 in
      let here : other < length c.seats = seat_within fits bounds core s shows other w was' live' in
      let seat : seat_at c other ≡ w.seat = seat_here fits bounds core s shows other w was' in
      let e3 : length c.seats ≡ bounds.passes = o.seats_are in
      let lt : length (set bs other spent_view) ≡ length vs = length-set bs other spent_view ∙ length-set vs id b in
      let own = seat_here fits bounds core s shows id v at in (
        may_join c id other (λ e. apart (sym e)) (own ∙ mine) (seat ∙ rest),
        record {
          limit_is = o.limit_is;
          countable = o.countable;
          seats_are = length-set c.seats other (idle_seat Joined) ∙ e3;
          words_are = o.words_are;
          slots_are = o.slots_are;
          word_shows = o.word_shows;
          warm_shows = o.warm_shows;
          await_shows = o.await_shows;
          clock_shows = o.clock_shows;
          seat_shows = λ j. dite (ℕ_discrete j other)
              (λ e. ap (λ (k : ℕ). get_or (set c.seats other (idle_seat Joined)) k (idle_seat Unmade)) e ∙ get_or-set_same c.seats other (idle_seat Joined) (idle_seat Unmade) here
              ∙ sym (ap (λ (k : ℕ). (get_or (set bs other spent_view) k no_view).seat) e ∙ ap (λ (k : PassView). k.seat) (get_or-set_same bs other spent_view no_view inside')))
              (λ ne. get_or-set_other c.seats other j (idle_seat Joined) (idle_seat Unmade) ne ∙ o.seat_shows j
              ∙ sym (ap (λ (k : PassView). k.seat) (get_or-set_other bs other j spent_view no_view ne)
              ∙ dite (ℕ_discrete j id)
              (λ e. ap (λ (k : ℕ). (get_or bs k no_view).seat) e ∙ ap (λ (k : PassView). k.seat) (get_or-set_same vs id b no_view inside) ∙ sym (ap (λ (k : PassView). k.seat) was) ∙ ap (λ (k : ℕ). (get_or vs k no_view).seat) (sym e))
              (λ ne'. ap (λ (k : PassView). k.seat) (get_or-set_other vs id j b no_view ne'))));
          at_home = o.at_home;
          away = o.away;
          shared = shared_after_join no_view view_share view_unsplit bounds.passes vs id other v w b spent_view at at' was' apart (omega arith) refl refl refl o.shared;
          each = λ j u e. ⊎_elim
              (λ (h : (j ≡ other) × (spent_view ≡ u)). subst (IsCounted bounds) h.1 record { inside = refl; bounds_is = λ l. absurd (true≢false l); share_is = λ l. absurd (true≢false l) })
              (λ (h : (j ≢ other) × (get_elem? bs j ≡ some u)). ⊎_elim
              (λ (y : (j ≡ id) × (b ≡ u)). let p = (o.each id v at).share_is (ap (λ (p : Seat). is_away p.stage) mine) in let q = (o.each other w was').share_is (ap (λ (p : Seat). is_away p.stage) rest) in let l = length-append v.joined (trails_of w) in
              subst (IsCounted bounds) y.1 record { inside = ap (λ (p : Seat). p.out) mine; bounds_is = (o.each id v at).bounds_is; share_is = λ _. omega arith })
              (λ (y : (j ≢ id) × (get_elem? vs j ≡ some u)). o.each j u y.1) (at_set vs id j b u h.1))
              (at_set bs other j spent_view u e);
        },
      )

  pub closes_are_events : ClosesAreEvents fits
  closes_are_events id v rest bounds core s law shows at =
      let own = seat_here fits bounds core s shows id v at in let may = may_close core id (own ∙ rest) in (may, refl, laws.live core (Close id) law may)

  pub exchanges_are_events : ExchangesAreEvents fits
  exchanges_are_events id n v live at bounds core s law shows at_id =
      let seat : seat_at core id ≡ v.seat = seat_here fits bounds core s shows id v at_id in
      let here : id < length core.seats = seat_within fits bounds core s shows id v at_id live in
      let holds : (seat_at core id).holds ≡ Some n = ap (λ (p : Seat). p.holds) seat ∙ at in
      let alive : is_live (seat_at core id).stage ≡ true = ap (λ (p : Seat). is_live p.stage) seat ∙ live in
      let in' : (seat_at core id).out ≡ false = ap (λ (p : Seat). p.out) seat ∙ (shows.each id v at_id).inside in
      let there : n < length core.words = (laws.seats core id n law holds).0 in
      let may : refusal_of core (Out id n) ≡ 0 = may_out core id n alive there holds in' in
      let q : Seat = record (seat_at core id) { out = true } in
      let q_is : seat_at (core_after core (Out id n)) id ≡ q = get_or-set_same core.seats id q (idle_seat Unmade) here in record {
        goes_out = may;
        lawful = laws.events core (Out id n) law may;
        comes_home = may_home (core_after core (Out id n)) id n (ap (λ (p : Seat). is_live p.stage) q_is ∙ alive) there (ap (λ (p : Seat). p.holds) q_is ∙ holds) (ap (λ (p : Seat). p.out) q_is);
        same = λ i. record core {
          seats = (ap (λ (p : Seat). set (set core.seats id q) id (record p { out = false })) q_is
              ∙ set-set core.seats id q (record q { out = false })
              ∙ ap (λ (b : Bool). set core.seats id (record (seat_at core id) { out = b })) (sym in')
              ∙ set-get_or core.seats id (idle_seat Unmade)) i;
        };
        others_may = λ e apart allowed. (laws.outside core id n e law holds apart allowed).0;
        others_do = λ e apart allowed. (laws.outside core id n e law holds apart allowed).1;
      }
