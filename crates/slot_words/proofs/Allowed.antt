-- A step that is an event keeps the rule.
use Rattle.std.proofs.Common.{◌≡◌, ℕ, ◌+◌, ◌-◌, ◌%◌, ◌^◌, ◌<◌, ◌||◌, Bool, true, false, not, ltb, ◌≤◌, List, [], ◌∷◌, length, refl, sym, ap, ◌∙◌, subst, arith, set, length-set}
use mathlib.Core.Option.{none, some}
use lib.Bits.{bit_or}
use lib.ListN.{get_elem?}
use Rattle.std.specs.Prelude.{Option, Some, None, MatchBool, slice_index}
use Rattle.atomic_table.specs.Table.{State as TableState, carried_after, rest, step, Allows, Splits, Joins}
use Rattle.pool_core.specs.declared.words.State.{State}
use Rattle.pool_core.specs.declared.words.Target.{Target}
use Rattle.pool_core.specs.declared.words.StateWord.{StateWord}
use Rattle.pool_core.specs.declared.seats.Seat.{Seat}
use Rattle.pool_core.specs.declared.seats.Stage.TheVariants.{Live}
use Rattle.pool_core.specs.declared.events.Event.{Event}
use Rattle.pool_core.specs.declared.events.Event.TheVariants.{Load, Claim, Release, Split, Join, WarmLoad, WarmUp, WarmDown, Stamp, AwaitUp, AwaitDown, AwaitLoad}
use Rattle.pool_core.specs.StateWords.{bit, is_warm, is_awaiting, is_well_formed, IsWordOf, packed, free_word}
use Rattle.pool_core.specs.PoolCore.{PoolCore, is_live, is_away, idle_seat, holding_seat, opening_core}
use Rattle.pool_core.specs.EventEffects.{core_after, winning_seat}
use Rattle.pool_core.specs.Lawful.{Lawful}
use Rattle.slot_words.specs.declared.views.PassView.{PassView}
use Rattle.slot_words.specs.declared.views.Bounds.{Bounds}
use Rattle.slot_words.specs.declared.views.Operation.{Operation}
use Rattle.slot_words.specs.declared.views.Operation.TheVariants as operation
use Rattle.slot_words.specs.CoreLaws.{CoreLaws}
use Rattle.slot_words.specs.Views.{view_after, view_left, view_given, view_joined, spent_view}
use Rattle.slot_words.specs.Shows.{IsKept, Shows}
use Rattle.pool_core.specs.RefusalRules.{seat_of}
use Rattle.slot_words.specs.History.{IsHistory, noted, opening_of}
use Rattle.slot_words.proofs.HistorySteps.{history_after_step, history_after_split, history_after_join}
use Rattle.slot_words.specs.Outcomes.{Carrier, IsCount, Notes, Loads, Claims, Releases, Loses, Wins, LoadsWarm, WarmsUp, WarmsDown, Stamps, AwaitsUp, AwaitsDown, LoadsAwait}
use Rattle.slot_words.specs.Events.{IsEvent}
use Rattle.slot_words.proofs.Lookups.{live_not_away}
use Rattle.slot_words.proofs.SlotEvents.{loads_are_events, claims_are_events, releases_are_events}
use Rattle.slot_words.proofs.CountEvents.{warm_loads_are_events, warm_ups_are_events, warm_downs_are_events, stamps_are_events, await_ups_are_events, await_downs_are_events, await_loads_are_events}
use Rattle.slot_words.proofs.PassEvents.{splits_are_events, joins_are_events}

module _ {V : Type 0} (fits : State → ℕ → V → Type 0) (bounds : Bounds) where
  abbrev pub Allowed : ℕ → ℕ → Carrier V → ℕ → (ℕ → ℕ) → (ℕ → Carrier V → Type 0) → Type 0
  Allowed slots id me i f then = Allows (IsKept fits bounds) slots id me i f then

  -- the pass noted one operation, which says what the event reads
  pub record TellsEvent (core : PoolCore) (id : ℕ) (e : Event) (v w : PassView) : Type 0 where
    pub seat : Seat
    pub operation : Operation
    pub noted_is : w ≡ view_after v seat operation
    pub reads : operation ∷ [] ≡ noted core e
    pub own : seat_of e ≡ id
    pub here : is_away v.seat.stage ≡ false
    pub stays : is_away seat.stage ≡ false

  -- the operation says what the event reads of the word
  abbrev pub Reads : ℕ → ℕ → Event → (ℕ → Operation) → Type 0
  Reads slots i e o = (core : PoolCore) (s : TableState (Option V) PassView) → Shows fits bounds core s → length s.homes ≡ slots → o (slice_index s.words i) ∷ [] ≡ noted core e

  -- wherever the step tells `then`, it does so
  abbrev pub TellsTurn : ℕ → ℕ → Carrier V → ℕ → Event → (ℕ → Carrier V → Type 0) → Type 0
  TellsTurn slots id me i e then = (core : PoolCore) (s : TableState (Option V) PassView) (m : Carrier V) → Lawful core → Shows fits bounds core s → length s.homes ≡ slots → get_elem? s.views id ≡ some me.0
      → then (slice_index s.words i) m → TellsEvent core id e me.0 m.0

module _ (laws : CoreLaws) {V : Type 0} (fits : State → ℕ → V → Type 0) (bounds : Bounds) where
  -- an event keeps the rule
  pub allowed : (slots id : ℕ) (me : Carrier V) (i : ℕ) (f : ℕ → ℕ) (e : Event) (then : ℕ → Carrier V → Type 0) → IsEvent fits slots id me i f e then → TellsTurn fits bounds slots id me i e then → Allowed fits bounds slots id me i f then
  allowed slots id me i f e then is tells s r wide at small = let c : PoolCore = r.rule.core in let law = r.rule.lawful in let o = is bounds c s law r.rule.shows wide at in
      let turn = tells c s (o.1.0, carried_after me.1 o.1.1) law r.rule.shows wide at o.1.4 in (
        o.1.0,
        o.1.1,
        o.1.2,
        record {
          rule = record { core = core_after c e; lawful = laws.events c e law o.0; shows = o.1.3 };
          history =
              let before = r.rule.shows.words_are in let after = o.1.3.words_are in let wide = length-set s.words i (f (slice_index s.words i)) in let same : length (core_after c e).words ≡ length c.words = omega arith in
              subst (λ (k : ℕ). IsHistory (opening_core k bounds.limit bounds.passes) (core_after c e) (set s.views id o.1.0)) (sym same)
              (history_after_step (opening_of bounds c) c s.views r.history e o.0 id me.0 o.1.0 turn.seat turn.operation at turn.own turn.noted_is turn.here turn.stays turn.reads);
        },
        o.1.4,
      )

  -- an operation that leaves the seat's stage
  stays_and_tells : (slots id i : ℕ) (me : Carrier V) (e : Event) (seat : ℕ → Seat) (o : ℕ → Operation) → ((r : ℕ) → (seat r).stage ≡ me.0.seat.stage) → seat_of e ≡ id → Reads fits bounds slots i e o → is_live me.0.seat.stage ≡ true
      → TellsTurn fits bounds slots id me i e (λ r m. Notes me (seat r) (o r) m)
  stays_and_tells slots id i me e seat o stage own reads live core s m law shows wide at told = let r : ℕ = slice_index s.words i in let here = live_not_away me.0.seat.stage live in record {
    seat = seat r;
    operation = o r;
    noted_is = told.1;
    reads = reads core s shows wide;
    own = own;
    here = here;
    stays = ap is_away (stage r) ∙ here;
  }

  loads_tell : (slots id n : ℕ) (me : Carrier V) → n < slots → is_live me.0.seat.stage ≡ true → TellsTurn fits bounds slots id me n (Load id n) (Loads (step slots n 0 0 none) me)
  loads_tell slots id n me below live core s m law shows wide at told =
      stays_and_tells slots id n me (Load id n) (λ _. me.0.seat) (λ r. operation.Load n r) (λ _. refl) refl (λ c t sh w. ap (λ (k : ℕ). operation.Load n k ∷ []) (sh.word_shows n (let e = sh.slots_are in omega arith)))
      live core s m law shows wide at told.0

  claims_tell : (slots id n : ℕ) (me : Carrier V) → n < slots → me.0.seat ≡ idle_seat Live → TellsTurn fits bounds slots id me n (Claim id n) (Claims fits (step slots n 1 0 none) me)
  claims_tell slots id n me below rest core s m law shows wide at told = let r : ℕ = slice_index s.words n in let w : StateWord = told.0 in
      let there : n < length core.words = let e = shows.slots_are in omega arith in let here : is_away me.0.seat.stage ≡ false = ap (λ (q : Seat). is_away q.stage) rest in
      let reads : operation.Claim n r ∷ [] ≡ noted core (Claim id n) = ap (λ (k : ℕ). operation.Claim n k ∷ []) (shows.word_shows n there) in
      let split : (b : Bool) → MatchBool b (Loses me n r m) (Wins fits me n r w m) → TellsEvent fits bounds core id (Claim id n) me.0 m.0 = elim [
        | true ↦ λ lost. record { seat = me.0.seat; operation = operation.Claim n r; noted_is = lost.0.1; reads = reads; own = refl; here = here; stays = here }
        | false ↦ λ won. record { seat = winning_seat me.0.seat n w; operation = operation.Claim n r; noted_is = won.0; reads = reads; own = refl; here = here; stays = here }
      ] in split w.held told.2

  releases_tell : (slots id n : ℕ) (v : PassView) (y : V) (to : Target) → v.seat ≡ holding_seat n (is_warm to.state) false (is_awaiting to.state)
      → TellsTurn fits bounds slots id (v, (n, Some y) ∷ []) n (Release id n to) (λ _. Releases (step slots n (packed (free_word to)) 0 none) (v, (n, Some y) ∷ []) (packed (free_word to)))
  releases_tell slots id n v y to has core s m law shows wide at told = let here : is_away v.seat.stage ≡ false = ap (λ (p : Seat). is_away p.stage) has in
      record { seat = idle_seat v.seat.stage; operation = operation.Release n (packed (free_word to)); noted_is = told.1; reads = refl; own = refl; here = here; stays = here }

  pub loads_allowed : (slots id n : ℕ) (me : Carrier V) → n < slots → is_live me.0.seat.stage ≡ true → Allowed fits bounds slots id me n (λ x. x) (Loads (step slots n 0 0 none) me)
  loads_allowed slots id n me below live = allowed slots id me n (λ x. x) (Load id n) (Loads (step slots n 0 0 none) me) (loads_are_events laws fits slots id n me below live) (loads_tell slots id n me below live)

  pub claims_allowed : (slots id n : ℕ) (me : Carrier V) → n < slots → me.0.seat ≡ idle_seat Live → Allowed fits bounds slots id me n (λ x. bit_or x 1) (Claims fits (step slots n 1 0 none) me)
  claims_allowed slots id n me below rest = allowed slots id me n (λ x. bit_or x 1) (Claim id n) (Claims fits (step slots n 1 0 none) me) (claims_are_events laws fits slots id n me below rest) (claims_tell slots id n me below rest)

  -- of a pass whose slot has the value again
  pub releases_allowed : (slots id n x : ℕ) (me : Carrier V) (v : PassView) (y : V) (to : Target) → me ≡ (v, (n, Some y) ∷ []) → x ≡ packed (free_word to)
      → n < slots → v.seat ≡ holding_seat n (is_warm to.state) false (is_awaiting to.state) → is_well_formed to ≡ true → fits to.state to.tag y
      → Allowed fits bounds slots id me n (λ _. x) (λ _. Releases (step slots n x 0 none) me x)
  releases_allowed slots id n x me v y to is isx below has well suits =
      let e : ℕ = packed (free_word to) in
      subst (λ (z : Carrier V × ℕ). Allowed fits bounds slots id z.0 n (λ _. z.1) (λ _. Releases (step slots n z.1 0 none) z.0 z.1)) (λ i. (sym is i, sym isx i))
      (allowed slots id (v, (n, Some y) ∷ []) n (λ _. e) (Release id n to) (λ _. Releases (step slots n e 0 none) (v, (n, Some y) ∷ []) e)
      (releases_are_events laws fits slots id n v y to below has well suits) (releases_tell slots id n v y to has))

  -- a step on a count word that is an event, where the slots are so many
  counted : (slots i id place amount : ℕ) (me : Carrier V) (f : ℕ → ℕ) (e : Event) (seat : ℕ → Seat) (o : ℕ → Operation) → slots ≡ i → is_live me.0.seat.stage ≡ true
      → ((r : ℕ) → (seat r).stage ≡ me.0.seat.stage) → seat_of e ≡ id → Reads fits bounds slots (slots + place) e o
      → IsEvent fits slots id me (slots + place) f e (λ r. IsCount (step slots (slots + place) amount 0 none) place amount me (seat r) (o r))
      → Allowed fits bounds slots id me (i + place) f (λ r. IsCount (step slots (i + place) amount 0 none) place amount me (seat r) (o r))
  counted slots i id place amount me f e seat o same live stage own reads is =
      subst (λ (j : ℕ). Allowed fits bounds slots id me (j + place) f (λ r. IsCount (step slots (j + place) amount 0 none) place amount me (seat r) (o r))) same
      (allowed slots id me (slots + place) f e (λ r. IsCount (step slots (slots + place) amount 0 none) place amount me (seat r) (o r)) is
      (λ core s m law shows wide at told. stays_and_tells slots id (slots + place) me e seat o stage own reads live core s m law shows wide at told.notes))

  pub await_loads_allowed : (slots i id : ℕ) (me : Carrier V) → slots ≡ i → is_live me.0.seat.stage ≡ true → Allowed fits bounds slots id me (i + 1) (λ x. x) (LoadsAwait (step slots (i + 1) 0 0 none) me)
  await_loads_allowed slots i id me is live = counted slots i id 1 0 me (λ x. x) (AwaitLoad id) (λ _. me.0.seat) (λ r. operation.AwaitLoad r) is live (λ _. refl) refl (λ c t sh w. ap (λ (k : ℕ). operation.AwaitLoad k ∷ []) (ap (λ (k : ℕ). slice_index t.words (k + 1)) (sym (sym sh.slots_are ∙ w)) ∙ sh.await_shows))
      (await_loads_are_events fits slots id me live)

  pub await_ups_allowed : (slots i id n : ℕ) (me : Carrier V) → slots ≡ i → is_live me.0.seat.stage ≡ true → me.0.seat.holds ≡ Some n → me.0.seat.mark ≡ false → Allowed fits bounds slots id me (i + 1) (λ x. (x + 1) % 2 ^ 64) (AwaitsUp (step slots (i + 1) 1 0 none) me)
  await_ups_allowed slots i id n me is live h marked = counted slots i id 1 1 me (λ x. (x + 1) % 2 ^ 64) (AwaitUp id) (λ _. record (me.0.seat) { mark = true }) (λ r. operation.AwaitUp r) is live (λ _. refl) refl (λ c t sh w. ap (λ (k : ℕ). operation.AwaitUp k ∷ []) (ap (λ (k : ℕ). slice_index t.words (k + 1)) (sym (sym sh.slots_are ∙ w)) ∙ sh.await_shows))
      (await_ups_are_events fits slots id n me live h marked)

  pub await_downs_allowed : (slots i id n : ℕ) (me : Carrier V) → slots ≡ i → is_live me.0.seat.stage ≡ true → me.0.seat.holds ≡ Some n → me.0.seat.mark ≡ true
      → Allowed fits bounds slots id me (i + 1) (λ x. (x + (2 ^ 64 - 1)) % 2 ^ 64) (AwaitsDown (step slots (i + 1) 1 0 none) me)
  await_downs_allowed slots i id n me is live h marked = counted slots i id 1 1 me (λ x. (x + (2 ^ 64 - 1)) % 2 ^ 64) (AwaitDown id) (λ _. record (me.0.seat) { mark = false }) (λ r. operation.AwaitDown r) is live (λ _. refl) refl (λ c t sh w. ap (λ (k : ℕ). operation.AwaitDown k ∷ []) (ap (λ (k : ℕ). slice_index t.words (k + 1)) (sym (sym sh.slots_are ∙ w)) ∙ sh.await_shows))
      (await_downs_are_events fits slots id n me live h marked)

  pub stamps_allowed : (slots i id n : ℕ) (me : Carrier V) → slots ≡ i → is_live me.0.seat.stage ≡ true → me.0.seat.holds ≡ Some n → Allowed fits bounds slots id me (i + 2) (λ x. (x + 1) % 2 ^ 64) (Stamps (step slots (i + 2) 1 0 none) me)
  stamps_allowed slots i id n me is live h = counted slots i id 2 1 me (λ x. (x + 1) % 2 ^ 64) (Stamp id) (λ _. me.0.seat) (λ r. operation.Stamp r) is live (λ _. refl) refl (λ c t sh w. ap (λ (k : ℕ). operation.Stamp k ∷ []) (ap (λ (k : ℕ). slice_index t.words (k + 2)) (sym (sym sh.slots_are ∙ w)) ∙ sh.clock_shows))
      (stamps_are_events fits slots id n me live h)

  -- the warm word is the first past the slots' words
  at_first : (slots i id amount : ℕ) (me : Carrier V) (f : ℕ → ℕ) (e : Event) (seat : ℕ → Seat) (o : ℕ → Operation) → slots ≡ i → is_live me.0.seat.stage ≡ true
      → ((r : ℕ) → (seat r).stage ≡ me.0.seat.stage) → seat_of e ≡ id → Reads fits bounds slots slots e o
      → IsEvent fits slots id me slots f e (λ r. IsCount (step slots slots amount 0 none) 0 amount me (seat r) (o r))
      → Allowed fits bounds slots id me i f (λ r. IsCount (step slots i amount 0 none) 0 amount me (seat r) (o r))
  at_first slots i id amount me f e seat o same live stage own reads is =
      subst (λ (j : ℕ). Allowed fits bounds slots id me j f (λ r. IsCount (step slots j amount 0 none) 0 amount me (seat r) (o r))) same
      (allowed slots id me slots f e (λ r. IsCount (step slots slots amount 0 none) 0 amount me (seat r) (o r)) is
      (λ core s m law shows wide at told. stays_and_tells slots id slots me e seat o stage own reads live core s m law shows wide at told.notes))

  pub warm_loads_allowed : (slots i id : ℕ) (me : Carrier V) → slots ≡ i → is_live me.0.seat.stage ≡ true → Allowed fits bounds slots id me i (λ x. x) (LoadsWarm (step slots i 0 0 none) me)
  warm_loads_allowed slots i id me is live = at_first slots i id 0 me (λ x. x) (WarmLoad id) (λ _. me.0.seat) (λ r. operation.WarmLoad r) is live (λ _. refl) refl (λ c t sh w. ap (λ (k : ℕ). operation.WarmLoad k ∷ []) (ap (λ (k : ℕ). slice_index t.words k) (sym (sym sh.slots_are ∙ w)) ∙ sh.warm_shows))
      (warm_loads_are_events fits slots id me live)

  pub warm_ups_allowed : (slots i id n : ℕ) (me : Carrier V) → slots ≡ i → is_live me.0.seat.stage ≡ true → me.0.seat.holds ≡ Some n → me.0.seat.permit ≡ false → me.0.seat.refusal ≡ false
      → Allowed fits bounds slots id me i (λ x. (x + 1) % 2 ^ 64) (WarmsUp (step slots i 1 0 none) me)
  warm_ups_allowed slots i id n me is live h no_permit no_refusal = at_first slots i id 1 me (λ x. (x + 1) % 2 ^ 64) (WarmUp id) (λ r. record (me.0.seat) { permit = ltb r me.0.bounds.limit; refusal = not (ltb r me.0.bounds.limit) }) (λ r. operation.WarmUp r) is live (λ _. refl) refl (λ c t sh w. ap (λ (k : ℕ). operation.WarmUp k ∷ []) (ap (λ (k : ℕ). slice_index t.words k) (sym (sym sh.slots_are ∙ w)) ∙ sh.warm_shows)) (warm_ups_are_events fits slots id n me live h no_permit no_refusal)

  pub warm_downs_allowed : (slots i id n : ℕ) (me : Carrier V) → slots ≡ i → is_live me.0.seat.stage ≡ true → me.0.seat.holds ≡ Some n → (me.0.seat.permit || me.0.seat.refusal) ≡ true
      → Allowed fits bounds slots id me i (λ x. (x + (2 ^ 64 - 1)) % 2 ^ 64) (WarmsDown (step slots i 1 0 none) me)
  warm_downs_allowed slots i id n me is live h has = at_first slots i id 1 me (λ x. (x + (2 ^ 64 - 1)) % 2 ^ 64) (WarmDown id) (λ _. record (me.0.seat) { permit = false; refusal = false }) (λ r. operation.WarmDown r) is live (λ _. refl) refl (λ c t sh w. ap (λ (k : ℕ). operation.WarmDown k ∷ []) (ap (λ (k : ℕ). slice_index t.words k) (sym (sym sh.slots_are ∙ w)) ∙ sh.warm_shows)) (warm_downs_are_events fits slots id n me live h has)

  pub splits_allowed : (id : ℕ) (v : PassView) → v.seat ≡ idle_seat Live → 1 ≤ v.unsplit → 2 ≤ v.share → Splits (IsKept fits bounds) id v (view_left v) (view_given v)
  splits_allowed id v rest unsplit share s r at = let c : PoolCore = r.rule.core in let o = splits_are_events laws fits id v rest unsplit share bounds c s r.rule.lawful r.rule.shows at in
      record {
        rule = record { core = core_after c (Split id (length s.views)); lawful = laws.events c (Split id (length s.views)) r.rule.lawful o.0; shows = o.1 };
        history =
            let here : is_away v.seat.stage ≡ false = ap (λ (q : Seat). is_away q.stage) rest in let made = r.rule.shows.shared.splits id v at unsplit in
            let number : (view_given v).number ≡ length s.views = ap (λ (b : Bounds). b.passes - v.unsplit) ((r.rule.shows.each id v at).bounds_is here) ∙ omega arith in
            history_after_split (opening_of bounds c) c s.views r.history (Split id (length s.views)) o.0 id v at here number refl;
      }

  pub joins_allowed : (id other : ℕ) (v w : PassView) → v.seat ≡ idle_seat Live → w.seat ≡ idle_seat Live → Joins (IsKept fits bounds) id v other w (view_joined v w) spent_view
  joins_allowed id other v w rest rest' s r at apart at' = let c : PoolCore = r.rule.core in
      let o = joins_are_events laws fits id other v w rest rest' bounds c s r.rule.lawful r.rule.shows at apart at' in
      record {
        rule = record { core = core_after c (Join id other); lawful = laws.events c (Join id other) r.rule.lawful o.0; shows = o.1 };
        history = history_after_join (opening_of bounds c) c s.views r.history (Join id other) o.0 id other v w rest rest' at apart at' refl;
      }

-- the one slot that a pass has out, with its value in it again
pub value_back : {V : Type 0} (me : Carrier V) (v : PassView) (n : ℕ) (y : V) (slots : List (ℕ × Option V)) → me ≡ (v, (n, Some y) ∷ rest slots) → slots ≡ (n, None) ∷ [] → me ≡ (v, (n, Some y) ∷ [])
value_back me v n y slots is out = is ∙ (λ i. (v, (n, Some y) ∷ rest (out i)))

module _ (laws : CoreLaws) {V : Type 0} (fits : State → ℕ → V → Type 0) (n : ℕ) (m : Carrier V) (r : ℕ) (m' : Carrier V) where
  -- the bit that was read tells that the claim was won
  pub claim_won : (w : StateWord) × IsWordOf r w × MatchBool w.held (Loses m n r m') (Wins fits m n r w m') → ¬ (r % 2 ≡ 1)
      → (w : StateWord) × IsWordOf r w × (w.held ≡ false) × Wins fits m n r w m'
  claim_won c free = let w : StateWord = c.0 in let is = c.1 in
      let odd : r % 2 ≡ bit w.held = ap (λ (k : ℕ). k % 2) is.packed_is ∙ laws.bit_says w in
      let split : (b : Bool) → w.held ≡ b → MatchBool w.held (Loses m n r m') (Wins fits m n r w m') → (w.held ≡ false) × Wins fits m n r w m' = elim [
        | true ↦ λ e x. absurd (free (odd ∙ ap bit e))
        | false ↦ λ e x. (e, rw e at x)
      ] in let t = split w.held refl c.2 in (w, is, t.0, t.1)
