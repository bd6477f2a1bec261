-- What each step tells its pass: the pass before it, the number that was read, and the pass after it.
use Rattle.std.specs.Prelude.{◌≡◌, ℕ, ◌+◌, ◌<◌, Option, Some, ◌∷◌, MatchBool, ltb, not, true, false}
use Rattle.atomic_table.specs.Table.{Me, Step, rest}
use Rattle.pool_core.specs.declared.words.State.{State}
use Rattle.pool_core.specs.declared.words.StateWord.{StateWord}
use Rattle.pool_core.specs.declared.seats.Seat.{Seat}
use Rattle.pool_core.specs.StateWords.{IsWordOf}
use Rattle.pool_core.specs.PoolCore.{idle_seat}
use Rattle.pool_core.specs.EventEffects.{winning_seat}
use Rattle.slot_words.specs.declared.views.PassView.{PassView}
use Rattle.slot_words.specs.declared.views.Operation.{Operation}
use Rattle.slot_words.specs.declared.views.Operation.TheVariants.{Load, Claim, Release, WarmLoad, WarmUp, WarmDown, Stamp, AwaitUp, AwaitDown, AwaitLoad}
use Rattle.slot_words.specs.Views.{view_after}

-- a pass with what it carries: its view, and the slots that it has out
abbrev pub Carrier : Type 0 → Type 0
Carrier V = Me (Option V) PassView

module _ {V : Type 0} where
  -- the operation leaves the seat as this, and the slots as they are
  abbrev pub Notes : Carrier V → Seat → Operation → Carrier V → Type 0
  Notes m seat o m' = (m'.1 ≡ m.1) × (m'.0 ≡ view_after m.0 seat o)

  -- A step on a count word, so many places past the slots' words and by so much, tells of one operation.
  pub record IsCount (st : Step (Option V)) (place amount : ℕ) (m : Carrier V) (seat : Seat) (o : Operation) (m' : Carrier V) : Type 0 where
    pub word_is : st.word ≡ st.slots + place
    pub amount_is : st.first ≡ amount
    pub notes : Notes m seat o m'

  abbrev pub Loads : Step (Option V) → Carrier V → ℕ → Carrier V → Type 0
  Loads st m r m' = Notes m m.0.seat (Load st.word r) m' × ((w : StateWord) × IsWordOf r w)

  -- another pass has the slot, so this one does not stand for all
  abbrev pub Loses : Carrier V → ℕ → ℕ → Carrier V → Type 0
  Loses m n r m' = Notes m m.0.seat (Claim n r) m' × (m.0.share < m.0.bounds.passes)

  abbrev pub Wins : (State → ℕ → V → Type 0) → Carrier V → ℕ → ℕ → StateWord → Carrier V → Type 0
  Wins fits m n r w m' = (m'.0 ≡ view_after m.0 (winning_seat m.0.seat n w) (Claim n r)) × ((x : V) × (m'.1 ≡ (n, Some x) ∷ m.1) × fits w.target.state w.target.tag x)

  -- lost where the word read was held, and else won
  abbrev pub Claims : (State → ℕ → V → Type 0) → Step (Option V) → Carrier V → ℕ → Carrier V → Type 0
  Claims fits st m r m' = (w : StateWord) × IsWordOf r w × MatchBool w.held (Loses m st.word r m') (Wins fits m st.word r w m')

  abbrev pub Releases : Step (Option V) → Carrier V → ℕ → Carrier V → Type 0
  Releases st m r m' = (m'.1 ≡ rest m.1) × (m'.0 ≡ view_after m.0 (idle_seat m.0.seat.stage) (Release st.word r))

  abbrev pub LoadsWarm : Step (Option V) → Carrier V → ℕ → Carrier V → Type 0
  LoadsWarm st m r m' = IsCount st 0 0 m m.0.seat (WarmLoad r) m'

  -- a permit where the word read was below the limit, and else a refusal
  abbrev pub WarmsUp : Step (Option V) → Carrier V → ℕ → Carrier V → Type 0
  WarmsUp st m r m' = IsCount st 0 1 m (record (m.0.seat) { permit = ltb r m.0.bounds.limit; refusal = not (ltb r m.0.bounds.limit) }) (WarmUp r) m'

  abbrev pub WarmsDown : Step (Option V) → Carrier V → ℕ → Carrier V → Type 0
  WarmsDown st m r m' = IsCount st 0 1 m (record (m.0.seat) { permit = false; refusal = false }) (WarmDown r) m'

  abbrev pub LoadsAwait : Step (Option V) → Carrier V → ℕ → Carrier V → Type 0
  LoadsAwait st m r m' = IsCount st 1 0 m m.0.seat (AwaitLoad r) m'

  abbrev pub AwaitsUp : Step (Option V) → Carrier V → ℕ → Carrier V → Type 0
  AwaitsUp st m r m' = IsCount st 1 1 m (record (m.0.seat) { mark = true }) (AwaitUp r) m'

  abbrev pub AwaitsDown : Step (Option V) → Carrier V → ℕ → Carrier V → Type 0
  AwaitsDown st m r m' = IsCount st 1 1 m (record (m.0.seat) { mark = false }) (AwaitDown r) m'

  abbrev pub Stamps : Step (Option V) → Carrier V → ℕ → Carrier V → Type 0
  Stamps st m r m' = IsCount st 2 1 m m.0.seat (Stamp r) m'
