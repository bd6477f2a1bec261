-- What a clause says of a pass.
use Rattle.std.specs.Prelude.{◌≡◌, ℕ, Bool, true, Option, None, is_some, List, [], ◌∷◌}
use Rattle.atomic_table.specs.declared.shared.Seat.{Seat as TableSeat}
use Rattle.atomic_table.specs.Seated.{TableId}
use Rattle.pool_core.specs.declared.seats.Stage.{Stage}
use Rattle.pool_core.specs.declared.seats.Stage.TheVariants.{Live}
use Rattle.pool_core.specs.PoolCore.{idle_seat, holding_seat}
use Rattle.slot_words.specs.declared.views.Bounds.{Bounds}
use Rattle.slot_words.specs.declared.views.PassView.{PassView}
use Rattle.slot_words.specs.declared.views.Operation.{Operation}
use Rattle.slot_words.specs.declared.views.SeatTrail.{SeatTrail}
use Rattle.slot_words.specs.Views.{operations_of, trails_of}

-- a seat at values of this type; antt has no name for a Rust alias
abbrev pub Pass : Type 0 → Type 0
Pass V = TableSeat (Option V) PassView

-- of which words a pass is, the stage of its seat, and how many seats may still be split off from it
pub record Home : Type 0 where
  pub table : TableId
  pub bounds : Bounds
  pub stage : Stage
  pub unsplit : ℕ

module _ {V : Type 0} where
  -- the pass's operations on words so far, each with what it read or stored
  abbrev pub trail : Pass V → List Operation
  trail p = p.me.0.trail

  -- the trails of the passes that were joined into it
  abbrev pub joined_trails : Pass V → List SeatTrail
  joined_trails p = p.me.0.joined

  -- the trails of the passes that it stands for: its own, and those that were joined into it
  abbrev pub trails : Pass V → List SeatTrail
  trails p = trails_of p.me.0

  -- all that it did, and the passes that were joined into it
  abbrev pub operations : Pass V → List Operation
  operations p = operations_of p.me.0

  -- how many of the passes that were handed out it stands for
  abbrev pub share_of : Pass V → ℕ
  share_of p = p.me.0.share

  -- its number among the core's seats
  abbrev pub seat_number : Pass V → ℕ
  seat_number p = p.me.0.number

  -- whether it has a permit, a refusal and an await mark
  abbrev pub pass_permit : Pass V → Bool
  pass_permit p = p.me.0.seat.permit

  abbrev pub pass_refusal : Pass V → Bool
  pass_refusal p = p.me.0.seat.refusal

  abbrev pub pass_mark : Pass V → Bool
  pass_mark p = p.me.0.seat.mark

  -- whose pass it is, and in which stage its seat is
  abbrev pub home : Pass V → Home
  home p = record { table = p.table_id; bounds = p.me.0.bounds; stage = p.me.0.seat.stage; unsplit = p.me.0.unsplit }

  -- it holds nothing, and has no permit, refusal or await mark
  abbrev pub IsIdle : Pass V → Type 0
  IsIdle p = (p.me.0.seat ≡ idle_seat Live) × (p.me.1 ≡ [])

  -- it holds the number, whose value is out, and has these of permit, refusal and await mark
  abbrev pub Holds : Pass V → ℕ → Bool → Bool → Bool → Type 0
  Holds p n permit refusal mark = (p.me.0.seat ≡ holding_seat n permit refusal mark) × (p.me.1 ≡ (n, None) ∷ [])

  -- it holds some number
  abbrev pub IsHolding : Pass V → Type 0
  IsHolding p = is_some p.me.0.seat.holds ≡ true

  -- the pass stays that seat of those words, and joins no other
  pub record IsSamePass (p q : Pass V) : Type 0 where
    pub home_is : home q ≡ home p
    pub number_is : seat_number q ≡ seat_number p
    pub share_is : share_of q ≡ share_of p
    pub joined_is : joined_trails q ≡ joined_trails p

  -- it holds what it did, and has these of permit, refusal and await mark
  abbrev pub KeepsWith : Pass V → Pass V → Bool → Bool → Bool → Type 0
  KeepsWith p q permit refusal mark = (q.me.0.seat ≡ record (p.me.0.seat) { permit = permit; refusal = refusal; mark = mark }) × (q.me.1 ≡ p.me.1)

  -- it holds and has what it did
  abbrev pub KeepsAll : Pass V → Pass V → Type 0
  KeepsAll p q = (q.me.0.seat ≡ p.me.0.seat) × (q.me.1 ≡ p.me.1)
