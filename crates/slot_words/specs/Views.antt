-- What passes know, at the start and after each change.
use Rattle.std.specs.Prelude.{ℕ, ◌+◌, ◌-◌, List, [], ◌∷◌, ◌++◌, flat_map}
use Rattle.pool_core.specs.declared.seats.Seat.{Seat}
use Rattle.pool_core.specs.declared.seats.Stage.TheVariants.{Unmade, Live, Joined}
use Rattle.pool_core.specs.PoolCore.{idle_seat}
use Rattle.slot_words.specs.declared.views.PassView.{PassView}
use Rattle.slot_words.specs.declared.views.Bounds.{Bounds}
use Rattle.slot_words.specs.declared.views.Operation.{Operation}
use Rattle.slot_words.specs.declared.views.SeatTrail.{SeatTrail}

-- the trails of the passes that a view stands for: its own, and those that were joined into it
abbrev pub trails_of : PassView → List SeatTrail
trails_of v = record { seat = v.number; trail = v.trail } ∷ v.joined

-- the operations of some trails, one trail after another
abbrev pub in_one : List SeatTrail → List Operation
in_one ts = flat_map (λ t. t.trail) ts

-- all that the pass did, and the passes that were joined into it
abbrev pub operations_of : PassView → List Operation
operations_of v = in_one (trails_of v)

-- an idle pass of this number that has done nothing yet
abbrev pub new_view : Bounds → ℕ → ℕ → ℕ → PassView
new_view b number unsplit share = record { number = number; seat = idle_seat Live; bounds = b; unsplit = unsplit; share = share; trail = []; joined = [] }

-- the one pass of a table, before the others are split off
abbrev pub first_view : Bounds → PassView
first_view b = new_view b 0 (b.passes - 1) b.passes

abbrev pub no_bounds : Bounds
no_bounds = record { limit = 0; passes = 0 }

-- the view of a seat that no pass has
abbrev pub no_view : PassView
no_view = record { number = 0; seat = idle_seat Unmade; bounds = no_bounds; unsplit = 0; share = 0; trail = []; joined = [] }

-- the view of a seat that was joined into another
abbrev pub spent_view : PassView
spent_view = record { number = 0; seat = idle_seat Joined; bounds = no_bounds; unsplit = 0; share = 0; trail = []; joined = [] }

-- the view after one operation, which leaves the seat as this
abbrev pub view_after : PassView → Seat → Operation → PassView
view_after v seat o = record v { seat = seat; trail = v.trail ++ o ∷ [] }

-- what is left where one seat is split off
abbrev pub view_left : PassView → PassView
view_left v = record v { unsplit = v.unsplit - 1; share = v.share - 1 }

-- what the seat that is split off knows: its number is how many seats were made before it
abbrev pub view_given : PassView → PassView
view_given v = new_view v.bounds (v.bounds.passes - v.unsplit) 0 1

-- a pass that took another in
abbrev pub view_joined : PassView → PassView → PassView
view_joined v w = record v { unsplit = v.unsplit + w.unsplit; share = v.share + w.share; joined = v.joined ++ trails_of w }
