-- How the lines of a file come about: its rounds one after another, or the whole file in slices.
use Rattle.std.specs.Prelude.{◌≡◌, ◌≢◌, ◌⊎◌, ℕ, ◌+◌, true, false, List, [], ◌∷◌, Option, None, Some, MatchOption, Ok, length, slice_get}
use Rattle.std.specs.List.{AllZip}
use Rattle.module_store.specs.declared.naming.Naming.{Ghosts}
use Rattle.pool_limits.specs.declared.numbers.Numbers.{Numbers}
use Rattle.pool_limits.specs.Shares.{lane_share, shared_share}
use Rattle.pool_model.specs.Contents.{Named}
use Rattle.pool_host.specs.declared.lane.LaneHost.{LaneHost}
use Rattle.pool_host.specs.Hosts.{HasShare, IsNewHostPass}
use Rattle.request_text.specs.declared.request.Directive.{Directive}
use Rattle.request_text.specs.declared.request.Directive.TheVariants.{Module, Call, Retire}
use Rattle.request_text.specs.Text.{Asked, MayRunInSlices}
use Rattle.tenant_share.specs.Retiring.{IsRetirement, RetiredForAll}
use Rattle.tenant_share.specs.Shares.{shares}
use Rattle.call_workers.specs.declared.members.Crew.{Crew}
use Rattle.call_workers.specs.Crews.{IsNewCrew}
use Rattle.slice_workers.specs.declared.crew.SliceCrew.{SliceCrew}
use Rattle.slice_workers.specs.Crews.{IsNewSliceCrew}
use Rattle.run_books.specs.declared.books.Books.{Books}
use Rattle.run_books.specs.declared.books.Span.{Span}
use Rattle.call_rounds.specs.declared.modes.Made.{Made}
use Rattle.call_rounds.specs.declared.modes.Made.TheVariants as made
use Rattle.call_rounds.specs.declared.rounds.Run.{Run}
use Rattle.call_rounds.specs.declared.sliced_run.SlicedRun.{SlicedRun}
use Rattle.call_rounds.specs.Left.{MadeRest}
use Rattle.run_books.specs.Books.{AreBooks, whole_file}
use Rattle.run_books.specs.Due.{dues_from}
use Rattle.call_rounds.specs.Rounds.{AreClosedBooks, IsRun}
use Rattle.call_rounds.specs.Worked.{MadeByCrew, MadeBySlicers}

-- a file is made in rounds: one worker is configured, or no slices, or its calls are made whole
abbrev pub IsRoundWise : Numbers → Asked → (slice : ℕ) → Type 0
IsRoundWise config asked slice = (config.workers ≡ 1) ⊎ ((slice ≡ 0) ⊎ (asked.whole ≡ true))

module _ {N : Type 0} {G : Ghosts N} where
  -- ---- rounds

  -- the round that begins where a run stands, up to this directive
  abbrev pub round_to : Run N G → (to : ℕ) → Span
  round_to run to = record { from = run.done; to = to; calls = run.calls }

  -- A round was made up to this directive: the crew's workers answered its calls and were joined, and the lane made those of which the board had no line then.
  pub record MadeRound (config : Numbers) (asked : Asked) (to : ℕ) (before after : Run N G) : Type 0 where
    pub joined : Books N
    pub crew : MadeByCrew config asked (round_to before to) before.crew before.books joined
    pub registry : after.books.registry ≡ joined.registry
    pub lane : MadeRest config asked (round_to before to) joined before.lane after.lane
    pub done : after.done ≡ to

  -- each caller of a crew retired the module with its pass of each tenant
  abbrev pub CrewRetired : Named → (before after : Option (Crew N G)) → Type 0
  CrewRetired m None None = Unit {0}
  CrewRetired m (Some before) (Some after) = AllZip (RetiredForAll before.shared.share m) before.callers.items after.callers.items
  CrewRetired m _ _ = ⊥

  -- a run whose lane and whose crew retired the module
  pub record HasRetired (m : Named) (before after : Run N G) : Type 0 where
    pub lane : IsRetirement before.lane.host m before.lane.pass after.lane.pass
    pub crew : CrewRetired m before.crew after.crew

  -- the retire line at which a run stands was carried out, of the module at this place: where that was accepted it was retired
  pub record CarriedOut (place : ℕ) (before after : Run N G) : Type 0 where
    pub retired : (m : Named) → slice_get before.books.registry.entries.items place ≡ Some (Ok m) → HasRetired m before after
    pub books : after.books ≡ before.books
    pub done : after.done ≡ before.done + 1

  -- The rounds of these directives, the first of which is at this place, were made one after another, and behind each but the last its retire line was carried out.
  abbrev pub MadeRounds : Numbers → Asked → (at : ℕ) → List Directive → (before after : Run N G) → Type 0
  MadeRounds config asked at [] before after = MadeRound config asked (length asked.directives) before after
  MadeRounds config asked at (Module name bytes ∷ requests) before after = MadeRounds config asked (at + 1) requests before after
  MadeRounds config asked at (Call tenant place retired invocation ∷ requests) before after = MadeRounds config asked (at + 1) requests before after
  MadeRounds config asked at (Retire place name ∷ requests) before after = (joined : Run N G) × (retired : Run N G)
      × MadeRound config asked at before joined × CarriedOut place joined retired × MadeRounds config asked (at + 1) requests retired after

  -- a crew as it is opened for this file, where several workers are configured, and else none
  abbrev pub HasNewCrew : Numbers → Asked → Option (Crew N G) → Type 0
  HasNewCrew config asked crew = MatchOption crew (config.workers ≡ 1) (IsNewCrew (shares config asked.wants) (dues_from 1 asked.directives) config.workers)

  -- a run of this file that has made nothing: its lane and its crew are as they were opened
  pub record IsNewRun (config : Numbers) (asked : Asked) (run : Run N G) : Type 0 where
    pub books : AreBooks config asked 0 0 0 run.books
    pub done : run.done ≡ 0
    pub lane : IsNewHostPass run.lane.host run.lane.pass
    pub crew : HasNewCrew config asked run.crew

  -- all rounds of this file were made, from such a run on
  pub record MadeInRounds (config : Numbers) (asked : Asked) (run : Run N G) : Type 0 where
    pub began : Run N G
    pub new : IsNewRun config asked began
    pub rounds : MadeRounds config asked 0 asked.directives began run
    pub run_is : IsRun config asked run
    pub done : run.done ≡ length asked.directives

  -- ---- slices

  -- All calls of this file, which may run in slices, were made in slices of so many turns by the configured workers on the host that they share, and those of
  -- which the board had no line then on the lane, as it was opened. Such a file has no tenant and retires nothing.
  pub record MadeInSlices (config : Numbers) (asked : Asked) (slice : ℕ) (run : SlicedRun N G) : Type 0 where
    pub several : config.workers ≢ 1
    pub sliced : slice ≢ 0
    pub may : asked.whole ≡ false
    pub alone : MayRunInSlices asked.wants asked.directives
    pub crew : SliceCrew N G
    pub opened : IsNewSliceCrew config (shared_share config) (dues_from 1 asked.directives) config.workers crew
    pub shared_is : run.shared ≡ crew.shared
    pub lane_slots : HasShare config.warm (lane_share config) run.lane.host
    pub before : Books N
    pub before_are : AreBooks config asked 0 0 0 before
    pub joined : Books N
    pub workers : MadeBySlicers G config asked run.shared slice config.workers before joined
    pub began : LaneHost N G
    pub new : IsNewHostPass began.host began.pass
    pub lane : MadeRest config asked (whole_file asked) joined began run.lane
    pub registry : run.books.registry ≡ joined.registry
    pub books : AreClosedBooks config asked run.books

  -- ---- all calls

  -- the books of a file whose calls were made
  abbrev pub books_of : Made N G → Books N
  books_of (made.InRounds run) = run.books
  books_of (made.InSlices run) = run.books

  -- the calls of this file were made, where this is the length of a slice: in rounds just where they are to be, and else in slices
  abbrev pub IsMade : Numbers → Asked → (slice : ℕ) → Made N G → Type 0
  IsMade config asked slice (made.InRounds run) = IsRoundWise config asked slice × MadeInRounds config asked run
  IsMade config asked slice (made.InSlices run) = MadeInSlices config asked slice run
