-- What the lane makes: the calls of which the board has no line.
use Rattle.std.specs.Prelude.{◌≡◌, ℕ, ◌+◌, List, [], ◌∷◌, slice_get, Option, Some, None}
use Rattle.pool_limits.specs.declared.numbers.Numbers.{Numbers}
use Rattle.pool_model.specs.Contents.{Named}
use Rattle.pool_host.specs.declared.host.Host.{Host}
use Rattle.pool_host.specs.declared.lane.LaneAnswer.{LaneAnswer}
use Rattle.pool_host.specs.declared.lane.LaneHost.{LaneHost}
use Rattle.pool_host.specs.declared.passes.HostPass.{HostPass}
use Rattle.pool_host.specs.CallWords.{host_answer}
use Rattle.pool_host.specs.Looks.{Looked, look_of}
use Rattle.pool_host.specs.Trails.{AddsTrails}
use Rattle.request_text.specs.declared.request.Directive.{Directive}
use Rattle.request_text.specs.declared.request.Directive.TheVariants.{Module, Call, Retire}
use Rattle.request_text.specs.Text.{Asked}
use Rattle.report_text.specs.declared.report.CallLine.{CallLine}
use Rattle.module_store.specs.declared.naming.Naming.{Ghosts}
use Rattle.run_books.specs.declared.books.Books.{Books}
use Rattle.run_books.specs.declared.books.Span.{Span}
use Rattle.run_books.specs.Entries.{Entry}
use Rattle.run_books.specs.Put.{module_at}
use Rattle.run_books.specs.Books.{directives_in}

module _ {N : Type 0} {G : Ghosts N} (config : Numbers) (lane : Host N) where
  -- a call of the module was handed to the lane and answered so: by its passes of the pools, after one look at the retired tags
  pub record LaneCalled (m : Named) (before after : HostPass N G) : Type 0 where
    pub answer : LaneAnswer
    pub trails : AddsTrails config lane m (host_answer answer) before.passes after.passes
    pub looked : Looked lane.retired.tags m.tag before.retired after.retired (look_of (host_answer answer))

  -- so it was if the call has a module
  abbrev pub MadeOnLane : Option Named → (before after : HostPass N G) → Type 0
  MadeOnLane None before after = after ≡ before
  MadeOnLane (Some m) before after = LaneCalled m before after

  -- and where the board has no line of it, and else not
  abbrev pub MadeIfLeft : Option (Option CallLine) → Option Named → (before after : HostPass N G) → Type 0
  MadeIfLeft None m before after = after ≡ before
  MadeIfLeft (Some (Some line)) m before after = after ≡ before
  MadeIfLeft (Some None) m before after = MadeOnLane m before after

  -- of these calls, which come after so many others, those were made of which the board has no line, in order, and no other
  abbrev pub MadeLeft : List Entry → (board : List (Option CallLine)) → ℕ → List Directive → (before after : HostPass N G) → Type 0
  MadeLeft entries board at [] before after = after ≡ before
  MadeLeft entries board at (Module name bytes ∷ requests) before after = MadeLeft entries board at requests before after
  MadeLeft entries board at (Retire place name ∷ requests) before after = MadeLeft entries board at requests before after
  MadeLeft entries board at (Call tenant place retired invocation ∷ requests) before after = (between : HostPass N G)
      × MadeIfLeft (slice_get board at) (module_at entries place) before between × MadeLeft entries board (at + 1) requests between after

-- the rest of a round was made on the lane: the calls of which these books have no line, in order, and no other
abbrev pub MadeRest : {N : Type 0} {G : Ghosts N} → Numbers → Asked → Span → Books N → (before after : LaneHost N G) → Type 0
MadeRest config asked span books before after =
    MadeLeft config before.host books.registry.entries.items books.board span.calls (directives_in asked.directives span) before.pass after.pass
