-- What a run has between its rounds, and within one.
use Rattle.std.specs.Prelude.{◌≡◌, ◌≢◌, ℕ, ◌<◌, ◌≤◌, List, All, length, slice_get, take, Option, Some, IfSome, MatchOption, Ok}
use Rattle.retired_tags.specs.declared.views.TagStep.{TagStep}
use Rattle.retired_tags.specs.Passes.{steps}
use Rattle.retired_tags.specs.Steps.{HasSet, Knows}
use Rattle.module_store.specs.declared.naming.Naming.{Ghosts}
use Rattle.pool_limits.specs.declared.numbers.Numbers.{Numbers}
use Rattle.pool_limits.specs.Shares.{lane_share}
use Rattle.pool_host.specs.Hosts.{HasShare}
use Rattle.pool_model.specs.Contents.{Named}
use Rattle.request_text.specs.declared.request.Directive.{Directive}
use Rattle.request_text.specs.declared.request.Directive.TheVariants.{Retire}
use Rattle.request_text.specs.Text.{Asked, call_count}
use Rattle.tenant_share.specs.Retiring.{CallerKnows}
use Rattle.tenant_share.specs.Shares.{shares}
use Rattle.tenant_share.specs.Tenants.{HasShares, IsCaller}
use Rattle.call_workers.specs.declared.members.Crew.{Crew}
use Rattle.run_books.specs.declared.books.Books.{Books}
use Rattle.run_books.specs.declared.books.Span.{Span}
use Rattle.run_books.specs.Books.{AreBooks}
use Rattle.run_books.specs.Due.{dues_from}
use Rattle.run_books.specs.Entries.{Entry}
use Rattle.call_rounds.specs.declared.rounds.Run.{Run}

-- how many calls stand before its end
abbrev pub calls_to : List Directive → Span → ℕ
calls_to all span = call_count (take span.to all)

module _ {N : Type 0} (config : Numbers) (asked : Asked) where
  -- the books within a round: all its modules are entered, and some of its calls are made
  abbrev pub AreBooksWithin : Span → Books N → Type 0
  AreBooksWithin span books = AreBooks config asked span.to span.calls (calls_to asked.directives span) books

  -- the books after a round: all its calls are made too
  abbrev pub AreBooksAfter : Span → Books N → Type 0
  AreBooksAfter span books = AreBooks config asked span.to (calls_to asked.directives span) (calls_to asked.directives span) books

  -- the books after all rounds: they have the entries of all modules, and the lines of all calls
  abbrev pub AreClosedBooks : Books N → Type 0
  AreClosedBooks books = AreBooks config asked (length asked.directives) (call_count asked.directives) (call_count asked.directives) books

-- one of so many directives, the first, retires the accepted module that has this tag
pub record IsRetired (entries : List Entry) (all : List Directive) (place tag : ℕ) : Type 0 where
  pub line : ℕ
  pub earlier : line < place
  pub of_module : ℕ
  pub name : List ℕ
  pub line_is : slice_get all line ≡ Some (Retire of_module name)
  pub m : Named
  pub accepted : slice_get entries of_module ≡ Some (Ok m)
  pub tag_is : m.tag ≡ tag

-- each tag that these steps set is that of a module that is retired so
abbrev pub AreRetired : List Entry → (all : List Directive) → (place : ℕ) → List TagStep → Type 0
AreRetired entries all place done = (tag : ℕ) → HasSet tag done → IsRetired entries all place tag

-- and the tag of each module that is retired so is known
abbrev pub AreKnown : List Entry → (all : List Directive) → (place : ℕ) → (known : ℕ → Type 0) → Type 0
AreKnown entries all place known = (tag : ℕ) → IsRetired entries all place tag → known tag

-- no retire line stands among the directives from one place up to another: they are of one round
abbrev pub AreOfOneRound : List Directive → (from to : ℕ) → Type 0
AreOfOneRound all from to = (line of_module : ℕ) (name : List ℕ) → from ≤ line → line < to → slice_get all line ≡ Some (Retire of_module name) → ⊥

module _ {N : Type 0} {G : Ghosts N} where
  -- A crew of several workers that can make a round of this file: the tenants' hosts have the slots that configuration and wants give them, and there is a
  -- caller, with a pass of each, for each configured worker.
  pub record IsReady (config : Numbers) (asked : Asked) (crew : Crew N G) : Type 0 where
    pub several : config.workers ≢ 1
    pub slots : HasShares (shares config asked.wants) config.workers crew.shared.share
    pub calls_are : crew.shared.calls.items ≡ dues_from 1 asked.directives
    pub many : length crew.callers.items ≡ config.workers
    pub callers : All (IsCaller crew.shared.share) crew.callers.items
    pub few : (1 ≤ length crew.callers.items) × (length crew.callers.items ≤ 32)

  -- there is such a crew where several workers are configured, and else none
  abbrev pub HasCrew : Numbers → Asked → Option (Crew N G) → Type 0
  HasCrew config asked crew = MatchOption crew (config.workers ≡ 1) (IsReady config asked)

  -- each caller of a crew, where there is one, knows that the module of this tag is retired
  abbrev pub CrewKnows : (tag : ℕ) → Option (Crew N G) → Type 0
  CrewKnows tag crew = IfSome crew (λ crew. All (CallerKnows tag) crew.callers.items)

  -- the lane knows it, and each caller of the crew
  pub record RunKnows (run : Run N G) (tag : ℕ) : Type 0 where
    pub lane : Knows tag (steps run.lane.pass.retired)
    pub crew : CrewKnows tag run.crew

  -- A run of this file behind one of its rounds. It has the entries and the lines of the directives so far, its lane has its slots, and there is a crew where
  -- several workers are configured. The lane retired the modules of the retire lines so far and no other, and all passes know each of them.
  pub record IsRun (config : Numbers) (asked : Asked) (run : Run N G) : Type 0 where
    pub within : run.done ≤ length asked.directives
    pub calls_are : run.calls ≡ call_count (take run.done asked.directives)
    pub books : AreBooks config asked run.done run.calls run.calls run.books
    pub slots : HasShare config.warm (lane_share config) run.lane.host
    pub crew : HasCrew config asked run.crew
    pub retired : AreRetired run.books.registry.entries.items asked.directives run.done (steps run.lane.pass.retired)
    pub known : AreKnown run.books.registry.entries.items asked.directives run.done (RunKnows run)
