-- What workers made of the calls of a round, or of a whole file.
use Rattle.std.specs.Prelude.{◌≡◌, ℕ, ◌+◌, ◌<◌, List, All, Option, Some, None, length, min}
use Rattle.std.specs.List.{AllZip}
use Rattle.module_store.specs.declared.naming.Naming.{Ghosts}
use Rattle.pool_limits.specs.declared.numbers.Numbers.{Numbers}
use Rattle.request_text.specs.declared.request.Directive.{Directive}
use Rattle.request_text.specs.Text.{Asked}
use Rattle.tenant_share.specs.Retiring.{CallerKnows}
use Rattle.call_jobs.specs.declared.entries.Worked.{Worked}
use Rattle.call_jobs.specs.Entries.{AnswersAll}
use Rattle.call_workers.specs.declared.members.Crew.{Crew}
use Rattle.call_workers.specs.declared.members.Done.{Done}
use Rattle.call_workers.specs.declared.members.Round.{Round}
use Rattle.call_workers.specs.Crews.{IsDone, IsNewRound, WorkerKnows, given_back}
use Rattle.slice_workers.specs.declared.crew.Sliced.{Sliced}
use Rattle.slice_steps.specs.declared.slice_shared.SliceShared.{SliceShared}
use Rattle.slice_workers.specs.Sliced.{AreCaused, SlicedAll}
use Rattle.run_books.specs.declared.books.Books.{Books}
use Rattle.run_books.specs.declared.books.Registry.{Registry}
use Rattle.run_books.specs.declared.books.Span.{Span}
use Rattle.run_books.specs.Collected.{IsCollected}
use Rattle.run_books.specs.Due.{dues_from}
use Rattle.run_books.specs.Put.{pairs_put, round_pairs}
use Rattle.run_books.specs.Books.{calls_in, whole_file}

-- how many workers a crew has for a round: as many as the round has calls, if the crew has so many
abbrev pub workers_for : {N : Type 0} {G : Ghosts N} → List Directive → Span → Crew N G → ℕ
workers_for all span crew = min (calls_in all span) (length crew.callers.items)

-- These are the entries that so many workers of a crew gave back for a round. None of them had begun, each knew which modules are retired, and each did its
-- work: what it says of a call its passes of the call's tenant came to.
pub record AreOfWorkers {N : Type 0} {G : Ghosts N} (config : Numbers) (all : List Directive) (span : Span) (crew : Crew N G) (workers : ℕ) (entries : List Worked) : Type 0 where
  pub round : Round N G
  pub new : IsNewRound crew.shared.share (span.calls + 1) (calls_in all span) workers round
  pub knew : (tag : ℕ) → All (CallerKnows tag) crew.callers.items → All (WorkerKnows tag) round.workers.items
  pub done : List (Done N G)
  pub worked : AllZip (IsDone config crew.shared round.jobs) round.workers.items done
  pub entries_are : entries ≡ given_back done

module _ (config : Numbers) (asked : Asked) where
  -- the entries of a round's calls, as they were put with the modules of this registry to so many workers
  abbrev pub AnswersRound : {N : Type 0} → Span → (workers : ℕ) → Registry N → List Worked → Type 0
  AnswersRound span workers registry entries = AnswersAll config (dues_from 1 asked.directives) (round_pairs registry asked span workers) entries

  -- the entries of all calls of the file, as they were put with the modules of this registry to so many workers
  abbrev pub AnswersFile : {N : Type 0} → (workers : ℕ) → Registry N → List Worked → Type 0
  AnswersFile workers registry entries = AnswersAll config (dues_from 1 asked.directives) (pairs_put registry.entries.items 1 asked.directives workers) entries

  -- So many workers answered the calls of a round: each entry that has a line has it on the board, which has no other line more than before.
  pub record MadeByWorkers {N : Type 0} (span : Span) (workers : ℕ) (before after : Books N) : Type 0 where
    pub entries : List Worked
    pub answers : AnswersRound span workers after.registry entries
    pub collected : IsCollected (dues_from 1 asked.directives) entries before.board after.board

  -- The workers of a crew answered the calls of a round, as many as there are for it. If it has a call, each entry came of the work of one of them.
  pub record AnsweredByCrew {N : Type 0} {G : Ghosts N} (span : Span) (crew : Crew N G) (before after : Books N) : Type 0 where
    pub answered : MadeByWorkers span (workers_for asked.directives span crew) before after
    pub work : 0 < calls_in asked.directives span → AreOfWorkers config asked.directives span crew (workers_for asked.directives span crew) answered.entries

  -- a crew did, where there is one; else the board stays as it was
  abbrev pub MadeByCrew : {N : Type 0} {G : Ghosts N} → Span → Option (Crew N G) → (before after : Books N) → Type 0
  MadeByCrew span None before after = after.board ≡ before.board
  MadeByCrew span (Some crew) before after = AnsweredByCrew span crew before after

-- these are the entries that so many workers gave back, which made calls in slices of so many turns
pub record AreOfSlices {N : Type 0} (G : Ghosts N) (config : Numbers) (shared : SliceShared N) (slice workers : ℕ) (entries : List Worked) : Type 0 where
  pub sliced : Sliced N
  pub all : SlicedAll config shared workers sliced
  pub causes : AreCaused G config shared slice sliced
  pub entries_are : entries ≡ sliced.entries.items

-- So many workers answered the calls of the file, in slices of so many turns on the host that they share.
pub record MadeBySlicers {N : Type 0} (G : Ghosts N) (config : Numbers) (asked : Asked) (shared : SliceShared N) (slice workers : ℕ) (before after : Books N) : Type 0 where
  pub answered : MadeByWorkers config asked (whole_file asked) workers before after
  pub in_slices : AreOfSlices G config shared slice workers answered.entries
