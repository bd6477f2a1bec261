-- What is put to the queue: each call's number with the call's module, and then a 0 for each worker.
use Rattle.std.specs.Prelude.{◌≡◌, ℕ, ◌+◌, ◌≤◌, List, [], ◌∷◌, ◌++◌, Option, Some, None, Ok, Err, IfOk, replicate, slice_get, option_and_then}
use Rattle.job_queue.specs.declared.accounts.Account.{Account}
use Rattle.job_queue.specs.declared.jobs.Jobs.{Jobs}
use Rattle.job_queue.specs.Passes.{IsJobPass, IsPutter, account_of, capacity_of, count_of, first_of, put_by}
use Rattle.pool_limits.specs.declared.numbers.Numbers.{Numbers}
use Rattle.pool_model.specs.Contents.{Named}
use Rattle.request_text.specs.declared.request.Directive.{Directive}
use Rattle.request_text.specs.declared.request.Directive.TheVariants.{Module, Call, Retire}
use Rattle.request_text.specs.Text.{Asked}
use Rattle.call_jobs.specs.Entries.{Pair}
use Rattle.run_books.specs.declared.books.Registry.{Registry}
use Rattle.run_books.specs.declared.books.Span.{Span}
use Rattle.run_books.specs.declared.putter.Put.{Put}
use Rattle.run_books.specs.declared.putter.Putter.{Putter}
use Rattle.run_books.specs.Entries.{AreKept, Entry}
use Rattle.run_books.specs.Books.{HasEntered, IsSpan, calls_in, directives_in}

-- the module of a line, if it was accepted
abbrev pub module_of : Entry → Option Named
module_of (Ok named) = Some named
module_of (Err line) = None

-- the module of the line at this place
abbrev pub module_at : List Entry → ℕ → Option Named
module_at entries place = option_and_then module_of (slice_get entries place)

-- the calls among these directives, of which the first has this number, each with its module
abbrev pub pairs_from : List Entry → ℕ → List Directive → List Pair
pairs_from entries number [] = []
pairs_from entries number (Module name bytes ∷ requests) = pairs_from entries number requests
pairs_from entries number (Call tenant place retired invocation ∷ requests) = (number, module_at entries place) ∷ pairs_from entries (number + 1) requests
pairs_from entries number (Retire place name ∷ requests) = pairs_from entries number requests

-- the calls among them, and then a 0 for each worker
abbrev pub pairs_put : List Entry → (first : ℕ) → List Directive → (workers : ℕ) → List Pair
pairs_put entries first requests workers = pairs_from entries first requests ++ replicate workers (0, None)

-- the calls of a round of a file, each with its module, as this registry has it
abbrev pub round_calls : {N : Type 0} → Registry N → Asked → Span → List Pair
round_calls registry asked span = pairs_from registry.entries.items (span.calls + 1) (directives_in asked.directives span)

-- the calls of a round of a file, each with its module, and then a 0 for each worker
abbrev pub round_pairs : {N : Type 0} → Registry N → Asked → Span → (workers : ℕ) → List Pair
round_pairs registry asked span workers = pairs_put registry.entries.items (span.calls + 1) (directives_in asked.directives span) workers

-- a pass that had put nothing put these pairs, and was given nothing
pub record HasPut (pairs : List Pair) (before after : Account (Option Named)) : Type 0 where
  pub put : after.put ≡ pairs
  pub given : after.given ≡ before.given
  pub share : after.share ≡ before.share

-- a pass that stands for itself, and was given nothing
pub record IsUnused (account : Account (Option Named)) : Type 0 where
  pub share : account.share ≡ 1
  pub given : account.given ≡ []

module _ {N : Type 0} (config : Numbers) (asked : Asked) (span : Span) (jobs : Jobs (Option Named)) (workers : ℕ) where
  -- what can put a round to this queue: a registry of the modules before it, and the pass that puts, which has put nothing, with room for the round's calls and a 0 for each worker
  pub record CanPutAll (putter : Putter N) : Type 0 where
    pub span_is : IsSpan asked.directives span
    pub entered : HasEntered config asked span.from putter.registry
    pub own : IsJobPass jobs putter.own
    pub puts : IsPutter putter.own
    pub none : put_by putter.own ≡ []
    pub first : first_of jobs ≡ span.calls + 1
    pub count : calls_in asked.directives span ≤ count_of jobs
    pub room : calls_in asked.directives span + workers ≤ capacity_of jobs

  -- what it leaves: its pass is still one of the queue, and unless memory was refused the round's modules are entered too, and all is put
  pub record HasPutAll (before : Putter N) (after : Put N) : Type 0 where
    pub own : IsJobPass jobs after.own
    pub entered : IfOk after.registry (HasEntered config asked span.to)
    pub kept : IfOk after.registry (λ registry. AreKept before.registry.entries.items registry.entries.items)
    pub put : IfOk after.registry (λ registry. HasPut (round_pairs registry asked span workers) (account_of before.own) (account_of after.own))
