-- What a caller's passes at a tenant's host made of the pairs that a queue gave a worker.
use Rattle.std.specs.Prelude.{◌≡◌, ◌≢◌, ℕ, List, [], ◌∷◌, Option, Some, None}
use Rattle.module_store.specs.declared.naming.Naming.{Ghosts}
use Rattle.pool_limits.specs.declared.numbers.Numbers.{Numbers}
use Rattle.pool_model.specs.Contents.{Named}
use Rattle.pool_host.specs.declared.answers.Answer.{Answer}
use Rattle.pool_host.specs.declared.host.Host.{Host}
use Rattle.pool_host.specs.CallWords.{IfFull}
use Rattle.pool_host.specs.Looks.{look_of, Looked}
use Rattle.pool_host.specs.Trails.{AddsTrails, HasCause}
use Rattle.tenant_share.specs.declared.passes.Caller.{Caller}
use Rattle.tenant_share.specs.declared.share_host.ShareHost.{ShareHost}
use Rattle.call_jobs.specs.declared.calls.Due.{Due}
use Rattle.call_jobs.specs.declared.entries.Worked.{Worked}
use Rattle.call_jobs.specs.Entries.{IsEntry, Pair}
use Rattle.call_workers.specs.Passes.{AtHost, OfEachTenant}

module _ {N : Type 0} (config : Numbers) (host : Host N) where
  -- A call of the module was answered so: its passes of the pools made it, it was full only for its cause, and whether it was
  -- retired was read at its one look.
  pub record HasCalled (m : Named) (answer : Answer) (before after : AtHost N) : Type 0 where
    pub trails : AddsTrails config host m answer before.pools after.pools
    pub full : IfFull answer (HasCause config host m before.pools after.pools)
    pub looked : Looked host.retired.tags m.tag before.tags after.tags (look_of answer)

  -- so it was of a call with this module; without a module all is as it was
  abbrev pub MadeCall : Option Named → Option Answer → (before after : AtHost N) → Type 0
  MadeCall None answer before after = after ≡ before
  MadeCall (Some m) None before after = ⊥
  MadeCall (Some m) (Some answer) before after = HasCalled m answer before after

  -- these passes were those of the call, if the call is of this tenant too; else they are as they were
  pub record MadeOn (tenant of : ℕ) (m : Option Named) (answer : Option Answer) (before after : AtHost N) : Type 0 where
    pub own : of ≡ tenant → MadeCall m answer before after
    pub others : of ≢ tenant → after ≡ before

  -- this entry was made for a pair, by the tenant's passes if it is a call of this tenant
  pub record MadeEntry (tenant : ℕ) (calls : List Due) (pair : Pair) (worked : Worked) (before after : AtHost N) : Type 0 where
    pub entry : IsEntry config calls pair worked
    pub call : MadeOn tenant entry.due.tenant pair.1 worked.answer before after

  -- these entries were made for these pairs, one after the other, those of the tenant's calls by its passes, which made nothing else
  abbrev pub MadeEntries : (tenant : ℕ) → List Due → List Pair → List Worked → (before after : AtHost N) → Type 0
  MadeEntries tenant calls [] [] before after = after ≡ before
  MadeEntries tenant calls [] (worked ∷ entries) before after = ⊥
  MadeEntries tenant calls (pair ∷ pairs) [] before after = ⊥
  MadeEntries tenant calls (pair ∷ pairs) (worked ∷ entries) before after = (between : AtHost N)
      × MadeEntry tenant calls pair worked before between × MadeEntries tenant calls pairs entries between after

-- ---- what a caller made, by its passes of each tenant before and after

module _ {N : Type 0} {G : Ghosts N} (config : Numbers) (share : ShareHost N) where
  -- its passes of this tenant made the call, if it has a module, and were answered so; its others stayed
  abbrev pub CallerMade : (of : ℕ) → Option Named → Option Answer → (was now : Caller N G) → Type 0
  CallerMade of m answer was now = OfEachTenant share was now (λ tenant host. MadeOn config host tenant of m answer)

  -- it made this entry for a pair
  abbrev pub CallerMadeEntry : List Due → Pair → Worked → (was now : Caller N G) → Type 0
  CallerMadeEntry calls pair worked was now = OfEachTenant share was now (λ tenant host. MadeEntry config host tenant calls pair worked)
