-- What a pass of a queue was given, by a worker and by who takes what is left.
use Rattle.std.specs.Prelude.{◌≡◌, ◌<◌, List, [], ◌∷◌, ◌++◌, Option, All}
use Rattle.std.specs.List.{AllZip}
use Rattle.job_queue.specs.declared.accounts.Account.{Account}
use Rattle.job_queue.specs.Accounts.{with_given}
use Rattle.module_store.specs.declared.naming.Naming.{Ghosts}
use Rattle.pool_limits.specs.declared.numbers.Numbers.{Numbers}
use Rattle.pool_model.specs.Contents.{Named}
use Rattle.tenant_share.specs.declared.passes.Caller.{Caller}
use Rattle.tenant_share.specs.declared.share_host.ShareHost.{ShareHost}
use Rattle.call_jobs.specs.declared.calls.Due.{Due}
use Rattle.call_jobs.specs.declared.entries.Worked.{Worked}
use Rattle.call_jobs.specs.Entries.{IsEntry, Pair}
use Rattle.call_workers.specs.Made.{MadeEntries}
use Rattle.call_workers.specs.Passes.{OfEachTenant}

-- it was given some pairs more
abbrev pub WasGiven : Account (Option Named) → Account (Option Named) → Type 0
WasGiven before after = (pairs : List Pair) × (after ≡ with_given before pairs)

-- it was given the pairs of some calls and then a 0, and these are the entries of those calls, in that order
pub record HasTaken (config : Numbers) (calls : List Due) (before after : Account (Option Named)) (entries : List Worked) : Type 0 where
  pub pairs : List Pair
  pub counted : All (λ pair. 0 < pair.0) pairs
  pub last : Option Named
  pub account_is : after ≡ with_given before (pairs ++ (0, last) ∷ [])
  pub entries_are : AllZip (IsEntry config calls) pairs entries

-- a worker's pass of the queue was given these, and its passes of the tenants made an entry for each of those calls, in that order, and nothing else
pub record DidWork {N : Type 0} {G : Ghosts N} (config : Numbers) (share : ShareHost N) (calls : List Due) (before after : Account (Option Named)) (was now : Caller N G) (entries : List Worked) : Type 0 where
  pub taken : HasTaken config calls before after entries
  pub made : OfEachTenant share was now (λ tenant host. MadeEntries config host tenant calls taken.pairs entries)
