-- Calls that are due, and what workers make of the pairs that a queue gives them.
use Rattle.std.specs.Prelude.{◌≡◌, ℕ, ◌+◌, ◌-◌, ◌<◌, ◌==◌, not, List, ◌++◌, All, filter, replicate, slice_get, sum_by, if◌then◌else◌, Option, Some, None}
use Rattle.std.specs.List.{AllZip}
use Rattle.std.specs.List.Sorted.{IsPermutation}
use Rattle.pool_limits.specs.declared.numbers.Numbers.{Numbers}
use Rattle.pool_model.specs.Contents.{Named}
use Rattle.pool_host.specs.declared.answers.Answer.{Answer}
use Rattle.instance_calls.specs.CallWords.{run_limits}
use Rattle.pool_host.specs.CallWords.{IsHostAnswer}
use Rattle.request_calls.specs.declared.invocation.Invocation.{Invocation}
use Rattle.request_calls.specs.Invocations.{sent_by, shown_of}
use Rattle.call_jobs.specs.declared.calls.Due.{Due}
use Rattle.call_jobs.specs.declared.entries.Worked.{Worked}

-- a number, and the module of its call, if that was not refused; the number 0 stands for no call
abbrev pub Pair : Type 0
Pair = ℕ × Option Named

-- the pairs of calls
abbrev pub called : List Pair → List Pair
called pairs = filter (λ pair. not (pair.0 == 0)) pairs

-- how many of them tell a worker to end
abbrev pub zeros : List Pair → ℕ
zeros pairs = sum_by (λ pair. if pair.0 == 0 then 1 else 0) pairs

-- numbers of calls were put, and then a 0 for each worker
pub record EndsAll (put : List Pair) (workers : ℕ) : Type 0 where
  pub pairs : List Pair
  pub put_is : put ≡ pairs ++ replicate workers (0, None)
  pub counted : All (λ pair. 0 < pair.0) pairs

-- the calls are numbered from 1, in order
abbrev pub AreNumbered : List Due → Type 0
AreNumbered calls = (at : ℕ) (due : Due) → slice_get calls at ≡ Some due → due.number ≡ at + 1

-- the call is of one of so many tenants
abbrev pub IsOfTenants : ℕ → Due → Type 0
IsOfTenants tenants due = due.tenant < tenants

-- how what is asked of the module is answered by a host, and what is shown of its bytes; without a module nothing is called
abbrev pub IsAnswered : Numbers → Invocation → Option Named → Option Answer → (shown : Option (List ℕ)) → Type 0
IsAnswered config asked None answer shown = (answer ≡ None) × (shown ≡ None)
IsAnswered config asked (Some m) None shown = ⊥
IsAnswered config asked (Some m) (Some answer) shown = (bytes : List ℕ)
    × IsHostAnswer m.tree (run_limits config) asked.export asked.args (sent_by asked) asked.fuel answer bytes × (shown ≡ shown_of asked bytes)

-- the entry for a pair: its number, and how the call of this number is answered
pub record IsEntry (config : Numbers) (calls : List Due) (pair : Pair) (worked : Worked) : Type 0 where
  pub number_is : worked.number ≡ pair.0
  pub due : Due
  pub due_is : slice_get calls (pair.0 - 1) ≡ Some due
  pub answered : IsAnswered config due.invocation pair.1 worked.answer worked.bytes

-- the entries of all calls that were put, in some order
pub record AnswersAll (config : Numbers) (calls : List Due) (put : List Pair) (entries : List Worked) : Type 0 where
  pub given : List Pair
  pub all : IsPermutation put given
  pub made : AllZip (IsEntry config calls) (called given) entries
