-- What callers know to be retired, after calls and after retirements.
use Rattle.std.proofs.Common.{◌≡◌, ℕ, List, [], ◌∷◌, Option, None, Some, Ok, Err, ap, option_map, slice_get, subst, sym}
use mathlib.Core.Logic.{dite}
use native.Mathlib.Decide.{ℕ_discrete}
use Rattle.std.specs.Global.{Global}
use Rattle.std.specs.List.{All, AllZip}
use Rattle.std.specs.Prelude.{IfOk, Result, Vec}
use Rattle.std.proofs.lemmas.List.Elements.{All-cons, All-head, All-nil, All-tail}
use Rattle.retired_tags.specs.Passes.{steps}
use Rattle.retired_tags.specs.Steps.{Knows}
use Rattle.job_queue.specs.declared.jobs.Jobs.{Jobs}
use Rattle.module_store.specs.declared.naming.Naming.{Ghosts}
use Rattle.pool_limits.specs.declared.numbers.Numbers.{Numbers}
use Rattle.pool_model.specs.Contents.{Named}
use Rattle.pool_host.specs.declared.answers.Answer.{Answer}
use Rattle.pool_host.specs.declared.host.Host.{Host}
use Rattle.tenant_share.specs.declared.passes.Caller.{Caller}
use Rattle.tenant_share.specs.declared.passes.TenantPass.{TenantPass}
use Rattle.tenant_share.specs.declared.share_host.ShareHost.{ShareHost}
use Rattle.tenant_share.specs.Retiring.{CallerKnows, RetiredForAll}
use Rattle.tenant_share.specs.Tenants.{IsCaller}
use Rattle.tenant_share.proofs.RetiringLemmas.{knows_retired, still_knows, still_knows_others, there_since}
use Rattle.call_jobs.specs.declared.calls.Due.{Due}
use Rattle.call_jobs.specs.declared.entries.Worked.{Worked}
use Rattle.call_jobs.specs.Entries.{Pair}
use Rattle.call_workers.specs.declared.members.Done.{Done}
use Rattle.call_workers.specs.declared.members.Worker.{Worker}
use Rattle.call_workers.specs.declared.shared.Shared.{Shared}
use Rattle.call_workers.specs.Crews.{DoneKnows, HasWorked, IsDone, IsNewWorker, WorkerKnows}
use Rattle.call_workers.specs.Made.{MadeCall, MadeEntries, MadeOn}
use Rattle.call_workers.specs.Passes.{AtHost, OfEachTenant}
use Rattle.call_workers.proofs.PassLemmas.{host_part}

-- ---- retirements

module _ {N : Type 0} {G : Ghosts N} (share : ShareHost N) (m : Named) where
  pub all_know : (was now : List (Caller N G)) → All (IsCaller share) was → All (IsCaller share) now → AllZip (RetiredForAll share m) was now → All (CallerKnows m.tag) now
  all_know [] [] is_was is_now retired = All-nil (CallerKnows m.tag)
  all_know [] (y ∷ ys) is_was is_now retired = absurd retired
  all_know (x ∷ xs) [] is_was is_now retired = absurd retired
  all_know (x ∷ xs) (y ∷ ys) is_was is_now retired =
      All-cons (CallerKnows m.tag) y ys (knows_retired share x y (All-head (IsCaller share) x xs is_was) (All-head (IsCaller share) y ys is_now) m retired.0)
      (all_know xs ys (All-tail (IsCaller share) x xs is_was) (All-tail (IsCaller share) y ys is_now) retired.1)

  pub all_still_know : (tag : ℕ) (was now : List (Caller N G)) → All (IsCaller share) was → All (IsCaller share) now → AllZip (RetiredForAll share m) was now → All (CallerKnows tag) was → All (CallerKnows tag) now
  all_still_know tag [] [] is_was is_now retired knew = All-nil (CallerKnows tag)
  all_still_know tag [] (y ∷ ys) is_was is_now retired knew = absurd retired
  all_still_know tag (x ∷ xs) [] is_was is_now retired knew = absurd retired
  all_still_know tag (x ∷ xs) (y ∷ ys) is_was is_now retired knew =
      All-cons (CallerKnows tag) y ys
      (still_knows_others share x y (All-head (IsCaller share) x xs is_was) (All-head (IsCaller share) y ys is_now) m retired.0 tag (All-head (CallerKnows tag) x xs knew))
      (all_still_know tag xs ys (All-tail (IsCaller share) x xs is_was) (All-tail (IsCaller share) y ys is_now) retired.1 (All-tail (CallerKnows tag) x xs knew))

-- ---- calls

module _ {N : Type 0} (config : Numbers) (host : Host N) (tag : ℕ) where
  call_knows : (m : Option Named) (answer : Option Answer) (before after : AtHost N) → MadeCall config host m answer before after → Knows tag (steps before.tags) → Knows tag (steps after.tags)
  call_knows None answer before after made knows = subst (λ (x : AtHost N). Knows tag (steps x.tags)) (sym made) knows
  call_knows (Some m) None before after made knows = absurd made
  call_knows (Some m) (Some answer) before after made knows = still_knows tag before.tags after.tags _ made.looked.same made.looked.step knows

  entry_knows : (tenant of : ℕ) (m : Option Named) (answer : Option Answer) (before after : AtHost N) → MadeOn config host tenant of m answer before after → Knows tag (steps before.tags)
      → Knows tag (steps after.tags)
  entry_knows tenant of m answer before after made knows = dite (ℕ_discrete of tenant)
      (λ same. call_knows m answer before after (made.own same) knows)
      (λ other. subst (λ (x : AtHost N). Knows tag (steps x.tags)) (sym (made.others other)) knows)

  entries_know : (tenant : ℕ) (calls : List Due) (pairs : List Pair) (entries : List Worked) (before after : AtHost N) → MadeEntries config host tenant calls pairs entries before after
      → Knows tag (steps before.tags) → Knows tag (steps after.tags)
  entries_know tenant calls [] [] before after made knows = subst (λ (x : AtHost N). Knows tag (steps x.tags)) (sym made) knows
  entries_know tenant calls [] (w ∷ entries) before after made knows = absurd made
  entries_know tenant calls (pair ∷ pairs) [] before after made knows = absurd made
  entries_know tenant calls (pair ∷ pairs) (w ∷ entries) before after (between, first, rest) knows =
      entries_know tenant calls pairs entries between after rest (entry_knows tenant first.entry.due.tenant pair.1 w.answer before between first.call knows)

module _ {N : Type 0} {G : Ghosts N} (config : Numbers) (shared : Shared N) (jobs : Jobs (Option Named)) (tag : ℕ) where
  work_knows : {E : Type 0} (began : Caller N G) (worker : Worker N G) (r : Result (Vec Worked Global) E) → IsCaller shared.share began → IsCaller shared.share worker.caller
      → IfOk r (λ made. HasWorked config shared jobs began worker made.items) → CallerKnows tag began → IfOk r (λ made. WorkerKnows tag worker)
  work_knows began worker (Ok made) is_was is_now did knew = λ tenant pass there.
      let since = there_since shared.share began worker.caller is_was is_now tenant pass there in
      entries_know config since.host tag tenant shared.calls.items did.taken.pairs made.items (host_part since.before) (host_part pass)
      (did.made tenant since.host (host_part since.before) (host_part pass) since.of_tenant (ap (option_map host_part) since.there) (ap (option_map host_part) there)) (knew tenant since.before since.there)
  work_knows began worker (Err e) is_was is_now did knew = tt

  done_know : (workers : List (Worker N G)) (done : List (Done N G)) → All (IsNewWorker shared.share jobs) workers → AllZip (IsDone config shared jobs) workers done
      → All (WorkerKnows tag) workers → All (DoneKnows tag) done
  done_know [] [] new are knew = All-nil (DoneKnows tag)
  done_know [] (y ∷ ys) new are knew = absurd are
  done_know (x ∷ xs) [] new are knew = absurd are
  done_know (x ∷ xs) (y ∷ ys) new are knew =
      All-cons (DoneKnows tag) y ys
      (work_knows x.caller y.worker y.made (All-head (IsNewWorker shared.share jobs) x xs new).caller are.0.ended.caller are.0.made (All-head (WorkerKnows tag) x xs knew))
      (done_know xs ys (All-tail (IsNewWorker shared.share jobs) x xs new) are.1 (All-tail (WorkerKnows tag) x xs knew))

-- what workers know once they have ended, where memory lasted
pub all_done_know : {N E : Type 0} {G : Ghosts N} (config : Numbers) (shared : Shared N) (jobs : Jobs (Option Named)) (workers : List (Worker N G)) (r : Result (Vec (Done N G) Global) E)
    → All (IsNewWorker shared.share jobs) workers → IfOk r (λ done. AllZip (IsDone config shared jobs) workers done.items)
    → IfOk r (λ done. (tag : ℕ) → All (WorkerKnows tag) workers → All (DoneKnows tag) done.items)
all_done_know config shared jobs workers (Ok done) new are = λ tag knew. done_know config shared jobs tag workers done.items new are knew
all_done_know config shared jobs workers (Err e) new are = tt
