-- The passes of workers are joined into one.
use Rattle.std.proofs.Common.{◌≡◌, ℕ, ◌+◌, false, List, [], ◌∷◌, ◌++◌, suc, Option, Some, Ok, Err, refl, sym, ap, ◌∙◌, subst, arith, append-nil}
use Rattle.std.specs.Prelude.{Result, IfOk, Vec, flat_map, length, option_to_list}
use Rattle.std.specs.Global.{Global}
use Rattle.std.specs.List.{AllZip}
use Rattle.std.proofs.lemmas.List.{append_assoc, reverse-append}
use Rattle.job_queue.specs.declared.accounts.Account.{Account}
use Rattle.job_queue.specs.declared.accounts.Terms.{Terms}
use Rattle.job_queue.specs.declared.jobs.Jobs.{Jobs}
use Rattle.job_queue.specs.Accounts.{joined, new_account}
use Rattle.job_queue.specs.Passes.{IsJobPass, JobPass, account_of, given_to}
use Rattle.pool_limits.specs.declared.numbers.Numbers.{Numbers}
use Rattle.pool_model.specs.Contents.{Named}
use Rattle.module_store.specs.declared.naming.Naming.{Ghosts}
use Rattle.tenant_share.specs.declared.passes.Caller.{Caller}
use Rattle.call_jobs.specs.declared.calls.Due.{Due}
use Rattle.call_jobs.specs.declared.entries.Worked.{Worked}
use Rattle.call_workers.specs.declared.members.Done.{Done}
use Rattle.call_workers.specs.declared.members.Worker.{Worker}
use Rattle.call_workers.specs.declared.shared.Shared.{Shared}
use Rattle.call_workers.specs.Crews.{HasJoined, HasWorked, entries_made, given_back}
use Rattle.call_jobs.specs.Entries.{IsEntry, Pair, called, zeros}
use Rattle.call_workers.specs.Taken.{DidWork, HasTaken}
use Rattle.call_jobs.proofs.EndLemmas.{zeros-append, zeros_before_zero}
use Rattle.call_jobs.proofs.EntryLemmas.{all_zip_append, called-append, called_before_zero}

abbrev Given : Type 0
Given = Account (Option Named)

abbrev Own : Type 0
Own = JobPass (Option Named)

module _ (config : Numbers) (jobs : Jobs (Option Named)) (calls : List Due) where
  pub joined_none : (own : Own) → IsJobPass jobs own → given_to own ≡ [] → HasJoined config jobs calls own own 0 []
  joined_none own is none = record {
    own = is;
    share = omega arith;
    put = refl;
    ended = ap zeros none;
    made = subst (λ (given : List Pair). AllZip (IsEntry config calls) (called given) []) (sym none) tt;
  }

  -- one worker's pass more, which was given its calls
  pub joined_more : (before own after : Own) (n k : ℕ) (entries made all : List Worked) (terms : Terms) (a : Given)
      → HasJoined config jobs calls before own n entries → HasTaken config calls (new_account terms false) a made → IsJobPass jobs after
      → account_of after ≡ joined (account_of own) a → n + 1 ≡ k → all ≡ entries ++ made → HasJoined config jobs calls before after k all
  joined_more before own after n k entries made all terms a h d is both next put_behind =
      let share : (account_of after).share ≡ (account_of own).share + a.share = ap (λ (x : Given). x.share) both in
      let put : (account_of after).put ≡ (account_of own).put ++ a.put = ap (λ (x : Given). x.put) both in
      let given : (account_of after).given ≡ (account_of own).given ++ a.given = ap (λ (x : Given). x.given) both in
      let one : a.share ≡ 1 = ap (λ (x : Given). x.share) d.account_is in
      let none : a.put ≡ [] = ap (λ (x : Given). x.put) d.account_is in
      let taken : a.given ≡ d.pairs ++ (0, d.last) ∷ [] = ap (λ (x : Given). x.given) d.account_is in
      let calls_of : called ((account_of own).given ++ a.given) ≡ called ((account_of own).given) ++ d.pairs =
      called-append (account_of own).given a.given ∙ ap (λ (ps : List Pair). called ((account_of own).given) ++ ps) (ap called taken ∙ called_before_zero d.pairs d.last d.counted) in
      record {
        own = is;
        share = let s = h.share in omega arith;
        ended = ap zeros given ∙ (zeros-append (account_of own).given a.given ∙ (let e = h.ended in let one : zeros a.given ≡ 1 = ap zeros taken ∙ zeros_before_zero d.pairs d.last d.counted in omega arith));
        put = put ∙ (ap (λ (ps : List Pair). (account_of own).put ++ ps) none ∙ (append-nil (account_of own).put ∙ h.put));
        made = rw (given, calls_of, put_behind) (all_zip_append (IsEntry config calls) (called ((account_of own).given)) d.pairs entries made h.made d.entries_are);
      }

module _ {N E : Type 0} {G : Ghosts N} (config : Numbers) (shared : Shared N) (jobs : Jobs (Option Named)) (began : Caller N G) (worker : Worker N G) where
  -- a worker whose pass of the queue was new did its work, if memory lasted
  pub has_worked : (before : Given) (r : Result (Vec Worked Global) E) → before ≡ new_account jobs.terms false
      → IfOk r (λ made. DidWork config shared.share shared.calls.items before (account_of worker.own) began worker.caller made.items) → IfOk r (λ made. HasWorked config shared jobs began worker made.items)
  has_worked before (Ok made) is did = subst (λ (a : Given). DidWork config shared.share shared.calls.items a (account_of worker.own) began worker.caller made.items) is did
  has_worked before (Err e) is did = tt

  -- so it was given its calls
  pub has_taken : (r : Result (Vec Worked Global) E) → IfOk r (λ made. HasWorked config shared jobs began worker made.items)
      → IfOk r (λ made. HasTaken config shared.calls.items (new_account jobs.terms false) (account_of worker.own) made.items)
  has_taken (Ok made) did = did.taken
  has_taken (Err e) did = tt

-- ---- what workers gave back

module _ {N : Type 0} {G : Ghosts N} where
  last_first : (done : List (Done N G)) (one : Done N G) → given_back (done ++ one ∷ []) ≡ entries_made one.made ++ given_back done
  last_first done one = ap (flat_map (λ (d : Done N G). entries_made d.made)) (reverse-append done (one ∷ []))

  -- what the last worker made comes behind what those after it made
  pub given_more : (before after : List (Done N G)) (r : Option (Done N G)) (one : Done N G) (entries made all whole : List Worked) → before ≡ after ++ option_to_list r
      → r ≡ Some one → entries_made one.made ≡ made → all ≡ entries ++ made → entries ++ given_back before ≡ whole → all ++ given_back after ≡ whole
  given_more before after r one entries made all whole split is made_is all_is h =
      let parts : before ≡ after ++ one ∷ [] = split ∙ ap (λ (o : Option (Done N G)). after ++ option_to_list o) is in
      let last : given_back before ≡ made ++ given_back after =
      ap given_back parts ∙ (last_first after one ∙ ap (λ (ws : List Worked). ws ++ given_back after) made_is) in
      ap (λ (ws : List Worked). ws ++ given_back after) all_is ∙ (append_assoc entries made (given_back after) ∙ (ap (λ (ws : List Worked). entries ++ ws) (sym last) ∙ h))

  -- once nothing is left of them, these are the entries of all
  pub given_all : (done : List (Done N G)) (entries whole : List Worked) → length done ≡ 0 → entries ++ given_back done ≡ whole → entries ≡ whole
  given_all [] entries whole none h = sym (append-nil entries) ∙ h
  given_all (one ∷ done) entries whole none h = let some : suc (length done) ≡ 0 = none in absurd (omega arith)
