-- What a worker has done after one pair more.
use Rattle.std.proofs.Common.{◌≡◌, ℕ, ◌-◌, ◌<◌, List, [], ◌∷◌, ◌++◌, Option, None, Some, Ok, Err, refl, sym, ap, ◌∙◌, subst}
use Rattle.std.specs.Prelude.{Result, IfOk, OnErr, slice_get}
use Rattle.std.specs.List.{All, AllZip}
use Rattle.std.proofs.lemmas.List.Elements.{All-nil, All-push}
use Rattle.std.proofs.lemmas.Option.{same_Some}
use Rattle.job_queue.specs.declared.accounts.Account.{Account}
use Rattle.job_queue.specs.Accounts.{with_given}
use Rattle.module_store.specs.declared.naming.Naming.{Ghosts}
use Rattle.pool_limits.specs.declared.numbers.Numbers.{Numbers}
use Rattle.pool_model.specs.Contents.{Named}
use Rattle.pool_host.specs.declared.host.Host.{Host}
use Rattle.tenant_share.specs.declared.passes.Caller.{Caller}
use Rattle.tenant_share.specs.declared.share_host.ShareHost.{ShareHost}
use Rattle.tenant_share.specs.Tenants.{IsCaller}
use Rattle.call_jobs.specs.declared.calls.Due.{Due}
use Rattle.call_jobs.specs.declared.entries.Worked.{Worked}
use Rattle.call_jobs.specs.Entries.{IsAnswered, IsEntry, Pair}
use Rattle.call_workers.specs.Made.{CallerMade, CallerMadeEntry, MadeEntries, MadeEntry}
use Rattle.call_workers.specs.Passes.{AtHost, OfEachTenant}
use Rattle.call_workers.specs.Taken.{DidWork, WasGiven}
use Rattle.call_workers.proofs.PassLemmas.{has_at_host}
use Rattle.call_jobs.proofs.EntryLemmas.{all_zip_append}
use Rattle.job_queue.proofs.AccountLemmas.{given_none, given_twice}

abbrev Given : Type 0
Given = Account (Option Named)

-- where a call fails, its pair was given
pub gave_then_failed : {A E : Type 0} (r : Result A E) (a b c : Given) (taken : List Pair) (pair : Pair) → b ≡ with_given a taken → c ≡ with_given b (pair ∷ []) → OnErr r (WasGiven a c)
gave_then_failed (Ok x) a b c taken pair had given = tt
gave_then_failed (Err e) a b c taken pair had given = (taken ++ pair ∷ [], given_twice a b c taken (pair ∷ []) had given)

module _ (config : Numbers) (calls : List Due) where
  -- the call of a module, if memory lasted
  pub entry_made : {E : Type 0} (number : ℕ) (due : Due) (m : Named) (r : Result Worked E) → slice_get calls (number - 1) ≡ Some due → due.number ≡ number
      → IfOk r (λ worked. worked.number ≡ due.number) → IfOk r (λ worked. IsAnswered config due.invocation (Some m) worked.answer worked.bytes)
      → IfOk r (IsEntry config calls (number, Some m))
  entry_made number due m (Ok worked) there own is answered = record { number_is = is ∙ own; due = due; due_is = there; answered = answered }
  entry_made number due m (Err e) there own is answered = tt

module _ {N : Type 0} (config : Numbers) (calls : List Due) where
  -- entries one after the other
  made_more : (host : Host N) (tenant : ℕ) (pairs : List Pair) (entries : List Worked) (pair : Pair) (worked : Worked) (before between after : AtHost N)
      → MadeEntries config host tenant calls pairs entries before between → MadeEntry config host tenant calls pair worked between after
      → MadeEntries config host tenant calls (pairs ++ pair ∷ []) (entries ++ worked ∷ []) before after
  made_more host tenant [] [] pair worked before between after h e = (after, subst (λ (p : AtHost N). MadeEntry config host tenant calls pair worked p after) h e, refl)
  made_more host tenant [] (w ∷ entries) pair worked before between after h e = absurd h
  made_more host tenant (p ∷ pairs) [] pair worked before between after h e = absurd h
  made_more host tenant (p ∷ pairs) (w ∷ entries) pair worked before between after (middle, first, rest) e =
      (middle, first, made_more host tenant pairs entries pair worked middle between after rest e)

module _ {N : Type 0} {G : Ghosts N} (config : Numbers) (share : ShareHost N) (calls : List Due) where
  -- ---- one call

  -- without a module the caller's passes are as they were
  pub made_none : (number : ℕ) (worked : Worked) (caller : Caller N G) → IsEntry config calls (number, None) worked
      → CallerMadeEntry config share calls (number, None) worked caller caller
  made_none number worked caller entry = λ tenant host before after there was now.
      let same : after ≡ before = same_Some after before (sym now ∙ was) in record { entry = entry; call = record { own = λ is. same; others = λ not. same } }

  pub made_for_all : {E : Type 0} (number : ℕ) (due : Due) (m : Named) (was now : Caller N G) (r : Result Worked E) → slice_get calls (number - 1) ≡ Some due → due.number ≡ number
      → IfOk r (λ worked. worked.number ≡ due.number) → IfOk r (λ worked. IsAnswered config due.invocation (Some m) worked.answer worked.bytes)
      → IfOk r (λ worked. CallerMade config share due.tenant (Some m) worked.answer was now)
      → IfOk r (λ worked. CallerMadeEntry config share calls (number, Some m) worked was now)
  made_for_all number due m was now (Ok worked) there own is answered made = λ tenant host before after of_tenant had has. record {
    entry = record { number_is = is ∙ own; due = due; due_is = there; answered = answered };
    call = made tenant host before after of_tenant had has;
  }
  made_for_all number due m was now (Err e) there own is answered made = tt

  -- a worker that was given no 0 yet
  pub record IsWorking (before after : Given) (was now : Caller N G) (entries : List Worked) : Type 0 where
    pub taken : List Pair
    pub counted : All (λ (pair : Pair). 0 < pair.0) taken
    pub account_is : after ≡ with_given before taken
    pub entries_are : AllZip (IsEntry config calls) taken entries
    pub made : OfEachTenant share was now (λ tenant host. MadeEntries config host tenant calls taken entries)

  pub begins : (a : Given) (caller : Caller N G) → IsWorking a a caller caller []
  begins a caller = record {
    taken = [];
    counted = All-nil (λ (pair : Pair). 0 < pair.0);
    account_is = given_none a;
    entries_are = tt;
    made = λ tenant host before after there was now. same_Some _ _ (sym now ∙ was);
  }

  module _ (a b : Given) (p q : Caller N G) (entries : List Worked) (h : IsWorking a b p q entries) where
    pub goes_on : (c : Given) (r : Caller N G) (pair : Pair) (worked : Worked) → IsCaller share q → 0 < pair.0 → c ≡ with_given b (pair ∷ []) → IsEntry config calls pair worked
        → CallerMadeEntry config share calls pair worked q r → IsWorking a c p r (entries ++ worked ∷ [])
    goes_on c r pair worked caller counted given entry made = record {
      taken = h.taken ++ pair ∷ [];
      counted = All-push (λ (x : Pair). 0 < x.0) h.taken pair h.counted counted;
      account_is = given_twice a b c h.taken (pair ∷ []) h.account_is given;
      entries_are = all_zip_append (IsEntry config calls) h.taken (pair ∷ []) entries (worked ∷ []) h.entries_are (entry, tt);
      made = λ tenant host before after there was now.
          let (between, is) = has_at_host share q tenant host caller there in
          made_more config calls host tenant h.taken entries pair worked before between after (h.made tenant host before between there was is) (made tenant host between after there is now);
    }

    pub waits : (c : Given) → c ≡ b → IsWorking a c p q entries
    waits c same = record { taken = h.taken; counted = h.counted; account_is = same ∙ h.account_is; entries_are = h.entries_are; made = h.made }

    pub ends : (c : Given) (pair : Pair) → pair.0 ≡ 0 → c ≡ with_given b (pair ∷ []) → DidWork config share calls a c p q entries
    ends c pair none given = record {
      taken = record {
        pairs = h.taken;
        counted = h.counted;
        last = pair.1;
        account_is = given_twice a b c h.taken ((0, pair.1) ∷ []) h.account_is (given ∙ ap (λ (n : ℕ). with_given b ((n, pair.1) ∷ [])) none);
        entries_are = h.entries_are;
      };
      made = h.made;
    }

    pub was_given : WasGiven a b
    was_given = (h.taken, h.account_is)
