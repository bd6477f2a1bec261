-- What workers did in slices is put together, and the calls that still go round are made to their end.
use Rattle.std.proofs.Common.{◌≡◌, inl, inr, ℕ, ◌+◌, false, List, [], ◌∷◌, ◌++◌, Option, Ok, Err, ap, ◌∙◌, subst, arith, append_assoc, append-nil, length, length-append}
use Rattle.std.specs.Prelude.{Result, OnOk}
use Rattle.std.specs.List.{AllZip}
use Rattle.std.specs.List.Sorted.{IsPermutation}
use Rattle.std.proofs.lemmas.List.Sorted.{IsPermutation-append_comm, IsPermutation-append_left, IsPermutation-trans}
use Rattle.job_queue.specs.declared.accounts.Account.{Account}
use Rattle.job_queue.specs.declared.jobs.Jobs.{Jobs}
use Rattle.job_queue.specs.declared.run_queue.RunAccount.{RunAccount}
use Rattle.job_queue.specs.declared.run_queue.RunQueue.{RunQueue}
use Rattle.job_queue.specs.Accounts.{joined, new_account}
use Rattle.job_queue.specs.Passes.{IsJobPass, JobPass, account_of, given_to, put_by, share_of}
use Rattle.job_queue.specs.RunAccounts.{new_run_account, run_joined, with_run_given, with_run_put}
use Rattle.job_queue.specs.RunPasses.{IsFirstRunPass, IsRunPass, RunPass, run_account_of, run_given_to, run_put_by, run_share}
use Rattle.module_store.specs.declared.naming.Naming.{Ghosts}
use Rattle.pool_limits.specs.declared.numbers.Numbers.{Numbers}
use Rattle.pool_model.specs.Contents.{Named}
use Rattle.pool_host.specs.declared.host.Host.{Host}
use Rattle.pool_host.specs.declared.passes.HostPass.{HostPass}
use Rattle.pool_host.specs.declared.paused.Paused.{Paused}
use Rattle.call_jobs.specs.declared.calls.Due.{Due}
use Rattle.call_jobs.specs.declared.entries.Worked.{Worked}
use Rattle.slice_steps.specs.declared.queued.Queued.{Queued}
use Rattle.slice_steps.specs.declared.queued.Queued.TheVariants as queued
use Rattle.slice_steps.specs.declared.slice_shared.SliceShared.{SliceShared}
use Rattle.call_jobs.specs.Entries.{IsEntry, Pair, called, zeros}
use Rattle.slice_steps.specs.Queued.{IsOfRun, pair_of, paused_pair, pairs_of}
use Rattle.slice_steps.specs.Slices.{DidSlices, IsMade, IsMadeBy}
use Rattle.slice_workers.specs.Crews.{HasIdle}
use Rattle.slice_workers.specs.Sliced.{AreMade, HasSlicedAll, HaveSliced, IsSliced}
use Rattle.slice_workers.proofs.Cancelling.{flat_map_same, without}
use Rattle.call_jobs.proofs.EndLemmas.{zeros-append}
use Rattle.call_jobs.proofs.EntryLemmas.{all_zip_append, called-append}
use Rattle.slice_steps.proofs.SliceLemmas.{both_even, paused_found, pairs_of-append}

-- what is so of each pair of elements
all_zip_of : {A B : Type 0} (R S : A → B → Type 0) → ((x : A) (y : B) → R x y → S x y) → (xs : List A) (ys : List B) → AllZip R xs ys → AllZip S xs ys
all_zip_of R S so [] [] h = tt
all_zip_of R S so [] (y ∷ ys) h = absurd h
all_zip_of R S so (x ∷ xs) [] h = absurd h
all_zip_of R S so (x ∷ xs) (y ∷ ys) h = (so x y h.0, all_zip_of R S so xs ys h.1)

-- entries that workers made in slices are those of all, and are entries
module _ {N : Type 0} (G : Ghosts N) (config : Numbers) (host : Host N) (calls : List Due) (slice : ℕ) where
  pub all_sliced : (made : List Pair) (entries : List Worked) → AllZip (IsMade G config host calls slice slice) made entries → AllZip (IsSliced G config host calls slice) made entries
  all_sliced made entries h =
      all_zip_of (IsMade G config host calls slice slice) (IsSliced G config host calls slice)
      (λ (pair : Pair) (worked : Worked) (m : IsMade G config host calls slice slice pair worked). inl m) made entries h

  entry_of : (pair : Pair) (worked : Worked) → IsSliced G config host calls slice pair worked → IsEntry config calls pair worked
  entry_of pair worked (inl m) = m.made.entry
  entry_of pair worked (inr m) = m.made.entry

  pub all_entries : (made : List Pair) (entries : List Worked) → AllZip (IsSliced G config host calls slice) made entries → AllZip (IsEntry config calls) made entries
  all_entries made entries h = all_zip_of (IsSliced G config host calls slice) (IsEntry config calls) entry_of made entries h

abbrev Given : Type 0
Given = Account (Option Named)

abbrev Own : Type 0
Own = JobPass (Option Named)

module _ {N A : Type 0} {G : Ghosts N} (config : Numbers) (shared : SliceShared N) (queue : RunQueue (Queued N G) A) (slice : ℕ) where
  abbrev calls : List Due
  calls = shared.calls.items

  abbrev Did : Own → RunPass (Queued N G) → List Worked → Type 0
  Did own place made = DidSlices config shared.host calls slice 1 (new_account shared.jobs.terms false) (account_of own) (new_run_account queue.terms) (run_account_of place) made

  abbrev Have : Own → RunPass (Queued N G) → ℕ → List Worked → Type 0
  Have own place n entries = HaveSliced config shared queue slice own place n entries

  -- the first worker's passes, and the pass that put the idle passes
  pub joined_first : (many : ℕ) (own : Own) (first after place : RunPass (Queued N G)) (made : List Worked) → HasIdle queue many first → IsJobPass shared.jobs own → IsRunPass queue after
      → run_account_of after ≡ run_joined (run_account_of first) (run_account_of place) → Did own place made → Have own after 1 made
  joined_first many own first after place made idle is_own is_place both did =
      let given : given_to own ≡ did.taken = ap (λ (a : Given). a.given) did.account_is in
      let taken : run_given_to place ≡ did.work.given = ap (λ (r : RunAccount (Queued N G)). r.given) did.work.run_is in
      let thrown : run_put_by place ≡ did.work.put = ap (λ (r : RunAccount (Queued N G)). r.put) did.work.run_is in
      let all_given : run_given_to after ≡ did.work.given = ap (λ (r : RunAccount (Queued N G)). r.given) both ∙ (ap (λ (xs : List (Queued N G)). xs ++ run_given_to place) idle.given_none ∙ taken) in
      let all_put : pairs_of (run_put_by after) ≡ pairs_of did.work.put =
      ap (λ (r : RunAccount (Queued N G)). pairs_of r.put) both ∙ (pairs_of-append (run_put_by first) (run_put_by place)
      ∙ (ap (λ (ps : List Pair). ps ++ pairs_of (run_put_by place)) idle.idle ∙ ap (λ (xs : List (Queued N G)). pairs_of xs) thrown)) in
      record {
        is_own = is_own;
        is_place = is_place;
        share = ap (λ (a : Given). a.share) did.account_is;
        places = let s : run_share after ≡ run_share first + run_share place = ap (λ (r : RunAccount (Queued N G)). r.share) both in
            let one : run_share place ≡ 1 = ap (λ (r : RunAccount (Queued N G)). r.share) did.work.run_is in let f = idle.share in omega arith;
        puts_none = ap (λ (a : Given). a.put) did.account_is;
        ended = ap zeros given ∙ did.ended;
        made = did.work.made;
        entries_are = all_sliced G config shared.host calls slice did.work.made made did.work.entries_are;
        even = rw (given, all_given, all_put) did.work.even;
      }

  -- one worker's passes more
  pub joined_next : (own after others : Own) (first later place : RunPass (Queued N G)) (n k : ℕ) (entries made all : List Worked) → Have own first n entries → IsJobPass shared.jobs after → IsRunPass queue later
      → account_of after ≡ joined (account_of own) (account_of others) → run_account_of later ≡ run_joined (run_account_of first) (run_account_of place) → Did others place made
      → n + 1 ≡ k → all ≡ entries ++ made → Have after later k all
  joined_next own after others first later place n k entries made all h is_own is_place both run_both did next behind =
      let given : given_to others ≡ did.taken = ap (λ (a : Given). a.given) did.account_is in
      let taken : run_given_to place ≡ did.work.given = ap (λ (r : RunAccount (Queued N G)). r.given) did.work.run_is in
      let thrown : run_put_by place ≡ did.work.put = ap (λ (r : RunAccount (Queued N G)). r.put) did.work.run_is in
      let none : put_by others ≡ [] = ap (λ (a : Given). a.put) did.account_is in
      let all_given : given_to after ≡ given_to own ++ did.taken = ap (λ (a : Given). a.given) both ∙ ap (λ (ps : List Pair). given_to own ++ ps) given in
      let run_given : pairs_of (run_given_to later) ≡ pairs_of (run_given_to first) ++ pairs_of did.work.given =
      ap (λ (r : RunAccount (Queued N G)). pairs_of r.given) run_both ∙ (pairs_of-append (run_given_to first) (run_given_to place) ∙ ap (λ (xs : List (Queued N G)). pairs_of (run_given_to first) ++ pairs_of xs) taken) in
      let run_put : pairs_of (run_put_by later) ≡ pairs_of (run_put_by first) ++ pairs_of did.work.put =
      ap (λ (r : RunAccount (Queued N G)). pairs_of r.put) run_both ∙ (pairs_of-append (run_put_by first) (run_put_by place) ∙ ap (λ (xs : List (Queued N G)). pairs_of (run_put_by first) ++ pairs_of xs) thrown) in
      record {
        is_own = is_own;
        is_place = is_place;
        share = let s : share_of after ≡ share_of own + share_of others = ap (λ (a : Given). a.share) both in
            let one : share_of others ≡ 1 = ap (λ (a : Given). a.share) did.account_is in let f = h.share in omega arith;
        places = let s : run_share later ≡ run_share first + run_share place = ap (λ (r : RunAccount (Queued N G)). r.share) run_both in
            let one : run_share place ≡ 1 = ap (λ (r : RunAccount (Queued N G)). r.share) did.work.run_is in let f = h.places in omega arith;
        puts_none = ap (λ (a : Given). a.put) both ∙ (ap (λ (ps : List Pair). ps ++ put_by others) h.puts_none ∙ none);
        ended = ap zeros all_given ∙ (zeros-append (given_to own) did.taken ∙ (let e = h.ended in let f = did.ended in omega arith));
        made = h.made ++ did.work.made;
        entries_are = rw behind (all_zip_append (IsSliced G config shared.host calls slice) h.made did.work.made entries made h.entries_are (all_sliced G config shared.host calls slice did.work.made made did.work.entries_are));
        even = rw (all_given, called-append (given_to own) did.taken, run_given, run_put)
            (both_even (called (given_to own)) (pairs_of (run_given_to first)) (pairs_of (run_put_by first)) h.made (called did.taken) (pairs_of did.work.given) (pairs_of did.work.put) did.work.made h.even did.work.even);
      }

  -- one worker more, where memory may have been refused
  pub one_more : {V E : Type 0} (own after others : Own) (first later place : RunPass (Queued N G)) (entries made all : List Worked) (r : Result V E)
      → Have own first (share_of own) entries → IsJobPass shared.jobs after → IsRunPass queue later
      → account_of after ≡ joined (account_of own) (account_of others) → run_account_of later ≡ run_joined (run_account_of first) (run_account_of place) → Did others place made
      → OnOk r (all ≡ entries ++ made) → OnOk r (Have after later (share_of after) all)
  one_more own after others first later place entries made all (Ok done) h is_own is_place both run_both did behind =
      let s : share_of after ≡ share_of own + share_of others = ap (λ (a : Given). a.share) both in
      let one : share_of others ≡ 1 = ap (λ (a : Given). a.share) did.account_is in
      joined_next own after others first later place (share_of own) (share_of after) entries made all h is_own is_place both run_both did (omega arith) behind
  one_more own after others first later place entries made all (Err wanting) h is_own is_place both run_both did behind = tt

  -- ---- what still goes round

  abbrev more : RunAccount (Queued N G) → Queued N G → RunAccount (Queued N G)
  more a item = with_run_given a (item ∷ [])

  pub took_idle_pass : (own : Own) (first after : RunPass (Queued N G)) (n : ℕ) (entries : List Worked) (pass : HostPass N G) → Have own first n entries → IsRunPass queue after
      → run_account_of after ≡ more (run_account_of first) (queued.Idle pass) → Have own after n entries
  took_idle_pass own first after n entries pass h is_place took =
      let given : pairs_of (run_given_to after) ≡ pairs_of (run_given_to first) =
      ap (λ (r : RunAccount (Queued N G)). pairs_of r.given) took ∙ (pairs_of-append (run_given_to first) (queued.Idle pass ∷ []) ∙ append-nil (pairs_of (run_given_to first))) in
      let put : run_put_by after ≡ run_put_by first = ap (λ (r : RunAccount (Queued N G)). r.put) took in
      record {
        is_own = h.is_own;
        is_place = is_place;
        share = h.share;
        places = ap (λ (r : RunAccount (Queued N G)). r.share) took ∙ h.places;
        puts_none = h.puts_none;
        ended = h.ended;
        made = h.made;
        entries_are = h.entries_are;
        even = rw (given, put) h.even;
      }

  pub ended_paused : (own : Own) (first after : RunPass (Queued N G)) (n : ℕ) (entries all : List Worked) (paused : Paused N G) (left : Queued N G) (worked : Worked) → Have own first n entries → IsRunPass queue after
      → run_account_of after ≡ more (run_account_of first) (queued.Paused paused) → IsOfRun shared.host calls slice (queued.Paused paused)
      → IsMadeBy config shared.host calls 18446744073709551615 (queued.Paused paused) left (paused_pair paused) worked → all ≡ entries ++ worked ∷ [] → Have own after n all
  ended_paused own first after n entries all paused left worked h is_place took came entry behind =
      let pair : List Pair = paused_pair paused ∷ [] in
      let given : pairs_of (run_given_to after) ≡ pairs_of (run_given_to first) ++ pair =
      ap (λ (r : RunAccount (Queued N G)). pairs_of r.given) took ∙ pairs_of-append (run_given_to first) (queued.Paused paused ∷ []) in
      let put : run_put_by after ≡ run_put_by first = ap (λ (r : RunAccount (Queued N G)). r.put) took in
      let front = append_assoc (called (given_to own)) (pairs_of (run_given_to first)) pair in
      let back = append_assoc (pairs_of (run_put_by first)) h.made pair in
      record {
        is_own = h.is_own;
        is_place = is_place;
        share = h.share;
        places = ap (λ (r : RunAccount (Queued N G)). r.share) took ∙ h.places;
        puts_none = h.puts_none;
        ended = h.ended;
        made = h.made ++ pair;
        entries_are = rw behind (all_zip_append (IsSliced G config shared.host calls slice) h.made pair entries (worked ∷ []) h.entries_are (
          inr (record {
            taken = queued.Paused paused;
            went_round = came;
            left = left;
            made = entry;
            found_slots = paused_found config shared.host calls slice 18446744073709551615 (paused_pair paused) paused left worked.answer entry.answered;
          }),
          tt,
        ));
        even = rw (given, put) (subst (λ (l : List Pair). IsPermutation l (pairs_of (run_put_by first) ++ (h.made ++ pair))) front
            (subst (λ (l : List Pair). IsPermutation ((called (given_to own) ++ pairs_of (run_given_to first)) ++ pair) l) back (IsPermutation-append_left pair _ _ h.even)));
      }

  -- nothing goes round any more
  all_made : (own : Own) (first : RunPass (Queued N G)) (n : ℕ) (entries : List Worked) (h : Have own first n entries) → IsPermutation (run_put_by first) (run_given_to first)
      → IsPermutation (called (given_to own)) h.made
  all_made own first n entries h out =
      let went : IsPermutation (pairs_of (run_put_by first)) (pairs_of (run_given_to first)) = flat_map_same pair_of (run_put_by first) (run_given_to first) out in
      let both : IsPermutation (called (given_to own) ++ pairs_of (run_given_to first)) (h.made ++ pairs_of (run_given_to first)) =
      IsPermutation-trans _ _ _ h.even (IsPermutation-trans _ _ _ (IsPermutation-append_left h.made _ _ went) (IsPermutation-append_comm (pairs_of (run_given_to first)) h.made)) in
      without (pairs_of (run_given_to first)) (called (given_to own)) h.made both

  pub sliced_all : (own : Own) (first : RunPass (Queued N G)) (n : ℕ) (entries : List Worked) → Have own first n entries → IsPermutation (run_put_by first) (run_given_to first)
      → HasSlicedAll config shared.jobs calls own n entries
  sliced_all own first n entries h out = record {
    is_own = h.is_own;
    share = h.share;
    puts_none = h.puts_none;
    ended = h.ended;
    made = h.made;
    all = all_made own first n entries h out;
    entries_are = all_entries G config shared.host calls slice h.made entries h.entries_are;
  }

  pub made_all : (own : Own) (first : RunPass (Queued N G)) (n : ℕ) (entries : List Worked) → Have own first n entries → IsPermutation (run_put_by first) (run_given_to first)
      → AreMade G config shared.host calls slice (called (given_to own)) entries
  made_all own first n entries h out = record { made = h.made; all = all_made own first n entries h out; entries_are = h.entries_are }

-- the pass that put is joined with those of the workers
pub record IsWhole (own others after : Own) (workers : ℕ) : Type 0 where
  pub share : share_of after ≡ share_of own + workers
  pub put : put_by after ≡ put_by own
  pub given : given_to after ≡ given_to others

pub joined_whole : (config : Numbers) (jobs : Jobs (Option Named)) (calls : List Due) (own others after : Own) (workers : ℕ) (entries : List Worked) → HasSlicedAll config jobs calls others workers entries
    → given_to own ≡ [] → account_of after ≡ joined (account_of own) (account_of others) → IsWhole own others after workers
joined_whole config jobs calls own others after workers entries h none both = record {
  share = let s : share_of after ≡ share_of own + share_of others = ap (λ (a : Given). a.share) both in let w = h.share in omega arith;
  put = ap (λ (a : Given). a.put) both ∙ (ap (λ (ps : List Pair). put_by own ++ ps) h.puts_none ∙ append-nil (put_by own));
  given = ap (λ (a : Given). a.given) both ∙ ap (λ (ps : List Pair). ps ++ given_to others) none;
}

-- one idle pass more is put to go round
module _ {N A : Type 0} {G : Ghosts N} (queue : RunQueue (Queued N G) A) where
  pub idle_first : (first : RunPass (Queued N G)) → IsFirstRunPass queue first → HasIdle queue 0 first
  idle_first first new = record {
    own = new.own;
    share = ap (λ (r : RunAccount (Queued N G)). r.share) new.account_is;
    idle = ap (λ (r : RunAccount (Queued N G)). pairs_of r.put) new.account_is;
    many_are = ap (λ (r : RunAccount (Queued N G)). length r.put) new.account_is;
    given_none = ap (λ (r : RunAccount (Queued N G)). r.given) new.account_is;
  }

  pub idle_more : (many : ℕ) (first after : RunPass (Queued N G)) (pass : HostPass N G) → HasIdle queue many first → IsRunPass queue after
      → run_account_of after ≡ with_run_put (run_account_of first) (queued.Idle pass ∷ []) → HasIdle queue (many + 1) after
  idle_more many first after pass h is_place put = record {
    own = is_place;
    share = ap (λ (r : RunAccount (Queued N G)). r.share) put ∙ h.share;
    idle = ap (λ (r : RunAccount (Queued N G)). pairs_of r.put) put
        ∙ (pairs_of-append (run_put_by first) (queued.Idle pass ∷ []) ∙ (append-nil (pairs_of (run_put_by first)) ∙ h.idle));
    many_are = ap (λ (r : RunAccount (Queued N G)). length r.put) put ∙ (length-append (run_put_by first) (queued.Idle pass ∷ []) ∙ ap (λ (n : ℕ). n + 1) h.many_are);
    given_none = ap (λ (r : RunAccount (Queued N G)). r.given) put ∙ h.given_none;
  }
