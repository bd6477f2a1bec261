-- What workers did in slices, one after the other and together.
use Rattle.std.proofs.Common.{◌≡◌, ℕ, suc, ◌+◌, ◌-◌, ◌<◌, false, List, [], ◌∷◌, ◌++◌, Option, None, Some, Ok, Err, length, refl, sym, ap, ◌∙◌, subst, arith, append_assoc, append-nil}
use Rattle.std.specs.Prelude.{◌↔◌, Result, IfOk, OnOk, slice_get}
use Rattle.std.specs.List.{All}
use Rattle.std.specs.List.Sorted.{IsPermutation}
use Rattle.std.proofs.Math.Nat.{suc-mul, zero-mul}
use Rattle.std.proofs.lemmas.Grind.{flat_map-append}
use Rattle.std.proofs.lemmas.List.Elements.{All-append, All-cons, All-nil}
use Rattle.std.proofs.lemmas.List.Sorted.{IsPermutation-append, IsPermutation-append_comm, IsPermutation-append_left, IsPermutation-append_right, IsPermutation-refl, IsPermutation-trans}
use Rattle.wasm_values.specs.declared.outcome.NoMemory.{NoMemory}
use Rattle.wasm_values.specs.declared.outcome.Outcome.{Outcome}
use Rattle.wasm_values.specs.declared.outcome.Val.{Val}
use Rattle.job_queue.specs.declared.accounts.Account.{Account}
use Rattle.job_queue.specs.declared.run_queue.RunAccount.{RunAccount}
use Rattle.job_queue.specs.Accounts.{with_given}
use Rattle.job_queue.specs.RunAccounts.{with_run_given, with_run_put}
use Rattle.job_queue.specs.RunPasses.{FitsWhere}
use Rattle.module_store.specs.declared.naming.Naming.{Ghosts}
use Rattle.retired_tags.specs.Passes.{TagPass}
use Rattle.instance_calls.specs.PausedViews.{PausedView}
use Rattle.pool_limits.specs.declared.numbers.Numbers.{Numbers}
use Rattle.pool_model.specs.Contents.{Named}
use Rattle.pool_model.specs.declared.kinds.Kind.{Kind}
use Rattle.pool_host.specs.declared.answers.Answer.{Answer}
use Rattle.pool_host.specs.declared.answers.Answer.TheVariants as answer
use Rattle.pool_host.specs.declared.host.Host.{Host}
use Rattle.pool_host.specs.declared.passes.HostPass.{HostPass}
use Rattle.pool_host.specs.declared.passes.Passes.{Passes}
use Rattle.pool_host.specs.declared.paused.Paused.{Paused}
use Rattle.pool_host.specs.Hosts.{IsHostPass}
use Rattle.pool_host.specs.Looks.{Looked, refused_look}
use Rattle.pool_host.specs.Pausing.{HasEnded, IsPausedAgain, IsReady, WasRefused}
use Rattle.pool_host.specs.Starting.{refused_answer}
use Rattle.pool_host.specs.Taking.{TookThose}
use Rattle.call_jobs.specs.declared.calls.Due.{Due}
use Rattle.call_jobs.specs.declared.entries.Worked.{Worked}
use Rattle.slice_steps.specs.declared.queued.Queued.{Queued}
use Rattle.slice_steps.specs.declared.queued.Queued.TheVariants as queued
use Rattle.slice_steps.specs.declared.slices.Slice.{Slice}
use Rattle.slice_steps.specs.declared.slices.Tried.TheVariants as tried
use Rattle.slice_steps.specs.declared.pace.Came.{Came}
use Rattle.call_jobs.specs.Entries.{IsEntry, Pair, called}
use Rattle.slice_steps.specs.Queued.{AreIdleOn, HasMadeSlices, IsOfRun, IsOnHost, IsPausedIn, NamesRun, goes_round, pair_of, paused_pair, pairs_of}
use Rattle.slice_steps.specs.Slices.{AnsweredAtOnce, AnsweredBy, DidSlices, GoesOn, GoesRound, HasMore, HasTried, IsMade, IsMadeBy, IsPutBack, IsSliceOf, KeepsEntry, WasAnswered, WorkedOn, ends_of, full_in, full_kind, roomless}
use Rattle.pool_host.proofs.StartLemmas.{look_is, refused_cause, refused_trails}
use Rattle.call_jobs.proofs.EndLemmas.{no_zeros_in, one_zero_in, zeros-append}
use Rattle.job_queue.proofs.AccountLemmas.{given_none, given_twice}
use Rattle.call_jobs.proofs.EntryLemmas.{all_zip_append, called-append, called_one, called_zero}

-- ---- permutations of lists in two parts each

module _ {X : Type 0} where
  -- the inner parts change places
  swapped : (ks bs cs ds : List X) → IsPermutation ((ks ++ bs) ++ (cs ++ ds)) ((ks ++ cs) ++ (bs ++ ds))
  swapped ks bs cs ds =
      let left : (ks ++ bs) ++ (cs ++ ds) ≡ ks ++ ((bs ++ cs) ++ ds) = append_assoc ks bs (cs ++ ds) ∙ ap (λ (l : List X). ks ++ l) (sym (append_assoc bs cs ds)) in
      let right : ks ++ ((cs ++ bs) ++ ds) ≡ (ks ++ cs) ++ (bs ++ ds) = ap (λ (l : List X). ks ++ l) (append_assoc cs bs ds) ∙ sym (append_assoc ks cs (bs ++ ds)) in
      let middle : IsPermutation (ks ++ ((bs ++ cs) ++ ds)) (ks ++ ((cs ++ bs) ++ ds)) = IsPermutation-append_right ks _ _ (IsPermutation-append_left ds _ _ (IsPermutation-append_comm bs cs)) in
      subst (λ (l : List X). IsPermutation l ((ks ++ cs) ++ (bs ++ ds))) (sym left) (subst (λ (l : List X). IsPermutation (ks ++ ((bs ++ cs) ++ ds)) l) right middle)

  -- two balances are one
  pub both_even : (ts gs ps ms us hs qs ns : List X) → IsPermutation (ts ++ gs) (ps ++ ms) → IsPermutation (us ++ hs) (qs ++ ns)
      → IsPermutation ((ts ++ us) ++ (gs ++ hs)) ((ps ++ qs) ++ (ms ++ ns))
  both_even ts gs ps ms us hs qs ns first second =
      IsPermutation-trans _ _ _ (swapped ts us gs hs) (IsPermutation-trans _ _ _ (IsPermutation-append _ _ _ _ first second) (swapped ps ms qs ns))

-- ---- accounts

abbrev Given : Type 0
Given = Account (Option Named)

module _ {T : Type 0} where
  -- it took one item and put one back
  abbrev changed : RunAccount T → (put given : List T) → RunAccount T
  changed was put given = record was { put = was.put ++ put; given = was.given ++ given }

  changed_none : (was : RunAccount T) → was ≡ changed was [] []
  changed_none was = let p = sym (append-nil was.put) in let g = sym (append-nil was.given) in λ i. record was { put = p i; given = g i }

  changed_once : (was between now : RunAccount T) (item back : T) → between ≡ with_run_given was (item ∷ []) → now ≡ with_run_put between (back ∷ []) → now ≡ changed was (back ∷ []) (item ∷ [])
  changed_once was between now item back took put =
      let room : was.room + 1 - 1 ≡ was.room = omega arith in
      put ∙ (ap (λ (p : RunAccount T). with_run_put p (back ∷ [])) took ∙ ap (λ (n : ℕ). record (changed was (back ∷ []) (item ∷ [])) { room = n }) room)

  changed_twice : (was between now : RunAccount T) (ps gs qs hs : List T) → between ≡ changed was ps gs → now ≡ changed between qs hs → now ≡ changed was (ps ++ qs) (gs ++ hs)
  changed_twice was between now ps gs qs hs first second =
      let p = append_assoc was.put ps qs in
      let g = append_assoc was.given gs hs in
      second ∙ (ap (λ (b : RunAccount T). changed b qs hs) first ∙ (λ i. record was { put = p i; given = g i }))

-- what was answered where a kind was full
full_is : (a : Option Answer) (k : Kind) → full_in a ≡ Some k → a ≡ Some (answer.Full k)
full_is None k e = let z : None ≡ Some k = e in absurd (cc)
full_is (Some (answer.Done outcome)) k e = let z : None ≡ Some k = e in absurd (cc)
full_is (Some answer.NoExport) k e = let z : None ≡ Some k = e in absurd (cc)
full_is (Some answer.BadArgs) k e = let z : None ≡ Some k = e in absurd (cc)
full_is (Some answer.Retired) k e = let z : None ≡ Some k = e in absurd (cc)
full_is (Some (answer.Full j)) k e = let z : Some j ≡ Some k = e in let same : j ≡ k = cc in ap (λ (kind : Kind). Some (answer.Full kind)) same

module _ {N : Type 0} {G : Ghosts N} where
  pub pairs_of-append : (xs ys : List (Queued N G)) → pairs_of (xs ++ ys) ≡ pairs_of xs ++ pairs_of ys
  pairs_of-append xs ys = flat_map-append pair_of xs ys

  pair_alone : (item : Queued N G) → pairs_of (item ∷ []) ≡ pair_of item
  pair_alone item = append-nil (pair_of item)

  -- a pass of the host is one at its pools and at its retired tags
  idle_on : (host : Host N) (pass : HostPass N G) → AreIdleOn host pass.passes pass.retired ↔ IsHostPass host pass
  idle_on host pass = (λ (h : AreIdleOn host pass.passes pass.retired). record { pools = h.pools; tags = h.tags }, λ (h : IsHostPass host pass). record { pools = h.pools; tags = h.tags })

  -- what the name of a run admits is what is of the run
  pub names_fit : (host : Host N) (calls : List Due) (slice : ℕ) (idle : Passes N → TagPass → Type 0) (paused : Passes N → TagPass → PausedView → ℕ → Type 0) → NamesRun host calls slice idle paused
      → (item : Queued N G) → goes_round idle paused item ↔ IsOfRun host calls slice item
  names_fit host calls slice idle paused named (queued.Idle pass) =
      let known = named.idle_are pass.passes pass.retired in
      let own = idle_on host pass in
      (λ h. own.0 (known.0 h), λ h. known.1 (own.1 h))
  names_fit host calls slice idle paused named (queued.Paused p) = named.paused_are p.passes p.retired p.running p.number

  -- what came round is of the run
  pub came_round : (fits : Queued N G → Type 0) (host : Host N) (calls : List Due) (slice : ℕ) (item is : Queued N G) → FitsWhere fits (IsOfRun host calls slice) → item ≡ is → fits item
      → IsOfRun host calls slice is
  came_round fits host calls slice item is same came h = (same is).0 (subst fits came h)

  module _ (config : Numbers) (host : Host N) where
    -- ---- how a call began

    -- a call that was refused is answered so
    pub begun_refused : (m : Named) (export : List ℕ) (args : List Val) (before after : HostPass N G) (why : _) → WasRefused config host m export args before.passes after why
        → Looked host.retired.tags m.tag before.retired after.retired (refused_look why) → WasAnswered config host m (refused_answer why) before after
    begun_refused m export args before after why h look = record {
      own = h.own;
      trails = refused_trails config host m export args before.passes after.passes why h.cause;
      full = refused_cause config host m export args before.passes after.passes why h.cause;
      looked = rw (look_is why) look;
    }

    -- ---- what a slice left

    module _ (calls : List Due) where
      -- a call that is answered, whose pass goes round idle
      pub answered_slice : (turns : ℕ) (taken : Queued N G) (pair : Pair) (slice : Slice N G) (pass : HostPass N G) (worked : Worked) → slice.queued ≡ queued.Idle pass
          → slice.entry ≡ Ok (Some worked) → IsHostPass host pass → IsEntry config calls pair worked → AnsweredBy config host turns pair worked.answer taken (queued.Idle pass)
          → IsSliceOf config host calls turns taken pair slice
      answered_slice turns taken pair slice pass worked idle entry own is answered =
          record { fits = rw idle own; goes = rw (idle, entry) (refl, record { entry = is; answered = answered }) }

      -- a call that began
      pub begun_slice : (turns : ℕ) (m : Named) (due : Due) (before : HostPass N G) (after : Paused N G)
          → IsReady config host m due.invocation.export due.invocation.args due.invocation.fuel due.number before.passes after
          → Looked host.retired.tags m.tag before.retired after.retired (Some false) → 0 < due.number → slice_get calls (due.number - 1) ≡ Some due → due.invocation.request ≡ None → due.invocation.shows ≡ false
          → (due.number < 4294967296) × (due.invocation.fuel < 4294967296)
          → IsSliceOf config host calls turns (queued.Idle before) (due.number, Some m) (record { queued = queued.Paused after; entry = Ok None })
      begun_slice turns m due before after h look counted there unsent quiet small = record {
        fits = record {
          pools = h.own.pools;
          tags = h.own.tags;
          call = record {
            counted = rw h.number_is counted;
            due = due;
            due_is = rw h.number_is there;
            unsent = unsent;
            quiet = quiet;
            function = h.function;
            may = rw h.begun.named_is h.may;
            call = record { named_is = refl; function_is = h.begun.function_is; fuel_is = h.begun.fuel_is; args_are = h.begun.args_are };
            small = rw (h.number_is, h.begun.fuel_is) small;
          };
        };
        goes = (rw (h.number_is, h.begun.named_is) refl, record { took = subst (λ (x : Named). TookThose host x before.passes after.passes after.running.ticket after.running.memory after.running.table) (sym h.begun.named_is) h.took; looked = rw h.begun.named_is look; turns_are = h.begun.turns_are });
      }

      -- a call that made a slice and goes on
      pub again_slice : (turns : ℕ) (before after : Paused N G) → IsPausedIn host calls before.passes before.retired before.running before.number → IsPausedAgain config host before turns after
          → IsSliceOf config host calls turns (queued.Paused before) (paused_pair before) (record { queued = queued.Paused after; entry = Ok None })
      again_slice turns before after h again =
          let on = again.more.goes_on in
          let call = h.call in record {
            fits = record {
              pools = again.own.pools;
              tags = again.own.tags;
              call = record {
                counted = rw again.number_is call.counted;
                due = call.due;
                due_is = rw again.number_is call.due_is;
                unsent = call.unsent;
                quiet = call.quiet;
                function = call.function;
                may = rw on.named call.may;
                call = record { named_is = refl; function_is = on.function ∙ call.call.function_is; fuel_is = on.fuel ∙ call.call.fuel_is; args_are = on.args ∙ call.call.args_are };
                small = rw (again.number_is, on.fuel) call.small;
              };
            };
            goes = (rw (again.number_is, on.named) refl, again);
          }

      -- the entry of a call that ended
      pub ended_entry : (turns : ℕ) (before : Paused N G) (outcome : Outcome) (after : HostPass N G) → IsPausedIn host calls before.passes before.retired before.running before.number
          → HasEnded config host before turns outcome after → IsEntry config calls (paused_pair before) (record { number = before.number; answer = Some (answer.Done outcome); bytes = None })
      ended_entry turns before outcome after h ended =
          let call = h.call in record {
            number_is = refl;
            due = call.due;
            due_is = call.due_is;
            answered = (
              after.answer,
              record {
                function = call.function;
                type = call.may.type;
                exported = call.may.exported;
                fit = call.may.fit;
                result = ended.ends.end;
                ends = rw call.unsent (rw (call.call.function_is, call.call.fuel_is, call.call.args_are) at ended.ends.gives);
                shows = ended.ends.ends;
                answers = ended.ends.answers;
              },
              rw call.quiet refl,
            );
          }

      -- a call that was made whole, whose pass goes round idle; its entry is made unless memory is refused
      pub whole_slice : (turns : ℕ) (before : HostPass N G) (m : Named) (pair : Pair) (pass : HostPass N G) (entry : Result (Option Worked) NoMemory) (answer : Answer) (worked : Worked)
          → IfOk entry (λ made. made ≡ Some worked) → pair.1 ≡ Some m → worked.answer ≡ Some answer → IsEntry config calls pair worked → WasAnswered config host m answer before pass
          → IsSliceOf config host calls turns (queued.Idle before) pair (record { queued = queued.Idle pass; entry = entry })
      whole_slice turns before m pair pass (Ok made) answer worked is of so entry answered =
          record { fits = answered.own; goes = rw is (refl, record { entry = entry; answered = rw (of, so) answered }) }
      whole_slice turns before m pair pass (Err wanting) answer worked is of so entry answered = record { fits = answered.own; goes = refl }

      -- ---- a try to begin a call

      full_one : (turns : ℕ) (before : HostPass N G) (pair : Pair) (after : HostPass N G) (entry : Result (Option Worked) NoMemory) (k : Kind) → full_kind entry ≡ Some k
          → GoesRound config host calls turns (queued.Idle before) pair (queued.Idle after) entry → AnsweredAtOnce config host pair.1 (Some (answer.Full k)) before after
      full_one turns before pair after (Ok None) k e goes = let z : None ≡ Some k = e in absurd (cc)
      full_one turns before pair after (Ok (Some worked)) k e goes =
          subst (λ (a : Option Answer). AnsweredAtOnce config host pair.1 a before after) (full_is worked.answer k e) goes.1.answered
      full_one turns before pair after (Err wanting) k e goes = let z : None ≡ Some k = e in absurd (cc)

      -- it was full, and a pass is left
      pub full_tried : (turns : ℕ) (before : HostPass N G) (pair : Pair) (slice : Slice N G) (after : HostPass N G) (k : Kind) → slice.queued ≡ queued.Idle after → full_kind slice.entry ≡ Some k
          → IsSliceOf config host calls turns (queued.Idle before) pair slice → HasTried config host calls turns before pair (tried.Full after k)
      full_tried turns before pair slice after k left full is = (
        subst (λ (q : Queued N G). IsOnHost host calls q) left is.fits,
        full_one turns before pair after slice.entry k full (subst (λ (q : Queued N G). GoesRound config host calls turns (queued.Idle before) pair q slice.entry) left is.goes),
      )

      answered_is_idle : (turns : ℕ) (taken : Queued N G) (pair : Pair) (q : Paused N G) (entry : Result (Option Worked) NoMemory) (k : Kind) → full_kind entry ≡ Some k
          → GoesRound config host calls turns taken pair (queued.Paused q) entry → ⊥
      answered_is_idle turns taken pair q (Ok None) k e goes = let z : None ≡ Some k = e in cc
      answered_is_idle turns taken pair q (Ok (Some worked)) k e goes = let n = ap length goes.0 in omega arith
      answered_is_idle turns taken pair q (Err wanting) k e goes = let n = ap length goes in omega arith

      -- no call is left
      pub full_is_idle : (turns : ℕ) (taken : Queued N G) (pair : Pair) (slice : Slice N G) (q : Paused N G) (k : Kind) → slice.queued ≡ queued.Paused q → full_kind slice.entry ≡ Some k
          → IsSliceOf config host calls turns taken pair slice → ⊥
      full_is_idle turns taken pair slice q k left full is =
          answered_is_idle turns taken pair q slice.entry k full (subst (λ (x : Queued N G). GoesRound config host calls turns taken pair x slice.entry) left is.goes)

      -- of a call that was answered no call is left
      pub never_left : (turns : ℕ) (taken left : Queued N G) (pair : Pair) (worked : Worked) (q : Paused N G) → left ≡ queued.Paused q
          → IsMadeBy config host calls turns taken left pair worked → ⊥
      never_left turns taken left pair worked q is made = subst (λ (x : Queued N G). AnsweredBy config host turns pair worked.answer taken x) is made.answered

      -- but a pass
      pub left_idle : (turns : ℕ) (taken left : Queued N G) (pair : Pair) (worked : Worked) (pass : HostPass N G) → left ≡ queued.Idle pass
          → IsMadeBy config host calls turns taken left pair worked → IsMadeBy config host calls turns taken (queued.Idle pass) pair worked
      left_idle turns taken left pair worked pass is made = subst (λ (x : Queued N G). IsMadeBy config host calls turns taken x pair worked) is made

      -- what is left of what is of the run is of the run: a call has made whole slices
      whole_again : (slice : ℕ) (taken : Queued N G) (q : Paused N G) → IsOfRun host calls slice taken → GoesOn config host slice taken (queued.Paused q) → HasMadeSlices slice q.running
      whole_again slice (queued.Idle pass) q came goes = record { slices = 0; turns_are = goes.turns_are ∙ sym (zero-mul slice) }
      whole_again slice (queued.Paused p) q came goes =
          let was = came.whole.turns_are in
          let now = goes.more.goes_on.turns in
          record { slices = suc came.whole.slices; turns_are = now ∙ (ap (λ (n : ℕ). n + slice) was ∙ sym (suc-mul came.whole.slices slice)) }

      left_of_run : (slice : ℕ) (taken : Queued N G) (pair : Pair) (left : Queued N G) (entry : Result (Option Worked) NoMemory) → IsOfRun host calls slice taken → IsOnHost host calls left
          → GoesRound config host calls slice taken pair left entry → IsOfRun host calls slice left
      left_of_run slice taken pair (queued.Idle pass) entry came own goes = own
      left_of_run slice taken pair (queued.Paused q) (Ok None) came own goes = record { paused = own; whole = whole_again slice taken q came goes.1 }
      left_of_run slice taken pair (queued.Paused q) (Ok (Some worked)) came own goes = let n = ap length goes.0 in absurd (omega arith)
      left_of_run slice taken pair (queued.Paused q) (Err wanting) came own goes = let n = ap length goes in absurd (omega arith)

      pub slice_of_run : (slice : ℕ) (taken : Queued N G) (pair : Pair) (left : Slice N G) → IsOfRun host calls slice taken → IsSliceOf config host calls slice taken pair left
          → IsOfRun host calls slice left.queued
      slice_of_run slice taken pair left came is = left_of_run slice taken pair left.queued left.entry came is.fits is.goes

  -- what workers made in slices is of the calls
  module _ (config : Numbers) (host : Host N) (calls : List Due) (slice : ℕ) where
    -- ---- entries, and what is put back

    -- a paused call was not given up because a kind was full
    pub paused_found : (turns : ℕ) (pair : Pair) (p : Paused N G) (left : Queued N G) (a : Option Answer) → AnsweredBy config host turns pair a (queued.Paused p) left → full_in a ≡ None
    paused_found turns pair p (queued.Paused after) a h = absurd h
    paused_found turns pair p (queued.Idle after) None h = refl
    paused_found turns pair p (queued.Idle after) (Some (answer.Done outcome)) h = refl
    paused_found turns pair p (queued.Idle after) (Some answer.NoExport) h = refl
    paused_found turns pair p (queued.Idle after) (Some answer.BadArgs) h = refl
    paused_found turns pair p (queued.Idle after) (Some answer.Retired) h = refl
    paused_found turns pair p (queued.Idle after) (Some (answer.Full kind)) h = absurd h.1

    never_full : (turns : ℕ) (pair : Pair) (p : Paused N G) (left : Queued N G) (entry : Result (Option Worked) NoMemory) → GoesRound config host calls turns (queued.Paused p) pair left entry
        → full_kind entry ≡ None
    never_full turns pair p left (Ok None) h = refl
    never_full turns pair p left (Ok (Some worked)) h = paused_found turns pair p left worked.answer h.1.answered
    never_full turns pair p left (Err wanting) h = refl

    one_put : (item : Queued N G) → IsPutBack config host calls slice item → All (IsPutBack config host calls slice) (item ∷ [])
    one_put item h = All-cons (IsPutBack config host calls slice) item [] h (All-nil (IsPutBack config host calls slice))

    -- what was left without a call is a pass
    idle_left : (taken item : Queued N G) → pair_of item ≡ [] → GoesOn config host slice taken item
    idle_left taken (queued.Idle pass) none = tt
    idle_left taken (queued.Paused q) none = let n = ap length none in absurd (omega arith)

    -- ---- one thing done

    pub worked_nothing : (was : RunAccount (Queued N G)) → WorkedOn config host calls slice [] was was []
    worked_nothing was = record {
      given = [];
      put = [];
      run_is = changed_none (roomless was);
      put_are = All-nil (IsPutBack config host calls slice);
      made = [];
      entries_are = tt;
      even = IsPermutation-refl [];
    }

    -- this was taken as it went round
    worked_taken : (was between now : RunAccount (Queued N G)) (item : Queued N G) (entries : List Worked) → between ≡ with_run_given was (item ∷ [])
        → WorkedOn config host calls slice (pair_of item) between now entries → WorkedOn config host calls slice [] was now entries
    worked_taken was between now item entries took h =
        let g = append_assoc was.given (item ∷ []) h.given in record {
          given = item ∷ h.given;
          put = h.put;
          run_is = h.run_is ∙ (ap (λ (r : RunAccount (Queued N G)). changed (roomless r) h.put h.given) took
              ∙ (λ i. record (roomless was) { put = was.put ++ h.put; given = g i }));
          put_are = h.put_are;
          made = h.made;
          entries_are = h.entries_are;
          even = h.even;
        }

    -- a pass was put back
    put_pass : (was now : RunAccount (Queued N G)) (pass : HostPass N G) → IsHostPass host pass → now ≡ with_run_put was (queued.Idle pass ∷ []) → WorkedOn config host calls slice [] was now []
    put_pass was now pass own put = record {
      given = [];
      put = queued.Idle pass ∷ [];
      run_is = rw (append-nil was.given) (ap roomless put);
      put_are = one_put (queued.Idle pass) (record { taken = queued.Idle pass; went_round = own; goes_on = tt });
      made = [];
      entries_are = tt;
      even = IsPermutation-refl [];
    }

    -- what a slice of a call left was put back, and its entry was kept
    put_one : (taken : Queued N G) (was now : RunAccount (Queued N G)) (pair : Pair) (item : Queued N G) (entry : Result (Option Worked) NoMemory) (before after : List Worked)
        → IsOfRun host calls slice taken → GoesRound config host calls slice taken pair item entry → full_kind entry ≡ None → now ≡ with_run_put was (item ∷ [])
        → KeepsEntry entry before after → HasMore (WorkedOn config host calls slice (pair ∷ []) was now) before after
    put_one taken was now pair item (Ok None) before after came goes slots put kept =
        let e : pairs_of (item ∷ []) ++ [] ≡ pair ∷ [] = append-nil (pairs_of (item ∷ [])) ∙ (pair_alone item ∙ goes.0) in record {
          more = [];
          after_is = kept ∙ sym (append-nil before);
          so = record {
            given = [];
            put = item ∷ [];
            run_is = rw (append-nil was.given) (ap roomless put);
            put_are = one_put item (record { taken = taken; went_round = came; goes_on = goes.1 });
            made = [];
            entries_are = tt;
            even = subst (λ (l : List Pair). IsPermutation (pair ∷ []) l) (sym e) (IsPermutation-refl (pair ∷ []));
          };
        }
    put_one taken was now pair item (Ok (Some worked)) before after came goes slots put kept =
        let e : pairs_of (item ∷ []) ++ pair ∷ [] ≡ pair ∷ [] = ap (λ (ps : List Pair). ps ++ pair ∷ []) (pair_alone item ∙ goes.0) in record {
          more = worked ∷ [];
          after_is = kept;
          so = record {
            given = [];
            put = item ∷ [];
            run_is = rw (append-nil was.given) (ap roomless put);
            put_are = one_put item (record { taken = taken; went_round = came; goes_on = idle_left taken item goes.0 });
            made = pair ∷ [];
            entries_are = (record { taken = taken; went_round = came; left = item; made = goes.1; found_slots = slots }, tt);
            even = subst (λ (l : List Pair). IsPermutation (pair ∷ []) l) (sym e) (IsPermutation-refl (pair ∷ []));
          };
        }
    put_one taken was now pair item (Err wanting) before after came goes slots put kept = absurd kept

    -- ---- one after the other

    worked_both : (hs ks : List Pair) (was between now : RunAccount (Queued N G)) (first second : List Worked) → WorkedOn config host calls slice hs was between first
        → WorkedOn config host calls slice ks between now second → WorkedOn config host calls slice (hs ++ ks) was now (first ++ second)
    worked_both hs ks was between now first second h g = record {
      given = h.given ++ g.given;
      put = h.put ++ g.put;
      run_is = changed_twice (roomless was) (roomless between) (roomless now) h.put h.given g.put g.given h.run_is g.run_is;
      put_are = All-append (IsPutBack config host calls slice) h.put g.put h.put_are g.put_are;
      made = h.made ++ g.made;
      entries_are = all_zip_append (IsMade G config host calls slice slice) h.made g.made first second h.entries_are g.entries_are;
      even = rw (pairs_of-append h.given g.given, pairs_of-append h.put g.put)
          (both_even hs (pairs_of h.given) (pairs_of h.put) h.made ks (pairs_of g.given) (pairs_of g.put) g.made h.even g.even);
    }

    pub pass_put : (was between now : RunAccount (Queued N G)) (pass : HostPass N G) → IsHostPass host pass → WorkedOn config host calls slice [] was between []
        → now ≡ with_run_put between (queued.Idle pass ∷ []) → WorkedOn config host calls slice [] was now []
    pass_put was between now pass own h put = worked_both [] [] was between now [] [] h (put_pass between now pass own put)

    pub worked_more : (ks : List Pair) (was between now : RunAccount (Queued N G)) (before mid after : List Worked) → HasMore (WorkedOn config host calls slice [] was between) before mid
        → HasMore (WorkedOn config host calls slice ks between now) mid after → HasMore (WorkedOn config host calls slice ks was now) before after
    worked_more ks was between now before mid after h g = record {
      more = h.more ++ g.more;
      after_is = g.after_is ∙ (ap (λ (ws : List Worked). ws ++ g.more) h.after_is ∙ append_assoc before h.more g.more);
      so = worked_both [] ks was between now h.more g.more h.so g.so;
    }

    -- ---- the steps of a worker

    -- nothing came round, and no entry was made
    pub nothing_more : (was now : RunAccount (Queued N G)) (before after : List Worked) → now ≡ was → after ≡ before → HasMore (WorkedOn config host calls slice [] was now) before after
    nothing_more was now before after still same = record { more = []; after_is = same ∙ sym (append-nil before); so = rw still (worked_nothing was) }

    -- a pass came round, and is kept
    pub pass_kept : (was now : RunAccount (Queued N G)) (pass : HostPass N G) (before after : List Worked) → now ≡ with_run_given was (queued.Idle pass ∷ []) → after ≡ before
        → HasMore (WorkedOn config host calls slice [] was now) before after
    pass_kept was now pass before after took same =
        record { more = []; after_is = same ∙ sym (append-nil before); so = worked_taken was now now (queued.Idle pass) [] took (worked_nothing now) }

    -- a call that came round is in hand, and then goes round again or is answered
    pub call_taken : {V E : Type 0} (was between now : RunAccount (Queued N G)) (p : Paused N G) (before mid after : List Worked) (r : Result V E)
        → between ≡ with_run_given was (queued.Paused p ∷ []) → mid ≡ before → OnOk r (HasMore (WorkedOn config host calls slice (paused_pair p ∷ []) between now) mid after)
        → OnOk r (HasMore (WorkedOn config host calls slice [] was now) before after)
    call_taken was between now p before mid after (Ok done) took same h = record {
      more = h.more;
      after_is = h.after_is ∙ ap (λ (ws : List Worked). ws ++ h.more) same;
      so = worked_taken was between now (queued.Paused p) h.more took h.so;
    }
    call_taken was between now p before mid after (Err wanting) took same h = tt

    pub paused_slice : {V E : Type 0} (p : Paused N G) (was now : RunAccount (Queued N G)) (left : Slice N G) (before after : List Worked) (r : Result V E) → IsOfRun host calls slice (queued.Paused p)
        → IsSliceOf config host calls slice (queued.Paused p) (paused_pair p) left → now ≡ with_run_put was (left.queued ∷ []) → OnOk r (KeepsEntry left.entry before after)
        → OnOk r (HasMore (WorkedOn config host calls slice (paused_pair p ∷ []) was now) before after)
    paused_slice p was now left before after (Ok done) came is put kept =
        put_one (queued.Paused p) was now (paused_pair p) left.queued left.entry before after came is.goes (never_full slice (paused_pair p) p left.queued left.entry is.goes) put kept
    paused_slice p was now left before after (Err wanting) came is put kept = tt

    -- a call began, or was answered at once
    pub begun_put : (pass : HostPass N G) (was now : RunAccount (Queued N G)) (pair : Pair) (left : Slice N G) (before mid after : List Worked) → IsHostPass host pass
        → HasTried config host calls slice pass pair (tried.Left left) → now ≡ with_run_put was (left.queued ∷ []) → mid ≡ before → KeepsEntry left.entry mid after
        → HasMore (WorkedOn config host calls slice (pair ∷ []) was now) before after
    begun_put pass was now pair left before mid after own is put same kept =
        put_one (queued.Idle pass) was now pair left.queued left.entry before after own is.0.goes is.1 put (subst (λ (ws : List Worked). KeepsEntry left.entry ws after) same kept)

    -- it took no call
    pub took_no_call : (a b : Given) (was now : RunAccount (Queued N G)) (before after : List Worked) (r : Result Came NoMemory) → b ≡ a → IfOk r (λ came. ends_of came ≡ 0)
        → OnOk r (HasMore (WorkedOn config host calls slice [] was now) before after)
        → IfOk r (λ came. HasMore (DidSlices config host calls slice (ends_of came) a b was now) before after)
    took_no_call a b was now before after (Ok came) same none h =
        record { more = h.more; after_is = h.after_is; so = record { taken = []; account_is = same ∙ given_none a; ended = sym none; work = h.so } }
    took_no_call a b was now before after (Err wanting) same none h = tt

    -- it took a call, which began or was answered
    pub took_call : (a b : Given) (was now : RunAccount (Queued N G)) (before after : List Worked) (pair : Pair) → 0 < pair.0 → b ≡ with_given a (pair ∷ [])
        → HasMore (WorkedOn config host calls slice (pair ∷ []) was now) before after → HasMore (DidSlices config host calls slice 0 a b was now) before after
    took_call a b was now before after pair counted given h = record {
      more = h.more;
      after_is = h.after_is;
      so = record {
        taken = pair ∷ [];
        account_is = given;
        ended = no_zeros_in pair counted;
        work = subst (λ (hs : List Pair). WorkedOn config host calls slice hs was now h.more) (sym (called_one pair counted)) h.so;
      };
    }

    -- it was told to end
    pub told_to_end : (a b : Given) (was : RunAccount (Queued N G)) (before : List Worked) (pair : Pair) → pair.0 ≡ 0 → b ≡ with_given a (pair ∷ [])
        → HasMore (DidSlices config host calls slice 1 a b was was) before before
    told_to_end a b was before pair zeroed given = record {
      more = [];
      after_is = sym (append-nil before);
      so = record {
        taken = pair ∷ [];
        account_is = given;
        ended = one_zero_in pair zeroed;
        work = subst (λ (hs : List Pair). WorkedOn config host calls slice hs was was []) (sym (called_zero pair zeroed)) (worked_nothing was);
      };
    }

    -- ---- the work of a worker

    pub did_nothing : (a : Given) (was : RunAccount (Queued N G)) (before : List Worked) → HasMore (DidSlices config host calls slice 0 a a was was) before before
    did_nothing a was before =
        record { more = []; after_is = sym (append-nil before); so = record { taken = []; account_is = given_none a; ended = refl; work = worked_nothing was } }

    did_both : (n k : ℕ) (a b c : Given) (was between now : RunAccount (Queued N G)) (first second : List Worked) → DidSlices config host calls slice n a b was between first
        → DidSlices config host calls slice k b c between now second → DidSlices config host calls slice (n + k) a c was now (first ++ second)
    did_both n k a b c was between now first second h g = record {
      taken = h.taken ++ g.taken;
      account_is = given_twice a b c h.taken g.taken h.account_is g.account_is;
      ended = zeros-append h.taken g.taken ∙ (let e = h.ended in let f = g.ended in omega arith);
      work = subst (λ (hs : List Pair). WorkedOn config host calls slice hs was now (first ++ second)) (sym (called-append h.taken g.taken))
          (worked_both (called h.taken) (called g.taken) was between now first second h.work g.work);
    }

    pub did_more : (n k m : ℕ) (a b c : Given) (was between now : RunAccount (Queued N G)) (before mid after : List Worked) → HasMore (DidSlices config host calls slice n a b was between) before mid
        → HasMore (DidSlices config host calls slice k b c between now) mid after → n + k ≡ m → HasMore (DidSlices config host calls slice m a c was now) before after
    did_more n k m a b c was between now before mid after h g sum = record {
      more = h.more ++ g.more;
      after_is = g.after_is ∙ (ap (λ (ws : List Worked). ws ++ g.more) h.after_is ∙ append_assoc before h.more g.more);
      so = subst (λ (ends : ℕ). DidSlices config host calls slice ends a c was now (h.more ++ g.more)) sum (did_both n k a b c was between now h.more g.more h.so g.so);
    }

    -- it worked on what went round, when it had been told to end
    pub helped : {V E : Type 0} (a b c : Given) (was between now : RunAccount (Queued N G)) (before mid after : List Worked) (r : Result V E)
        → HasMore (DidSlices config host calls slice 1 a b was between) before mid → c ≡ b → OnOk r (HasMore (WorkedOn config host calls slice [] between now) mid after)
        → OnOk r (HasMore (DidSlices config host calls slice 1 a c was now) before after)
    helped a b c was between now before mid after (Ok done) h same g =
        let sum : 1 + 0 ≡ 1 = omega arith in
        did_more 1 0 1 a b c was between now before mid after h
        (record { more = g.more; after_is = g.after_is; so = record { taken = []; account_is = same ∙ given_none b; ended = refl; work = g.so } }) sum
    helped a b c was between now before mid after (Err wanting) h same g = tt

    -- its passes are put back, and it had no entry before
    pub all_put_back : (a b : Given) (was between now : RunAccount (Queued N G)) (before after : List Worked) → before ≡ [] → HasMore (DidSlices config host calls slice 1 a b was between) before after
        → WorkedOn config host calls slice [] between now [] → DidSlices config host calls slice 1 a b was now after
    all_put_back a b was between now before after none h g =
        let sum : 1 + 0 ≡ 1 = omega arith in
        let e : after ≡ h.more ++ [] = h.after_is ∙ (ap (λ (ws : List Worked). ws ++ h.more) none ∙ sym (append-nil h.more)) in
        subst (λ (ws : List Worked). DidSlices config host calls slice 1 a b was now ws) (sym e)
        (subst (λ (ends : ℕ). DidSlices config host calls slice ends a b was now (h.more ++ [])) sum
        (did_both 1 0 a b b was between now h.more [] h.so (record { taken = []; account_is = given_none b; ended = refl; work = g })))
