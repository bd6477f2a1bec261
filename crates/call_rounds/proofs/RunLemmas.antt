-- A run behind a round, and behind a retire line.
use Rattle.std.proofs.Common.{◌≡◌, ◌≢◌, false, take, ℕ, ◌+◌, ◌≤◌, List, [], ◌∷◌, Option, Some, None, Ok, Err, inl, inr, refl, sym, ap, ◌∙◌, arith, drop, length}
use Rattle.std.specs.Prelude.{All, Bool, IfOk, Result, slice_get}
use Rattle.std.specs.List.{AllZip}
use Rattle.std.proofs.lemmas.Bool.{cases_lt}
use Rattle.std.proofs.lemmas.List.Elements.{length_all_zip}
use Rattle.std.proofs.lemmas.Option.{same_Some, slice_get_within}
use Rattle.retired_tags.specs.declared.tags.RetiredTags.{RetiredTags}
use Rattle.retired_tags.specs.declared.views.TagStep.{TagStep}
use Rattle.retired_tags.specs.Passes.{TagPass, steps}
use Rattle.pool_host.specs.Hosts.{HasShare, IsNewHostPass}
use Rattle.pool_host.specs.Looks.{SetsBit}
use Rattle.module_store.specs.declared.naming.Naming.{Ghosts}
use Rattle.pool_limits.specs.declared.numbers.Numbers.{Numbers}
use Rattle.pool_limits.specs.Shares.{lane_share, shared_share}
use Rattle.pool_model.specs.Contents.{Named}
use Rattle.request_text.specs.declared.request.Directive.{Directive}
use Rattle.request_text.specs.declared.request.Directive.TheVariants.{Call, Module, Retire}
use Rattle.request_text.specs.Text.{Asked, MayRunInSlices, call_count}
use Rattle.tenant_share.specs.Retiring.{RetiredForAll}
use Rattle.tenant_share.specs.Tenants.{IsCaller}
use Rattle.call_workers.specs.declared.members.Crew.{Crew}
use Rattle.call_workers.specs.Crews.{StillKnow}
use Rattle.pool_host.specs.declared.lane.LaneHost.{LaneHost}
use Rattle.slice_workers.specs.declared.crew.SliceCrew.{SliceCrew}
use Rattle.slice_steps.specs.declared.slice_shared.SliceShared.{SliceShared}
use Rattle.slice_workers.specs.Crews.{IsNewSliceCrew}
use Rattle.run_books.specs.declared.books.Books.{Books}
use Rattle.run_books.specs.declared.books.Span.{Span}
use Rattle.call_rounds.specs.declared.modes.Made.{Made}
use Rattle.call_rounds.specs.declared.modes.Made.TheVariants as made
use Rattle.call_rounds.specs.declared.rounds.Run.{Run}
use Rattle.run_books.specs.Entries.{Entry}
use Rattle.call_rounds.specs.Left.{MadeRest}
use Rattle.run_books.specs.Lines.{limits_in}
use Rattle.run_books.specs.Books.{AreBooks, whole_file}
use Rattle.run_books.specs.Due.{dues_from}
use Rattle.call_rounds.specs.Rounds.{AreBooksAfter, AreClosedBooks, AreOfOneRound, AreRetired, CrewKnows, HasCrew, IsReady, IsRun, RunKnows}
use Rattle.call_rounds.specs.Runs.{CarriedOut, CrewRetired, IsMade, IsNewRun, MadeInRounds, MadeInSlices, MadeRound, MadeRounds, books_of}
use Rattle.call_rounds.specs.Worked.{MadeBySlicers}
use Rattle.run_books.proofs.EntryLemmas.{entered_other}
use Rattle.call_rounds.proofs.LaneLemmas.{known_more, retired_later, retired_more, sets_own}
use Rattle.run_books.proofs.PlaceLemmas.{all_calls, call_count-retire, calls_next}

-- the entry at a place is one
pub same_module : (entries : List Entry) (place : ℕ) (e : Entry) (m n : Named) → slice_get entries place ≡ Some e → slice_get entries place ≡ Some (Ok m) → e ≡ Ok n → m ≡ n
same_module entries place e m n there got is = let both : ◌≡◌ {A = Entry} (Ok n) (Ok m) = sym is ∙ same_Some e (Ok m) (sym there ∙ got) in cc

pub lane_retired : (bits : RetiredTags) (entries : List Entry) (all : List Directive) (place of_module : ℕ) (name : List ℕ) (m : Named) (before after : TagPass) (already : Bool)
    → AreRetired entries all place (steps before) → slice_get all place ≡ Some (Retire of_module name) → slice_get entries of_module ≡ Some (Ok m) → SetsBit bits m.tag before after already
    → AreRetired entries all (place + 1) (steps after)
lane_retired bits entries all place of_module name m before after already h line accepted bit =
    retired_more entries all place of_module name m (steps before) (steps after) h line accepted (λ tag has. sets_own bits tag m.tag before after already bit has)

pub lane_later : (entries : List Entry) (all : List Directive) (place : ℕ) (done : List TagStep) → AreRetired entries all place done → AreRetired entries all (place + 1) done
lane_later entries all place done h = retired_later entries entries all place (place + 1) done done h (λ p e got. got) (omega arith) (λ tag has. has)

module _ {N : Type 0} {G : Ghosts N} where
  -- ---- the crew

  pub crew_none : (m : Named) (crew : Option (Crew N G)) → ((it : Crew N G) → crew ≡ Some it → ⊥) → CrewRetired m crew crew
  crew_none m None not = tt
  crew_none m (Some it) not = absurd (not it refl)

  pub crew_there : (config : Numbers) (asked : Asked) (crew : Option (Crew N G)) (it : Crew N G) → HasCrew config asked crew → crew ≡ Some it → IsReady config asked it
  crew_there config asked crew it h is = rw is at h

  pub ready_retired : (config : Numbers) (asked : Asked) (crew : Option (Crew N G)) (before after : Crew N G) (m : Named) → HasCrew config asked crew → crew ≡ Some before
      → All (IsCaller after.shared.share) after.callers.items → AllZip (RetiredForAll before.shared.share m) before.callers.items after.callers.items
      → after.shared ≡ before.shared → IsReady config asked after
  ready_retired config asked crew before after m h is own retired same =
      let ready : IsReady config asked before = crew_there config asked crew before h is in
      let many = length_all_zip (RetiredForAll before.shared.share m) before.callers.items after.callers.items retired in
      let many_are = ready.many in record {
        several = ready.several;
        slots = rw same ready.slots;
        calls_are = ap (λ s. s.calls.items) same ∙ ready.calls_are;
        many = omega arith;
        callers = own;
        few = (let f = ready.few in (omega (arith, f.0), omega (arith, f.1)));
      }

  -- what a crew's callers know
  pub crew_knows : (tag : ℕ) (crew : Option (Crew N G)) (before after : Crew N G) → crew ≡ Some before → StillKnow before.callers.items after.callers.items → CrewKnows tag crew → CrewKnows tag (Some after)
  crew_knows tag crew before after is still knows =
      let knew : CrewKnows tag (Some before) = rw is at knows in still tag knew

  pub crew_still_knows : {A E : Type 0} (r : Result A E) (crew : Option (Crew N G)) (before after : Crew N G) → crew ≡ Some before → IfOk r (λ _. StillKnow before.callers.items after.callers.items)
      → IfOk r (λ _. (tag : ℕ) → CrewKnows tag crew → CrewKnows tag (Some after))
  crew_still_knows (Ok x) crew before after is still = λ tag knows. crew_knows tag crew before after is still knows
  crew_still_knows (Err e) crew before after is still = tt

  pub no_crew_knows : (tag : ℕ) (crew : Option (Crew N G)) → ((it : Crew N G) → crew ≡ Some it → ⊥) → CrewKnows tag crew
  no_crew_knows tag None not = tt
  no_crew_knows tag (Some it) not = absurd (not it refl)

  -- ---- one retire line further

  pub run_further : (config : Numbers) (asked : Asked) (run : Run N G) (lane : LaneHost N G) (crew : Option (Crew N G)) (of_module : ℕ) (name : List ℕ) → IsRun config asked run
      → slice_get asked.directives run.done ≡ Some (Retire of_module name) → lane.host ≡ run.lane.host → HasCrew config asked crew
      → AreRetired run.books.registry.entries.items asked.directives (run.done + 1) (steps lane.pass.retired)
      → ((tag : ℕ) → RunKnows run tag → RunKnows (record run { lane = lane; crew = crew; done = run.done + 1 }) tag)
      → ((m : Named) → slice_get run.books.registry.entries.items of_module ≡ Some (Ok m) → RunKnows (record run { lane = lane; crew = crew; done = run.done + 1 }) m.tag)
      → IsRun config asked (record run { lane = lane; crew = crew; done = run.done + 1 })
  run_further config asked run lane crew of_module name r line same ready retired still own =
      let next = calls_next asked.directives run.done (Retire of_module name) line in record {
        within = (let w = slice_get_within asked.directives run.done (Retire of_module name) line in omega arith);
        calls_are = (let c = r.calls_are in omega (arith, call_count-retire of_module name []));
        books = record { entered = entered_other (limits_in asked.profile config) asked.directives run.done _ _ r.books.entered _ line (λ n b is. cc); lines = r.books.lines };
        slots = rw same r.slots;
        crew = ready;
        retired = retired;
        known = known_more run.books.registry.entries.items asked.directives run.done of_module name (RunKnows run) (RunKnows (record run { lane = lane; crew = crew; done = run.done + 1 }))
            line r.known still own;
      }

  -- ---- all rounds

  module _ (config : Numbers) (asked : Asked) where
    -- what is made of the directives from this place on completes the rounds of all
    abbrev pub RoundsLeft : (at : ℕ) (first now : Run N G) → Type 0
    RoundsLeft at first now = (after : Run N G) → MadeRounds config asked at (drop at asked.directives) now after → MadeRounds config asked 0 asked.directives first after

    -- a retire line follows
    pub rounds_retire : (at place : ℕ) (name : List ℕ) (first run joined retired : Run N G) → RoundsLeft at first run → drop at asked.directives ≡ Retire place name ∷ drop (at + 1) asked.directives
        → MadeRound config asked at run joined → CarriedOut place joined retired → RoundsLeft (at + 1) first retired
    rounds_retire at place name first run joined retired left is made out = λ after rest. left after (rw is (joined, retired, made, out, rest))

    -- or another directive
    rounds_by : (at : ℕ) (d : Directive) (requests : List Directive) (run after : Run N G) → ((place : ℕ) (name : List ℕ) → d ≡ Retire place name → ⊥) → MadeRounds config asked (at + 1) requests run after
        → MadeRounds config asked at (d ∷ requests) run after
    rounds_by at (Module name bytes) requests run after not rest = rest
    rounds_by at (Call tenant place retired invocation) requests run after not rest = rest
    rounds_by at (Retire place name) requests run after not rest = absurd (not place name refl)

    pub rounds_other : (at : ℕ) (d : Directive) (first run : Run N G) → RoundsLeft at first run → drop at asked.directives ≡ d ∷ drop (at + 1) asked.directives
        → ((place : ℕ) (name : List ℕ) → d ≡ Retire place name → ⊥) → RoundsLeft (at + 1) first run
    rounds_other at d first run left is not = λ after rest. left after (rw is (rounds_by at d (drop (at + 1) asked.directives) run after not rest))

    -- the last round was made too
    pub rounds_end : {E : Type 0} (at : ℕ) (first run : Run N G) (r : Result (Run N G) E) → IsNewRun config asked first → RoundsLeft at first run → drop at asked.directives ≡ [] → IfOk r (IsRun config asked)
        → IfOk r (MadeRound config asked (length asked.directives) run) → IfOk r (MadeInRounds config asked)
    rounds_end at first run (Ok after) new left none is_run made = record { began = first; new = new; rounds = left after (rw none made); run_is = is_run; done = made.done }
    rounds_end at first run (Err e) new left none is_run made = tt

  -- ---- all calls

  module _ (config : Numbers) (asked : Asked) where
    pub rounds_closed : (run : Run N G) → MadeInRounds config asked run → AreClosedBooks config asked run.books
    rounds_closed run m =
        let r = m.run_is in
        let calls : run.calls ≡ call_count asked.directives = r.calls_are ∙ (ap (λ (n : ℕ). call_count (take n asked.directives)) m.done ∙ all_calls asked.directives) in
        rw (m.done, calls) at r.books

    pub made_closed : (slice : ℕ) (how : Made N G) → IsMade config asked slice how → AreClosedBooks config asked (books_of how)
    made_closed slice (made.InRounds run) m = rounds_closed run m.1
    made_closed slice (made.InSlices run) m = m.books

    pub sliced_run : (slice : ℕ) (span : Span) (before joined after : Books N) (crew : SliceCrew N G) (shared : SliceShared N) (began lane : LaneHost N G) → config.workers ≢ 1 → slice ≢ 0 → asked.whole ≡ false
        → MayRunInSlices asked.wants asked.directives → IsNewSliceCrew config (shared_share config) (dues_from 1 asked.directives) config.workers crew → shared ≡ crew.shared → HasShare config.warm (lane_share config) began.host → IsNewHostPass began.host began.pass
        → AreBooks config asked 0 0 0 before → MadeBySlicers G config asked shared slice config.workers before joined → span ≡ whole_file asked → lane.host ≡ began.host
        → MadeRest config asked span joined began lane → after.registry ≡ joined.registry → AreBooksAfter config asked span after
        → MadeInSlices config asked slice (record { books = after; shared = shared; lane = lane })
    sliced_run slice span before joined after crew shared began lane several sliced may alone opened shared_is lane_slots new before_are workers whole same rest registry closed =
        let at_end : AreBooks config asked (length asked.directives) (call_count (take (length asked.directives) asked.directives)) (call_count (take (length asked.directives) asked.directives)) after = rw whole at closed in record {
          several = several;
          sliced = sliced;
          may = may;
          alone = alone;
          crew = crew;
          opened = opened;
          shared_is = shared_is;
          lane_slots = rw same lane_slots;
          before = before;
          before_are = before_are;
          joined = joined;
          workers = workers;
          began = began;
          new = new;
          lane = rw whole at rest;
          registry = registry;
          books = rw (all_calls asked.directives) at at_end;
        }

-- the directives from a place up to the next are of one round where the next is no retire line
pub one_round_more : (all : List Directive) (from at : ℕ) (d : Directive) → AreOfOneRound all from at → slice_get all at ≡ Some d → ((place : ℕ) (name : List ℕ) → d ≡ Retire place name → ⊥)
    → AreOfOneRound all from (at + 1)
one_round_more all from at d h here not line of_module name past before line_is = elim (cases_lt line at) [
  | inl earlier ↦ h line of_module name past earlier line_is
  | inr later ↦ (
      let same : line ≡ at = omega arith in
      not of_module name (same_Some d (Retire of_module name) (sym here ∙ ap (slice_get all) (sym same) ∙ line_is))
      )
]

pub one_round_fewer : (all : List Directive) (from to at : ℕ) → AreOfOneRound all from at → to ≤ at → AreOfOneRound all from to
one_round_fewer all from to at h fewer line of_module name past before line_is = h line of_module name past (omega arith) line_is

pub one_round_none : (all : List Directive) (from to : ℕ) → to ≤ from → AreOfOneRound all from to
one_round_none all from to none line of_module name past before line_is = absurd (omega arith)
