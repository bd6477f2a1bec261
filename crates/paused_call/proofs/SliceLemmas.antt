-- Slices of a call, of which the start function may end in one.
use Rattle.std.proofs.Common.{◌≡◌, ℕ, ◌+◌, ◌-◌, ◌*◌, ◌<◌, ◌≤◌, Bool, true, false, true≢false, List, [], Option, Some, None, refl, sym, ap, ◌∙◌, subst, arith}
use Rattle.std.specs.Prelude.{is_some, unwrap_or}
use Rattle.wasm_types.specs.declared.module.Module.{Module}
use Rattle.wasm_values.specs.declared.outcome.Outcome.{Outcome}
use Rattle.wasm_values.specs.declared.outcome.Outcome.TheVariants as outcome
use Rattle.wasm_values.specs.declared.outcome.Val.{Val}
use Rattle.wasm_types.specs.Tree.{ModuleTree, module_tree}
use Rattle.wasm_spec.specs.MoreFuel.{is_fuel, is_fuel_end, with_more}
use Rattle.wasm_spec.specs.Execution.{Ended, Terms}
use Rattle.wasm_spec.specs.Result.{CallResult, after_start, function_result, if_done, result_from, result_of, run_function}
use Rattle.wasm_spec.specs.Store.{Store}
use Rattle.wasm_spec.proofs.MoreFuel.{if_done_by, function-more, result-more}
use Rattle.wasm_spec.proofs.ResultLaws.{result-unfinished}
use Rattle.linear_memory.specs.declared.memory.Memory.{Memory}
use Rattle.memory_blocks.specs.Blocks.{KeepsUnmarked}
use Rattle.memory_blocks.proofs.KeepingLemmas.{unmarked_more}
use Rattle.wasm_machine.specs.Calls.{IsCall, IsDone}
use Rattle.wasm_machine.specs.Lent.{MarksWithin}
use Rattle.wasm_machine.specs.Resuming.{HasEnded, IsOutOfFuel, Resumes}
use Rattle.wasm_machine.specs.Room.{Room, StacksView}
use Rattle.wasm_machine.specs.Simulation.{after}
use Rattle.wasm_machine.specs.TypedConfiguration.{IsTypedStore}
use Rattle.wasm_machine.proofs.RunLemmas.{simulates_same}
use Rattle.paused_call.specs.declared.call.PausedCall.{PausedCall}
use Rattle.paused_call.specs.declared.call.SliceEnd.TheVariants.{Done}
use Rattle.paused_call.specs.Fuel.{left_in}
use Rattle.paused_call.specs.Standing.{Current, HasTurned, IsAhead, IsAt, Ran, ShowsStore, Stands, Waits, Went, ahead, followed, whole}

-- ---- what follows a run

module _ (export : Store → ℕ → Option CallResult) where
  stops : (o : Outcome) (r : CallResult) → is_fuel o ≡ true → if_done_by o r export ≡ Some r
  stops outcome.Fuel r e = refl
  stops (outcome.Done v) r e = absurd (true≢false (sym e))
  stops (outcome.Trap t) r e = absurd (true≢false (sym e))

  unfinished : (o : Option CallResult) → is_fuel_end o ≡ true → if_done o export ≡ o
  unfinished None e = refl
  unfinished (Some r) e = stops r.outcome r e

  stopped : (o : Outcome) (r : CallResult) → ¬ (IsDone o) → if_done_by o r export ≡ Some r
  stopped outcome.Fuel r other = refl
  stopped (outcome.Done v) r other = absurd (other tt)
  stopped (outcome.Trap t) r other = refl

  goes_on : (o : Outcome) (r : CallResult) → IsDone o → if_done_by o r export ≡ export r.store r.fuel
  goes_on outcome.Fuel r done = absurd done
  goes_on (outcome.Done v) r done = refl
  goes_on (outcome.Trap t) r done = absurd done

-- what a run came to that comes to this on more fuel
record Earlier (o : Option CallResult) (d : ℕ) (first : CallResult) : Type 0 where
  pub end : CallResult
  pub is : o ≡ Some end
  pub outcome_is : end.outcome ≡ first.outcome
  pub store_is : end.store ≡ first.store
  pub fuel_is : end.fuel + d ≡ first.fuel

earlier : (o : Option CallResult) (d : ℕ) (first : CallResult) → with_more d o ≡ Some first → Earlier o d first
earlier None d first e = absurd (cc)
earlier (Some b) d first e = record {
  end = b;
  is = refl;
  outcome_is = ap (λ (p : Option CallResult). (unwrap_or p first).outcome) e;
  store_is = ap (λ (p : Option CallResult). (unwrap_or p first).store) e;
  fuel_is = ap (λ (p : Option CallResult). (unwrap_or p first).fuel) e;
}

-- ---- marks

marks_on : (a b : List ℕ) (x y z : List Bool) (mid new : List ℕ) → KeepsUnmarked mid new y z → KeepsUnmarked a b x y → KeepsUnmarked a b x z
marks_on a b x y z mid new more k = record { bytes = λ i u. k.bytes i (more.marks i u); marks = λ i u. k.marks i (more.marks i u) }

-- ---- one run, and what follows it

-- the run of a function that gives more of the same on more fuel
abbrev Grows : (ℕ → Option CallResult) → Type 0
Grows run = (t d : ℕ) → is_fuel_end (run t) ≡ false → run (t + d) ≡ with_more d (run t)

runs_grow : (m : ModuleTree) (limits : Terms) (x : ℕ) (args : List Val) (from : Store) (spent : ℕ) → Grows (λ t. function_result m limits x args from (spent + t))
runs_grow m limits x args from spent t d e =
    ap (λ (n : ℕ). function_result m limits x args from n) (omega arith) ∙ function-more d m limits x args from (spent + t) e

module _ (export : Store → ℕ → Option CallResult) (run : ℕ → Option CallResult) (grows : Grows run) (n : ℕ) (first : CallResult) (is : run n ≡ Some first) where
  -- it did not end well, or nothing follows
  alone_gives : (b : Bool) → (b ≡ true → ¬ (IsDone first.outcome)) → followed b export (run n) ≡ Some first
  alone_gives true other = ap (λ (o : Option CallResult). if_done o export) is ∙ stopped export first.outcome first (other refl)
  alone_gives false other = is

  alone_before : (t : ℕ) → t ≤ n → ¬ (IsDone first.outcome) → if_done (run t) export ≡ run t
  alone_before t le other =
      let split : (b : Bool) → is_fuel_end (run t) ≡ b → if_done (run t) export ≡ run t = elim [
        | true ↦ λ e. unfinished export (run t) e
        | false ↦ λ e.
            let sum : t + (n - t) ≡ n = omega arith in
            let same = earlier (run t) (n - t) first (sym (grows t (n - t) e) ∙ ap run sum ∙ is) in
            let not : ¬ (IsDone same.end.outcome) = λ done. other (subst IsDone same.outcome_is done) in
            ap (λ (o : Option CallResult). if_done o export) same.is ∙ stopped export same.end.outcome same.end not ∙ sym same.is
      ] in split (is_fuel_end (run t)) refl

  alone_at : (b : Bool) (t : ℕ) → t ≤ n → (b ≡ true → ¬ (IsDone first.outcome)) → followed b export (run t) ≡ run t
  alone_at true t le other = alone_before t le (other refl)
  alone_at false t le other = refl

  -- It ended well, so that before it did the whole call waited or came to what the run gives, and from then on it comes to what follows.
  both_at : (t : ℕ) (x : CallResult) → t ≤ n → IsDone first.outcome → if_done (run t) export ≡ Some x
      → (Target : Type 0) → (run t ≡ Some x → Target) → ((left : ℕ) → left + (n - t) ≡ first.fuel → export first.store left ≡ Some x → Target) → Target
  both_at t x le done e Target before after =
      let split : (b : Bool) → is_fuel_end (run t) ≡ b → Target = elim [
        | true ↦ λ h. before (sym (unfinished export (run t) h) ∙ e)
        | false ↦ λ h.
            let sum : t + (n - t) ≡ n = omega arith in
            let same = earlier (run t) (n - t) first (sym (grows t (n - t) h) ∙ ap run sum ∙ is) in
            after same.end.fuel same.fuel_is (
            ap (λ (s : Store). export s same.end.fuel) (sym same.store_is)
            ∙ sym (goes_on export same.end.outcome same.end (subst IsDone (sym same.outcome_is) done))
            ∙ ap (λ (o : Option CallResult). if_done o export) (sym same.is) ∙ e
            )
      ] in split (is_fuel_end (run t)) refl

-- ---- answers

pub out_is_fuel : (o : Outcome) → IsOutOfFuel o → is_fuel o ≡ true
out_is_fuel outcome.Fuel out = refl
out_is_fuel (outcome.Done v) out = absurd out
out_is_fuel (outcome.Trap t) out = absurd out

pub fuel_is_out : (o : Outcome) → is_fuel o ≡ true → IsOutOfFuel o
fuel_is_out outcome.Fuel e = tt
fuel_is_out (outcome.Done v) e = absurd (true≢false (sym e))
fuel_is_out (outcome.Trap t) e = absurd (true≢false (sym e))

pub not_fuel : (o : Outcome) → (o ≡ outcome.Fuel → ⊥) → is_fuel o ≡ false
not_fuel outcome.Fuel other = absurd (other refl)
not_fuel (outcome.Done v) other = refl
not_fuel (outcome.Trap t) other = refl

pub not_done : (o : Outcome) → ((v : Option Val) → o ≡ outcome.Done v → ⊥) → ¬ (IsDone o)
not_done (outcome.Done v) other = λ done. other v refl
not_done (outcome.Trap t) other = λ done. done
not_done outcome.Fuel other = λ done. done

pub is_done : (o : Outcome) (v : Option Val) → o ≡ outcome.Done v → IsDone o
is_done o v e = subst IsDone (sym e) tt

done_ended : (o : Outcome) → IsDone o → HasEnded o
done_ended (outcome.Done v) done = tt
done_ended (outcome.Trap t) done = absurd done
done_ended outcome.Fuel done = absurd done

-- ---- the function at work

module _ (m : Module) (limits : Terms) (begun : Store) (args : List Val) (call : PausedCall) (store : Store) (h : IsAhead m limits begun args call store) where
  -- what a call that has not begun comes to from this store
  pub whole_from : (more : ℕ) → whole m limits call args begun (0 + more) ≡ after_start (module_tree m) limits m.start (function_result (module_tree m) limits call.function args) store more
  whole_from more =
      let none : 0 + more ≡ more = omega arith in
      ap (whole m limits call args begun) none
      ∙ ap (λ (s : Store). result_from (module_tree m) limits call.function args s more) (sym h.store_is)

  -- the start function is its first
  abbrev pub first_start : (start : ℕ) → m.start ≡ Some start → Current m limits begun args call
  first_start start is = record {
    runs = start;
    given = [];
    since = 0;
    from = store;
    before = omega arith;
    comes = λ more. whole_from more
        ∙ ap (λ (o : Option ℕ). after_start (module_tree m) limits o (function_result (module_tree m) limits call.function args) store more) is
        ∙ ap (λ (b : Bool). followed b (function_result (module_tree m) limits call.function args) (function_result (module_tree m) limits start [] store more)) (sym (h.starts_is ∙ ap (λ (o : Option ℕ). is_some o) is));
  }

  -- and where there is none, the export
  abbrev pub first_export : m.start ≡ None → Current m limits begun args call
  first_export none = record {
    runs = call.function;
    given = args;
    since = 0;
    from = store;
    before = omega arith;
    comes = λ more. whole_from more
        ∙ ap (λ (o : Option ℕ). after_start (module_tree m) limits o (function_result (module_tree m) limits call.function args) store more) none
        ∙ ap (λ (b : Bool). followed b (function_result (module_tree m) limits call.function args) (function_result (module_tree m) limits call.function args store more)) (sym (h.starts_is ∙ ap (λ (o : Option ℕ). is_some o) none));
  }

-- a run of it from its beginning
module _ (m : Module) (limits : Terms) (begun : Store) (args : List Val) (call : PausedCall) (f : Current m limits begun args call) (first : call.turns ≡ f.since) where
  from_first : (more : ℕ) → run_function (module_tree m) limits f.runs f.given f.from more ≡ ahead m limits begun args call f more
  from_first more =
      let same : more ≡ call.turns - f.since + more = omega (arith, first) in
      ap (λ (k : ℕ). run_function (module_tree m) limits f.runs f.given f.from k) same

  pub ran_first : (fuel : ℕ) (old new : Memory) (stacks : StacksView) (end : CallResult) → function_result (module_tree m) limits f.runs f.given f.from fuel ≡ Some end
      → (HasEnded end.outcome → (more : ℕ) → function_result (module_tree m) limits f.runs f.given f.from (fuel - end.fuel + more) ≡ Some (record end { fuel = more }))
      → (IsOutOfFuel end.outcome → Resumes m limits stacks end.store (after fuel (run_function (module_tree m) limits f.runs f.given f.from)))
      → ((turns : ℕ) (x : CallResult) → turns ≤ fuel → function_result (module_tree m) limits f.runs f.given f.from turns ≡ Some x → KeepsUnmarked old.bytes.items x.store.memory old.marks.items new.marks.items)
      → Ran m limits begun args call fuel old new stacks end
  ran_first fuel old new stacks end gives ended stands marked = record {
    current = f;
    gives = ap result_of (sym (from_first fuel)) ∙ gives;
    ended = λ over more. ap result_of (sym (from_first (fuel - end.fuel + more))) ∙ ended over more;
    stands = λ out. simulates_same m limits stacks.room.frame stacks.machine end.store (after fuel (run_function (module_tree m) limits f.runs f.given f.from)) (after fuel (ahead m limits begun args call f))
        (λ g. from_first (fuel + g)) (stands out);
    marked = λ turns x le e. marked turns x le (ap result_of (from_first turns) ∙ e);
  }

-- ---- a slice of one run

module _ (m : Module) (limits : Terms) (begun : Store) (args : List Val) (call : PausedCall) (stacks : StacksView) (store : Store) (h : Stands m limits begun args call stacks store)
    (n : ℕ) (old mid : Memory) (standing : StacksView) (end : CallResult) (ran : Ran m limits begun args call n old mid standing end) where
  abbrev here : ℕ → Ended
  here = ahead m limits begun args call ran.current

  abbrev running : ℕ → Option CallResult
  running more = result_of (here more)

  abbrev export : Store → ℕ → Option CallResult
  export = function_result (module_tree m) limits call.function args

  whole_at : (t : ℕ) → whole m limits call args begun (call.turns + t) ≡ followed call.starts export (running t)
  whole_at t = let le = ran.current.before in
      let sum : call.turns + t ≡ ran.current.since + (call.turns - ran.current.since + t) = omega arith in
      ap (whole m limits call args begun) sum ∙ ran.current.comes (call.turns - ran.current.since + t)

  grows : Grows running
  grows = runs_grow (module_tree m) limits ran.current.runs ran.current.given ran.current.from (call.turns - ran.current.since)

  -- where it ends there for want of fuel, this is its store
  shows_there : (last : CallResult) → is_fuel last.outcome ≡ true → whole m limits call args begun (call.turns + n) ≡ Some last → ShowsStore (whole m limits call args begun) begun (call.turns + n) last.store
  shows_there last out gives = record {
    first = λ none. result-unfinished (module_tree m) limits call.function args begun last out (ap (whole m limits call args begun) (sym none) ∙ gives);
    later = λ some. record { end = last; gives = gives; unfinished = out; leaves = refl };
  }

  module _ (other : call.starts ≡ true → ¬ (IsDone end.outcome)) where
    pub one_gives : whole m limits call args begun (call.turns + n) ≡ Some end
    one_gives = whole_at n ∙ alone_gives export running grows n end ran.gives call.starts other

    pub one_stands : IsOutOfFuel end.outcome → call.turns + n ≤ call.fuel → standing.room ≡ stacks.room
        → Stands m limits begun args (record call { turns = call.turns + n; entered = true }) standing end.store
    one_stands out within room = let f = ran.current in record {
      is_call = h.is_call;
      deep = h.deep;
      frames = subst (λ (r : Room). limits.depth ≤ r.depth) (sym room) h.frames;
      within = within;
      typed = (ran.stands out).stored;
      at = record {
        current = record { runs = f.runs; given = f.given; since = f.since; from = f.from; before = let le = f.before in omega arith; comes = f.comes };
        resumes = simulates_same m limits standing.room.frame standing.machine end.store (after n here) _
            (λ g. let le = f.before in ap (λ (k : ℕ). run_function (module_tree m) limits f.runs f.given f.from k) (omega arith)) (ran.stands out);
      };
      shows = shows_there end (out_is_fuel end.outcome out) one_gives;
    }

    pub one_marked : (turns : ℕ) (x : CallResult) → call.turns ≤ turns → turns ≤ call.turns + n → whole m limits call args begun turns ≡ Some x
        → KeepsUnmarked old.bytes.items x.store.memory old.marks.items mid.marks.items
    one_marked turns x from to e =
        let t : ℕ = turns - call.turns in
        let at : turns ≡ call.turns + t = omega arith in
        let le : t ≤ n = omega arith in
        ran.marked t x le (sym (alone_at export running grows n end ran.gives call.starts t le other) ∙ sym (whole_at t) ∙ ap (whole m limits call args begun) (sym at) ∙ e)

  -- ---- a slice in which the start function ends well, and what follows it

  module _ (starts : call.starts ≡ true) (done : IsDone end.outcome) (le : end.fuel ≤ n) where
    -- from its end on the call is the export's run
    after_it : (more : ℕ) → whole m limits call args begun (call.turns + (n - end.fuel) + more) ≡ export end.store more
    after_it more =
        ap (whole m limits call args begun) (omega arith) ∙ whole_at (n - end.fuel + more)
        ∙ ap (λ (b : Bool). followed b export (running (n - end.fuel + more))) starts
        ∙ ap (λ (o : Option CallResult). if_done o export) (ran.ended (done_ended end.outcome done) more)
        ∙ goes_on export end.outcome (record end { fuel = more }) done

    pub both_give : (last : CallResult) → export end.store end.fuel ≡ Some last → whole m limits call args begun (call.turns + n) ≡ Some last
    both_give last e = ap (whole m limits call args begun) (omega arith) ∙ after_it end.fuel ∙ e

    pub both_stand : (last : CallResult) (new : StacksView) → IsOutOfFuel last.outcome → export end.store end.fuel ≡ Some last → call.turns + n ≤ call.fuel → new.room ≡ stacks.room
        → Resumes m limits new last.store (after end.fuel (run_function (module_tree m) limits call.function args end.store))
        → Stands m limits begun args (record { function = call.function; fuel = call.fuel; turns = call.turns + n; starts = false; entered = true }) new last.store
    both_stand last new out e within room resumes = record {
      is_call = h.is_call;
      deep = h.deep;
      frames = subst (λ (r : Room). limits.depth ≤ r.depth) (sym room) h.frames;
      within = within;
      typed = resumes.stored;
      at = record {
        current = record { runs = call.function; given = args; since = call.turns + (n - end.fuel); from = end.store; before = omega arith; comes = after_it };
        resumes = simulates_same m limits new.room.frame new.machine last.store (after end.fuel (run_function (module_tree m) limits call.function args end.store)) _
            (λ g. ap (λ (k : ℕ). run_function (module_tree m) limits call.function args end.store k) (omega arith)) resumes;
      };
      shows = shows_there last (out_is_fuel last.outcome out) (both_give last e);
    }

    pub both_marked : (new : Memory) → KeepsUnmarked old.bytes.items mid.bytes.items old.marks.items mid.marks.items
        → KeepsUnmarked mid.bytes.items new.bytes.items mid.marks.items new.marks.items
        → ((t : ℕ) (x : CallResult) → t ≤ end.fuel → export end.store t ≡ Some x → KeepsUnmarked mid.bytes.items x.store.memory mid.marks.items new.marks.items)
        → (turns : ℕ) (x : CallResult) → call.turns ≤ turns → turns ≤ call.turns + n → whole m limits call args begun turns ≡ Some x
        → KeepsUnmarked old.bytes.items x.store.memory old.marks.items new.marks.items
    both_marked new first more late turns x from to e =
        let t : ℕ = turns - call.turns in
        let at : turns ≡ call.turns + t = omega arith in
        let less : t ≤ n = omega arith in
        let there : if_done (running t) export ≡ Some x =
        ap (λ (b : Bool). followed b export (running t)) (sym starts) ∙ sym (whole_at t) ∙ ap (whole m limits call args begun) (sym at) ∙ e in
        both_at export running grows n end ran.gives t x less done there (KeepsUnmarked old.bytes.items x.store.memory old.marks.items new.marks.items)
        (λ same. marks_on old.bytes.items x.store.memory old.marks.items mid.marks.items new.marks.items mid.bytes.items new.bytes.items more (ran.marked t x less same))
        (λ left sum same. unmarked_more old.bytes.items mid.bytes.items x.store.memory old.marks.items mid.marks.items new.marks.items first (late left x (omega arith) same))

-- ---- the beginning

-- a call that has not begun
pub begins_with : (m : Module) (limits : Terms) (store : Store) (args : List Val) (call : PausedCall) (stacks : StacksView) → IsCall m call.function args → 0 < limits.depth → limits.depth ≤ stacks.room.depth
    → IsTypedStore m store → call.turns ≡ 0 → call.starts ≡ is_some m.start → call.entered ≡ false → Stands m limits store args call stacks store
begins_with m limits store args call stacks is_call deep frames typed none starts entered = record {
  is_call = is_call;
  deep = deep;
  frames = frames;
  within = omega (arith, none);
  typed = typed;
  at = subst (λ (b : Bool). IsAt m limits store args call b stacks store) (sym entered) (record { turns_are = none; store_is = refl; starts_is = starts });
  shows = record { first = λ e. refl; later = λ some. absurd (omega (arith, none, some)) };
}

-- ---- what a slice comes to

-- turns from here on to there
pub went_to : (m : Module) (result : ℕ → Option CallResult) (from n to : ℕ) (old new : Memory) (end : CallResult) → from + n ≡ to → result (from + n) ≡ Some end
    → ((turns : ℕ) (x : CallResult) → from ≤ turns → turns ≤ from + n → result turns ≡ Some x → KeepsUnmarked old.bytes.items x.store.memory old.marks.items new.marks.items)
    → (IsOutOfFuel end.outcome → n ≡ 0 → new.marks.items ≡ old.marks.items) → MarksWithin m old new (2 * (n - end.fuel)) → Went m result from to old new end.store
went_to m result from n to old new end e gives marked still marks =
    let spent : n ≡ to - from = omega (arith, e) in
    record {
      at = end;
      gives = ap result (sym e) ∙ gives;
      shows = refl;
      marked = λ turns x a b. marked turns x a (omega (arith, e, b));
      still = λ out same. still (fuel_is_out end.outcome out) (omega (arith, e, same));
      marks = subst (λ (k : ℕ). MarksWithin m old new (2 * (k - end.fuel))) spent marks;
    }

module _ (m : Module) (limits : Terms) (begun : Store) (args : List Val) (call : PausedCall) (slice : ℕ) (end : CallResult) where
  -- it waits there, and has fuel for more
  pub turned_again : call.turns + slice < call.fuel → whole m limits call args begun (call.turns + slice) ≡ Some end → is_fuel end.outcome ≡ true
      → Waits (whole m limits call args begun) call.fuel (call.turns + slice)
  turned_again less gives out = record { unfinished = ap is_fuel_end gives ∙ out; more = less }

  -- it is over before its fuel is
  pub turned_early : call.turns + slice < call.fuel → whole m limits call args begun (call.turns + slice) ≡ Some end → is_fuel end.outcome ≡ false
      → HasTurned (whole m limits call args begun) call slice end.store (Done end.outcome)
  turned_early less gives over =
      let d : ℕ = call.fuel - (call.turns + slice) in
      let sum : call.turns + slice + d ≡ call.fuel = omega arith in
      let not : is_fuel_end (whole m limits call args begun (call.turns + slice)) ≡ false = ap is_fuel_end gives ∙ over in (
        λ waits. true≢false (sym waits.unfinished ∙ not),
        record {
          end = record end { fuel = end.fuel + d };
          gives = ap (whole m limits call args begun) (sym sum) ∙ result-more d (module_tree m) limits call.function args begun (call.turns + slice) not ∙ ap (with_more d) gives;
          ends = refl;
          leaves = refl;
        },
      )

  -- all its fuel is used up, or was enough
  pub turned_late : call.turns ≤ call.fuel → call.fuel ≤ call.turns + slice → whole m limits call args begun (call.turns + (call.fuel - call.turns)) ≡ Some end
      → HasTurned (whole m limits call args begun) call slice end.store (Done end.outcome)
  turned_late within all gives =
      let sum : call.turns + (call.fuel - call.turns) ≡ call.fuel = omega arith in (
        λ waits. let more = waits.more in absurd (omega arith),
        record { end = end; gives = ap (whole m limits call args begun) (sym sum) ∙ gives; ends = refl; leaves = refl },
      )

  -- what it leaves where it is over before its fuel is
  pub left_early : call.turns + slice < call.fuel → end.fuel ≤ slice → whole m limits call args begun (call.turns + slice) ≡ Some end → is_fuel end.outcome ≡ false
      → (made total : ℕ) → made ≡ call.turns + (slice - end.fuel) → total ≡ call.fuel → left_in (whole m limits call args begun call.fuel) ≡ Some (total - made)
  left_early less within gives over made total made_is total_is =
      let d : ℕ = call.fuel - (call.turns + slice) in
      let sum : call.turns + slice + d ≡ call.fuel = omega arith in
      let not : is_fuel_end (whole m limits call args begun (call.turns + slice)) ≡ false = ap is_fuel_end gives ∙ over in
      let left : end.fuel + d ≡ total - made = omega (arith, made_is, total_is) in
      ap left_in (ap (whole m limits call args begun) (sym sum) ∙ result-more d (module_tree m) limits call.function args begun (call.turns + slice) not ∙ ap (with_more d) gives)
      ∙ ap (λ (n : ℕ). Some n) left

  -- and where it had all its fuel
  pub left_late : call.turns ≤ call.fuel → end.fuel ≤ call.fuel - call.turns → whole m limits call args begun (call.turns + (call.fuel - call.turns)) ≡ Some end
      → (made total : ℕ) → made ≡ call.turns + (call.fuel - call.turns - end.fuel) → total ≡ call.fuel → left_in (whole m limits call args begun call.fuel) ≡ Some (total - made)
  left_late within less gives made total made_is total_is =
      let sum : call.turns + (call.fuel - call.turns) ≡ call.fuel = omega arith in
      let left : end.fuel ≡ total - made = omega (arith, made_is, total_is) in
      ap left_in (ap (whole m limits call args begun) (sym sum) ∙ gives) ∙ ap (λ (n : ℕ). Some n) left
