-- Runs, step by step.
use Rattle.std.proofs.Common.{◌≡◌, ℕ, ◌+◌, ◌-◌, ◌<◌, ◌≤◌, ⊎_elim, List, length, get_or, reverse, Option, Some, refl, sym, ap, ◌∙◌, subst, arith}
use Rattle.std.specs.Prelude.{slice_get, unwrap_or}
use Rattle.std.proofs.lemmas.Bool.{cases_lt}
use Rattle.wasm_spec.specs.Execution.{Terms}
use Rattle.wasm_types.specs.declared.module.Module.{Module}
use Rattle.wasm_values.specs.declared.outcome.Outcome.TheVariants as outcome
use Rattle.wasm_values.specs.declared.outcome.TrapKind.{TrapKind}
use Rattle.std.proofs.lemmas.Option.{slice_get-get_or}
use Rattle.wasm_types.specs.declared.instr.Op.{Op}
use Rattle.wasm_types.specs.declared.instr.Op.TheVariants as op
use Rattle.wasm_types.specs.declared.instr.Instr.TheVariants as instr
use Rattle.wasm_spec.specs.Store.{Store}
use Rattle.wasm_spec.specs.Execution.{Trapped, OutOfFuel, Ended}
use Rattle.wasm_spec.specs.Result.{CallResult, result_of}
use Rattle.linear_memory.specs.declared.memory.Memory.{Memory}
use Rattle.linear_memory.specs.Bytes.{IsMemory, shown}
use Rattle.memory_blocks.specs.Blocks.{KeepsUnmarked}
use Rattle.linear_memory.specs.Marks.{MarksChanges}
use Rattle.linear_memory.proofs.MarkedBlocks.{changes_more, shown_unmarked}
use Rattle.wasm_machine.specs.Lent.{MarksWithin}
use Rattle.machine_steps.specs.declared.machine.Machine.{Machine}
use Rattle.wasm_machine.specs.Simulation.{AreMarkedBelow, Simulates, IsOver, after, paid, sequence_at}
use Rattle.wasm_machine.proofs.BlockLemmas.{no_fuel}

-- ---- marks

-- marks of one part of a run after those of another
pub within_more : (m : Module) (old mid new : Memory) (a b c : ℕ) → MarksWithin m old mid a → MarksWithin m mid new b → a + b ≤ c → MarksWithin m old new c
within_more m old mid new a b c first second le = record {
  added = first.added + second.added;
  changes = changes_more old mid new first.added second.added (first.added + second.added) first.changes second.changes (omega arith);
  few = λ none. let f = first.few none in let s = second.few none in omega arith;
}

module _ (r : ℕ → Ended) (old : Memory) where
  -- marks only grow
  pub marked_on : (bound n : ℕ) (mid new : Memory) → MarksChanges mid new n → AreMarkedBelow bound r old mid → AreMarkedBelow bound r old new
  marked_on bound n mid new changes below fuel x lt is =
      let k = below fuel x lt is in
      record { bytes = λ i u. k.bytes i (changes.unmarked.marks i u); marks = λ i u. k.marks i (changes.unmarked.marks i u) }

  -- the fuel that comes to this store
  pub marked_at : (most n : ℕ) (new : Memory) (x y : CallResult) (o : Option CallResult) → IsMemory most new → MarksChanges old new n
      → o ≡ Some y → y.store.memory ≡ shown new → o ≡ Some x → KeepsUnmarked old.bytes.items x.store.memory old.marks.items new.marks.items
  marked_at most n new x y o is changes there memory e =
      let same : shown new ≡ x.store.memory = sym memory ∙ ap (λ (p : Option CallResult). (unwrap_or p x).store.memory) (sym there ∙ e) in
      subst (λ (l : List ℕ). KeepsUnmarked old.bytes.items l old.marks.items new.marks.items) same (shown_unmarked most n old new is changes)

  -- and all from some fuel on, where the run ends with the same store
  pub marked_from : (spent bound most n : ℕ) (new : Memory) (y : ℕ → CallResult) → AreMarkedBelow spent r old new → IsMemory most new → MarksChanges old new n
      → ((g : ℕ) → spent + g < bound → result_of (r (spent + g)) ≡ Some (y g)) → ((g : ℕ) → (y g).store.memory ≡ shown new) → AreMarkedBelow bound r old new
  marked_from spent bound most n new y below is changes ends memory fuel x lt e =
      let later : spent ≤ fuel → KeepsUnmarked old.bytes.items x.store.memory old.marks.items new.marks.items = λ le.
      let at : spent + (fuel - spent) ≡ fuel = omega arith in
      let there : result_of (r fuel) ≡ Some (y (fuel - spent)) = ap (λ (k : ℕ). result_of (r k)) (sym at) ∙ ends (fuel - spent) (omega arith) in
      marked_at most n new x (y (fuel - spent)) (result_of (r fuel)) is changes there (memory (fuel - spent)) e in
      ⊎_elim (λ (l : fuel < spent). below fuel x l e) later (cases_lt fuel spent)

-- ---- fuel

-- where the fuel ends there
pub marked_out : (r : ℕ → Ended) (old : Memory) (store : Store) (spent bound most n : ℕ) (new : Memory) → AreMarkedBelow spent r old new → IsMemory most new → MarksChanges old new n
    → store.memory ≡ shown new → bound ≤ spent + 1 → r spent ≡ (OutOfFuel store, 0) → AreMarkedBelow bound r old new
marked_out r old store spent bound most n new below is changes memory le out =
    let y : CallResult = record { outcome = outcome.Fuel; store = store; fuel = 0 } in
    marked_from r old spent bound most n new (λ g. y) below is changes
    (λ g lt. ap (λ (k : ℕ). result_of (r k)) (omega arith) ∙ ap result_of out) (λ g. memory)

-- where the run is over there
pub marked_over : (r : ℕ → Ended) (old : Memory) (m : Module) (machine : Machine) (store : Store) (spent bound most n : ℕ) (new : Memory) → AreMarkedBelow spent r old new → IsMemory most new → MarksChanges old new n
    → store.memory ≡ shown new → IsOver m machine store (after spent r) → AreMarkedBelow bound r old new
marked_over r old m machine store spent bound most n new below is changes memory over =
    let y : ℕ → CallResult = λ g. record { outcome = outcome.Done (slice_get (reverse machine.values.items) 0); store = store; fuel = g } in
    marked_from r old spent bound most n new y below is changes (λ g lt. ap result_of (over.goes g)) (λ g. memory)

-- where it traps there
pub marked_trap : (r : ℕ → Ended) (old : Memory) (t : TrapKind) (store : Store) (spent bound most n : ℕ) (new : Memory) → AreMarkedBelow spent r old new → IsMemory most new → MarksChanges old new n
    → store.memory ≡ shown new → ((g : ℕ) → r (spent + g) ≡ (Trapped t store, g)) → AreMarkedBelow bound r old new
marked_trap r old t store spent bound most n new below is changes memory traps =
    let y : ℕ → CallResult = λ g. record { outcome = outcome.Trap t; store = store; fuel = g } in
    marked_from r old spent bound most n new y below is changes (λ g lt. ap result_of (traps g)) (λ g. memory)

module _ (m : Module) (limits : Terms) (frame : ℕ) where
  pub simulates_same : (machine : Machine) (store : Store) (r s : ℕ → Ended) → ((g : ℕ) → r g ≡ s g) → Simulates m limits frame machine store r → Simulates m limits frame machine store s
  simulates_same machine store r s e l = record { configuration = l.configuration; represents = l.represents; typed = l.typed; stored = l.stored; room = l.room; goes = λ g. l.goes g ∙ e g }

  pub more_spent : (r : ℕ → Ended) (spent : ℕ) (g : ℕ) → paid (after spent r) g ≡ after (spent + 1) r g
  more_spent r spent g = ap r (omega arith)

  pub over_at : (machine : Machine) (store : Store) (r : ℕ → Ended) (spent spent' : ℕ) → spent ≡ spent' → IsOver m machine store (after spent r) → IsOver m machine store (after spent' r)
  over_at machine store r spent spent' e h = subst (λ (n : ℕ). IsOver m machine store (after n r)) e h

  pub over_paid : (machine : Machine) (store : Store) (r : ℕ → Ended) (spent spent' : ℕ) → spent + 1 ≡ spent' → IsOver m machine store (paid (after spent r)) → IsOver m machine store (after spent' r)
  over_paid machine store r spent spent' e h = record { stored = h.stored; goes = λ g. ap r (omega arith) ∙ h.goes g }

  pub trap_paid : (t : TrapKind) (store : Store) (r : ℕ → Ended) (spent spent' : ℕ) → spent + 1 ≡ spent' → ((g : ℕ) → paid (after spent r) g ≡ (Trapped t store, g)) → (g : ℕ) → r (spent' + g) ≡ (Trapped t store, g)
  trap_paid t store r spent spent' e h g = ap r (omega arith) ∙ h g

  -- at an instruction, where the fuel is used up
  pub spent_all : (machine : Machine) (store : Store) (r : ℕ → Ended) (spent fuel : ℕ) → spent ≡ fuel → Simulates m limits frame machine store (after spent r) → machine.at.place < length (sequence_at m machine) → r fuel ≡ (OutOfFuel store, 0)
  spent_all machine store r spent fuel e l lt =
      let o : Op = get_or (sequence_at m machine) machine.at.place (op.Plain instr.Nop) in
      ap r (omega arith) ∙ no_fuel m limits frame machine store (after spent r) o l (slice_get-get_or (sequence_at m machine) machine.at.place (op.Plain instr.Nop) lt)

  -- one turn more, from an instruction on
  pub marked_next : (r : ℕ → Ended) (old : Memory) (machine : Machine) (store : Store) (spent most n k : ℕ) (mid new : Memory) → AreMarkedBelow spent r old mid → IsMemory most mid → MarksChanges old mid n
      → store.memory ≡ shown mid → Simulates m limits frame machine store (after spent r) → machine.at.place < length (sequence_at m machine) → MarksChanges mid new k → AreMarkedBelow (spent + 1) r old new
  marked_next r old machine store spent most n k mid new below is changes memory e there more =
      let out : r spent ≡ (OutOfFuel store, 0) = spent_all machine store r spent spent refl e there in
      marked_on r old (spent + 1) k mid new more (marked_out r old store spent (spent + 1) most n mid below is changes memory (omega arith) out)
