-- What a machine's steps come to.
use Rattle.std.specs.Prelude.{◌≡◌, ℕ, zero, suc, ◌+◌, ◌-◌, ◌<◌, List, [], ◌∷◌, ◌++◌, Bool, true, false, length, map, take, drop, reverse, Option, Some, None, slice_get}
use Rattle.wasm_types.specs.declared.types.ValType.{ValType}
use Rattle.wasm_values.specs.declared.outcome.TrapKind.{TrapKind}
use Rattle.wasm_types.specs.declared.instr.Instr.{Instr}
use Rattle.wasm_types.specs.declared.instr.Op.{Op}
use Rattle.wasm_types.specs.declared.instr.Op.TheVariants as op
use Rattle.wasm_types.specs.declared.instr.Expr.{Expr}
use Rattle.wasm_types.specs.declared.types.FuncType.{FuncType}
use Rattle.wasm_types.specs.Tree.{Code, FunctionTree, code_of, function_tree, module_tree}
use Rattle.wasm_types.specs.declared.module.Module.{Module}
use Rattle.wasm_spec.specs.Typing.{Context, type_of, rule, result_types}
use Rattle.wasm_spec.specs.Need.{height}
use Rattle.wasm_spec.specs.Store.{Store}
use Rattle.wasm_spec.specs.Result.{CallResult, result_of}
use Rattle.wasm_spec.specs.Functions.{Callee, callee_at, callee_type}
use Rattle.wasm_spec.specs.Execution.{Terms, call, State, Signal, Next, Branch, Returned, Trapped, OutOfFuel, Stuck, Ended, exec, invoke, zero_of}
use Rattle.wasm_types.specs.Sequences.{code_at, earlier, named_in, ops_of}
use Rattle.machine_steps.specs.declared.machine.Machine.{Machine}
use Rattle.wasm_machine.specs.declared.interpreter.Step.{Step}
use Rattle.wasm_machine.specs.declared.interpreter.Step.TheVariants as step
use Rattle.linear_memory.specs.declared.memory.Memory.{Memory}
use Rattle.wasm_machine.specs.declared.interpreter.Halt.{Halt}
use Rattle.wasm_machine.specs.declared.interpreter.Halt.TheVariants as halt
use Rattle.memory_blocks.specs.Blocks.{KeepsUnmarked}
use Rattle.machine_steps.specs.Configuration.{Configuration, state}
use Rattle.wasm_machine.specs.Remaining.{function_of, results, resume_at, after_sequence, run_from}
use Rattle.machine_steps.specs.PlainSteps.{in_block}
use Rattle.machine_steps.specs.StackLayout.{Represents, HasRoom}
use Rattle.wasm_machine.specs.TypedConfiguration.{IsTypedCode, IsRunnable, IsTypedAt, IsTypedConfiguration, IsTypedContext, IsTypedStore, context, ends_of}

-- From here a run goes on so that with any fuel it comes to what r gives for that fuel.
pub record Simulates (m : Module) (limits : Terms) (frame : ℕ) (machine : Machine) (store : Store) (r : ℕ → Ended) : Type 0 where
  pub configuration : Configuration
  pub represents : Represents configuration machine
  pub typed : IsTypedConfiguration m frame limits.depth configuration
  pub stored : IsTypedStore m store
  pub room : HasRoom limits.depth frame machine
  pub goes : (fuel : ℕ) → run_from m limits configuration store fuel ≡ r fuel

-- the ways out of the current sequence: its end, a branch to a label, and a return
pub data Exit : Type 0 where
  AtEnd : Exit
  ToLabel : (l : ℕ) → Exit
  ByReturn : Exit

abbrev pub signal_of : Exit → State → Signal
signal_of AtEnd s = Next s
signal_of (ToLabel l) s = Branch l s
signal_of ByReturn s = Returned s

-- the operands that a branch to the label l takes are there
pub record HasLabelOperands (labels : List (List ValType)) (l : ℕ) (operands : List ValType) : Type 0 where
  pub label : List ValType
  pub below : List ValType
  pub there : slice_get labels l ≡ Some label
  pub types : operands ≡ label ++ below

-- the operands that the way takes are there
abbrev pub HasExitOperands : Module → ℕ → Exit → Configuration → Type 0
HasExitOperands m frame AtEnd k = map type_of k.operands ≡ ends_of m frame k.function k.blocks
HasExitOperands m frame (ToLabel l) k = HasLabelOperands (context m frame k.function k.blocks).labels l (map type_of k.operands)
HasExitOperands m frame ByReturn k = (below : List ValType) × (map type_of k.operands ≡ results m k.function ++ below)

-- from here a run that leaves the current sequence this way comes to what r gives for its fuel
pub record SimulatesExit (way : Exit) (m : Module) (limits : Terms) (frame : ℕ) (machine : Machine) (store : Store) (r : ℕ → Ended) : Type 0 where
  pub configuration : Configuration
  pub represents : Represents configuration machine
  pub around : IsTypedContext m frame limits.depth configuration
  pub ready : HasExitOperands m frame way configuration
  pub stored : IsTypedStore m store
  pub room : HasRoom limits.depth frame machine
  pub goes : (fuel : ℕ) → after_sequence m limits configuration (signal_of way (state configuration store), fuel) ≡ r fuel

-- the run is over: its results are what is left of the values, and the store can be run on
pub record IsOver (m : Module) (machine : Machine) (store : Store) (r : ℕ → Ended) : Type 0 where
  pub stored : IsTypedStore m store
  pub goes : (fuel : ℕ) → r fuel ≡ (Next (record { locals = []; operands = reverse machine.values.items; store = store }), fuel)

abbrev pub SimulatesStep : Step → Module → Terms → ℕ → Machine → Store → (ℕ → Ended) → Type 0
SimulatesStep step.Stays m limits frame machine store r = Simulates m limits frame machine store r
SimulatesStep step.Continues m limits frame machine store r = Simulates m limits frame machine store r
SimulatesStep step.Finishes m limits frame machine store r = IsOver m machine store r
SimulatesStep (step.Traps t) m limits frame machine store r = (fuel : ℕ) → r fuel ≡ (Trapped t store, fuel)

-- the machine at another place of its sequence
abbrev pub placed : Machine → ℕ → Machine
placed machine place = record { at = record machine.at { place = place }; values = machine.values; labels = machine.labels; frames = machine.frames }

-- where the run goes on after a step: behind the instruction where it stays, since the machine is not told of that place, and else
-- where the machine stands
abbrev pub standing : Step → (behind : ℕ) → Machine → Machine
standing step.Stays behind machine = placed machine behind
standing _ behind machine = machine

-- with one unit of fuel paid
abbrev pub paid : (ℕ → Ended) → ℕ → Ended
paid r fuel = r (suc fuel)

-- the instructions of the sequence in which the machine stands, and the one at which it stands
abbrev pub sequence_at : Module → Machine → List Op
sequence_at m machine = ops_of (function_of m machine.at.function).body machine.at.sequence

abbrev pub op_at : Module → Machine → Option Op
op_at m machine = slice_get (sequence_at m machine) machine.at.place

-- the run goes on, or is over
abbrev pub SimulatesUnlessOver : Bool → Module → Terms → ℕ → Machine → Store → (ℕ → Ended) → Type 0
SimulatesUnlessOver true m limits frame machine store r = IsOver m machine store r
SimulatesUnlessOver false m limits frame machine store r = Simulates m limits frame machine store r

-- some run leaves the current sequence this way
pub record CanExit (way : Exit) (m : Module) (machine : Machine) : Type 0 where
  pub limits : Terms
  pub frame : ℕ
  pub store : Store
  pub to : ℕ → Ended
  pub exits : SimulatesExit way m limits frame machine store to

-- how many sequences and functions surround the current place
abbrev pub depth_of : Machine → ℕ
depth_of machine = length machine.labels.items + length machine.frames.items

-- ---- one instruction

abbrev pub body_of : Module → Configuration → Expr
body_of m k = (function_of m k.function).body

-- an instruction that is no plain one: a block, a loop, an if or a call
abbrev pub IsStructured : Op → Type 0
IsStructured (op.Plain i) = ⊥
IsStructured _ = Unit {0}

-- an instruction of the current sequence, and what stands from the current place on
abbrev pub doing : Module → Op → Configuration → Code
doing m o k = code_of (earlier (body_of m k) k.sequence) (o ∷ drop k.place (ops_of (body_of m k) k.sequence))

-- The machine stands behind an instruction that is still to be done, at the place `here`.
pub record HasFetched (m : Module) (limits : Terms) (frame : ℕ) (machine : Machine) (store : Store) (here : ℕ) (o : Op) (r : ℕ → Ended) : Type 0 where
  pub configuration : Configuration
  pub represents : Represents configuration machine
  pub is : code_at (body_of m configuration) configuration.sequence here ≡ doing m o configuration
  pub typed : IsTypedCode m frame configuration.function configuration.blocks (doing m o configuration) (map type_of configuration.operands)
  pub around : IsTypedContext m frame limits.depth configuration
  pub stored : IsTypedStore m store
  pub room : HasRoom limits.depth frame machine
  pub goes : (fuel : ℕ) → after_sequence m limits configuration (exec (module_tree m) limits (length configuration.activations + 1) (doing m o configuration) (state configuration store) fuel) ≡ r fuel

-- ---- whole runs

-- some run goes on from here
pub record CanContinue (m : Module) (machine : Machine) : Type 0 where
  pub limits : Terms
  pub frame : ℕ
  pub store : Store
  pub to : ℕ → Ended
  pub simulates : Simulates m limits frame machine store to

-- with so much fuel paid
abbrev pub after : ℕ → (ℕ → Ended) → ℕ → Ended
after spent r fuel = r (spent + fuel)

-- the fuel that is left
abbrev pub left_of : Halt → ℕ
left_of (halt.Done left) = left
left_of (halt.Trapped t left) = left
left_of halt.OutOfFuel = 0

-- What a run from here on comes to. Where the fuel is used up it stands at an instruction, from which it may go on.
abbrev pub HaltsAs : Halt → Module → Terms → ℕ → Machine → Store → ℕ → (ℕ → Ended) → Type 0
HaltsAs (halt.Done left) m limits frame machine store fuel r = IsOver m machine store (after (fuel - left) r)
HaltsAs (halt.Trapped t left) m limits frame machine store fuel r = (g : ℕ) → r ((fuel - left) + g) ≡ (Trapped t store, g)
HaltsAs halt.OutOfFuel m limits frame machine store fuel r = Simulates m limits frame machine store (after fuel r) × (r fuel ≡ (OutOfFuel store, 0))

-- With any fuel below this bound, each byte that the run's store differs in from the old ones lies in a block that is marked
-- now.
abbrev pub AreMarkedBelow : (bound : ℕ) → (ℕ → Ended) → (old new : Memory) → Type 0
AreMarkedBelow bound r old new =
    (fuel : ℕ) (x : CallResult) → fuel < bound → result_of (r fuel) ≡ Some x → KeepsUnmarked old.bytes.items x.store.memory old.marks.items new.marks.items

-- ---- calls

-- where a function's body begins: its last sequence
abbrev pub start_of : Module → ℕ → ℕ
start_of m x = length (function_of m x).body.sequences - 1

-- in a function that is called with this many arguments
abbrev pub in_function : Module → Configuration → (x n : ℕ) → Configuration
in_function m k x n = record {
  function = x;
  sequence = start_of m x;
  place = 0;
  locals = reverse (take n k.operands) ++ map zero_of (function_tree (function_of m x)).locals;
  operands = [];
  blocks = [];
  activations = record { function = k.function; sequence = k.sequence; after = k.place; locals = k.locals; below = drop n k.operands; blocks = k.blocks } ∷ k.activations;
}

-- The machine stands behind a call, of which the callee and its arguments are known to fit.
pub record SimulatesCalling (m : Module) (limits : Terms) (frame : ℕ) (machine : Machine) (store : Store) (x : ℕ) (r : ℕ → Ended) : Type 0 where
  pub configuration : Configuration
  pub represents : Represents configuration machine
  pub callee : Callee
  pub type : FuncType
  pub there : callee_at (module_tree m) x ≡ Some callee
  pub typed : callee_type (module_tree m) callee ≡ Some type
  pub below : List ValType
  pub arguments : map type_of configuration.operands ≡ reverse type.params ++ below
  pub resumes : IsTypedAt m frame configuration.function configuration.blocks (type.results ++ below) configuration.sequence configuration.place
  pub around : IsTypedContext m frame limits.depth configuration
  pub stored : IsTypedStore m store
  pub room : HasRoom limits.depth frame machine
  pub goes : (fuel : ℕ) → after_sequence m limits configuration (call (module_tree m) limits (length configuration.activations + 1)
      (exec (module_tree m) limits (length configuration.activations + 1 + 1))
      (resume_at m limits (length configuration.activations + 1) configuration.function configuration.sequence configuration.place) callee type (state configuration store) fuel) ≡ r fuel

-- some run makes this call
pub record CanCallNumber (m : Module) (limits : Terms) (machine : Machine) (x : ℕ) : Type 0 where
  pub frame : ℕ
  pub store : Store
  pub to : ℕ → Ended
  pub runnable : IsRunnable m frame
  pub calling : SimulatesCalling m limits frame machine store x to

-- The machine stands behind a call of an own function, by its number among these, which and whose arguments are known to fit.
pub record SimulatesCall (m : Module) (limits : Terms) (frame : ℕ) (machine : Machine) (store : Store) (x : ℕ) (r : ℕ → Ended) : Type 0 where
  pub configuration : Configuration
  pub represents : Represents configuration machine
  pub type : FuncType
  pub function : FunctionTree
  pub there : slice_get (module_tree m).functions x ≡ Some function
  pub typed : slice_get m.types function.type_index ≡ Some type
  pub below : List ValType
  pub arguments : map type_of configuration.operands ≡ reverse type.params ++ below
  pub resumes : IsTypedAt m frame configuration.function configuration.blocks (type.results ++ below) configuration.sequence configuration.place
  pub around : IsTypedContext m frame limits.depth configuration
  pub stored : IsTypedStore m store
  pub room : HasRoom limits.depth frame machine
  pub goes : (fuel : ℕ) → after_sequence m limits configuration (invoke limits (length configuration.activations + 1) function type
      (exec (module_tree m) limits (length configuration.activations + 1 + 1) function.body)
      (resume_at m limits (length configuration.activations + 1) configuration.function configuration.sequence configuration.place) (state configuration store) fuel) ≡ r fuel

-- some run makes this call of an own function
pub record CanCall (m : Module) (limits : Terms) (machine : Machine) (x : ℕ) : Type 0 where
  pub frame : ℕ
  pub store : Store
  pub to : ℕ → Ended
  pub runnable : IsRunnable m frame
  pub calling : SimulatesCall m limits frame machine store x to

-- some run calls an element of this table
pub record CanCallElement (m : Module) (limits : Terms) (table : List (Option ℕ)) (machine : Machine) (x : ℕ) : Type 0 where
  pub frame : ℕ
  pub store : Store
  pub here : ℕ
  pub to : ℕ → Ended
  pub runnable : IsRunnable m frame
  pub tabled : store.table ≡ table
  pub before : HasFetched m limits frame machine store here (op.CallIndirect x) to

-- ---- plain instructions

-- what a plain instruction leaves that goes on: operands of these types, and room as the rule counts it
pub record HasResultTypes (m : Module) (C : Context) (i : Instr) (ts middle : List ValType) (s : State) : Type 0 where
  pub types : map type_of s.operands ≡ middle
  pub counted : height (rule C i) (length ts) ≡ length middle
  pub locals : map type_of s.locals ≡ C.locals
  pub stored : IsTypedStore m s.store

abbrev pub IsPreserved : Module → Context → Instr → List ValType → List ValType → Signal → Type 0
IsPreserved m C i ts middle (Next s) = HasResultTypes m C i ts middle s
IsPreserved m C i ts middle (Trapped t store) = Unit {0}
IsPreserved m C i ts middle (Branch l s) = Unit {0}
IsPreserved m C i ts middle (Returned s) = Unit {0}
IsPreserved m C i ts middle (OutOfFuel store) = ⊥
IsPreserved m C i ts middle Stuck = ⊥

-- the run goes on, or traps
abbrev pub SimulatesUnlessTrapped : Option TrapKind → Module → Terms → ℕ → Machine → Store → (ℕ → Ended) → Type 0
SimulatesUnlessTrapped None m limits frame machine store r = Simulates m limits frame machine store r
SimulatesUnlessTrapped (Some t) m limits frame machine store r = (fuel : ℕ) → r fuel ≡ (Trapped t store, fuel)

abbrev pub step_unless_over : Bool → Step
step_unless_over true = step.Finishes
step_unless_over false = step.Continues

abbrev pub step_unless_trapped : Option TrapKind → Step
step_unless_trapped None = step.Continues
step_unless_trapped (Some t) = step.Traps t

-- some run does this instruction next
pub record CanExecuteNext (m : Module) (o : Op) (machine : Machine) : Type 0 where
  pub limits : Terms
  pub frame : ℕ
  pub store : Store
  pub here : ℕ
  pub to : ℕ → Ended
  pub before : HasFetched m limits frame machine store here o to

-- it goes on in the sequence that the current one names by this number, in a block of the type t with this place behind it
abbrev pub OpensNamed : Module → Option ValType → (number after : ℕ) → (old new : Machine) → Type 0
OpensNamed m t number after old new = (k : Configuration) → Represents k old
    → (code_at (body_of m k) new.at.sequence 0 ≡ named_in (body_of m k) k.sequence number) × Represents (in_block k (result_types t) (result_types t) after new.at.sequence) new

-- the arm's sequence: the second at 0, and else the first
abbrev pub chosen_arm : ℕ → (first second : ℕ) → ℕ
chosen_arm zero first second = second
chosen_arm (suc c) first second = first
