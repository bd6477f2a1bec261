-- What a plain instruction does to a machine.
use Rattle.wasm_spec.specs.Execution.{Terms}
use Rattle.std.specs.Prelude.{◌≡◌, ◌≢◌, ℕ, ◌<◌, List, [], ◌∷◌, length, Bool, true, false, Option, Some, None, Result, Ok, Err, slice_get, slice_set}
use Rattle.wasm_types.specs.declared.types.ValType.{ValType}
use Rattle.wasm_values.specs.declared.outcome.TrapKind.{TrapKind}
use Rattle.wasm_values.specs.declared.outcome.TrapKind.TheVariants as trap
use Rattle.wasm_values.specs.declared.outcome.Val.{Val}
use Rattle.wasm_values.specs.declared.outcome.Val.TheVariants as val
use Rattle.wasm_types.specs.declared.instr.Width.{Width}
use Rattle.wasm_types.specs.declared.instr.Instr.{Instr}
use Rattle.wasm_types.specs.declared.instr.Instr.TheVariants as instr
use Rattle.wasm_types.specs.Tree.{ModuleTree}
use Rattle.wasm_spec.specs.Store.{Store}
use Rattle.wasm_spec.specs.Execution.{State, Signal, Next, Trapped, Stuck, plain, value}
use Rattle.machine_steps.specs.declared.machine.Machine.{Machine}
use Rattle.machine_steps.specs.declared.plain.Effect.{Effect}
use Rattle.machine_steps.specs.declared.plain.Effect.TheVariants as effect
use Rattle.machine_steps.specs.Configuration.{Configuration, state}
use Rattle.machine_steps.specs.StackLayout.{Represents}

-- in another state, at the same place
abbrev pub with_state : Configuration → State → Configuration
with_state k s = record { function = k.function; sequence = k.sequence; place = k.place; locals = s.locals; operands = s.operands; blocks = k.blocks; activations = k.activations }

-- the machine and the store, and what it says, after an instruction that ends so
abbrev pub EndsAs : Signal → Configuration → Option TrapKind → Machine → Store → Type 0
EndsAs (Next s) k None machine store = Represents (with_state k s) machine × (s.store ≡ store)
EndsAs (Trapped t before) k (Some u) machine store = (u ≡ t) × (before ≡ store)
EndsAs _ k o machine store = ⊥

-- some run can do the instruction here
pub record CanExecute (i : Instr) (machine : Machine) : Type 0 where
  pub defined : ModuleTree
  pub limits : Terms
  pub configuration : Configuration
  pub store : Store
  pub represents : Represents configuration machine
  pub fine : plain defined limits i (state configuration store) ≢ Stuck

-- what the instruction does, from one machine and store to others
abbrev pub Executes : ModuleTree → Terms → Instr → (old : Machine) → (before : Store) → Option TrapKind → (new : Machine) → (after : Store) → Type 0
Executes m limits i old before o new after =
    (k : Configuration) → Represents k old → plain m limits i (state k before) ≢ Stuck → EndsAs (plain m limits i (state k before)) k o new after

pub record HasOperand (machine : Machine) : Type 0 where
  pub configuration : Configuration
  pub represents : Represents configuration machine
  pub some : 0 < length configuration.operands

-- a number as a value, or the trap
abbrev pub valued : Width → Result ℕ TrapKind → Result Val TrapKind
valued w (Ok n) = Ok (value w n)
valued w (Err t) = Err t

-- in an inner sequence
abbrev pub in_block : Configuration → (label ends : List ValType) → (target q : ℕ) → Configuration
in_block k label ends target q = record {
  function = k.function;
  sequence = q;
  place = 0;
  locals = k.locals;
  operands = [];
  blocks = record { label = label; ends = ends; below = k.operands; sequence = k.sequence; after = k.place; target = target } ∷ k.blocks;
  activations = k.activations;
}

-- What an instruction needs that stays in its sequence, beside its operands: room for what it puts on the top, or a global.
-- None of the others is ready.
abbrev pub IsReady : Instr → Machine → List Val → Type 0
IsReady (instr.Br l) machine globals = ⊥
IsReady (instr.BrIf l) machine globals = ⊥
IsReady (instr.BrTable ls l) machine globals = ⊥
IsReady instr.Return machine globals = ⊥
IsReady instr.Float machine globals = ⊥
IsReady (instr.Const v) machine globals = length machine.values.items < machine.values.room
IsReady (instr.LocalGet x) machine globals = length machine.values.items < machine.values.room
IsReady (instr.GlobalGet x) machine globals = (x < length globals) × (length machine.values.items < machine.values.room)
IsReady (instr.GlobalSet x) machine globals = x < length globals
IsReady instr.MemorySize machine globals = length machine.values.items < machine.values.room
IsReady _ machine globals = Unit {0}

pub record HasNumber (machine : Machine) : Type 0 where
  pub configuration : Configuration
  pub represents : Represents configuration machine
  pub top : ℕ
  pub rest : List Val
  pub are : configuration.operands ≡ val.I32 top ∷ rest

pub record HasLocal (machine : Machine) (x : ℕ) : Type 0 where
  pub configuration : Configuration
  pub represents : Represents configuration machine
  pub value : Val
  pub there : slice_get configuration.locals x ≡ Some value

-- whatever configuration with this local the old machine represents, the new one represents with this value in it
abbrev pub SetsLocal : ℕ → Val → (old new : Machine) → Type 0
SetsLocal x v old new =
    (k : Configuration) (u : Val) → Represents k old → slice_get k.locals x ≡ Some u → Represents (record k { locals = slice_set k.locals x v }) new

-- the trap of an access that is not within the memory
abbrev pub trap_unless : Bool → Option TrapKind
trap_unless true = None
trap_unless false = Some trap.Memory

-- what an instruction comes to that stays in its sequence, unless it traps, and the trap that is said
abbrev pub effect_unless : Option TrapKind → Effect
effect_unless None = effect.Stays
effect_unless (Some t) = effect.Traps t

abbrev pub trap_of : Effect → Option TrapKind
trap_of (effect.Traps t) = Some t
trap_of _ = None
