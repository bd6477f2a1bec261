-- A machine at another place of its sequence, and where a step leaves it.
use Rattle.std.proofs.Common.{◌≡◌, ℕ, List, Bool, true, false, Option, Some, None, refl, sym, ap, ◌∙◌, subst, arith}
use Rattle.wasm_spec.specs.Execution.{Terms}
use Rattle.wasm_types.specs.declared.module.Module.{Module}
use Rattle.wasm_types.specs.Tree.{ModuleTree}
use Rattle.wasm_types.specs.declared.instr.Instr.{Instr}
use Rattle.wasm_types.specs.declared.instr.Instr.TheVariants as instr
use Rattle.wasm_values.specs.declared.outcome.TrapKind.{TrapKind}
use Rattle.wasm_values.specs.declared.outcome.Val.{Val}
use Rattle.wasm_spec.specs.Store.{Store}
use Rattle.wasm_spec.specs.Execution.{Ended, Signal, Next, Branch, Returned, Trapped, OutOfFuel, Stuck, plain}
use Rattle.machine_steps.specs.declared.machine.Machine.{Machine}
use Rattle.machine_steps.specs.declared.machine.Position.{Position}
use Rattle.machine_steps.specs.Configuration.{Configuration, state}
use Rattle.machine_steps.specs.StackLayout.{KeepsRoom, Represents, position_of}
use Rattle.machine_steps.specs.PlainSteps.{CanExecute, EndsAs, Executes, IsReady}
use Rattle.wasm_machine.specs.declared.interpreter.Step.{Step}
use Rattle.wasm_machine.specs.declared.interpreter.Step.TheVariants as step
use Rattle.wasm_machine.specs.Simulation.{Simulates, SimulatesStep, SimulatesUnlessOver, placed, standing, step_unless_over}

-- ---- another place

pub represents_placed : (k : Configuration) (machine : Machine) (place : ℕ) → Represents k (placed machine place) → Represents (record k { place = machine.at.place }) machine
represents_placed k machine place sh = record {
  at = ap (λ (a : Position). record a { place = machine.at.place }) sh.at;
  values = sh.values;
  labels = sh.labels;
  frames = sh.frames;
}

-- an instruction does the same there
pub ends_placed : (e : Signal) (k : Configuration) (o : Option TrapKind) (old new : Machine) (place : ℕ) (store : Store) → Represents k (placed old place)
    → EndsAs e (record k { place = old.at.place }) o new store → EndsAs e k o (placed new place) store
ends_placed (Next s) k None old new place store sh (represents, same) = (
  record {
    at = ap (λ (a : Position). record a { place = place }) represents.at ∙ ap (λ (p : ℕ). position_of k.function k.sequence p k.activations) (ap (λ (a : Position). a.place) sh.at);
    values = represents.values;
    labels = represents.labels;
    frames = represents.frames;
  },
  same,
)
ends_placed (Next s) k (Some t) old new place store sh h = absurd h
ends_placed (Trapped t before) k None old new place store sh h = absurd h
ends_placed (Trapped t before) k (Some u) old new place store sh h = h
ends_placed (Branch l s) k o old new place store sh h = absurd h
ends_placed (Returned s) k o old new place store sh h = absurd h
ends_placed (OutOfFuel s) k o old new place store sh h = absurd h
ends_placed Stuck k o old new place store sh h = absurd h

pub executes_placed : (m : ModuleTree) (limits : Terms) (i : Instr) (old : Machine) (before : Store) (o : Option TrapKind) (new : Machine) (after : Store) (place : ℕ)
    → Executes m limits i old before o new after → Executes m limits i (placed old place) before o (placed new place) after
executes_placed m limits i old before o new after place does k sh fine =
    ends_placed (plain m limits i (state k before)) k o old new place after sh (does (record k { place = old.at.place }) (represents_placed k old place sh) fine)

pub can_placed : (i : Instr) (machine : Machine) (place : ℕ) → CanExecute i (placed machine place) → CanExecute i machine
can_placed i machine place can = record {
  defined = can.defined;
  limits = can.limits;
  configuration = record can.configuration { place = machine.at.place };
  store = can.store;
  represents = represents_placed can.configuration machine place can.represents;
  fine = can.fine;
}

pub ready_placed : (i : Instr) (machine : Machine) (place : ℕ) (globals : List Val) → IsReady i (placed machine place) globals → IsReady i machine globals
ready_placed (instr.Const v) machine place globals h = h
ready_placed (instr.LocalGet x) machine place globals h = h
ready_placed (instr.GlobalGet x) machine place globals h = h
ready_placed (instr.GlobalSet x) machine place globals h = h
ready_placed instr.MemorySize machine place globals h = h
ready_placed (instr.Br l) machine place globals h = h
ready_placed (instr.BrIf l) machine place globals h = h
ready_placed (instr.BrTable ls l) machine place globals h = h
ready_placed instr.Return machine place globals h = h
ready_placed instr.Float machine place globals h = h
ready_placed _ machine place globals h = tt

pub keeps_placed : (old new : Machine) (p q : ℕ) → KeepsRoom old new → KeepsRoom (placed old p) (placed new q)
keeps_placed old new p q keeps = record { values = keeps.values; labels = keeps.labels; frames = keeps.frames }

-- what two steps keep
pub keeps_on : (old middle new : Machine) → KeepsRoom old middle → KeepsRoom middle new → KeepsRoom old new
keeps_on old middle new h k = record { values = omega (arith, h.values, k.values); labels = omega (arith, h.labels, k.labels); frames = omega (arith, h.frames, k.frames) }

-- a run goes on from the same place
pub moved : (m : Module) (limits : Terms) (frame : ℕ) (machine : Machine) (store : Store) (r : ℕ → Ended) (p q : ℕ) → p ≡ q
    → Simulates m limits frame (placed machine p) store r → Simulates m limits frame (placed machine q) store r
moved m limits frame machine store r p q e s = subst (λ (n : ℕ). Simulates m limits frame (placed machine n) store r) e s

-- ---- steps

pub turned : (b : Bool) (t : Step) (m : Module) (limits : Terms) (frame : ℕ) (machine : Machine) (store : Store) (r : ℕ → Ended) → t ≡ step_unless_over b → SimulatesUnlessOver b m limits frame machine store r → SimulatesStep t m limits frame machine store r
turned true t m limits frame machine store r e s = subst (λ (x : Step). SimulatesStep x m limits frame machine store r) (sym e) s
turned false t m limits frame machine store r e s = subst (λ (x : Step). SimulatesStep x m limits frame machine store r) (sym e) s

-- where a step stays, the machine stands behind its instruction
pub stands : (t : Step) (place : ℕ) (m : Module) (limits : Terms) (frame : ℕ) (machine : Machine) (store : Store) (r : ℕ → Ended) → (t ≡ step.Stays → machine.at.place ≡ place)
    → SimulatesStep t m limits frame machine store r → SimulatesStep t m limits frame (standing t place machine) store r
stands step.Stays place m limits frame machine store r e s = subst (λ (p : ℕ). Simulates m limits frame (placed machine p) store r) (e refl) s
stands step.Continues place m limits frame machine store r e s = s
stands step.Finishes place m limits frame machine store r e s = s
stands (step.Traps t) place m limits frame machine store r e s = s
