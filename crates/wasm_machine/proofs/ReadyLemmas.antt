-- What an instruction needs is there.
use Rattle.wasm_spec.specs.Execution.{Terms}
use Rattle.std.proofs.Common.{◌≡◌, ℕ, ◌<◌, map, false, refl, arith, length}
use Rattle.wasm_types.specs.declared.instr.Instr.{Instr}
use Rattle.wasm_types.specs.declared.instr.Instr.TheVariants as instr
use Rattle.wasm_types.specs.declared.instr.Op.TheVariants as op
use Rattle.wasm_types.specs.declared.module.Module.{Module}
use Rattle.wasm_types.specs.Tree.{module_tree}
use Rattle.wasm_spec.specs.Typing.{type_of}
use Rattle.wasm_spec.specs.Store.{Store}
use Rattle.wasm_spec.specs.Execution.{Ended}
use Rattle.machine_steps.specs.declared.machine.Machine.{Machine}
use Rattle.machine_steps.specs.Configuration.{Configuration, state}
use Rattle.wasm_machine.specs.TypedConfiguration.{context}
use Rattle.machine_steps.specs.InstructionKinds.{jumps}
use Rattle.wasm_machine.specs.Simulation.{HasFetched}
use Rattle.machine_steps.specs.PlainSteps.{CanExecute, IsReady}
use Rattle.wasm_machine.proofs.BranchIfLemmas.{push_free}
use Rattle.wasm_machine.proofs.StepLemmas.{not_stuck}
use Rattle.wasm_machine.proofs.PreservationLemmas.{Pushes, local_pushes, global_pushes, const_pushes, size_pushes, global_there, plain_preserved}

module _ (m : Module) (limits : Terms) (frame : ℕ) (machine : Machine) (store : Store) (here : ℕ) (r : ℕ → Ended) where
  pushed : (i : Instr) (b : HasFetched m limits frame machine store here (op.Plain i) r) → Pushes m limits (context m frame b.configuration.function b.configuration.blocks) refl i (state b.configuration store)
      → length machine.values.items < machine.values.room
  pushed i b p = omega (arith, push_free m limits frame machine store here i p.type r b p.rule_is)

  pub plain_ready : (i : Instr) → HasFetched m limits frame machine store here (op.Plain i) r → jumps i ≡ false → IsReady i machine store.globals
  plain_ready (instr.Const v) b stays = pushed (instr.Const v) b (const_pushes m limits (context m frame b.configuration.function b.configuration.blocks) refl v (state b.configuration store))
  plain_ready (instr.LocalGet x) b stays =
      let (middle, takes, typed) = b.typed.typed in
      pushed (instr.LocalGet x) b (local_pushes m limits (context m frame b.configuration.function b.configuration.blocks) refl x b.configuration store middle b.around.locals takes)
  plain_ready (instr.GlobalGet x) b stays =
      let (middle, takes, typed) = b.typed.typed in
      let p = global_pushes m limits (context m frame b.configuration.function b.configuration.blocks) refl x b.configuration store middle b.stored takes in
      (p.within, pushed (instr.GlobalGet x) b p.pushes)
  plain_ready (instr.GlobalSet x) b stays =
      let (middle, takes, typed) = b.typed.typed in
      global_there m limits (context m frame b.configuration.function b.configuration.blocks) refl x b.configuration store middle takes b.around.locals b.stored
  plain_ready instr.MemorySize b stays =
      let (middle, takes, typed) = b.typed.typed in
      pushed instr.MemorySize b (size_pushes m limits (context m frame b.configuration.function b.configuration.blocks) refl (state b.configuration store) (map type_of b.configuration.operands) middle takes)
  plain_ready instr.Float b stays = let (middle, takes, typed) = b.typed.typed in absurd takes
  plain_ready (instr.Br l) b stays = absurd (cc (stays))
  plain_ready (instr.BrIf l) b stays = absurd (cc (stays))
  plain_ready (instr.BrTable ls l) b stays = absurd (cc (stays))
  plain_ready instr.Return b stays = absurd (cc (stays))
  plain_ready _ b stays = tt

  pub plain_can : (i : Instr) → HasFetched m limits frame machine store here (op.Plain i) r → jumps i ≡ false → CanExecute i machine
  plain_can i b stays =
      let k : Configuration = b.configuration in
      let (middle, takes, typed) = b.typed.typed in
      record {
        defined = module_tree m;
        limits = limits;
        configuration = k;
        store = store;
        represents = b.represents;
        fine = not_stuck m limits frame _ k i middle (plain_preserved m limits (context m frame k.function k.blocks) refl i k store middle stays takes b.around.locals b.stored);
      }
