-- One instruction, as the machine does it.
use Rattle.wasm_spec.specs.Execution.{Terms}
use Rattle.std.proofs.Common.{◌≡◌, ℕ, ◌+◌, ◌*◌, ◌<◌, ◌≤◌, List, length, Option, Some, refl, sym, ap, ◌∙◌, subst, arith, length-append, mul-le-mul_right}
use Rattle.std.specs.Prelude.{vec_capacity}
use Rattle.std.proofs.lemmas.List.{length-map}
use Rattle.wasm_types.specs.declared.types.ValType.{ValType}
use Rattle.wasm_types.specs.declared.instr.Op.{Op}
use Rattle.wasm_types.specs.declared.instr.Op.TheVariants as op
use Rattle.wasm_types.specs.declared.module.Module.{Module}
use Rattle.wasm_types.specs.Tree.{Code}
use Rattle.wasm_spec.specs.Typing.{type_of}
use Rattle.wasm_spec.specs.Store.{Store}
use Rattle.wasm_spec.specs.Execution.{Ended}
use Rattle.wasm_types.specs.Sequences.{code_at, named_in}
use Rattle.machine_steps.specs.declared.machine.Position.{Position}
use Rattle.machine_steps.specs.declared.machine.Machine.{Machine}
use Rattle.machine_steps.specs.Configuration.{Configuration}
use Rattle.wasm_machine.specs.Remaining.{function_of}
use Rattle.machine_steps.specs.StackLayout.{frames_under, bottom_of, labels_of, labels_under, Represents, HasRoom}
use Rattle.wasm_machine.specs.TypedConfiguration.{operand_count, IsTypedContext, local_types}
use Rattle.wasm_machine.specs.Simulation.{HasFetched, Simulates, body_of, op_at}
use Rattle.machine_steps.specs.PlainSteps.{in_block}
use Rattle.machine_steps.proofs.StackLayoutLemmas.{labels-length, count_values}
use Rattle.wasm_spec.proofs.NeedLaws.{deepest-least}
use Rattle.wasm_machine.proofs.BlockLemmas.{begins, beneath_fits, length-under}

abbrev pub fetched : Machine → Machine
fetched old = record { at = record old.at { place = old.at.place + 1 }; values = old.values; labels = old.labels; frames = old.frames }

module _ (m : Module) (limits : Terms) (frame : ℕ) where
  pub begun : (old : Machine) (store : Store) (o o' : Op) (r : ℕ → Ended) → Simulates m limits frame old store r → op_at m old ≡ Some o → o ≡ o' → HasFetched m limits frame (fetched old) store old.at.place o' r
  begun old store o o' r e there is =
      begins m limits frame old (fetched old) store o' r e (there ∙ ap (λ (x : Op). Some x) is) refl refl refl refl (record { values = omega arith; labels = omega arith; frames = omega arith })

  -- one label more
  pub free_label : (k : Configuration) (machine : Machine) → Represents k machine → IsTypedContext m frame limits.depth k → HasRoom limits.depth frame machine → length k.blocks + 1 ≤ frame
      → length machine.labels.items < vec_capacity machine.labels
  free_label k machine sh ar room le =
      let (values, labels) = beneath_fits m frame k.function k.activations ar.activations in
      let frames : (length k.activations + 1) * frame ≤ limits.depth * frame = mul-le-mul_right frame ar.deep in
      let split : (length k.activations + 1) * frame ≡ length k.activations * frame + frame = grind arith in
      let r = room.labels in
      omega (arith, ap length sh.labels, length-append (labels_under k.activations) (labels_of (bottom_of k) k.blocks), labels-length (bottom_of k) k.blocks)

  -- one value more
  pub free_value : (k : Configuration) (machine : Machine) → Represents k machine → IsTypedContext m frame limits.depth k → HasRoom limits.depth frame machine
      → length (local_types m frame k.function) + operand_count k.blocks + length k.operands + 1 ≤ frame → length machine.values.items < machine.values.room
  free_value k machine sh ar room le =
      let (values, labels) = beneath_fits m frame k.function k.activations ar.activations in
      let frames : (length k.activations + 1) * frame ≤ limits.depth * frame = mul-le-mul_right frame ar.deep in
      let split : (length k.activations + 1) * frame ≡ length k.activations * frame + frame = grind arith in
      let as_many : length k.locals ≡ length (local_types m frame k.function) = sym (length-map k.locals type_of) ∙ ap length ar.locals in
      let r = room.values in
      let all : length machine.values.items ≡ length (frames_under k.activations) + length k.locals + operand_count k.blocks + length k.operands =
      omega (arith, count_values k machine sh, length-append (frames_under k.activations) k.locals, length-under m frame (bottom_of k) k.blocks) in
      omega arith

  pub block_label : (machine : Machine) (store : Store) (here n : ℕ) (t : Option ValType) (r : ℕ → Ended) → HasFetched m limits frame machine store here (op.Block t n) r → length machine.labels.items < vec_capacity machine.labels
  block_label machine store here n t r b =
      let k = b.configuration in
      let body : Code = named_in (body_of m k) k.sequence n in
      let f = b.typed.fits in
      free_label k machine b.represents b.around b.room (omega (arith, deepest-least (length k.blocks + 1 + 1) body))

  pub loop_label : (machine : Machine) (store : Store) (here n : ℕ) (t : Option ValType) (r : ℕ → Ended) → HasFetched m limits frame machine store here (op.Loop t n) r → length machine.labels.items < vec_capacity machine.labels
  loop_label machine store here n t r b =
      let k = b.configuration in
      let body : Code = named_in (body_of m k) k.sequence n in
      let f = b.typed.fits in
      free_label k machine b.represents b.around b.room (omega (arith, deepest-least (length k.blocks + 1 + 1) body))

pub named_at : (m : Module) (k : Configuration) (machine : Machine) (inner n : ℕ) → Represents k machine
    → code_at (function_of m machine.at.function).body inner 0 ≡ named_in (function_of m machine.at.function).body machine.at.sequence n
    → code_at (body_of m k) inner 0 ≡ named_in (body_of m k) k.sequence n
named_at m k machine inner n sh e =
    subst (λ (a : Position). code_at (function_of m a.function).body inner 0 ≡ named_in (function_of m a.function).body a.sequence n) sh.at e

pub opened_after : (k : Configuration) (old new : Machine) (label ends : List ValType) (target inner : ℕ) → target ≡ old.at.place → Represents k old → Represents (in_block k label ends target inner) new → Represents (in_block k label ends k.place inner) new
opened_after k old new label ends target inner e sh represents =
    subst (λ (p : ℕ). Represents (in_block k label ends p inner) new) (e ∙ ap (λ (a : Position). a.place) sh.at) represents
