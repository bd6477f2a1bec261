-- Marks by the instructions and the imports of a module.
use Rattle.std.proofs.Common.{◌≡◌, ◌≢◌, ◌≤◌, ℕ, List, ◌∷◌, Bool, true, false, Option, Some, None, refl, sym, ap, ◌∙◌, subst, arith}
use Rattle.std.specs.Prelude.{All, is_none, slice_get, if◌then◌else◌, option_and_then}
use Rattle.std.specs.Int.{byte_len}
use Rattle.wasm_values.specs.declared.outcome.TrapKind.{TrapKind}
use Rattle.wasm_values.specs.declared.outcome.Val.{Val}
use Rattle.wasm_values.specs.declared.outcome.Val.TheVariants as val
use Rattle.wasm_types.specs.declared.host.HostFunction.{HostFunction}
use Rattle.wasm_types.specs.declared.host.HostFunction.TheVariants as host
use Rattle.wasm_types.specs.declared.instr.Instr.{Instr}
use Rattle.wasm_types.specs.declared.instr.Instr.TheVariants as instr
use Rattle.wasm_types.specs.declared.instr.PackSize.{PackSize}
use Rattle.wasm_types.specs.declared.instr.PackSize.TheVariants.{Pack8, Pack16, Pack32}
use Rattle.wasm_types.specs.declared.instr.Width.{Width}
use Rattle.wasm_types.specs.declared.instr.Width.TheVariants.{W32, W64}
use Rattle.wasm_types.specs.declared.module.Import.{Import}
use Rattle.wasm_types.specs.declared.module.Module.{Module}
use Rattle.wasm_types.proofs.Found.{all_found}
use Rattle.wasm_types.specs.Tree.{module_tree}
use Rattle.wasm_spec.specs.Bulk.{HasFewMarks, is_bulk, uses_bulk}
use Rattle.wasm_spec.specs.Functions.{host_function}
use Rattle.wasm_spec.specs.Operators.{int_width, pack_width}
use Rattle.linear_memory.specs.declared.memory.Memory.{Memory}
use Rattle.linear_memory.specs.Marks.{touched}
use Rattle.linear_memory.proofs.MarkedBlocks.{changes_none, touched_short}
use Rattle.machine_steps.specs.declared.machine.Machine.{Machine}
use Rattle.machine_steps.specs.PlainSteps.{CanExecute}
use Rattle.machine_steps.specs.HostSteps.{CanCallHost}
use Rattle.machine_steps.specs.WrittenParts.{MarksIf, MarksRead, MarksWritten, part_read, part_written}
use Rattle.wasm_machine.specs.Lent.{MarksWithin}

-- where nothing is done nothing is marked
pub marks_none : (m : Module) (old new : Memory) (most : ℕ) → new ≡ old → MarksWithin m old new most
marks_none m old new most e = record {
  added = 0;
  changes = changes_none old new (ap (λ (x : Memory). x.bytes.items) e) (ap (λ (x : Memory). x.marks.items) e);
  few = λ h. omega arith;
}

-- of a module as it is named otherwise, and where more may be marked
pub marks_as : (m n : Module) (old new : Memory) (most : ℕ) → m ≡ n → MarksWithin m old new 0 → MarksWithin n old new most
marks_as m n old new most e marks = record {
  added = marks.added;
  changes = marks.changes;
  few = λ h. let none = marks.few (subst (λ (x : Module). HasFewMarks (module_tree x)) (sym e) h) in omega arith;
}

-- ---- an instruction

width_short : (w : Width) → byte_len (int_width w) ≤ 4096
width_short W32 = omega arith
width_short W64 = omega arith

pack_short : (p : PackSize) → byte_len (pack_width p) ≤ 4096
pack_short Pack8 = omega arith
pack_short Pack16 = omega arith
pack_short Pack32 = omega arith

part_short : (i : Instr) (vs : List Val) → is_bulk i ≡ false → (part_written i vs).1 ≤ 4096
part_short (instr.Store w a) (v ∷ val.I32 base ∷ vs) e = width_short w
part_short (instr.StorePacked w p a) (v ∷ val.I32 base ∷ vs) e = pack_short p
part_short instr.MemoryCopy vs e = absurd (cc)
part_short instr.MemoryFill vs e = absurd (cc)
part_short _ vs e = omega arith

if_short : (done : Bool) (n : ℕ) → n ≤ 4096 → (if done then n else 0) ≤ 4096
if_short true n h = h
if_short false n h = omega arith

-- one of a module with few marks marks at most two blocks
pub marks_of : (m : Module) (i : Instr) (machine : Machine) (o : Option TrapKind) (old new : Memory) → (uses_bulk (module_tree m) ≡ false → is_bulk i ≡ false) → CanExecute i machine
    → MarksWritten i machine o old new → MarksWithin m old new 2
marks_of m i machine o old new narrow can marks =
    let part : ℕ × ℕ = part_written i can.configuration.operands in
    let n : ℕ = if is_none o then part.1 else 0 in
    record {
      added = touched part.0 n;
      changes = (marks can).changes;
      few = λ h. touched_short part.0 n (if_short (is_none o) part.1 (part_short i can.configuration.operands (narrow h.bulk)));
    }

-- ---- a function of the host

none_touched : (request : List ℕ) (h : HostFunction) (vs : List Val) (done : Bool) → h ≢ host.Read → touched (part_read request h vs).0 (if done then (part_read request h vs).1 else 0) ≤ 0
none_touched request host.Read vs done other = absurd (other refl)
none_touched request host.Len vs true other = omega arith
none_touched request host.Len vs false other = omega arith
none_touched request host.Write vs true other = omega arith
none_touched request host.Write vs false other = omega arith

found_not_read : (imports : List Import) (x : ℕ) (h : HostFunction) (o : Option Import) → All (λ i. host_function i ≢ Some host.Read) imports
    → slice_get imports x ≡ o → option_and_then host_function o ≡ Some h → h ≢ host.Read
found_not_read imports x h (Some i) none there is e = all_found (λ j. host_function j ≢ Some host.Read) imports x i none there (is ∙ ap (λ f. Some f) e)
found_not_read imports x h None none there is e = absurd (cc)

-- a module with few marks imports none that writes to its memory
pub not_read : (m : Module) (x : ℕ) (h : HostFunction) → option_and_then host_function (slice_get m.imports x) ≡ Some h → HasFewMarks (module_tree m) → h ≢ host.Read
not_read m x h is few = found_not_read m.imports x h (slice_get m.imports x) few.imports refl is

-- of such a module it marks no block
pub marks_of_part : (m : Module) (request : List ℕ) (h : HostFunction) (vs : List Val) (done : Bool) (old new : Memory) → (HasFewMarks (module_tree m) → h ≢ host.Read)
    → MarksIf done (part_read request h vs) old new → MarksWithin m old new 0
marks_of_part m request h vs done old new other marks = record {
  added = touched (part_read request h vs).0 (if done then (part_read request h vs).1 else 0);
  changes = marks.changes;
  few = λ f. none_touched request h vs done (other f);
}

pub marks_of_host : (m : Module) (x : ℕ) (request : List ℕ) (h : HostFunction) (machine : Machine) (o : Option TrapKind) (old new : Memory)
    → option_and_then host_function (slice_get m.imports x) ≡ Some h → CanCallHost request h machine → MarksRead request h machine o old new → MarksWithin m old new 0
marks_of_host m x request h machine o old new is can marks = marks_of_part m request h can.configuration.operands (is_none o) old new (not_read m x h is) (marks can)
