-- The parts of memory that are written, and their marks.
use Rattle.std.proofs.Common.{◌≡◌, ◌+◌, ℕ, List, ◌∷◌, Bool, true, false, Option, Some, None, refl, sym, ap, ◌∙◌, subst}
use Rattle.std.specs.Prelude.{is_none, is_some, unwrap_or, if◌then◌else◌}
use Rattle.std.specs.Int.{byte_len}
use Rattle.wasm_values.specs.declared.outcome.TrapKind.{TrapKind}
use Rattle.wasm_values.specs.declared.outcome.Val.{Val}
use Rattle.wasm_values.specs.declared.outcome.Val.TheVariants as val
use Rattle.wasm_types.specs.declared.instr.Instr.{Instr}
use Rattle.wasm_types.specs.declared.instr.Instr.TheVariants as instr
use Rattle.wasm_types.specs.declared.host.HostFunction.{HostFunction}
use Rattle.linear_memory.specs.declared.memory.Memory.{Memory}
use Rattle.linear_memory.specs.Marks.{MarksPart}
use Rattle.linear_memory.proofs.MarkedBlocks.{part_none}
use Rattle.machine_steps.specs.declared.machine.Machine.{Machine}
use Rattle.machine_steps.specs.InstructionKinds.{IsStoring, access_width, address_offset}
use Rattle.machine_steps.specs.PlainSteps.{trap_unless}
use Rattle.machine_steps.specs.WrittenParts.{MarksIf, MarksRead, MarksWritten, part_read, part_written}

-- a part by its numbers
pub marks_if : (done : Bool) (part : ℕ × ℕ) (to n at count : ℕ) (old new : Memory) → part ≡ (to, n) → at ≡ to → count ≡ (if done then n else 0) → MarksPart old new at count → MarksIf done part old new
marks_if done part to n at count old new e a k marks =
    subst (λ (p : ℕ × ℕ). MarksIf done p old new) (sym e)
    (subst (λ (x : ℕ). MarksPart old new x (if done then n else 0)) a (subst (λ (y : ℕ). MarksPart old new at y) k marks))

-- the test of a write, by the trap that is said
tested : (b : Bool) → is_none (trap_unless b) ≡ b
tested true = refl
tested false = refl

pub count_if : (b : Bool) (o : Option TrapKind) (m n : ℕ) → o ≡ trap_unless b → m ≡ n → (if b then m else 0) ≡ (if is_none o then n else 0)
count_if b o m n e same = ap (λ (x : ℕ). if b then x else 0) same ∙ ap (λ (x : Bool). if x then n else 0) (sym (ap is_none e ∙ tested b))

-- as many bytes as a read tells
pub count_told : (fits : Bool) (n m : ℕ) → Some n ≡ (if fits then Some m else None) → n ≡ m
count_told true n m e = cc
count_told false n m e = absurd (cc)

-- and where it traps none
pub count_given : (fits : Bool) (o : Option ℕ) (m : ℕ) → o ≡ (if fits then Some m else None) → unwrap_or o 0 ≡ (if is_some o then m else 0)
count_given true o m e = rw e refl
count_given false o m e = rw e refl

-- what a store writes
pub store_part : (i : Instr) (v : Val) (base : ℕ) (vs : List Val) → IsStoring i → part_written i (v ∷ val.I32 base ∷ vs) ≡ (base + address_offset i, byte_len (access_width i))
store_part (instr.Store w a) v base vs h = refl
store_part (instr.StorePacked w p a) v base vs h = refl
store_part _ v base vs h = absurd h

-- ---- by the kind of the instruction

pub as_written : (i j : Instr) (machine : Machine) (o : Option TrapKind) (old new : Memory) → i ≡ j → MarksWritten j machine o old new → MarksWritten i machine o old new
as_written i j machine o old new e marks = subst (λ (x : Instr). MarksWritten x machine o old new) (sym e) marks

-- ---- by the function of the host

pub as_read : (request : List ℕ) (f g : HostFunction) (machine : Machine) (o : Option TrapKind) (old new : Memory) → f ≡ g → MarksRead request g machine o old new → MarksRead request f machine o old new
as_read request f g machine o old new e marks = subst (λ (x : HostFunction). MarksRead request x machine o old new) (sym e) marks

nothing_if : (done : Bool) → ◌≡◌ {A = ℕ} 0 (if done then 0 else 0)
nothing_if true = refl
nothing_if false = refl

-- one that writes nothing marks nothing
pub nothing_read : (request : List ℕ) (f g : HostFunction) (vs : List Val) (done : Bool) (memory : Memory) → f ≡ g → part_read request g vs ≡ (0, 0) → MarksIf done (part_read request f vs) memory memory
nothing_read request f g vs done memory e none =
    marks_if done (part_read request f vs) 0 0 0 0 memory memory (ap (λ (x : HostFunction). part_read request x vs) e ∙ none) refl (nothing_if done) (part_none memory 0)
