-- What typing says of plain instructions.
use Rattle.wasm_spec.specs.Execution.{Terms}
use Rattle.std.proofs.Common.{◌≡◌, ℕ, List, [], ◌∷◌, length, map, Some, Result, Ok, Err, refl, sym, ap, ◌∙◌}
use Rattle.wasm_types.specs.declared.types.ValType.{ValType}
use Rattle.wasm_values.specs.declared.outcome.Val.{Val}
use Rattle.wasm_values.specs.declared.outcome.Val.TheVariants as val
use Rattle.wasm_values.specs.declared.outcome.TrapKind.{TrapKind}
use Rattle.wasm_types.specs.declared.instr.Width.{Width}
use Rattle.wasm_types.specs.declared.instr.Width.TheVariants.{W32, W64}
use Rattle.wasm_types.specs.declared.instr.Instr.{Instr}
use Rattle.wasm_types.specs.declared.module.Module.{Module}
use Rattle.wasm_spec.specs.Typing.{Context, type_of, integer_type, rule}
use Rattle.wasm_spec.specs.Need.{height}
use Rattle.wasm_spec.specs.Typing.{number}
use Rattle.wasm_spec.specs.Execution.{State, value, or_trap, with_operands}
use Rattle.wasm_machine.specs.TypedConfiguration.{IsTypedStore}
use Rattle.wasm_machine.specs.Simulation.{IsPreserved}
use Rattle.machine_steps.proofs.OperandLemmas.{Two}

-- a value of a width's type is a number of that width
pub has_number : (w : Width) (v : Val) → type_of v ≡ integer_type w → (n : ℕ) × (number w v ≡ Some n)
has_number W32 (val.I32 n) e = (n, refl)
has_number W32 (val.I64 n) e = absurd (cc)
has_number W64 (val.I32 n) e = absurd (cc)
has_number W64 (val.I64 n) e = (n, refl)

pub value_type : (w : Width) (n : ℕ) → type_of (value w n) ≡ integer_type w
value_type W32 n = refl
value_type W64 n = refl

pub two_typed : (w : Width) (vs : List Val) (below : List ValType) → map type_of vs ≡ integer_type w ∷ integer_type w ∷ below → (t : Two w vs) × (map type_of t.rest ≡ below)
two_typed w [] below e = absurd (cc)
two_typed w (y ∷ []) below e = absurd (cc)
two_typed w (y ∷ x ∷ rest) below e =
    let (b, second) = has_number w y (cc) in
    let (a, first) = has_number w x (cc) in
    (record { x = x; y = y; rest = rest; are = refl; a = a; b = b; first = first; second = second }, cc)

module _ (m : Module) (limits : Terms) (C : Context) where
  pub value_preserved : (w : Width) (i : Instr) (ts below middle : List ValType) (vs : List Val) (s : State) (e : Result ℕ TrapKind) → middle ≡ integer_type w ∷ below → map type_of vs ≡ below
      → height (rule C i) (length ts) ≡ length middle → map type_of s.locals ≡ C.locals → IsTypedStore m s.store
      → IsPreserved m C i ts middle (or_trap e s (λ n. with_operands (value w n ∷ vs) s))
  value_preserved w i ts below middle vs s (Ok n) e types counted locals stored =
      record { types = ap (λ (t : ValType). t ∷ map type_of vs) (value_type w n) ∙ ap (λ (l : List ValType). integer_type w ∷ l) types ∙ sym e; counted = counted; locals = locals; stored = stored }
  value_preserved w i ts below middle vs s (Err t) e types counted locals stored = tt
