-- More bodies in the words of the relation of typing.
use Rattle.std.proofs.Common.{[], ◌∷◌, Some, refl}
use Rattle.wasm_types.specs.declared.types.ValType.TheVariants.{I32, I64}
use Rattle.wasm_values.specs.declared.outcome.Val.TheVariants as val
use Rattle.wasm_types.specs.declared.instr.Width.TheVariants.{W64}
use Rattle.wasm_types.specs.declared.instr.Instr.TheVariants as instr
use Rattle.wasm_types.specs.Tree.{Code, End, Plain, Block, Loop}
use Rattle.wasm_spec.specs.Typing.{Typed, body_context}
use Rattle.wasm_examples.proofs.Modules.{function_of, bare, empty_type}

-- code of a function that takes and gives nothing
abbrev IsTyped : Code → Type 0
IsTyped code = Typed (body_context (bare (empty_type ∷ []) (function_of 0 code ∷ []) []) (function_of 0 code)) code [] []

abbrev wide : Code → Code
wide rest = Plain (instr.Const (val.I64 0)) rest

-- two numbers of 64 bits, one of which is chosen by one of 32
select_of_64_bits : IsTyped (wide (wide (Plain (instr.Const (val.I32 0)) (Plain instr.Select (Plain (instr.Eqz W64) (Plain instr.Drop End))))))
select_of_64_bits = (
  I64 ∷ [],
  ([], refl, refl),
  (
    I64 ∷ I64 ∷ [],
    (I64 ∷ [], refl, refl),
    (
      I32 ∷ I64 ∷ I64 ∷ [],
      (I64 ∷ I64 ∷ [], refl, refl),
      (I64 ∷ [], (I64, [], refl, refl), (I32 ∷ [], ([], refl, refl), ([], (I32, refl), refl))),
    ),
  ),
)

-- the body of a loop leaves its result
loop_with_a_result : IsTyped (Loop (Some I32) (Plain (instr.Const (val.I32 8)) End) (Plain instr.Drop End))
loop_with_a_result = ((I32 ∷ [], ([], refl, refl), refl), ([], (I32, refl), refl))

-- an operand is left
operand_left : IsTyped (wide End) → ⊥
operand_left h = let first = h.1 in let last = h.2 in cc (first.1, first.2, last)

-- an instruction on floats has no type
float_is_untyped : IsTyped (Plain instr.Float End) → ⊥
float_is_untyped h = h.1

-- a branch by a table takes an index, and the value of its label below that
branch_table_without_an_index : IsTyped (Plain (instr.BrTable [] 0) End) → ⊥
branch_table_without_an_index h = let e = h.1.1 in cc (e)

branch_table_without_its_value : IsTyped (Block (Some I32) (Plain (instr.Const (val.I32 0)) (Plain (instr.BrTable [] 0) End)) (Plain instr.Drop End)) → ⊥
branch_table_without_its_value h = let index = h.0.1 in let taken = h.0.2.1 in cc (index.1, index.2, taken.1)
