use Rattle.std.proofs.Common.{◌≡◌, refl, ◌∙◌}
use Rattle.wasm_types.specs.declared.types.ValType.{ValType}
use Rattle.wasm_types.specs.declared.types.ValType.TheVariants as type
use Rattle.wasm_types.specs.SameTypes.{same}
use Rattle.wasm_types.specs.contracts.types.ValTypePartialEq.TheImpl.{eq-value}
use Rattle.wasm_types.proofs.SameTypeLemmas.{pointwise_same}
use Rattle.wasm_types.proofs.types.same_types.Goals as goal

test_is : (t u : ValType) → eq-value.it t u ≡ same t u
test_is type.I32 type.I32 = refl
test_is type.I32 type.I64 = refl
test_is type.I32 type.F32 = refl
test_is type.I32 type.F64 = refl
test_is type.I64 type.I32 = refl
test_is type.I64 type.I64 = refl
test_is type.I64 type.F32 = refl
test_is type.I64 type.F64 = refl
test_is type.F32 type.I32 = refl
test_is type.F32 type.I64 = refl
test_is type.F32 type.F32 = refl
test_is type.F32 type.F64 = refl
test_is type.F64 type.I32 = refl
test_is type.F64 type.I64 = refl
test_is type.F64 type.F32 = refl
test_is type.F64 type.F64 = refl

pub returns : goal.returns
returns c = c.eq.ensures ∙ pointwise_same eq-value.it test_is c.args.a.now c.args.b.now
