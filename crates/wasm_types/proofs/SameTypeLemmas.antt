-- Types that are tested to be the same are equal.
use Rattle.std.proofs.Common.{◌≡◌, List, [], ◌∷◌, Bool, true, refl, ap, ◌∙◌, arith}
use Rattle.std.specs.Prelude.{◌&&◌}
use lib.Pointwise.{pointwise}
use Rattle.wasm_types.specs.declared.types.ValType.{ValType}
use Rattle.wasm_types.specs.declared.types.ValType.TheVariants as type
use Rattle.wasm_types.specs.declared.types.FuncType.{FuncType}
use Rattle.wasm_types.specs.SameTypes.{same, all_same, same_type}

pub same_is : (t u : ValType) → same t u ≡ true → t ≡ u
same_is type.I32 type.I32 e = refl
same_is type.I64 type.I64 e = refl
same_is type.F32 type.F32 e = refl
same_is type.F64 type.F64 e = refl
same_is type.I32 type.I64 e = absurd (cc)
same_is type.I32 type.F32 e = absurd (cc)
same_is type.I32 type.F64 e = absurd (cc)
same_is type.I64 type.I32 e = absurd (cc)
same_is type.I64 type.F32 e = absurd (cc)
same_is type.I64 type.F64 e = absurd (cc)
same_is type.F32 type.I32 e = absurd (cc)
same_is type.F32 type.I64 e = absurd (cc)
same_is type.F32 type.F64 e = absurd (cc)
same_is type.F64 type.I32 e = absurd (cc)
same_is type.F64 type.I64 e = absurd (cc)
same_is type.F64 type.F32 e = absurd (cc)

pub all_same_is : (ts us : List ValType) → all_same ts us ≡ true → ts ≡ us
all_same_is [] [] e = refl
all_same_is [] (u ∷ us) e = absurd (cc)
all_same_is (t ∷ ts) [] e = absurd (cc)
all_same_is (t ∷ ts) (u ∷ us) e =
    let first : same t u ≡ true = grind (arith, e) in
    let rest : all_same ts us ≡ true = grind (arith, e) in
    let t_is = same_is t u first in let ts_are = all_same_is ts us rest in cc

-- lists are the same where each type is, by any test that agrees
pub pointwise_same : (test : ValType → ValType → Bool) → ((t u : ValType) → test t u ≡ same t u) → (ts us : List ValType) → pointwise test ts us ≡ all_same ts us
pointwise_same test is [] [] = refl
pointwise_same test is [] (u ∷ us) = refl
pointwise_same test is (t ∷ ts) [] = refl
pointwise_same test is (t ∷ ts) (u ∷ us) = ap (λ (b : Bool). b && pointwise test ts us) (is t u) ∙ ap (λ (b : Bool). same t u && b) (pointwise_same test is ts us)

pub same_type_is : (t u : FuncType) → same_type t u ≡ true → (t.params ≡ u.params) × (t.results ≡ u.results)
same_type_is t u e =
    let params : all_same t.params u.params ≡ true = grind (arith, e) in
    let results : all_same t.results u.results ≡ true = grind (arith, e) in
    (all_same_is t.params u.params params, all_same_is t.results u.results results)
