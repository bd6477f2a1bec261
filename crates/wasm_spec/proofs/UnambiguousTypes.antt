-- Bytes begin with at most one type of each kind.
use Rattle.std.proofs.Common.{◌≡◌, ℕ, List, refl, sym, ap, ◌∙◌, subst, arith, Bool, true, false}
use Rattle.std.specs.Prelude.{Option, Some, None}
use Rattle.wasm_types.specs.declared.types.ValType.{ValType}
use Rattle.wasm_types.specs.declared.types.ValType.TheVariants.{I32, I64, F32, F64}
use Rattle.wasm_types.specs.declared.types.FuncType.{FuncType}
use Rattle.wasm_types.specs.declared.types.Limits.{Limits}
use Rattle.wasm_types.specs.declared.types.GlobalType.{GlobalType}
use Rattle.wasm_spec.specs.Numbers.{TakesUnsigned, TakesVec, IsUnambiguous}
use Rattle.wasm_spec.specs.TypeGrammar.{value_type_byte, TakesValType, block_type_byte, TakesBlockType, TakesFuncType, TakesRange, TakesLimits, TakesTableType, mutability_byte, TakesGlobalType}
use Rattle.wasm_spec.proofs.UnambiguousNumbers.{same_first, same_others, unsigned-unique, vec-unique}

pub same_value_type : (t u : ValType) → value_type_byte t ≡ value_type_byte u → t ≡ u
same_value_type I32 I32 e = refl
same_value_type I64 I64 e = refl
same_value_type F32 F32 e = refl
same_value_type F64 F64 e = refl
same_value_type I32 _ e = absurd (omega (arith, e))
same_value_type I64 _ e = absurd (omega (arith, e))
same_value_type F32 _ e = absurd (omega (arith, e))
same_value_type F64 _ e = absurd (omega (arith, e))

pub val_type-unique : IsUnambiguous TakesValType
val_type-unique t u bytes r s a b = (same_value_type t u (same_first a b), same_others a b)

not_empty : (t : ValType) → block_type_byte None ≡ value_type_byte t → ⊥
not_empty I32 e = omega (arith, e)
not_empty I64 e = omega (arith, e)
not_empty F32 e = omega (arith, e)
not_empty F64 e = omega (arith, e)

same_block_type : (t u : Option ValType) → block_type_byte t ≡ block_type_byte u → t ≡ u
same_block_type None None e = refl
same_block_type None (Some u) e = absurd (not_empty u e)
same_block_type (Some t) None e = absurd (not_empty t (sym e))
same_block_type (Some t) (Some u) e = ap (λ (v : ValType). Some v) (same_value_type t u e)

pub block_type-unique : IsUnambiguous TakesBlockType
block_type-unique t u bytes r s a b = (same_block_type t u (same_first a b), same_others a b)

pub func_type-unique : IsUnambiguous TakesFuncType
func_type-unique t u bytes r s a b =
    let i = vec-unique TakesValType val_type-unique t.params u.params a.after a.mid b.mid a.params
    (subst (λ (l : List ℕ). TakesVec TakesValType u.params l b.mid) (sym (same_others a.tag b.tag)) b.params) in
    let j = vec-unique TakesValType val_type-unique t.results u.results a.mid r s a.results
    (subst (λ (l : List ℕ). TakesVec TakesValType u.results l s) (sym i.1) b.results) in
    let make : List ValType → List ValType → FuncType = λ ps rs. record { params = ps; results = rs } in
    (ap (λ (ps : List ValType). make ps t.results) i.0 ∙ ap (λ (rs : List ValType). make u.params rs) j.0, j.1)

range-unique : (low : ℕ) (high : Option ℕ) (low' : ℕ) (high' : Option ℕ) (bytes r s : List ℕ) → TakesRange low high bytes r → TakesRange low' high' bytes s → (low ≡ low') × (high ≡ high') × (r ≡ s)
range-unique low None low' None bytes r s a b =
    let i = unsigned-unique 32 low low' a.0 r s a.2 (subst (λ (l : List ℕ). TakesUnsigned 32 low' l s) (sym (same_others a.1 b.1)) b.2) in
    (i.0, refl, i.1)
range-unique low None low' (Some high') bytes r s a b = absurd (omega (arith, same_first a.1 b.1))
range-unique low (Some high) low' None bytes r s a b = absurd (omega (arith, same_first a.1 b.1))
range-unique low (Some high) low' (Some high') bytes r s a b =
    let i = unsigned-unique 32 low low' a.0 a.2.0 b.2.0 a.2.1 (subst (λ (l : List ℕ). TakesUnsigned 32 low' l b.2.0) (sym (same_others a.1 b.1)) b.2.1) in
    let j = unsigned-unique 32 high high' a.2.0 r s a.2.2 (subst (λ (l : List ℕ). TakesUnsigned 32 high' l s) (sym i.1) b.2.2) in
    (i.0, ap (λ (n : ℕ). Some n) j.0, j.1)

pub limits-unique : IsUnambiguous TakesLimits
limits-unique l m bytes r s a b =
    let i = range-unique l.min l.max m.min m.max bytes r s a b in
    let make : ℕ → Option ℕ → Limits = λ low high. record { min = low; max = high } in
    (ap (λ (n : ℕ). make n l.max) i.0 ∙ ap (λ (o : Option ℕ). make m.min o) i.1, i.2)

pub table_type-unique : IsUnambiguous TakesTableType
table_type-unique l m bytes r s a b =
    limits-unique l m a.0 r s a.2 (subst (λ (k : List ℕ). TakesLimits m k s) (sym (same_others a.1 b.1)) b.2)

same_mutability : (a b : Bool) → mutability_byte a ≡ mutability_byte b → a ≡ b
same_mutability false false e = refl
same_mutability false true e = absurd (omega (arith, e))
same_mutability true false e = absurd (omega (arith, e))
same_mutability true true e = refl

pub global_type-unique : IsUnambiguous TakesGlobalType
global_type-unique g h bytes r s a b =
    let make : ValType → Bool → GlobalType = λ t m. record { value = t; mutable = m } in (
      ap (λ (t : ValType). make t g.mutable) (same_value_type g.value h.value (same_first a b))
          ∙ ap (λ (m : Bool). make h.value m) (same_mutability g.mutable h.mutable (same_first refl (same_others a b))),
      same_others refl (same_others a b),
    )
