-- When types are the same.
use Rattle.std.specs.Prelude.{List, [], ◌∷◌, Bool, true, false, ◌&&◌}
use Rattle.wasm_types.specs.declared.types.ValType.{ValType}
use Rattle.wasm_types.specs.declared.types.ValType.TheVariants.{I32, I64, F32, F64}
use Rattle.wasm_types.specs.declared.types.FuncType.{FuncType}

-- whether two value types are the same
abbrev pub same : ValType → ValType → Bool
same I32 I32 = true
same I64 I64 = true
same F32 F32 = true
same F64 F64 = true
same _ _ = false

abbrev pub all_same : List ValType → List ValType → Bool
all_same [] [] = true
all_same (t ∷ ts) (u ∷ us) = same t u && all_same ts us
all_same _ _ = false

-- whether two function types are the same
abbrev pub same_type : FuncType → FuncType → Bool
same_type a b = all_same a.params b.params && all_same a.results b.results
