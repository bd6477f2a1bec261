-- Values and their types, one by one.
use Rattle.std.proofs.Common.{◌≡◌, ℕ, ◌+◌, ◌<◌, List, ◌∷◌, [], ◌++◌, length, map, take, get_or, sym, ap, ◌∙◌, arith, add-one}
use Rattle.std.proofs.Math.Seq.{take-suc}
use Rattle.std.proofs.Math.ListN.{get_or-map}
use Rattle.std.proofs.lemmas.List.{length-map}
use Rattle.wasm_types.specs.declared.types.ValType.{ValType}
use Rattle.wasm_values.specs.declared.outcome.Val.{Val}
use Rattle.wasm_spec.specs.Typing.{type_of}

-- one value more has its type
pub one_more : (values : List Val) (types : List ValType) (i : ℕ) (d : Val) (e : ValType) → i < length values → length values ≡ length types
    → type_of (get_or values i d) ≡ get_or types i e → take i (map type_of values) ≡ take i types → take (i + 1) (map type_of values) ≡ take (i + 1) types
one_more values types i d e lt same is before =
    let there : i < length (map type_of values) = omega (arith, length-map values type_of) in
    let other : i < length types = omega arith in
    rw (add-one i)
    (take-suc (map type_of values) i (type_of d) there
    ∙ ap (λ (ts : List ValType). ts ++ get_or (map type_of values) i (type_of d) ∷ []) before
    ∙ ap (λ (t : ValType). take i types ++ t ∷ []) (get_or-map type_of values i d ∙ is)
    ∙ sym (take-suc types i e other))
