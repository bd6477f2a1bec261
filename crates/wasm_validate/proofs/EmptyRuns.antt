-- The locals of a function are those of its runs that have some.
use Rattle.std.proofs.Common.{◌≡◌, ℕ, zero, suc, List, [], ◌∷◌, ◌++◌, true, filter, nat_lt, refl, ap, replicate, arith}
use Rattle.std.specs.List.{flat_map}
use Rattle.wasm_types.specs.declared.types.ValType.{ValType}
use Rattle.wasm_types.specs.declared.module.LocalRun.{LocalRun}
use Rattle.wasm_types.specs.Tree.{locals_of}

flat_map-cons_filter : (n : ℕ) (t : ValType) (runs : List LocalRun) → flat_map locals_of (filter (λ run. nat_lt 0 run.count) runs) ≡ flat_map locals_of runs
    → flat_map locals_of (filter (λ run. nat_lt 0 run.count) (record { count = n; value = t } ∷ runs)) ≡ replicate n t ++ flat_map locals_of runs
flat_map-cons_filter zero t runs e = e
flat_map-cons_filter (suc n) t runs e =
    let some : nat_lt 0 (suc n) ≡ true = grind (arith) in
    rw some (ap (λ (l : List ValType). replicate (suc n) t ++ l) e)

-- a run of no locals adds none
pub flat_map-filter : (runs : List LocalRun) → flat_map locals_of (filter (λ run. nat_lt 0 run.count) runs) ≡ flat_map locals_of runs
flat_map-filter [] = refl
flat_map-filter (run ∷ runs) = flat_map-cons_filter run.count run.value runs (flat_map-filter runs)
