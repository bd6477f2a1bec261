-- The zeros of declared locals.
use Rattle.std.proofs.Common.{◌≡◌, ℕ, zero, suc, ◌+◌, ◌-◌, ◌<◌, ◌≤◌, List, [], ◌∷◌, ◌++◌, length, map, take, get_or, replicate, refl, ap, ◌∙◌, arith, append-nil}
use Rattle.std.proofs.lemmas.List.{map-append, take_all, take_more, length-map, length-replicate}
use Rattle.std.proofs.lemmas.List.Concat.{flat_map-append}
use Rattle.std.proofs.lemmas.List.Folds.{length-flat_map-take}
use Rattle.std.specs.List.{flat_map}
use Rattle.wasm_types.specs.declared.types.ValType.{ValType}
use Rattle.wasm_values.specs.declared.outcome.Val.{Val}
use Rattle.wasm_types.specs.declared.module.LocalRun.{LocalRun}
use Rattle.wasm_types.specs.Tree.{locals_of}
use Rattle.wasm_spec.specs.Execution.{zero_of}

map-replicate : (n : ℕ) (t : ValType) → map zero_of (replicate n t) ≡ replicate n (zero_of t)
map-replicate zero t = refl
map-replicate (suc n) t = ap (λ (l : List Val). zero_of t ∷ l) (map-replicate n t)

pub zeros_more : (runs : List LocalRun) (i : ℕ) (d : LocalRun) → i < length runs
    → map zero_of (flat_map locals_of (take (i + 1) runs)) ≡ map zero_of (flat_map locals_of (take i runs)) ++ replicate (get_or runs i d).count (zero_of (get_or runs i d).value)
zeros_more runs i d lt =
    let run : LocalRun = get_or runs i d in
    ap (λ (l : List LocalRun). map zero_of (flat_map locals_of l)) (take_more runs i d lt)
    ∙ ap (map zero_of) (flat_map-append locals_of (take i runs) (run ∷ []))
    ∙ map-append zero_of (flat_map locals_of (take i runs)) (replicate run.count run.value ++ [])
    ∙ ap (λ (l : List ValType). map zero_of (flat_map locals_of (take i runs)) ++ map zero_of l) (append-nil (replicate run.count run.value))
    ∙ ap (λ (l : List Val). map zero_of (flat_map locals_of (take i runs)) ++ l) (map-replicate run.count run.value)

pub zeros_fit : (runs : List LocalRun) (i : ℕ) (d : LocalRun) → i < length runs
    → length (map zero_of (flat_map locals_of (take i runs))) + (get_or runs i d).count ≤ length (flat_map locals_of runs)
zeros_fit runs i d lt =
    omega (arith, length-flat_map-take locals_of runs i d lt, length-map (flat_map locals_of (take i runs)) zero_of, length-replicate (get_or runs i d).count (get_or runs i d).value)

pub resized : (items : List Val) (n k : ℕ) (v : Val) → k ≡ length items + n → take k items ++ replicate (k - length items) v ≡ items ++ replicate n v
resized items n k v e =
    let m : k - length items ≡ n = omega arith in
    ap (λ (l : List Val). l ++ replicate (k - length items) v) (take_all k items (omega arith)) ∙ ap (λ (z : ℕ). items ++ replicate z v) m
