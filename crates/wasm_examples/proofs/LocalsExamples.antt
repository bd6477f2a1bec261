-- Fewer than 2^32 locals: two runs of 2^31 are too many.
use Rattle.std.proofs.Common.{◌≡◌, ℕ, ◌+◌, length, refl, ap, ◌∙◌, List, [], ◌∷◌, ◌++◌, inl, inr, arith}
use Rattle.std.proofs.lemmas.List.{length-append, length-replicate}
use Rattle.std.specs.List.{flat_map}
use Rattle.wasm_values.specs.declared.profile.Profile.TheVariants.{One}
use Rattle.wasm_types.specs.declared.types.ValType.{ValType}
use Rattle.wasm_types.specs.declared.types.ValType.TheVariants.{I32}
use Rattle.wasm_types.specs.declared.module.LocalRun.{LocalRun}
use Rattle.wasm_types.specs.Tree.{locals_of}
use Rattle.wasm_spec.specs.Numbers.{TakesVec}
use Rattle.wasm_spec.specs.Grammar.{TakesLocalRun, Body, TakesBody}
use Rattle.wasm_spec.proofs.UnambiguousNumbers.{vec-unique}
use Rattle.wasm_spec.proofs.UnambiguousModules.{local_run-unique}

abbrev half : LocalRun
half = record { count = 2147483648; value = I32 }

half_spelled : (rest : List ℕ) → TakesLocalRun half (0x80 ∷ 0x80 ∷ 0x80 ∷ 0x80 ∷ 0x08 ∷ 0x7F ∷ rest) rest
half_spelled rest = record {
  mid = 0x7F ∷ rest;
  count = inr (omega arith, omega arith, 16777216, inr (omega arith, omega arith, 131072, inr (omega arith, omega arith, 1024, inr (omega arith, omega arith, 8, inl (omega arith, omega arith, refl, refl), refl), refl), refl), refl);
  value = refl;
}

abbrev behind_one : List ℕ
behind_one = 0x80 ∷ 0x80 ∷ 0x80 ∷ 0x80 ∷ 0x08 ∷ 0x7F ∷ 0x0B ∷ []

abbrev two_halves : List ℕ
two_halves = 2 ∷ 0x80 ∷ 0x80 ∷ 0x80 ∷ 0x80 ∷ 0x08 ∷ 0x7F ∷ behind_one

halves_spelled : TakesVec TakesLocalRun (half ∷ half ∷ []) two_halves (0x0B ∷ [])
halves_spelled = record {
  mid = 0x80 ∷ 0x80 ∷ 0x80 ∷ 0x80 ∷ 0x08 ∷ 0x7F ∷ behind_one;
  count = inl (omega arith, omega arith, refl, refl);
  items = (behind_one, half_spelled behind_one, (0x0B ∷ [], half_spelled (0x0B ∷ []), refl));
}

-- how many locals two runs declare
two_runs : (a b : LocalRun) → length (flat_map locals_of (a ∷ b ∷ [])) ≡ a.count + b.count
two_runs a b =
    let none : List ValType = [] in
    let one : length (locals_of a ++ (locals_of b ++ none)) ≡ length (locals_of a) + length (locals_of b ++ none) = length-append (locals_of a) (locals_of b ++ none) in
    let other : length (locals_of b ++ none) ≡ length (locals_of b) + 0 = length-append (locals_of b) none in
    let la : length (locals_of a) ≡ a.count = length-replicate a.count a.value in
    let lb : length (locals_of b) ≡ b.count = length-replicate b.count b.value in
    omega (arith, one, other, la, lb)

too_many_locals : (b : Body) (rest : List ℕ) → TakesBody One b two_halves rest → ⊥
too_many_locals b rest h =
    let runs = vec-unique TakesLocalRun local_run-unique h.runs (half ∷ half ∷ []) two_halves h.mid (0x0B ∷ []) h.spelled halves_spelled in
    let are = h.locals ∙ ap (λ (rs : List LocalRun). flat_map locals_of rs) runs.0 in
    let count = ap (λ (ts : List ValType). length ts) are ∙ two_runs half half in
    omega (arith, h.few, count)
