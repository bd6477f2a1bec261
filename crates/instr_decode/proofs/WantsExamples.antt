-- Vectors that say that they have one item, or none: memory may be wanted only where the item stands.
use Rattle.std.proofs.Common.{ℕ, ⊎_elim, inl, List, [], ◌∷◌, refl, subst, arith}
use Rattle.wasm_spec.specs.Numbers.{TakesUnsigned}
use Rattle.wasm_spec.proofs.UnambiguousNumbers.{unsigned-unique}
use Rattle.instr_decode.specs.Wants.{BeginsWith, WantsVec}

one-is-there : WantsVec (TakesUnsigned 32) (λ _. ⊥) (1 ∷ 5 ∷ [])
one-is-there = record {
  number = 1;
  mid = 5 ∷ [];
  count = inl (omega arith, omega arith, refl, refl);
  some = omega arith;
  first = inl (record { item = 5; after = []; spelled = inl (omega arith, omega arith, refl, refl) });
}

one-is-claimed : WantsVec (TakesUnsigned 32) (λ _. ⊥) (1 ∷ []) → ⊥
one-is-claimed w =
    let count = unsigned-unique 32 w.number 1 (1 ∷ []) w.mid [] w.count (inl (omega arith, omega arith, refl, refl)) in
    ⊎_elim (λ (b : BeginsWith (TakesUnsigned 32) w.mid). subst (λ (l : List ℕ). TakesUnsigned 32 b.item l b.after) count.1 b.spelled) (λ (wants : ⊥). wants) w.first

none-is-asked : WantsVec (TakesUnsigned 32) (λ _. ⊥) (0 ∷ 5 ∷ []) → ⊥
none-is-asked w =
    let count = unsigned-unique 32 w.number 0 (0 ∷ 5 ∷ []) w.mid (5 ∷ []) w.count (inl (omega arith, omega arith, refl, refl)) in
    absurd (omega (arith, count.0, w.some))
