-- Bytes that are accessible, and the zeros after them.
use Rattle.std.proofs.Common.{◌≡◌, ℕ, ◌+◌, ◌-◌, ◌<◌, ◌≤◌, List, ◌++◌, length, take, drop, replicate, get_or, sym, ap, ◌∙◌, arith, length-append}
use Rattle.std.proofs.lemmas.List.{append_assoc, get_or_append_left, length-replicate, replicate-append-replicate}
use Rattle.wasm_spec.specs.Store.{written}
use Rattle.wasm_spec.proofs.StoreSizes.{length-written}
use Rattle.linear_memory.proofs.WrittenBytes.{part-of_front, written-front}

abbrev pub with_zeros : (total : ℕ) (accessible : List ℕ) → List ℕ
with_zeros total accessible = accessible ++ replicate (total - length accessible) 0

pub length-with_zeros : (total : ℕ) (accessible : List ℕ) → length accessible ≤ total → length (with_zeros total accessible) ≡ total
length-with_zeros total accessible le =
    let zeros : length {A = ℕ} (replicate (total - length accessible) 0) ≡ total - length accessible = length-replicate (total - length accessible) 0 in
    omega (arith, length-append accessible (replicate (total - length accessible) 0), zeros)

-- more zeros are accessible
pub zeros_reached : (total n : ℕ) (accessible new : List ℕ) → length accessible ≤ n → n ≤ total → new ≡ accessible ++ replicate (n - length accessible) 0 → with_zeros total new ≡ with_zeros total accessible
zeros_reached total n accessible new le fits is =
    let a : ℕ = n - length accessible in
    let zeros : length {A = ℕ} (replicate a 0) ≡ a = length-replicate a 0 in
    let long : length new ≡ n = omega (arith, ap length is, length-append accessible (replicate a 0), zeros) in
    ap (λ (k : ℕ). new ++ replicate (total - k) 0) long
    ∙ ap (λ (l : List ℕ). l ++ replicate (total - n) 0) is
    ∙ append_assoc accessible (replicate a 0) (replicate (total - n) 0)
    ∙ ap (λ (l : List ℕ). accessible ++ l) (replicate-append-replicate a (total - n) 0 ∙ ap (λ (k : ℕ). replicate k 0) (omega arith))

-- what is written over those that are accessible is written over all
pub written_accessible : (total at : ℕ) (p accessible new : List ℕ) → at + length p ≤ length accessible → new ≡ written accessible at p → with_zeros total new ≡ written (with_zeros total accessible) at p
written_accessible total at p accessible new h is =
    let long : length new ≡ length accessible = ap length is ∙ length-written accessible at p h in
    ap (λ (k : ℕ). new ++ replicate (total - k) 0) long
    ∙ ap (λ (l : List ℕ). l ++ replicate (total - length accessible) 0) is
    ∙ sym (written-front at p accessible (replicate (total - length accessible) 0) h)

pub part_accessible : (total from n : ℕ) (accessible : List ℕ) → from + n ≤ length accessible → take n (drop from (with_zeros total accessible)) ≡ take n (drop from accessible)
part_accessible total from n accessible h = part-of_front from n accessible (replicate (total - length accessible) 0) h

pub byte_accessible : (total place : ℕ) (accessible : List ℕ) → place < length accessible → get_or (with_zeros total accessible) place 0 ≡ get_or accessible place 0
byte_accessible total place accessible lt = get_or_append_left accessible (replicate (total - length accessible) 0) 0 place lt
