-- How long what a store holds is.
use Rattle.std.proofs.Common.{◌≡◌, ℕ, zero, suc, ◌+◌, ◌*◌, ◌/◌, ◌≤◌, List, length, refl, arith, length-append, length-take, length-drop}
use Rattle.std.specs.Prelude.{replicate, slice_index}
use Rattle.wasm_types.specs.declared.types.Limits.{Limits}
use Rattle.wasm_spec.specs.Store.{page_size, written, minimum_of}

-- to write within a list keeps its length
pub length-written : {A : Type 0} (list : List A) (at : ℕ) (items : List A) → at + length items ≤ length list → length (written list at items) ≡ length list
length-written list at items h = simp (length-append, length-take, length-drop) (omega arith)

-- zeros to a length are zeros without end
pub zeros-at : (n i : ℕ) → slice_index (replicate n 0) i ≡ 0
zeros-at zero i = refl
zeros-at (suc n) zero = refl
zeros-at (suc n) (suc i) = zeros-at n i

-- whole pages are so many pages
pub whole_pages : (n : ℕ) → n * page_size / page_size ≡ n
whole_pages n = omega arith

-- fewer pages are fewer bytes
pub pages_within : (n pages bytes : ℕ) → bytes ≡ pages * page_size → n ≤ pages → n * page_size ≤ bytes
pages_within n pages bytes e le = omega arith

pub minimum_within : (ms : List Limits) (pages bytes : ℕ) → bytes ≡ minimum_of ms * page_size → minimum_of ms ≤ pages → bytes ≤ pages * page_size
minimum_within ms pages bytes e le = omega arith
