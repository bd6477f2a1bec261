-- Locals in runs: where one is found, and how many there are.
use Rattle.std.proofs.Common.{◌≡◌, ℕ, zero, suc, ◌+◌, ◌-◌, ◌<◌, ◌≤◌, List, [], ◌∷◌, ◌++◌, Some, length, replicate, get_or, refl, ap, ◌∙◌, subst, true, false, leb, leb-true, leb-false, arith, length-append}
use Rattle.std.specs.Prelude.{Option, slice_get, option_map, unwrap_or}
use Rattle.std.specs.List.{flat_map}
use Rattle.std.specs.List.Sorted.{IsNonDecreasingBy, IsPartitionPoint}
use Rattle.std.proofs.lemmas.List.{length-replicate}
use Rattle.wasm_types.specs.declared.types.ValType.{ValType}
use Rattle.wasm_types.specs.declared.module.LocalRun.{LocalRun}
use Rattle.wasm_types.specs.Tree.{locals_of}
use Rattle.wasm_checker.specs.Runs.{ends_from}

-- the end_type don't fall
ends_past : (runs : List LocalRun) (n k d : ℕ) → k < length (ends_from n runs) → n ≤ get_or (ends_from n runs) k d
ends_past [] n k d lt = absurd (omega arith)
ends_past (r ∷ rs) n zero d lt = omega arith
ends_past (r ∷ rs) n (suc k) d lt = let h = ends_past rs (n + r.count) k d (omega arith) in omega (arith, h)

pub ends_rise : (runs : List LocalRun) (n : ℕ) → IsNonDecreasingBy (λ e. e) (ends_from n runs)
ends_rise [] n i j d le lt = absurd (omega arith)
ends_rise (r ∷ rs) n zero zero d le lt = omega arith
ends_rise (r ∷ rs) n zero (suc j) d le lt = ends_past rs (n + r.count) j d (omega arith)
ends_rise (r ∷ rs) n (suc i) zero d le lt = absurd (omega arith)
ends_rise (r ∷ rs) n (suc i) (suc j) d le lt = ends_rise rs (n + r.count) i j d (omega arith) (omega arith)

-- within the first run, and past it
in_run : (c : ℕ) (t : ValType) (rest : List ValType) (i : ℕ) → i < c → slice_get (replicate c t ++ rest) i ≡ Some t
in_run zero t rest i lt = absurd (omega arith)
in_run (suc c) t rest zero lt = refl
in_run (suc c) t rest (suc i) lt = in_run c t rest i (omega arith)

past_run : (c : ℕ) (t : ValType) (rest : List ValType) (i j : ℕ) → i ≡ c + j → slice_get (replicate c t ++ rest) i ≡ slice_get rest j
past_run zero t rest i j e = ap (slice_get rest) (let h : i ≡ j = omega arith in h)
past_run (suc c) t rest zero j e = absurd (omega arith)
past_run (suc c) t rest (suc i) j e = past_run c t rest i j (omega arith)

-- the run of local x - n is the first whose end lies past x
run_found : (runs : List LocalRun) (n x p : ℕ) → n ≤ x → p ≤ length (ends_from n runs)
    → ((k d : ℕ) → k < p → get_or (ends_from n runs) k d ≤ x) → ((k d : ℕ) → p ≤ k → k < length (ends_from n runs) → x < get_or (ends_from n runs) k d)
    → slice_get (flat_map locals_of runs) (x - n) ≡ option_map (λ r. r.value) (slice_get runs p)
run_found [] n x p le within below above = refl
run_found (r ∷ rs) n x zero le within below above =
    let past : x < n + r.count = above 0 0 (omega arith) (omega arith) in
    in_run r.count r.value (flat_map locals_of rs) (x - n) (omega arith)
run_found (r ∷ rs) n x (suc p) le within below above =
    let past : n + r.count ≤ x = below 0 0 (omega arith) in
    past_run r.count r.value (flat_map locals_of rs) (x - n) (x - (n + r.count)) (omega arith)
    ∙ run_found rs (n + r.count) x p past (omega arith) (λ k d lt. below (suc k) d (omega arith)) (λ k d ge lt. above (suc k) d (omega arith) (omega arith))

-- the last end is the number of all
last_end : (runs : List LocalRun) (n i : ℕ) → i + 1 ≡ length runs → slice_get (ends_from n runs) i ≡ Some (n + length (flat_map locals_of runs))
last_end [] n i e = absurd (omega arith)
last_end (r ∷ []) n zero e =
    let h : n + r.count ≡ n + length (replicate r.count r.value ++ []) = omega (arith, length-append (replicate r.count r.value) [], length-replicate r.count r.value) in
    ap (λ (m : ℕ). Some m) h
last_end (r ∷ s ∷ rs) n zero e = absurd (omega arith)
last_end (r ∷ rs) n (suc i) e =
    let h : n + r.count + length (flat_map locals_of rs) ≡ n + length (replicate r.count r.value ++ flat_map locals_of rs) =
    omega (arith, length-append (replicate r.count r.value) (flat_map locals_of rs), length-replicate r.count r.value) in
    last_end rs (n + r.count) i (omega arith) ∙ ap (λ (m : ℕ). Some m) h

-- as many end_type as runs
as_many_ends : (runs : List LocalRun) (n : ℕ) → length (ends_from n runs) ≡ length runs
as_many_ends [] n = refl
as_many_ends (r ∷ rs) n = let h = as_many_ends rs (n + r.count) in omega (arith, h)

pub count_is : (runs : List LocalRun) (end_type : List ℕ) → end_type ≡ ends_from 0 runs → unwrap_or (slice_get end_type (length end_type - 1)) 0 ≡ length (flat_map locals_of runs)
count_is [] end_type is = ap (λ (l : List ℕ). unwrap_or (slice_get l (length l - 1)) 0) is
count_is (r ∷ rs) end_type is =
    let last = last_end (r ∷ rs) 0 (length end_type - 1) (omega (arith, ap length is, as_many_ends (r ∷ rs) 0)) in
    ap (λ (l : List ℕ). unwrap_or (slice_get l (length end_type - 1)) 0) is ∙ ap (λ (o : Option ℕ). unwrap_or o 0) last ∙ omega arith

-- by what a search along the end_type push_types
pub type_found : (runs : List LocalRun) (end_type : List ℕ) (x p : ℕ) → end_type ≡ ends_from 0 runs → p ≤ length end_type → IsPartitionPoint (λ e. leb e x ≡ true) (λ e. leb e x ≡ false) end_type p
    → slice_get (flat_map locals_of runs) x ≡ option_map (λ r. r.value) (slice_get runs p)
type_found runs end_type x p is within point =
    let h = subst (λ (l : List ℕ). (p ≤ length l) × IsPartitionPoint (λ e. leb e x ≡ true) (λ e. leb e x ≡ false) l p) is (within, point) in
    ap (slice_get (flat_map locals_of runs)) (let z : x ≡ x - 0 = omega arith in z) ∙ run_found runs 0 x p (omega arith) h.0 (λ k d lt. leb-true _ _ (h.1.0 k d (omega arith) lt)) (λ k d ge lt. leb-false _ _ (h.1.1 k d ge lt))
