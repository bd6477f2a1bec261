-- The first demand past its limit, found one by one.
use Rattle.std.proofs.Common.{◌≡◌, ℕ, ◌+◌, ◌<◌, ◌≤◌, List, [], ◌∷◌, length, drop, refl, sym, ap, ◌∙◌, arith}
use Rattle.std.specs.Prelude.{Option, Some, None, find, map, slice_index_or}
use Rattle.std.specs.List.{enumerate_from}
use Rattle.std.proofs.lemmas.List.{drop_more, drop_all, length-map}
use Rattle.std.proofs.lemmas.Bool.{cond-true, cond-false, le-ltb, lt-ltb}
use Rattle.wasm_types.specs.declared.module.Module.{Module}
use Rattle.wasm_types.specs.Tree.{FunctionTree, ModuleTree, global_tree, module_tree}
use Rattle.wasm_spec.specs.Need.{need}
use Rattle.wasm_spec.specs.Loading as loading
use Rattle.wasm_spec.specs.Loading.{Demand, first_over}
use Rattle.wasm_spec.specs.Store.{minimum_of}
use Rattle.pool_limits.specs.declared.numbers.Numbers.{Numbers}
use Rattle.pool_limits.specs.Limits.{is_past, load_limits, frame_demands, first_frame_over}

-- the first from the i-th need on
abbrev pub over_from : (first most : ℕ) → List ℕ → ℕ → Option Demand
over_from first most needs i = find is_past (frame_demands (first + i) most (drop i needs))

abbrev demand : (first most : ℕ) → List ℕ → ℕ → Demand
demand first most needs i = record { which = loading.Frame (first + i); value = slice_index_or needs i 0; limit = most }

over_from-next : (first most : ℕ) (needs : List ℕ) (i : ℕ) → i < length needs
    → over_from first most needs i ≡ find is_past (demand first most needs i ∷ frame_demands (first + i + 1) most (drop (i + 1) needs))
over_from-next first most needs i lt = ap (λ (l : List ℕ). find is_past (frame_demands (first + i) most l)) (drop_more needs i 0 lt)

pub over_from-within : (first most : ℕ) (needs : List ℕ) (i : ℕ) → i < length needs → slice_index_or needs i 0 ≤ most → over_from first most needs (i + 1) ≡ over_from first most needs i
over_from-within first most needs i lt le =
    ap (λ (k : ℕ). find is_past (frame_demands k most (drop (i + 1) needs))) (omega arith)
    ∙ sym (over_from-next first most needs i lt ∙ cond-false _ _ _ (le-ltb most (slice_index_or needs i 0) le))

pub over_from-here : (first most : ℕ) (needs : List ℕ) (i : ℕ) → i < length needs → most < slice_index_or needs i 0 → over_from first most needs i ≡ Some (demand first most needs i)
over_from-here first most needs i lt past = over_from-next first most needs i lt ∙ cond-true _ _ _ (lt-ltb most (slice_index_or needs i 0) past)

pub over_from-end : (first most : ℕ) (needs : List ℕ) (i : ℕ) → length needs ≤ i → over_from first most needs i ≡ None
over_from-end first most needs i le = ap (λ (l : List ℕ). find is_past (frame_demands (first + i) most l)) (drop_all i needs le)

pub over_from-start : (first most : ℕ) (needs : List ℕ) → over_from first most needs 0 ≡ first_frame_over first most needs
over_from-start first most needs = ap (λ (k : ℕ). find is_past (frame_demands k most needs)) (omega arith)

-- what functions ask for, by their needs
pub frame_demands-map : (m : ModuleTree) (most k : ℕ) (fs : List FunctionTree)
    → map (λ f. record { which = loading.Frame f.0; value = need m f.1; limit = most }) (enumerate_from k fs) ≡ frame_demands k most (map (need m) fs)
frame_demands-map m most k [] = refl
frame_demands-map m most k (f ∷ fs) =
    ap (λ (ds : List Demand). record { which = loading.Frame k; value = need m f; limit = most } ∷ ds) (frame_demands-map m most (k + 1) fs)

-- where the sizes are within their limits, the frames alone can pass theirs
pub first_over-frames : (n : Numbers) (m : Module) (needs : List ℕ) (frame : ℕ) → needs ≡ map (need (module_tree m)) (module_tree m).functions → frame ≡ n.frame
    → minimum_of m.memories ≤ n.pages → minimum_of m.tables ≤ n.elements → length m.globals ≤ 1024
    → first_over (load_limits n) (module_tree m) ≡ first_frame_over (length m.imports) frame needs
first_over-frames n m needs frame are same pages elements globals =
    let most : length (map global_tree m.globals) ≤ 1024 = omega (arith, length-map m.globals global_tree) in
    cond-false _ _ _ (le-ltb n.pages (minimum_of m.memories) pages)
    ∙ cond-false _ _ _ (le-ltb n.elements (minimum_of m.tables) elements)
    ∙ cond-false _ _ _ (le-ltb 1024 (length (map global_tree m.globals)) most)
    ∙ ap (find is_past) (frame_demands-map (module_tree m) n.frame (length m.imports) (module_tree m).functions)
    ∙ ap (first_frame_over (length m.imports) n.frame) (sym are)
    ∙ ap (λ (k : ℕ). first_frame_over (length m.imports) k needs) (sym same)
