-- Entries that are written one after another, and the globals' first values.
use Rattle.std.proofs.Common.{◌≡◌, ℕ, ◌+◌, ◌<◌, List, [], ◌∷◌, ◌++◌, length, take, drop, get_or, refl, sym, ap, ◌∙◌, arith, append_assoc}
use Rattle.std.specs.Prelude.{Option, Some, None, map}
use Rattle.std.proofs.lemmas.List.{drop_more, set_at, take_more, map-append, length-map, length-take-le}
use Rattle.std.specs.Prelude.{slice_set, slice_index_or}
use Rattle.wasm_types.specs.declared.module.Global.{Global}
use Rattle.wasm_values.specs.declared.outcome.Val.{Val}
use Rattle.wasm_types.specs.Tree.{global_tree}
use Rattle.initial_image.specs.Segments.{first_value}

abbrev some : ℕ → Option ℕ
some f = Some f

-- after one more entry
pub entries-next : (functions : List ℕ) (old entries : List (Option ℕ)) (i : ℕ) → i < length functions → length old ≡ length functions
    → entries ≡ map some (take i functions) ++ drop i old
    → slice_set entries i (Some (slice_index_or functions i 0)) ≡ map some (take (i + 1) functions) ++ drop (i + 1) old
entries-next functions old entries i lt long are =
    let f : ℕ = slice_index_or functions i 0 in
    let done : List (Option ℕ) = map some (take i functions) in
    let as_long : length done ≡ i = length-map (take i functions) some ∙ length-take-le i functions (omega arith) in
    ap (λ (l : List (Option ℕ)). slice_set l i (Some f)) (are ∙ ap (λ (l : List (Option ℕ)). done ++ l) (drop_more old i None (omega arith)))
    ∙ set_at done (get_or old i None) (drop (i + 1) old) (Some f) i as_long
    ∙ sym (append_assoc done (Some f ∷ []) (drop (i + 1) old))
    ∙ ap (λ (l : List (Option ℕ)). l ++ drop (i + 1) old) (sym (map-append some (take i functions) (f ∷ [])))
    ∙ ap (λ (l : List ℕ). map some l ++ drop (i + 1) old) (sym (take_more functions i 0 lt))

pub map-first_value : (globals : List Global) → map first_value (map global_tree globals) ≡ map (λ g. first_value (global_tree g)) globals
map-first_value [] = refl
map-first_value (g ∷ globals) = ap (λ (l : List Val). first_value (global_tree g) ∷ l) (map-first_value globals)
