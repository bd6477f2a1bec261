-- The needs of a module's functions, one after the other.
use Rattle.std.proofs.Common.{◌≡◌, ℕ, ◌+◌, ◌<◌, ◌≤◌, List, [], ◌∷◌, ◌++◌, length, take, refl, sym, ap, ◌∙◌, subst, arith}
use Rattle.std.specs.Prelude.{All, map, get_or}
use Rattle.std.proofs.lemmas.List.{take_more, take_all, map-append, get_or-map, length-map}
use Rattle.std.proofs.lemmas.List.Elements.{All-push, All-map}
use Rattle.wasm_types.specs.declared.module.Function.{Function}
use Rattle.wasm_types.specs.declared.module.Module.{Module}
use Rattle.wasm_types.specs.Tree.{ModuleTree, module_tree, function_tree}
use Rattle.wasm_spec.specs.Typing.{IsTypedFunction}
use Rattle.wasm_spec.specs.Need.{need}

-- the needs of the functions so far, which are typed
pub record Needs (m : Module) (functions : List Function) (needs : List ℕ) : Type 0 where
  pub typed : All (λ f. IsTypedFunction (module_tree m) (function_tree f)) functions
  pub are : needs ≡ map (λ f. need (module_tree m) (function_tree f)) functions

module _ (m : Module) (fs : List Function) where
  abbrev tree : ModuleTree
  tree = module_tree m

  -- one function more
  pub needs_more : (i : ℕ) (f : Function) (needs : List ℕ) (n : ℕ) → f ≡ get_or fs i f → i < length fs → Needs m (take i fs) needs → IsTypedFunction tree (function_tree f) → n ≡ need tree (function_tree f)
      → Needs m (take (i + 1) fs) (needs ++ n ∷ [])
  needs_more i f needs n e lt h typed is =
      let P : Function → Type 0 = λ g. IsTypedFunction tree (function_tree g) in
      let N : Function → ℕ = λ g. need tree (function_tree g) in
      let s : take (i + 1) fs ≡ take i fs ++ f ∷ [] = take_more fs i f lt ∙ ap (λ (x : Function). take i fs ++ x ∷ []) (sym e) in
      record {
        typed = subst (All P) (sym s) (All-push P (take i fs) f h.typed typed);
        are = ap (λ (l : List ℕ). l ++ n ∷ []) h.are ∙ ap (λ (x : ℕ). map N (take i fs) ++ x ∷ []) is ∙ sym (map-append N (take i fs) (f ∷ [])) ∙ ap (map N) (sym s);
      }

  -- a function that is not typed
  pub needs_fail : (i : ℕ) (f : Function) → f ≡ get_or fs i f → i < length fs → (IsTypedFunction tree (function_tree f) → ⊥) → All (IsTypedFunction tree) (map function_tree fs) → ⊥
  needs_fail i f e lt not all =
      not (subst (IsTypedFunction tree) (get_or-map function_tree fs i f (function_tree f) lt ∙ ap function_tree (sym e)) (all i (function_tree f) (omega (arith, length-map fs function_tree))))

  map_twice : (gs : List Function) → map (λ g. need tree (function_tree g)) gs ≡ map (need tree) (map function_tree gs)
  map_twice [] = refl
  map_twice (g ∷ gs) = ap (λ (l : List ℕ). need tree (function_tree g) ∷ l) (map_twice gs)

  -- all functions
  pub needs_all : (i : ℕ) (needs : List ℕ) → length fs ≤ i → Needs m (take i fs) needs → All (IsTypedFunction tree) (map function_tree fs) × (needs ≡ map (need tree) (map function_tree fs))
  needs_all i needs le h =
      let s = take_all i fs le in
      let h' : Needs m fs needs = subst (λ (l : List Function). Needs m l needs) s h in
      (All-map (IsTypedFunction tree) function_tree fs h'.typed, h'.are ∙ map_twice fs)
