-- The first numbers of functions are those of the imports, and the others those of the module's own functions.
use Rattle.std.proofs.Common.{◌≡◌, ℕ, zero, suc, ◌+◌, ◌-◌, ◌<◌, ◌≤◌, List, [], ◌∷◌, ◌++◌, length, ◌⊎◌, ⊎_elim, length-append, refl, ap, ◌∙◌, sym, arith}
use Rattle.std.proofs.lemmas.Bool.{cases_lt}
use Rattle.std.specs.Prelude.{Option, Some, None, slice_get, map, option_and_then, option_map}
use Rattle.std.proofs.lemmas.Option.{slice_get-map}
use Rattle.std.proofs.lemmas.List.{length-map}
use Rattle.wasm_types.specs.declared.module.Import.{Import}
use Rattle.wasm_types.specs.declared.module.Function.{Function}
use Rattle.wasm_types.specs.declared.module.Module.{Module}
use Rattle.wasm_types.specs.Tree.{FunctionTree, ModuleTree, function_tree, module_tree}
use Rattle.wasm_spec.specs.Functions.{Callee, Imported, Own, callees, callee_at, imported_type, type_index_of}

-- what stands in the first of two lists stands there in both
pub in_front : {A : Type 0} (xs ys : List A) (i : ℕ) → i < length xs → slice_get (xs ++ ys) i ≡ slice_get xs i
in_front [] ys i lt = absurd (omega arith)
in_front (x ∷ xs) ys zero lt = refl
in_front (x ∷ xs) ys (suc i) lt = in_front xs ys i (omega arith)

behind : {A : Type 0} (xs ys : List A) (i : ℕ) → slice_get (xs ++ ys) (length xs + i) ≡ slice_get ys i
behind [] ys i = ap (slice_get ys) (let none : 0 + i ≡ i = omega arith in none)
behind (x ∷ xs) ys i = ap (slice_get (x ∷ xs ++ ys)) (let up : suc (length xs) + i ≡ suc (length xs + i) = omega arith in up) ∙ behind xs ys i

module _ (m : ModuleTree) where
  abbrev imported : List Callee
  imported = map (λ i. Imported i) m.imports

  abbrev own : List Callee
  own = map (λ f. Own f) m.functions

  pub callee-imported : (x : ℕ) → x < length m.imports → callee_at m x ≡ option_map (λ i. Imported i) (slice_get m.imports x)
  callee-imported x lt = in_front imported own x (let long = length-map m.imports (λ i. Imported i) in omega arith) ∙ slice_get-map (λ i. Imported i) m.imports x

  -- the own function with a number among them
  pub callee-own : (y : ℕ) → callee_at m (length m.imports + y) ≡ option_map (λ f. Own f) (slice_get m.functions y)
  callee-own y =
      ap (λ (n : ℕ). slice_get (imported ++ own) (n + y)) (sym (length-map m.imports (λ i. Imported i)))
      ∙ behind imported own y ∙ slice_get-map (λ f. Own f) m.functions y

  pub callee-past : (x : ℕ) → length m.imports ≤ x → callee_at m x ≡ option_map (λ f. Own f) (slice_get m.functions (x - length m.imports))
  callee-past x le = ap (callee_at m) (let sum : x ≡ length m.imports + (x - length m.imports) = omega arith in sum) ∙ callee-own (x - length m.imports)

  -- what is found at a number
  pub imported_there : (x : ℕ) (i : Import) → callee_at m x ≡ Some (Imported i) → slice_get m.imports x ≡ Some i
  imported_there x i there = ⊎_elim (λ (lt : x < length m.imports). is_import (slice_get m.imports x) (sym (callee-imported x lt) ∙ there))
      (λ (le : length m.imports ≤ x). absurd (no_own (slice_get m.functions (x - length m.imports)) (sym (callee-past x le) ∙ there))) (cases_lt x (length m.imports)) where
        is_import : (o : Option Import) → option_map (λ i. Imported i) o ≡ Some (Imported i) → o ≡ Some i
        is_import None e = absurd (cc)
        is_import (Some j) e = cc

        no_own : (o : Option FunctionTree) → option_map (λ f. Own f) o ≡ Some (Imported i) → ⊥
        no_own None e = cc
        no_own (Some f) e = cc

  pub own_there : (x : ℕ) (f : FunctionTree) → callee_at m x ≡ Some (Own f) → slice_get m.functions (x - length m.imports) ≡ Some f
  own_there x f there = ⊎_elim (λ (lt : x < length m.imports). absurd (no_import (slice_get m.imports x) (sym (callee-imported x lt) ∙ there)))
      (λ (le : length m.imports ≤ x). is_own (slice_get m.functions (x - length m.imports)) (sym (callee-past x le) ∙ there)) (cases_lt x (length m.imports)) where
        is_own : (o : Option FunctionTree) → option_map (λ f. Own f) o ≡ Some (Own f) → o ≡ Some f
        is_own None e = absurd (cc)
        is_own (Some g) e = cc

        no_import : (o : Option Import) → option_map (λ i. Imported i) o ≡ Some (Own f) → ⊥
        no_import None e = cc
        no_import (Some i) e = cc

  pub callee_within : (x : ℕ) → x < length m.imports + length m.functions → (c : Callee) × (callee_at m x ≡ Some c)
  callee_within x lt = within (callees m) x (let long = length-append imported own in let a = length-map m.imports (λ i. Imported i) in let b = length-map m.functions (λ f. Own f) in omega arith) where
    within : (cs : List Callee) (y : ℕ) → y < length cs → (c : Callee) × (slice_get cs y ≡ Some c)
    within [] y h = absurd (omega arith)
    within (c ∷ cs) zero h = (c, refl)
    within (c ∷ cs) (suc y) h = within cs y (omega arith)

-- ---- the numbers of their types

own-index : (o : Option Function) → option_and_then type_index_of (option_map (λ f. Own f) (option_map function_tree o)) ≡ option_map (λ f. f.type_index) o
own-index None = refl
own-index (Some f) = refl

imported-index : (o : Option Import) → option_and_then type_index_of (option_map (λ i. Imported i) o) ≡ option_and_then (λ i. imported_type i.desc) o
imported-index None = refl
imported-index (Some i) = refl

pub index-of_own : (m : Module) (x : ℕ) → length m.imports ≤ x
    → option_and_then type_index_of (callee_at (module_tree m) x) ≡ option_map (λ f. f.type_index) (slice_get m.functions (x - length m.imports))
index-of_own m x le =
    ap (option_and_then type_index_of) (callee-past (module_tree m) x le ∙ ap (option_map (λ f. Own f)) (slice_get-map function_tree m.functions (x - length m.imports)))
    ∙ own-index (slice_get m.functions (x - length m.imports))

pub index-of_imported : (m : Module) (x : ℕ) → x < length m.imports
    → option_and_then type_index_of (callee_at (module_tree m) x) ≡ option_and_then (λ i. imported_type i.desc) (slice_get m.imports x)
index-of_imported m x lt = ap (option_and_then type_index_of) (callee-imported (module_tree m) x lt) ∙ imported-index (slice_get m.imports x)
