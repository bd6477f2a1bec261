-- A module that loading gives.
use Rattle.std.proofs.Common.{◌≡◌, ℕ, ◌≤◌, ◌+◌, List, [], ◌∷◌, length, sym, subst}
use Rattle.std.specs.Prelude.{None, Ok, All, map, find, nat_lt}
use Rattle.std.specs.List.{enumerate_from}
use Rattle.std.proofs.lemmas.List.Elements.{All-nil, All-cons}
use Rattle.wasm_types.specs.declared.limits.LoadLimits.{LoadLimits}
use Rattle.wasm_values.specs.declared.profile.Profile.{Profile}
use Rattle.wasm_types.specs.Tree.{FunctionTree, ModuleTree}
use Rattle.wasm_spec.specs.Need.{need}
use Rattle.wasm_spec.specs.Store.{minimum_of, first_misfit}
use Rattle.wasm_spec.specs.Loading.{Frame, Demand, Loads, first_over}
use Rattle.wasm_spec.proofs.Loading.{no_refusal, first_keeps}
use Rattle.wasm_spec.proofs.Supported.{widest}
use Rattle.wasm_spec.specs.Within.{IsWithin}

frames_keep : (m : ModuleTree) (most k : ℕ) (fs : List FunctionTree)
    → find (λ (d : Demand). nat_lt d.limit d.value) (map (λ (f : ℕ × FunctionTree). record { which = Frame f.0; value = need m f.1; limit = most }) (enumerate_from k fs)) ≡ None
    → All (λ f. need m f ≤ most) fs
frames_keep m most k [] h = All-nil (λ f. need m f ≤ most)
frames_keep m most k (f ∷ fs) h =
    let first = first_keeps most (need m f) (record { which = Frame k; value = need m f; limit = most }) _ h in
    All-cons (λ f. need m f ≤ most) f fs first.0 (frames_keep m most (k + 1) fs first.1)

pub loaded-within : (profile : Profile) (bytes : List ℕ) (limits : LoadLimits) (m : ModuleTree) → Loads profile bytes limits (Ok m) → IsWithin limits m
loaded-within profile bytes limits m loads =
    let tree : ModuleTree = loads.tree in
    let none = no_refusal (first_over limits tree) (first_misfit tree) loads.answers.0.late_is in
    let pages = first_keeps limits.pages (minimum_of tree.memories) _ _ none.0 in
    let elements = first_keeps limits.elements (minimum_of tree.tables) _ _ pages.1 in
    let globals = first_keeps 1024 (length tree.globals) _ _ elements.1 in
    subst (IsWithin limits) (sym loads.answers.1) (record {
      supported = widest profile tree loads.answers.0.runs;
      valid = loads.answers.0.valid;
      segments = none.1;
      pages = pages.0;
      elements = elements.0;
      globals = globals.0;
      frames = frames_keep tree limits.frame (length tree.imports) tree.functions globals.1;
    })
