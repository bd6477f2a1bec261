-- Loading: the one module that bytes spell, or the first refusal that applies.
use Rattle.std.specs.Prelude.{◌≡◌, ℕ, List, ◌∷◌, Option, Some, None, Result, Ok, Err, length, map, find, nat_lt, option_map}
use Rattle.std.specs.Option.{option_or}
use Rattle.std.specs.List.{enumerate_from}
use Rattle.wasm_types.specs.declared.limits.LoadLimits.{LoadLimits}
use Rattle.wasm_values.specs.declared.profile.Profile.{Profile}
use Rattle.wasm_types.specs.Tree.{ModuleTree}
use Rattle.wasm_spec.specs.Validity.{IsSupported, IsValid}
use Rattle.wasm_spec.specs.Need.{need}
use Rattle.wasm_spec.specs.Grammar.{Spells}
use Rattle.wasm_spec.specs.Store.{Extent, minimum_of, first_misfit}

pub data Measure : Type 0 where
  Pages : Measure
  Elements : Measure
  Globals : Measure
  Frame : (function : ℕ) → Measure

-- what a module asks for, and its limit
pub record Demand : Type 0 where
  pub which : Measure
  pub value : ℕ
  pub limit : ℕ

pub data Refusal : Type 0 where
  Malformed : Refusal
  Unsupported : Refusal
  Invalid : Refusal
  OverLimit : (demand : Demand) → Refusal
  Segment : (extent : Extent) → Refusal

-- pages, elements and globals, then each own function's frame in order, by its number
abbrev pub demands : LoadLimits → ModuleTree → List Demand
demands limits m =
    record { which = Pages; value = minimum_of m.memories; limit = limits.pages }
    ∷ record { which = Elements; value = minimum_of m.tables; limit = limits.elements }
    ∷ record { which = Globals; value = length m.globals; limit = 1024 }
    ∷ map (λ f. record { which = Frame f.0; value = need m f.1; limit = limits.frame }) (enumerate_from (length m.imports) m.functions)

abbrev pub first_over : LoadLimits → ModuleTree → Option Demand
first_over limits m = find (λ d. nat_lt d.limit d.value) (demands limits m)

-- the refusal of a valid module, or none
abbrev pub late_refusal : LoadLimits → ModuleTree → Option Refusal
late_refusal limits m = option_or (option_map (λ d. OverLimit d) (first_over limits m)) (option_map (λ e. Segment e) (first_misfit m))

-- What loading answers, where `Runs` says which modules the host runs.
module _ (Runs : ModuleTree → Type 0) (limits : LoadLimits) where
  -- a module that is run and valid, and what the limits and its segments refuse of it then
  pub record IsChecked (m : ModuleTree) (late : Option Refusal) : Type 0 where
    pub runs : Runs m
    pub valid : IsValid m
    pub late_is : late_refusal limits m ≡ late

  -- the answer for a module: unsupported before invalid, and then the limits and the segments
  abbrev pub Answers : ModuleTree → Result ModuleTree Refusal → Type 0
  Answers m (Ok t) = IsChecked m None × (t ≡ m)
  Answers m (Err Malformed) = ⊥
  Answers m (Err Unsupported) = ¬ (Runs m)
  Answers m (Err Invalid) = Runs m × ¬ (IsValid m)
  Answers m (Err late) = IsChecked m (Some late)

  -- the module that the bytes spell, and its answer
  pub record IsAnswered (profile : Profile) (bytes : List ℕ) (answer : Result ModuleTree Refusal) : Type 0 where
    pub tree : ModuleTree
    pub spells : Spells profile bytes tree
    pub answers : Answers tree answer

-- the answer for the module that the bytes spell in a profile, or malformed where they spell none
abbrev pub LoadsBy : (Runs : ModuleTree → Type 0) → Profile → List ℕ → LoadLimits → Result ModuleTree Refusal → Type 0
LoadsBy Runs profile bytes limits (Err Malformed) = (m : ModuleTree) → Spells profile bytes m → ⊥
LoadsBy Runs profile bytes limits answer = IsAnswered Runs limits profile bytes answer

-- where the modules are run which use no floats and import what the profile runs
abbrev pub Loads : Profile → List ℕ → LoadLimits → Result ModuleTree Refusal → Type 0
Loads profile bytes limits answer = LoadsBy (IsSupported profile) profile bytes limits answer
