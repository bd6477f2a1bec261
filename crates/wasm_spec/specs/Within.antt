-- What loading says of a module.
use Rattle.std.specs.Prelude.{◌≡◌, ◌≤◌, None, length, All}
use Rattle.wasm_types.specs.declared.limits.LoadLimits.{LoadLimits}
use Rattle.wasm_types.specs.Tree.{ModuleTree}
use Rattle.wasm_values.specs.declared.profile.Profile.TheVariants.{Three}
use Rattle.wasm_spec.specs.Validity.{IsSupported, IsValid}
use Rattle.wasm_spec.specs.Need.{need}
use Rattle.wasm_spec.specs.Store.{minimum_of, first_misfit}

-- it is run in some profile, and so in the last, and valid, its segments fit, and it asks for no more than the limits
pub record IsWithin (limits : LoadLimits) (m : ModuleTree) : Type 0 where
  pub supported : IsSupported Three m
  pub valid : IsValid m
  pub segments : first_misfit m ≡ None
  pub pages : minimum_of m.memories ≤ limits.pages
  pub elements : minimum_of m.tables ≤ limits.elements
  pub globals : length m.globals ≤ 1024
  pub frames : All (λ f. need m f ≤ limits.frame) m.functions
