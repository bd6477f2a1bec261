-- What a fault of the image says of the bytes.
use Rattle.std.proofs.Common.{◌≡◌, ℕ, List, ap, ◌∙◌}
use Rattle.std.specs.Prelude.{Option, None, option_map}
use Rattle.std.specs.Option.{option_or}
use Rattle.wasm_types.specs.declared.limits.LoadLimits.{LoadLimits}
use Rattle.wasm_values.specs.declared.profile.Profile.{Profile}
use Rattle.wasm_types.specs.Tree.{ModuleTree}
use Rattle.wasm_spec.specs.Grammar.{Spells}
use Rattle.wasm_spec.specs.Validity.{IsSupported, IsValid}
use Rattle.wasm_spec.specs.Store.{Extent, first_misfit}
use Rattle.wasm_spec.specs.Loading as loading
use Rattle.wasm_spec.specs.Loading.{Demand, OverLimit, first_over}
use Rattle.initial_image.specs.declared.image.ImageFault.{ImageFault}
use Rattle.initial_image.specs.declared.image.ImageFault.TheVariants.{Segment, NoMemory}
use Rattle.initial_image.specs.Segments.{Names}
use Rattle.module_store.specs.Faults.{IsRefusal, fault_of_image}

-- a segment that does not fit is what loading answers, where the module is supported, valid and within the limits
pub IsRefusal-image : (profile : Profile) (bytes : List ℕ) (limits : LoadLimits) (m : ModuleTree) (f : ImageFault) → Spells profile bytes m → IsSupported profile m → IsValid m → first_over limits m ≡ None
    → Names (first_misfit m) f → IsRefusal profile bytes limits (fault_of_image f)
IsRefusal-image profile bytes limits m (Segment misfit) spells supported valid within names = record {
  tree = m;
  spells = spells;
  answers = record {
    runs = supported;
    valid = valid;
    late_is = ap (λ (d : Option Demand). option_or (option_map (λ (x : Demand). OverLimit x) d) (option_map (λ (x : Extent). loading.Segment x) (first_misfit m))) within
        ∙ ap (λ (e : Option Extent). option_map (λ (x : Extent). loading.Segment x) e) names;
  };
}
IsRefusal-image profile bytes limits m NoMemory spells supported valid within names = tt
