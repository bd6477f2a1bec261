-- What each fault says of the bytes.
use Rattle.wasm_types.specs.declared.limits.LoadLimits.{LoadLimits}
use Rattle.wasm_values.specs.declared.profile.Profile.{Profile}
use Rattle.std.specs.Prelude.{ℕ, List, Err}
use Rattle.wasm_spec.specs.Loading as loading
use Rattle.wasm_spec.specs.Loading.{Loads}
use Rattle.initial_image.specs.Segments.{extent_of}
use Rattle.initial_image.specs.declared.image.ImageFault.{ImageFault}
use Rattle.initial_image.specs.declared.image.ImageFault.TheVariants as image
use Rattle.pool_limits.specs.Limits.{demand_of}
use Rattle.instr_decode.specs.declared.fault.DecodeFault.{DecodeFault}
use Rattle.instr_decode.specs.declared.fault.DecodeFault.TheVariants as decode
use Rattle.wasm_validate.specs.declared.valid.ValidFault.{ValidFault}
use Rattle.wasm_validate.specs.declared.valid.ValidFault.TheVariants as valid
use Rattle.module_store.specs.declared.fault.LoadFault.{LoadFault}
use Rattle.module_store.specs.declared.fault.LoadFault.TheVariants.{TooMany, Malformed, Unsupported, Invalid, OverLimit, Segment, NoMemory}

abbrev pub fault_of_decode : DecodeFault → LoadFault
fault_of_decode decode.Malformed = Malformed
fault_of_decode decode.NoMemory = NoMemory

abbrev pub fault_of_valid : ValidFault → LoadFault
fault_of_valid valid.Unsupported = Unsupported
fault_of_valid valid.Invalid = Invalid
fault_of_valid valid.NoMemory = NoMemory

abbrev pub fault_of_image : ImageFault → LoadFault
fault_of_image (image.Segment misfit) = Segment misfit
fault_of_image image.NoMemory = NoMemory

-- the refusal that a fault names is what loading answers; too many modules and want of memory say nothing of the bytes
abbrev pub IsRefusal : Profile → List ℕ → LoadLimits → LoadFault → Type 0
IsRefusal profile bytes limits TooMany = Unit {0}
IsRefusal profile bytes limits Malformed = Loads profile bytes limits (Err loading.Malformed)
IsRefusal profile bytes limits Unsupported = Loads profile bytes limits (Err loading.Unsupported)
IsRefusal profile bytes limits Invalid = Loads profile bytes limits (Err loading.Invalid)
IsRefusal profile bytes limits (OverLimit over) = Loads profile bytes limits (Err (loading.OverLimit (demand_of over)))
IsRefusal profile bytes limits (Segment misfit) = Loads profile bytes limits (Err (loading.Segment (extent_of misfit)))
IsRefusal profile bytes limits NoMemory = Unit {0}
