-- What each opcode stands for, computed.
use Rattle.std.specs.Prelude.{◌≡◌, ◌++◌, map, length, replicate, refl}
use Rattle.wasm_values.specs.declared.profile.Profile.TheVariants.{One, Two, Three}
use Rattle.wasm_spec.specs.InstrGrammar.{NotPlain, shape}
use Rattle.opcode_index.specs.OpcodeIndex.{added_index, index, left_bytes, other_bytes}

pub rows : map (λ r. shape One r.opcode) index ≡ map (λ r. r.shape) index
unfolding shape
rows = refl

pub others : map (λ b. shape One b) other_bytes ≡ replicate (length other_bytes) NotPlain
unfolding shape
others = refl

-- those of profile 3 are those of profile 2
in_profile_3 : map (λ b. shape Three b) (map (λ r. r.opcode) (index ++ added_index) ++ left_bytes) ≡ map (λ b. shape Two b) (map (λ r. r.opcode) (index ++ added_index) ++ left_bytes)
unfolding shape
in_profile_3 = refl
