-- What profile 2 adds: the opcodes of extensions, and what the prefix leads.
use Rattle.std.proofs.Common.{◌≡◌, ℕ, ◌-◌, ◌≤◌, ◌++◌, List, get_or, replicate, refl, sym, ap, ◌∙◌, arith}
use Rattle.std.specs.Prelude.{Some, None}
use Rattle.std.proofs.lemmas.Bool.Decides.{nat_tests}
use Rattle.wasm_values.specs.declared.profile.Profile.{Profile}
use Rattle.wasm_values.specs.declared.profile.Profile.TheVariants.{Two, Three}
use Rattle.wasm_types.specs.declared.instr.Instr.{Instr}
use Rattle.wasm_spec.specs.Numbers.{TakesUnsigned}
use Rattle.wasm_spec.specs.InstrGrammar.{Prefixed, NotPlain, PrefixedRow, TakesPrefixed, extensions, prefixed_row, shape}
use Rattle.wasm_spec.proofs.UnambiguousNumbers.{unsigned-unique}
use Rattle.instr_decode.specs.declared.fault.DecodeFault.{DecodeFault}
use Rattle.instr_decode.specs.Decoding.{BeginsWithNone}
use Rattle.instr_decode.specs.Opcodes.{TakesZeros}
use Rattle.instr_decode.proofs.Decoding.{begins-through}
use Rattle.instr_decode.proofs.Opcodes.{run}

pub prefix-is : (opcode : ℕ) → opcode ≡ 0xFC → shape Two opcode ≡ Prefixed
unfolding shape
prefix-is opcode e = ap (shape Two) e

-- an opcode of an extension
pub extension-is : (opcode : ℕ) → 0xC0 ≤ opcode → opcode ≤ 0xC4 → shape Two opcode ≡ get_or extensions (opcode - 0xC0) NotPlain
unfolding shape
extension-is opcode low high = run Two 0xC0 5 extensions refl opcode low (omega arith)

-- profile 3 adds no opcode
pub same-third : (profile : Profile) (opcode : ℕ) → profile ≡ Three → shape profile opcode ≡ shape Two opcode
unfolding shape
same-third profile opcode third = ap (λ (p : Profile). shape p opcode) third ∙ refl

-- ---- what the prefix leads

pub none-prefixed : (n : ℕ) (row : PrefixedRow) (bytes mid : List ℕ) (fault : DecodeFault) → TakesUnsigned 32 n bytes mid → prefixed_row n ≡ Some row
    → BeginsWithNone (TakesZeros row.zeros) mid fault → BeginsWithNone TakesPrefixed bytes fault
none-prefixed n row bytes mid fault spelled found none =
    begins-through (TakesZeros row.zeros) TakesPrefixed mid bytes fault none (λ i after h.
    let u = unsigned-unique 32 h.number n bytes h.mid mid h.spelled spelled in
    let rows : Some h.row ≡ Some row = sym h.found ∙ ap prefixed_row u.0 ∙ found in
    let same : h.row ≡ row = cc in
    (tt, after, sym u.1 ∙ h.zeros ∙ ap (λ (w : PrefixedRow). replicate w.zeros 0 ++ after) same))

no_row : (n : ℕ) → (n ≡ 10 → ⊥) → (n ≡ 11 → ⊥) → prefixed_row n ≡ None
no_row n copy fill = grind (arith, nat_tests)

pub none-numbered : (n : ℕ) (bytes mid : List ℕ) → TakesUnsigned 32 n bytes mid → (n ≡ 10 → ⊥) → (n ≡ 11 → ⊥) → (i : Instr) (after : List ℕ) → TakesPrefixed i bytes after → ⊥
none-numbered n bytes mid spelled copy fill i after h =
    let u = unsigned-unique 32 h.number n bytes h.mid mid h.spelled spelled in
    let rows : Some h.row ≡ None = sym h.found ∙ ap prefixed_row u.0 ∙ no_row n copy fill in
    absurd (cc)
