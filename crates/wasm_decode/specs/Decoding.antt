-- What a decoder of all of some bytes, or of some sections, answers.
use Rattle.std.specs.Prelude.{Result, MatchResult}
use Rattle.instr_decode.specs.declared.fault.DecodeFault.{DecodeFault}
use Rattle.instr_decode.specs.Decoding.{IsNone}

-- one of these is found, as a tree; it is malformed only where there is none
abbrev pub Decodes : {A B : Type 0} → (B → Type 0) → (A → B) → Result A DecodeFault → Type 0
Decodes Is tree result = MatchResult result (λ x. Is (tree x)) (IsNone Is)
