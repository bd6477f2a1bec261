-- A section, as the grammar has it, and where memory may be wanted to read sections.
use Rattle.std.specs.Prelude.{◌≡◌, ◌++◌, ℕ, List, Option, Some, None}
use Rattle.wasm_spec.specs.Grammar.{Section as SpelledSection, TakesSection}
use Rattle.instr_decode.specs.Wants.{BeginsWith, WantsVec}
use Rattle.wasm_decode.specs.declared.decoder.TheConstants.{HEADER}
use Rattle.wasm_decode.specs.declared.section.Section.{Section}

abbrev pub section_of : Section → SpelledSection
section_of s = record { id = s.id; contents = s.contents.now }

-- the contents of a section are a vector; nothing is read without the section
abbrev pub WantsSection : {A : Type 0} → (A → List ℕ → List ℕ → Type 0) → (List ℕ → Type 0) → Option SpelledSection → Type 0
WantsSection Takes Wants None = ⊥
WantsSection Takes Wants (Some s) = WantsVec Takes Wants s.contents

-- a module: the header, and a section stands behind it
pub record WantsModule (bytes : List ℕ) : Type 0 where
  pub after : List ℕ
  pub header : bytes ≡ HEADER ++ after
  pub first : BeginsWith TakesSection after
