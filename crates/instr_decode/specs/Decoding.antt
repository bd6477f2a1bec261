-- What a decoder's refusal says, and what a read at a cursor answers.
use Rattle.std.specs.Prelude.{List, ℕ, Result, MatchResult}
use Rattle.leb_read.specs.Reading.{CursorView, rest, IsRead}
use Rattle.instr_decode.specs.declared.fault.DecodeFault.{DecodeFault}
use Rattle.instr_decode.specs.declared.fault.DecodeFault.TheVariants.{Malformed, NoMemory}

-- malformed: there is no such thing
abbrev pub IsNone : {A : Type 0} → (A → Type 0) → DecodeFault → Type 0
IsNone {A} Is Malformed = (x : A) → Is x → ⊥
IsNone {A} Is NoMemory = Unit {0}

-- malformed: the bytes begin with none
abbrev pub BeginsWithNone : {A : Type 0} → (A → List ℕ → List ℕ → Type 0) → List ℕ → DecodeFault → Type 0
BeginsWithNone {A} Takes bytes Malformed = (x : A) (after : List ℕ) → Takes x bytes after → ⊥
BeginsWithNone {A} Takes bytes NoMemory = Unit {0}

-- an item of a grammar is read, as a tree; it is malformed only where the bytes begin with none
abbrev pub ReadsAs : {A B : Type 0} → (B → List ℕ → List ℕ → Type 0) → (A → B) → (old new : CursorView) → Result A DecodeFault → Type 0
ReadsAs Takes tree old new result = MatchResult result (λ x. IsRead Takes old new (tree x)) (BeginsWithNone Takes (rest old))

-- an item that is its own tree is read; it is malformed only where the bytes begin with none
abbrev pub Reads : {A : Type 0} → (A → List ℕ → List ℕ → Type 0) → (old new : CursorView) → Result A DecodeFault → Type 0
Reads Takes old new result = ReadsAs Takes (λ x. x) old new result
