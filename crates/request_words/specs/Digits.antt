-- What hex digits spell.
use Rattle.std.specs.Prelude.{◌≡◌, ℕ, Bool, true, false, List, Ok, Err}
use Rattle.hex.specs.Hex.{decode_pairs}
use Rattle.hex.specs.declared.error.FromHexError.{FromHexError}

-- they spell these bytes, if all are digits
abbrev pub Spells : List ℕ → List ℕ → (all : Bool) → Type 0
Spells digits bytes true = decode_pairs 0 digits ≡ Ok bytes
Spells digits bytes false = (e : FromHexError) × (decode_pairs 0 digits ≡ Err e)
