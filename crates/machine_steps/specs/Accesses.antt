-- What an access to memory gives, and what it leaves.
use Rattle.std.specs.Prelude.{ℕ, ◌+◌, List, Bool, Option, Some, None, length, nat_lt, if◌then◌else◌}
use Rattle.std.specs.Int as int
use Rattle.std.specs.Int.{byte_len}
use Rattle.wasm_spec.specs.Store.{loaded, written}

-- what is made of the number of a width at an address, if its bytes lie in the memory
abbrev pub loaded_at : {A : Type 0} → int.Width → (ℕ → A) → List ℕ → ℕ → Option A
loaded_at width what memory at = if nat_lt (length memory) (at + byte_len width) then None else Some (what (loaded width memory at))

-- the memory after these bytes were written to an address, where the test says so
abbrev pub written_where : Bool → List ℕ → ℕ → List ℕ → List ℕ
written_where fits memory at bytes = if fits then written memory at bytes else memory
