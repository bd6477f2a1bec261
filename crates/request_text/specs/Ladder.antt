-- The ladder of reasons: what a line asks for, or the first reason that applies.
use Rattle.std.specs.Prelude.{Bool, Result, Ok, Err, if◌then◌else◌}
use Rattle.request_text.specs.declared.request.Reason.{Reason}

-- the next step where the one before gave a value, else its error
infixl 10 ◌>>=◌
abbrev pub ◌>>=◌ : {A B E : Type 0} → Result A E → (A → Result B E) → Result B E
Ok x >>= next = next x
Err e >>= next = Err e

-- a line is refused for this reason, unless the test holds
abbrev pub demand : Bool → Reason → Result (Unit {0}) Reason
demand test reason = if test then Ok tt else Err reason
