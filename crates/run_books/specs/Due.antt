-- The calls that are due, by their numbers.
use Rattle.std.specs.Prelude.{ℕ, ◌+◌, Bool, List, [], ◌∷◌}
use Rattle.request_calls.specs.declared.invocation.Invocation.{Invocation}
use Rattle.request_text.specs.declared.request.Directive.{Directive}
use Rattle.request_text.specs.declared.request.Directive.TheVariants.{Module, Call, Retire}
use Rattle.call_jobs.specs.declared.calls.Due.{Due}

abbrev pub due_of : (number tenant : ℕ) → (retired : Bool) → Invocation → Due
due_of number tenant retired invocation = record { number = number; tenant = tenant; retired = retired; invocation = invocation }

-- the calls among these directives, of which the first has this number
abbrev pub dues_from : ℕ → List Directive → List Due
dues_from number [] = []
dues_from number (Module name bytes ∷ requests) = dues_from number requests
dues_from number (Call tenant place retired invocation ∷ requests) = due_of number tenant retired invocation ∷ dues_from (number + 1) requests
dues_from number (Retire place name ∷ requests) = dues_from number requests
