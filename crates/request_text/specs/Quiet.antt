-- The same requests, where no line shows bytes that a call answers.
use Rattle.std.specs.Prelude.{false, map}
use Rattle.request_calls.specs.declared.invocation.Invocation.{Invocation}
use Rattle.request_text.specs.declared.request.Directive.{Directive}
use Rattle.request_text.specs.declared.request.Directive.TheVariants.{Call}
use Rattle.request_text.specs.Text.{Asked}

-- the same is asked of the module, and the line shows no bytes
abbrev pub quiet_call : Invocation → Invocation
quiet_call invocation = record invocation { shows = false }

-- the directive, whose line shows no bytes
abbrev pub quiet_directive : Directive → Directive
quiet_directive (Call tenant place retired invocation) = Call tenant place retired (quiet_call invocation)
quiet_directive directive = directive

-- what a request file asks for, where no line shows bytes
abbrev pub quiet : Asked → Asked
quiet asked = record asked { directives = map quiet_directive asked.directives }
