-- What was read once a line is read too that asks for one more directive.
use Rattle.std.specs.Prelude.{Result, Ok}
use Rattle.request_text.specs.declared.request.Directive.{Directive}
use Rattle.request_text.specs.declared.request.Reason.{Reason}
use Rattle.request_text.specs.Ladder.{◌>>=◌}
use Rattle.request_text.specs.Text.{ReadLines, with_directive}

-- what is asked for with the directive of a line, or the reason for which there is none
abbrev pub with_asked : ReadLines → (asked : Result Directive Reason) → Result ReadLines Reason
with_asked before asked = (asked >>= λ directive. Ok (with_directive before directive))
