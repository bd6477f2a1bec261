use Rattle.std.proofs.Common.{◌≡◌, ◌++◌, map, take, drop}
use Rattle.request_text.specs.Quiet.{quiet_directive}
use Rattle.request_text.proofs.request.show_no_bytes.Given as goal

abbrev pub invariant-loop-directive : goal.invariant-loop-directive
invariant-loop-directive l = l.directive-items ≡ map quiet_directive (take l.directive-index l.fn.directives.items) ++ drop l.directive-index l.fn.directives.items
