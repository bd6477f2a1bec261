use Rattle.std.proofs.Common.{length}
use Rattle.wasm_checker.specs.Position.{CheckPosition, ShowsPosition}
use Rattle.wasm_checker.proofs.Steps.{Rest}
use Rattle.wasm_checker.proofs.checker.Checker.pop_types.Given as goal

abbrev pub invariant-loop-rest : goal.invariant-loop-rest
invariant-loop-rest l = (k : CheckPosition) → ShowsPosition k l.fn.self → Rest l.types l.rest k l.self

abbrev pub decreases-loop-rest : goal.decreases-loop-rest
decreases-loop-rest l = length l.rest
