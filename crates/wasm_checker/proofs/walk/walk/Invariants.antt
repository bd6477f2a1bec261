use Rattle.wasm_checker.specs.Walk.{ComesTo, weight, whole}
use Rattle.wasm_checker.proofs.walk.walk.Given as goal

abbrev pub invariant-loop-op : goal.invariant-loop-op
invariant-loop-op l = ComesTo l.m l.f l.walk (whole l.m l.f)

abbrev pub decreases-loop-op : goal.decreases-loop-op
decreases-loop-op l = weight l.f l.walk
