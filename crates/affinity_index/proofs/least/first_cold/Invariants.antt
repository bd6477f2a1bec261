use Rattle.affinity_index.specs.Rankings.{IsNoColdBelow}
use Rattle.affinity_index.proofs.least.first_cold.Given as goal

abbrev pub invariant-loop-n : goal.invariant-loop-n
invariant-loop-n l = IsNoColdBelow l.seen l.n
