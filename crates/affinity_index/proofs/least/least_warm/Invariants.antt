use Rattle.affinity_index.specs.Rankings.{seen_warm}
use Rattle.affinity_index.proofs.Leasts.{IsFirstSoFar}
use Rattle.affinity_index.proofs.least.least_warm.Given as goal

abbrev pub invariant-loop-n : goal.invariant-loop-n
invariant-loop-n l = IsFirstSoFar (seen_warm l.seen l.tag l.full) l.n l.least
