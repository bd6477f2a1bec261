use Rattle.affinity_index.specs.Rankings.{IsLeastBelow, rank_behind}
use Rattle.affinity_index.proofs.least.least.Given as goal

abbrev pub invariant-loop-n : goal.invariant-loop-n
invariant-loop-n l = IsLeastBelow (rank_behind l.seen l.tag l.full l.last) l.n l.least
