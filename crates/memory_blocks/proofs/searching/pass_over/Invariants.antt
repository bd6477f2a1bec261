use Rattle.std.proofs.Common.{◌≤◌, ◌-◌}
use Rattle.memory_blocks.specs.Marks.{IsNoneBetween}
use Rattle.memory_blocks.proofs.searching.pass_over.Given as goal

abbrev pub invariant-loop-at : goal.invariant-loop-at
invariant-loop-at l = record { later : l.from ≤ l.at; none : IsNoneBetween l.from l.at l.marks }

abbrev pub decreases-loop-at : goal.decreases-loop-at
decreases-loop-at l = l.end - l.at
