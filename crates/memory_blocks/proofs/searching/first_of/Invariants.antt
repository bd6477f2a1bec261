use Rattle.memory_blocks.specs.Marks.{IsNoneBetween}
use Rattle.memory_blocks.proofs.searching.first_of.Given as goal

abbrev pub invariant-loop-block : goal.invariant-loop-block
invariant-loop-block l = IsNoneBetween l.from l.block l.marks
