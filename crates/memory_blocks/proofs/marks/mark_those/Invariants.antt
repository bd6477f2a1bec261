use Rattle.memory_blocks.proofs.MarkLemmas.{IsJoinedBefore}
use Rattle.memory_blocks.proofs.marks.mark_those.Given as goal

abbrev pub invariant-loop-block : goal.invariant-loop-block
invariant-loop-block l = IsJoinedBefore l.block l.initial.marks.items l.others l.marks.items
