use Rattle.std.proofs.Common.{◌<◌, ◌↔◌, IsTrue, take}
use Rattle.memory_blocks.proofs.MarkLemmas.{count}
use Rattle.memory_blocks.proofs.searching.has_marked.Given as goal

abbrev pub invariant-loop-marked : goal.invariant-loop-marked
invariant-loop-marked l = IsTrue l.any ↔ (0 < count (take l.marked-index l.marks))
