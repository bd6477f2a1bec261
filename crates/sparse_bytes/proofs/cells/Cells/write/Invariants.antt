use Rattle.std.proofs.Common.{◌-◌, ◌≤◌, length, take}
use Rattle.sparse_bytes.specs.Cells.{WritesCells}
use Rattle.sparse_bytes.proofs.cells.Cells.write.Given as goal

-- the bytes so far are written
abbrev pub invariant-loop-done : goal.invariant-loop-done
invariant-loop-done l = (l.done ≤ length l.bytes) × WritesCells l.start (take l.done l.bytes) l.initial.self l.self

abbrev pub decreases-loop-done : goal.decreases-loop-done
decreases-loop-done l = length l.bytes - l.done
