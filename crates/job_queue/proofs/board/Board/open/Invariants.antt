use Rattle.std.proofs.Common.{◌≡◌, replicate, None}
use Rattle.job_queue.proofs.board.Board.open.Given as goal

abbrev pub invariant-loop : goal.invariant-loop
invariant-loop l = l.lines.items ≡ replicate l.counter None
