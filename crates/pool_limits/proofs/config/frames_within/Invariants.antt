use Rattle.std.proofs.Common.{◌≡◌}
use Rattle.pool_limits.specs.Limits.{first_frame_over}
use Rattle.pool_limits.proofs.LimitLemmas.{over_from}
use Rattle.pool_limits.proofs.config.frames_within.Given as goal

abbrev pub invariant-loop-place : goal.invariant-loop-place
invariant-loop-place l = over_from l.first l.limit l.needs l.place ≡ first_frame_over l.first l.limit l.needs
