use Rattle.std.proofs.Common.{◌≤◌}
use Rattle.slot_words.specs.Parts.{Grew}
use Rattle.slot_words.specs.Passes.{IsIdle, IsSamePass, trail}
use Rattle.decommit_batch.specs.Sweep.{IsSweep}
use Rattle.decommit_batch.proofs.sweeps.sweep.Given as goal

abbrev pub invariant-loop-n : goal.invariant-loop-n
invariant-loop-n g l = record {
  same : IsSamePass l.fn.pass l.pass;
  idle : IsIdle l.pass;
  few : l.cleaned ≤ l.n;
  trail : Grew (IsSweep l.tag l.n l.cleaned) (trail l.fn.pass) (trail l.pass);
}
