use Rattle.slice_steps.specs.Queued.{AreIdleOn, IsSlicedIn}
use Rattle.slice_workers.proofs.crew.slice_all.Given as goal

abbrev pub ghosts-slice_in : goal.ghosts-slice_in
ghosts-slice_in g a = record {
  idle = λ p t. AreIdleOn a.shared.now.host p t;
  paused = λ p t v number. IsSlicedIn a.shared.now.host a.shared.now.calls.items a.slice p t v number;
  slice = a.slice;
}
