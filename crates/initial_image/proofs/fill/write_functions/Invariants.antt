use Rattle.std.proofs.Common.{◌≡◌, ℕ, ◌++◌, Some, take, drop, map}
use Rattle.initial_image.proofs.fill.write_functions.Given as goal

abbrev pub invariant-loop-place : goal.invariant-loop-place
invariant-loop-place l = l.entries ≡ map (λ (f : ℕ). Some f) (take l.place l.functions) ++ drop l.place l.initial.entries
