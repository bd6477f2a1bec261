-- What stays outside the marked blocks.
use Rattle.std.proofs.Common.{ℕ, List, Bool, ◌∙◌}
use Rattle.memory_blocks.specs.Blocks.{KeepsUnmarked}

-- over two runs, one after the other
pub unmarked_more : (first second third : List ℕ) (before between after : List Bool) → KeepsUnmarked first second before between → KeepsUnmarked second third between after → KeepsUnmarked first third before after
unmarked_more first second third before between after a b = record { bytes = λ i free. b.bytes i free ∙ a.bytes i (b.marks i free); marks = λ i free. a.marks i (b.marks i free) }
