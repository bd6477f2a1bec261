-- The room of a run's stacks.
use Rattle.std.specs.Prelude.{ℕ}
use Rattle.machine_steps.specs.declared.machine.Machine.{Machine}

-- how many frames there is room for, and of how many entries each
pub record Room : Type 0 where
  pub depth : ℕ
  pub frame : ℕ

-- what contracts see of the stacks: their room, and where a run stands in them
pub record StacksView : Type 0 where
  pub room : Room
  pub machine : Machine
