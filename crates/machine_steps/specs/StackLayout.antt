-- The stacks that represent a configuration: each part of it lies on those below it.
use Rattle.std.specs.Prelude.{◌≡◌, ℕ, ◌*◌, ◌≤◌, List, [], ◌∷◌, ◌++◌, length, reverse, vec_capacity}
use Rattle.wasm_values.specs.declared.outcome.Val.{Val}
use Rattle.machine_steps.specs.declared.machine.Position.{Position}
use Rattle.machine_steps.specs.declared.machine.Label.{Label}
use Rattle.machine_steps.specs.declared.machine.Machine.{Machine}
use Rattle.machine_steps.specs.Configuration.{OpenBlock, Activation, Configuration}

-- the operands under these blocks, on what lies at the bottom
abbrev pub operands_under : List Val → List OpenBlock → List Val
operands_under bottom [] = bottom
operands_under bottom (o ∷ os) = operands_under bottom os ++ reverse o.below

-- the callers' frames: each one's locals, and then its operands
abbrev pub frames_under : List Activation → List Val
frames_under [] = []
frames_under (c ∷ cs) = operands_under (frames_under cs ++ c.locals) c.blocks ++ reverse c.below

abbrev pub bottom_of : Configuration → List Val
bottom_of k = frames_under k.activations ++ k.locals

abbrev pub label_of : ℕ → OpenBlock → Label
label_of base o = record { arity = length o.label; base = base; sequence = o.sequence; after = o.after; target = o.target }

abbrev pub labels_of : List Val → List OpenBlock → List Label
labels_of bottom [] = []
labels_of bottom (o ∷ os) = labels_of bottom os ++ label_of (length (operands_under bottom (o ∷ os))) o ∷ []

abbrev pub labels_under : List Activation → List Label
labels_under [] = []
labels_under (c ∷ cs) = labels_under cs ++ labels_of (frames_under cs ++ c.locals) c.blocks

abbrev pub position_of : (x q place : ℕ) → List Activation → Position
position_of x q place cs = record { function = x; sequence = q; place = place; locals = length (frames_under cs); labels = length (labels_under cs) }

abbrev pub frames_of : List Activation → List Position
frames_of [] = []
frames_of (c ∷ cs) = frames_of cs ++ position_of c.function c.sequence c.after cs ∷ []

-- the machine's fields are those of the configuration
pub record Represents (k : Configuration) (machine : Machine) : Type 0 where
  pub at : machine.at ≡ position_of k.function k.sequence k.place k.activations
  pub values : machine.values.items ≡ operands_under (bottom_of k) k.blocks ++ reverse k.operands
  pub labels : machine.labels.items ≡ labels_under k.activations ++ labels_of (bottom_of k) k.blocks
  pub frames : machine.frames.items ≡ frames_of k.activations

-- room for so many frames of so many entries
pub record HasRoom (depth frame : ℕ) (machine : Machine) : Type 0 where
  pub values : depth * frame ≤ machine.values.room
  pub labels : depth * frame ≤ vec_capacity machine.labels
  pub frames : depth ≤ vec_capacity machine.frames

-- no room is given up
pub record KeepsRoom (old new : Machine) : Type 0 where
  pub values : old.values.room ≤ new.values.room
  pub labels : vec_capacity old.labels ≤ vec_capacity new.labels
  pub frames : vec_capacity old.frames ≤ vec_capacity new.frames
