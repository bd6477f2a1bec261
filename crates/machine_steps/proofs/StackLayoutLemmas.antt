-- Where things stand on the stacks.
use Rattle.std.proofs.Common.{◌≡◌, ℕ, ◌+◌, List, [], ◌∷◌, ◌++◌, length, reverse, refl, sym, ap, ◌∙◌, arith, append_assoc, append-nil, length-append}
use Rattle.std.proofs.lemmas.List.{length-reverse}
use Rattle.wasm_values.specs.declared.outcome.Val.{Val}
use Rattle.machine_steps.specs.declared.machine.Machine.{Machine}
use Rattle.machine_steps.specs.Configuration.{Configuration, OpenBlock}
use Rattle.machine_steps.specs.StackLayout.{HasRoom, KeepsRoom, Represents, bottom_of, frames_under, label_of, labels_of, operands_under}

-- the operands lie on what is at the bottom
pub above : (bottom : List Val) (os : List OpenBlock) → operands_under bottom os ≡ bottom ++ operands_under [] os
above bottom [] = sym (append-nil bottom)
above bottom (o ∷ os) = ap (λ (l : List Val). l ++ reverse o.below) (above bottom os) ∙ append_assoc bottom (operands_under [] os) (reverse o.below)

pub labels-length : (bottom : List Val) (os : List OpenBlock) → length (labels_of bottom os) ≡ length os
labels-length bottom [] = refl
labels-length bottom (o ∷ os) = omega (arith, labels-length bottom os, length-append (labels_of bottom os) (label_of (length (operands_under bottom (o ∷ os))) o ∷ []))

pub room_kept : (depth frame : ℕ) (old new : Machine) → HasRoom depth frame old → KeepsRoom old new → HasRoom depth frame new
room_kept depth frame old new h k = record {
  values = let a = h.values in let b = k.values in omega arith;
  labels = let a = h.labels in let b = k.labels in omega arith;
  frames = let a = h.frames in let b = k.frames in omega arith;
}

-- the values on those of the callers
pub values_on : (k : Configuration) (old : Machine) → Represents k old → old.values.items ≡ frames_under k.activations ++ (k.locals ++ operands_under [] k.blocks) ++ reverse k.operands
values_on k old sh =
    sh.values ∙ ap (λ (l : List Val). l ++ reverse k.operands) (above (bottom_of k) k.blocks ∙ append_assoc (frames_under k.activations) k.locals (operands_under [] k.blocks))

pub count_values : (k : Configuration) (old : Machine) → Represents k old → length old.values.items ≡ length (operands_under (bottom_of k) k.blocks) + length k.operands
count_values k old sh = ap length sh.values ∙ omega (arith, length-append (operands_under (bottom_of k) k.blocks) (reverse k.operands), length-reverse k.operands)
