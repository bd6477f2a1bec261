-- Where a walk over numbered sequences stands, and how a checker's flat stacks show it.
use Rattle.std.specs.Prelude.{◌≡◌, ℕ, ◌+◌, List, [], ◌∷◌, ◌++◌, Bool, false, Option, reverse, length, max}
use Rattle.wasm_types.specs.declared.types.ValType.{ValType}
use Rattle.wasm_types.specs.declared.module.Function.{Function}
use Rattle.wasm_types.specs.declared.module.Module.{Module}
use Rattle.wasm_spec.specs.Typing.{result_types, Context}
use Rattle.wasm_checker.specs.declared.checker.ControlFrame.{ControlFrame}
use Rattle.wasm_checker.specs.declared.checker.Checker.{Checker}
use Rattle.wasm_checker.specs.Check.{Stack}
use Rattle.wasm_checker.specs.Subject.{context, result_of}

-- an open block, loop or if: what its branches and its end need, the other arm, and the stack and place around it
pub record EnclosingBlock : Type 0 where
  pub label_type : Option ValType
  pub end_type : Option ValType
  pub second : Option ℕ
  pub unreachable : Bool
  pub operands : List (Option ValType)
  pub sequence : ℕ
  pub after : ℕ

-- a place in a sequence, the stack there, and the open blocks, the innermost first
pub record CheckPosition : Type 0 where
  pub sequence : ℕ
  pub place : ℕ
  pub stack : Stack
  pub blocks : List EnclosingBlock

abbrev pub with_stack : CheckPosition → Stack → CheckPosition
with_stack k s = record k { stack = s }

-- the innermost label first, the body's own one last
abbrev pub labels_of : Option ValType → List EnclosingBlock → List (List ValType)
labels_of result [] = result_types result ∷ []
labels_of result (o ∷ os) = result_types o.label_type ∷ labels_of result os

abbrev pub inside : Module → Function → List EnclosingBlock → Context
inside m f os = context m f (labels_of (result_of m f) os)

-- how many operands lie below the innermost block
abbrev pub base_of : List EnclosingBlock → ℕ
base_of [] = 0
base_of (o ∷ os) = base_of os + length o.operands

-- the stack around a block whose inner code ended so
abbrev pub back : EnclosingBlock → Stack → Stack
back o e = record e { unreachable = o.unreachable; operands = o.operands }

-- inner code is entered, in a function with this result
abbrev pub opened : Option ValType → CheckPosition → Option ValType → Option ValType → Option ℕ → ℕ → CheckPosition
opened result k label_type end_type second q = record {
  sequence = q;
  place = 0;
  stack = record { unreachable = false; operands = []; peak_operands = k.stack.peak_operands; peak_labels = max k.stack.peak_labels (length (labels_of result k.blocks) + 1) };
  blocks = record { label_type = label_type; end_type = end_type; second = second; unreachable = k.stack.unreachable; operands = k.stack.operands; sequence = k.sequence; after = k.place } ∷ k.blocks;
}

-- back around inner code
abbrev pub outside : EnclosingBlock → List EnclosingBlock → Stack → CheckPosition
outside o os e = record { sequence = o.sequence; place = o.after; stack = back o e; blocks = os }

-- the flat stacks
abbrev pub beneath : List EnclosingBlock → List (Option ValType)
beneath [] = []
beneath (o ∷ os) = beneath os ++ reverse o.operands

abbrev pub frame_of : EnclosingBlock → List EnclosingBlock → ControlFrame
frame_of o os =
    record { label_type = o.label_type; end_type = o.end_type; second = o.second; unreachable = o.unreachable; base = length (beneath os); sequence = o.sequence; after = o.after }

abbrev pub frames_of : List EnclosingBlock → List ControlFrame
frames_of [] = []
frames_of (o ∷ os) = frames_of os ++ frame_of o os ∷ []

pub record ShowsPosition (k : CheckPosition) (w : Checker) : Type 0 where
  pub sequence : w.sequence ≡ k.sequence
  pub place : w.place ≡ k.place
  pub unreachable : w.unreachable ≡ k.stack.unreachable
  pub base : w.base ≡ length (beneath k.blocks)
  pub operands : w.operands.items ≡ beneath k.blocks ++ reverse k.stack.operands
  pub frames : w.frames.items ≡ frames_of k.blocks
  pub peak_operands : w.peak_operands ≡ k.stack.peak_operands
  pub peak_labels : w.peak_labels ≡ k.stack.peak_labels
