-- What is still to check from a position of the walk.
use Rattle.std.specs.Prelude.{◌≡◌, ℕ, ◌+◌, ◌-◌, ◌<◌, List, [], ◌∷◌, Option, Some, None, Result, MatchResult, length, drop}
use Rattle.wasm_types.specs.declared.instr.Op.{Op}
use Rattle.wasm_types.specs.declared.module.Function.{Function}
use Rattle.wasm_types.specs.declared.module.Module.{Module}
use Rattle.wasm_types.specs.Tree.{Code, End, Plain, Block, Loop, If, Call, CallIndirect, code_of}
use Rattle.wasm_spec.specs.Typing.{result_types}
use Rattle.wasm_checker.specs.declared.checker.ControlFrame.{ControlFrame}
use Rattle.wasm_checker.specs.declared.checker.Checker.{Checker}
use Rattle.wasm_checker.specs.declared.fault.CheckFault.{CheckFault}
use Rattle.wasm_checker.specs.Check.{Stack, and_then, push_types, end_block, enter, check, check_body}
use Rattle.wasm_types.specs.Sequences.{ops_of, earlier, code_at}
use Rattle.wasm_checker.specs.Subject.{result_of}
use Rattle.wasm_checker.specs.Position.{EnclosingBlock, CheckPosition, ShowsPosition, base_of, inside, back}
use Rattle.wasm_checker.specs.Steps.{Refuses}

module _ (m : Module) (f : Function) where
  -- what follows an open block
  abbrev pub follows : EnclosingBlock → List EnclosingBlock → Stack → Option Stack
  follows o os e = check (base_of os) (inside m f os) (code_at f.body o.sequence o.after) (push_types (base_of os) (result_types o.end_type) (back o e))

  -- the other arm of an if, if there is one, and what follows
  abbrev pub goes_on : Option ℕ → EnclosingBlock → List EnclosingBlock → Stack → Option Stack
  goes_on None o os e = follows o os e
  goes_on (Some q) o os e =
      and_then (end_block o.end_type (check (base_of os + length o.operands) (inside m f (o ∷ os)) (code_at f.body q 0) (enter (inside m f os) (back o e)))) (follows o os)

  -- what is left once the current code has ended so
  abbrev pub close : List EnclosingBlock → Option Stack → Option Stack
  close [] r = end_block (result_of m f) r
  close (o ∷ os) r = close os (and_then (end_block o.end_type r) (goes_on o.second o os))

  abbrev pub remaining : CheckPosition → Option Stack
  remaining k = close k.blocks (check (base_of k.blocks) (inside m f k.blocks) (code_at f.body k.sequence k.place) k.stack)

-- how much there is to check
abbrev pub size : Code → ℕ
size End = 1
size (Plain i rest) = size rest + 1
size (Block t body rest) = size body + size rest + 1
size (Loop t body rest) = size body + size rest + 1
size (If t first second rest) = size first + size second + size rest + 1
size (Call x rest) = size rest + 1
size (CallIndirect x rest) = size rest + 1

module _ (f : Function) where
  abbrev pub second_weight : Option ℕ → ℕ
  second_weight None = 0
  second_weight (Some q) = size (code_at f.body q 0)

  abbrev pub weights : List ControlFrame → ℕ
  weights [] = 0
  weights (c ∷ cs) = size (code_at f.body c.sequence c.after) + second_weight c.second + weights cs

  unfoldable pub weight : Checker → ℕ
  weight w = size (code_at f.body w.sequence w.place) + weights w.frames.items

-- from here the walk comes to this
pub record ComesTo (m : Module) (f : Function) (w : Checker) (o : Option Stack) : Type 0 where
  pub position : CheckPosition
  pub shows : ShowsPosition position w
  pub is : remaining m f position ≡ o

-- what it came to before, with less than n left to check
pub record Advanced (m : Module) (f : Function) (w : Checker) (n : ℕ) (o : Option Stack) : Type 0 where
  pub comes_to : ComesTo m f w o
  pub less : weight f w < n

-- a turn of the walk
abbrev pub Advances : Module → Function → Checker → Result (Unit {0}) CheckFault → Checker → Type 0
Advances m f old r new = (o : Option Stack) → ComesTo m f old o → MatchResult r (λ _. Advanced m f new (weight f old) o) (Refuses (o ≡ None))

-- what the instruction at the last place does, and what follows it
abbrev pub checking : Module → Function → Op → CheckPosition → Option Stack
checking m f o k =
    close m f k.blocks (check (base_of k.blocks) (inside m f k.blocks) (code_of (earlier f.body k.sequence) (o ∷ drop k.place (ops_of f.body k.sequence))) k.stack)

-- the whole body
abbrev pub whole : Module → Function → Option Stack
whole m f = check_body (inside m f []) (result_of m f) (code_at f.body (length f.body.sequences - 1) 0)

-- the greatest numbers of operands and labels
pub record Counted (o : Option Stack) (n : ℕ × ℕ) : Type 0 where
  pub stack : Stack
  pub is : o ≡ Some stack
  pub operands : n.0 ≡ stack.peak_operands
  pub labels : n.1 ≡ stack.peak_labels

abbrev pub Counts : Option Stack → Result (ℕ × ℕ) CheckFault → Type 0
Counts o r = MatchResult r (Counted o) (Refuses (o ≡ None))
