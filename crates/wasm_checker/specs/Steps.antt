-- Steps of a checker, which are refused or leave it at a new stack.
use Rattle.std.specs.Prelude.{◌≡◌, Option, None, Some, Result, MatchResult}
use Rattle.wasm_types.specs.declared.types.ValType.{ValType}
use Rattle.wasm_spec.specs.Typing.{Rule}
use Rattle.wasm_checker.specs.declared.checker.Checker.{Checker}
use Rattle.wasm_checker.specs.declared.fault.CheckFault.{CheckFault}
use Rattle.wasm_checker.specs.declared.fault.CheckFault.TheVariants.{Invalid, NoMemory}
use Rattle.wasm_checker.specs.Check.{Stack, Popped, pop, apply}
use Rattle.wasm_checker.specs.Position.{CheckPosition, ShowsPosition, with_stack, base_of}

-- what a refusal says: `Invalid` comes only where P holds, and want of memory says nothing
abbrev pub Refuses : Type 0 → CheckFault → Type 0
Refuses P Invalid = P
Refuses P NoMemory = Unit {0}

-- the innermost block's stack after a step
pub record Stepped (o : Option Stack) (k : CheckPosition) (w : Checker) : Type 0 where
  pub stack : Stack
  pub is : o ≡ Some stack
  pub shows : ShowsPosition (with_stack k stack) w

-- a step on the innermost block's stack, whatever position the checker's flat stacks show
abbrev pub Steps : (CheckPosition → Option Stack) → Checker → Result (Unit {0}) CheckFault → Checker → Type 0
Steps step old r new = (k : CheckPosition) → ShowsPosition k old → MatchResult r (λ _. Stepped (step k) k new) (Refuses (step k ≡ None))

-- an instruction by its rule
abbrev pub Applies : (CheckPosition → Rule) → Checker → Result (Unit {0}) CheckFault → Checker → Type 0
Applies rule old r new = Steps (λ k. apply (base_of k.blocks) (rule k) k.stack) old r new

-- the topmost operand is taken off
pub record PopsTo (o : Option Popped) (t : Option ValType) (k : CheckPosition) (w : Checker) : Type 0 where
  pub rest : Stack
  pub is : o ≡ Some (record { top = t; rest = rest })
  pub shows : ShowsPosition (with_stack k rest) w

abbrev pub Pops : Checker → Result (Option ValType) CheckFault → Checker → Type 0
Pops old r new = (k : CheckPosition) → ShowsPosition k old → MatchResult r (λ t. PopsTo (pop k.stack) t k new) (Refuses (pop k.stack ≡ None))
