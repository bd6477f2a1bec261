-- Instructions that only take operands and give others.
use Rattle.std.proofs.Common.{◌≡◌, ◌≢◌, ℕ, ◌<◌, List, [], ◌∷◌, ◌++◌, length, reverse, Option, Some, None, Result, Ok, Err, refl, ap, ◌∙◌, subst, arith, length-append}
use Rattle.std.proofs.lemmas.List.{length-reverse}
use Rattle.wasm_values.specs.declared.outcome.Val.{Val}
use Rattle.wasm_values.specs.declared.outcome.TrapKind.{TrapKind}
use Rattle.wasm_types.specs.declared.instr.Width.{Width}
use Rattle.wasm_spec.specs.Store.{Store}
use Rattle.wasm_spec.specs.Typing.{number}
use Rattle.wasm_spec.specs.Execution.{Signal, Stuck, value, given, pop_number, or_trap, with_operands}
use Rattle.machine_steps.specs.declared.machine.Machine.{Machine}
use Rattle.machine_steps.specs.Configuration.{Configuration, state}
use Rattle.machine_steps.specs.StackLayout.{Represents, operands_under, bottom_of}
use Rattle.machine_steps.specs.PlainSteps.{EndsAs, HasOperand, valued}
use Rattle.machine_steps.proofs.StackLists.{top}

-- other operands
pub with_values : (k : Configuration) (old new : Machine) (vs : List Val) → Represents k old → new.values.items ≡ operands_under (bottom_of k) k.blocks ++ reverse vs → new.at ≡ old.at → new.labels.items ≡ old.labels.items → new.frames.items ≡ old.frames.items
    → Represents (record k { operands = vs }) new
with_values k old new vs sh values at labels frames = record { at = at ∙ sh.at; values = values; labels = labels ∙ sh.labels; frames = frames ∙ sh.frames }

pub values_split : (k : Configuration) (old : Machine) (x : Val) (vs : List Val) → Represents k old → k.operands ≡ x ∷ vs → old.values.items ≡ (operands_under (bottom_of k) k.blocks ++ reverse vs) ++ x ∷ []
values_split k old x vs sh e = sh.values ∙ ap (λ (l : List Val). operands_under (bottom_of k) k.blocks ++ reverse l) e ∙ top (operands_under (bottom_of k) k.blocks) x vs

pub has_some : (k : Configuration) (old : Machine) → Represents k old → 0 < length k.operands → 0 < length old.values.items
has_some k old sh h = omega (arith, ap length sh.values, length-append (operands_under (bottom_of k) k.blocks) (reverse k.operands), length-reverse k.operands)

abbrev pub Pops : Machine → Val → Machine → Type 0
Pops old result new = (k : Configuration) (x : Val) (vs : List Val) → Represents k old → k.operands ≡ x ∷ vs → (result ≡ x) × Represents (record k { operands = vs }) new

pub given_there : {A : Type 0} (o : Option A) (next : A → Signal) → given o next ≢ Stuck → (x : A) × (o ≡ Some x)
given_there None next n = absurd (n refl)
given_there (Some x) next n = (x, refl)

pub given_at : {A : Type 0} (o : Option A) (x : A) (next : A → Signal) → o ≡ Some x → given o next ≡ next x
given_at None x next e = cc
given_at (Some y) x next e = ap next (cc)

-- two operands of a width
pub record Two (w : Width) (vs : List Val) : Type 0 where
  pub x : Val
  pub y : Val
  pub rest : List Val
  pub are : vs ≡ y ∷ x ∷ rest
  pub a : ℕ
  pub b : ℕ
  pub first : number w x ≡ Some a
  pub second : number w y ≡ Some b

abbrev pub on_two : Width → List Val → (ℕ → ℕ → List Val → Signal) → Signal
on_two w vs go = pop_number w vs (λ b xs. pop_number w xs (λ a rest. go a b rest))

pub two_there : (w : Width) (vs : List Val) (go : ℕ → ℕ → List Val → Signal) → on_two w vs go ≢ Stuck → Two w vs
two_there w [] go n = absurd (n refl)
two_there w (y ∷ []) go n = let (b, second) = given_there (number w y) (λ b. Stuck) n in absurd (n (given_at (number w y) b (λ b. Stuck) second))
two_there w (y ∷ x ∷ rest) go n =
    let (b, second) = given_there (number w y) (λ b. given (number w x) (λ a. go a b rest)) n in
    let (a, first) = given_there (number w x) (λ a. go a b rest) (λ e. n (given_at (number w y) b (λ b. given (number w x) (λ a. go a b rest)) second ∙ e)) in
    record { x = x; y = y; rest = rest; are = refl; a = a; b = b; first = first; second = second }

pub at_two : (w : Width) (vs : List Val) (go : ℕ → ℕ → List Val → Signal) (t : Two w vs) → on_two w vs go ≡ go t.a t.b t.rest
at_two w vs go t =
    ap (λ (l : List Val). on_two w l go) t.are
    ∙ given_at (number w t.y) t.b (λ b. given (number w t.x) (λ a. go a b t.rest)) t.second
    ∙ given_at (number w t.x) t.a (λ a. go a t.b t.rest) t.first

-- the topmost operand, of which nothing is taken off
abbrev pub Tells : Machine → Val → Type 0
Tells machine result = (k : Configuration) (x : Val) (vs : List Val) → Represents k machine → k.operands ≡ x ∷ vs → result ≡ x

pub take_both : (w : Width) (k : Configuration) (old mid : Machine) (u v : Val) (t : Two w k.operands) → Pops old u mid → Tells mid v → Represents k old
    → (u ≡ t.y) × (v ≡ t.x) × Represents (record k { operands = t.x ∷ t.rest }) mid
take_both w k old mid u v t p q sh =
    let i = p k t.y (t.x ∷ t.rest) sh t.are in
    (i.0, q (record k { operands = t.x ∷ t.rest }) t.x t.rest i.1 refl, i.1)

pub second_there : (w : Width) (k : Configuration) (old mid : Machine) (u : Val) (t : Two w k.operands) → Pops old u mid → Represents k old → HasOperand mid
second_there w k old mid u t p sh =
    record { configuration = record k { operands = t.x ∷ t.rest }; represents = (p k t.y (t.x ∷ t.rest) sh t.are).1; some = omega arith }

pub first_there : (w : Width) (k : Configuration) (old : Machine) (t : Two w k.operands) → Represents k old → HasOperand old
first_there w k old t sh = record { configuration = k; represents = sh; some = omega (arith, ap length t.are) }

pub is_number : (w : Width) (x y : Val) (n : ℕ) → x ≡ y → number w y ≡ Some n → number w x ≢ None
is_number w x y n e f g = cc

-- a value, or the trap
pub after_value : (w : Width) (e : Result ℕ TrapKind) (v : Val) (vs : List Val) (k : Configuration) (new : Machine) (store : Store) → Ok v ≡ valued w e → Represents (record k { operands = v ∷ vs }) new
    → EndsAs (or_trap e (state k store) (λ n. with_operands (value w n ∷ vs) (state k store))) k None new store
after_value w (Ok n) v vs k new store e sh = (subst (λ (x : Val). Represents (record k { operands = x ∷ vs }) new) (cc) sh, refl)
after_value w (Err t) v vs k new store e sh = absurd (cc)

pub after_trap : (w : Width) (e : Result ℕ TrapKind) (t : TrapKind) (vs : List Val) (k : Configuration) (new : Machine) (store : Store) → Err t ≡ valued w e
    → EndsAs (or_trap e (state k store) (λ n. with_operands (value w n ∷ vs) (state k store))) k (Some t) new store
after_trap w (Ok n) t vs k new store e = absurd (cc)
after_trap w (Err u) t vs k new store e = (cc, refl)
