-- Functions of the host.
use Rattle.std.proofs.Common.{◌≡◌, ◌≢◌, ℕ, ◌-◌, ◌^◌, List, [], ◌∷◌, Bool, true, false, Some, None, refl, sym, ap, subst}
use Rattle.std.specs.Prelude.{if◌then◌else◌}
use Rattle.wasm_values.specs.declared.outcome.Val.{Val}
use Rattle.wasm_values.specs.declared.outcome.Val.TheVariants as val
use Rattle.wasm_values.specs.declared.outcome.TrapKind.TheVariants as trap
use Rattle.wasm_spec.specs.Store.{Store}
use Rattle.wasm_spec.specs.Execution.{State, Signal, Next, Trapped, Stuck, pop_numbers, pop_pair, with_operands}
use Rattle.machine_steps.specs.declared.machine.Machine.{Machine}
use Rattle.machine_steps.specs.Configuration.{Configuration, state}
use Rattle.machine_steps.specs.Lent.{memory_set, answer_set}
use Rattle.machine_steps.specs.StackLayout.{Represents}
use Rattle.machine_steps.specs.PlainSteps.{EndsAs}

-- three i32 on the top
pub record ThreeNumbers (vs : List Val) : Type 0 where
  pub a : ℕ
  pub b : ℕ
  pub n : ℕ
  pub rest : List Val
  pub are : vs ≡ val.I32 n ∷ val.I32 b ∷ val.I32 a ∷ rest

pub three_there : (vs : List Val) (go : ℕ → ℕ → ℕ → List Val → Signal) → pop_numbers vs go ≢ Stuck → ThreeNumbers vs
three_there [] go f = absurd (f refl)
three_there (val.I64 z ∷ xs) go f = absurd (f refl)
three_there (val.I32 z ∷ []) go f = absurd (f refl)
three_there (val.I32 z ∷ val.I64 y ∷ xs) go f = absurd (f refl)
three_there (val.I32 z ∷ val.I32 y ∷ []) go f = absurd (f refl)
three_there (val.I32 z ∷ val.I32 y ∷ val.I64 x ∷ rest) go f = absurd (f refl)
three_there (val.I32 z ∷ val.I32 y ∷ val.I32 x ∷ rest) go f = record { a = x; b = y; n = z; rest = rest; are = refl }

pub at_three : (vs : List Val) (go : ℕ → ℕ → ℕ → List Val → Signal) (t : ThreeNumbers vs) → pop_numbers vs go ≡ go t.a t.b t.n t.rest
at_three vs go t = ap (λ (l : List Val). pop_numbers l go) t.are

-- two i32 on the top
pub record TwoNumbers (vs : List Val) : Type 0 where
  pub a : ℕ
  pub n : ℕ
  pub rest : List Val
  pub are : vs ≡ val.I32 n ∷ val.I32 a ∷ rest

pub two_there : (vs : List Val) (go : ℕ → ℕ → List Val → Signal) → pop_pair vs go ≢ Stuck → TwoNumbers vs
two_there [] go f = absurd (f refl)
two_there (val.I64 y ∷ xs) go f = absurd (f refl)
two_there (val.I32 y ∷ []) go f = absurd (f refl)
two_there (val.I32 y ∷ val.I64 x ∷ rest) go f = absurd (f refl)
two_there (val.I32 y ∷ val.I32 x ∷ rest) go f = record { a = x; n = y; rest = rest; are = refl }

pub at_two : (vs : List Val) (go : ℕ → ℕ → List Val → Signal) (t : TwoNumbers vs) → pop_pair vs go ≡ go t.a t.n t.rest
at_two vs go t = ap (λ (l : List Val). pop_pair l go) t.are

-- ---- what is left, by the test that the part lies in the memory

pub read_ends : (fits : Bool) (m n : ℕ) (bytes : List ℕ) (k : Configuration) (vs : List Val) (new : Machine) (before after : Store)
    → Some n ≡ (if fits then Some m else None) → after ≡ (if fits then memory_set bytes before else before) → Represents (record k { operands = val.I32 n ∷ vs }) new
    → EndsAs (if fits then Next (record (state k before) { operands = val.I32 m ∷ vs; store = memory_set bytes before }) else Trapped trap.Memory before) k None new after
read_ends true m n bytes k vs new before after e is sh = (subst (λ (x : ℕ). Represents (record k { operands = val.I32 x ∷ vs }) new) (cc) sh, sym is)
read_ends false m n bytes k vs new before after e is sh = absurd (cc)

pub read_traps : (fits : Bool) (m : ℕ) (bytes : List ℕ) (k : Configuration) (vs : List Val) (new : Machine) (before after : Store)
    → None ≡ (if fits then Some m else None) → after ≡ (if fits then memory_set bytes before else before)
    → EndsAs (if fits then Next (record (state k before) { operands = val.I32 m ∷ vs; store = memory_set bytes before }) else Trapped trap.Memory before) k (Some trap.Memory) new after
read_traps true m bytes k vs new before after e is = absurd (cc)
read_traps false m bytes k vs new before after e is = (refl, sym is)

abbrev pub write_signal : (fits full : Bool) (m : ℕ) (bytes : List ℕ) → List Val → State → Signal
write_signal fits full m bytes vs s =
    if fits then (if full then with_operands (val.I32 (2 ^ 32 - 1) ∷ vs) s else Next (record s { operands = val.I32 m ∷ vs; store = answer_set bytes s.store }))
    else Trapped trap.Memory s.store

pub write_ends : (fits full : Bool) (m n : ℕ) (bytes : List ℕ) (k : Configuration) (vs : List Val) (new : Machine) (before after : Store)
    → Some n ≡ (if fits then Some (if full then 2 ^ 32 - 1 else m) else None) → after ≡ (if fits then (if full then before else answer_set bytes before) else before)
    → Represents (record k { operands = val.I32 n ∷ vs }) new
    → EndsAs (write_signal fits full m bytes vs (state k before)) k None new after
write_ends true true m n bytes k vs new before after e is sh = (subst (λ (x : ℕ). Represents (record k { operands = val.I32 x ∷ vs }) new) (cc) sh, sym is)
write_ends true false m n bytes k vs new before after e is sh = (subst (λ (x : ℕ). Represents (record k { operands = val.I32 x ∷ vs }) new) (cc) sh, sym is)
write_ends false full m n bytes k vs new before after e is sh = absurd (cc)

pub write_traps : (fits full : Bool) (m : ℕ) (bytes : List ℕ) (k : Configuration) (vs : List Val) (new : Machine) (before after : Store)
    → None ≡ (if fits then Some (if full then 2 ^ 32 - 1 else m) else None) → after ≡ (if fits then (if full then before else answer_set bytes before) else before)
    → EndsAs (write_signal fits full m bytes vs (state k before)) k (Some trap.Memory) new after
write_traps true full m bytes k vs new before after e is = absurd (cc)
write_traps false full m bytes k vs new before after e is = (refl, sym is)

-- ---- what the parts that are lent show

pub memory_where : (fits : Bool) (bytes : List ℕ) (before : Store) → memory_set (if fits then bytes else before.memory) before ≡ (if fits then memory_set bytes before else before)
memory_where true bytes before = refl
memory_where false bytes before = refl

pub answer_where : (fits full : Bool) (bytes : List ℕ) (before : Store)
    → answer_set (if fits then (if full then before.answer else bytes) else before.answer) before ≡ (if fits then (if full then before else answer_set bytes before) else before)
answer_where true true bytes before = refl
answer_where true false bytes before = refl
answer_where false full bytes before = refl
