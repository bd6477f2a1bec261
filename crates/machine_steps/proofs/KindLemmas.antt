-- What each kind of plain instructions means, and what the machine shows after it.
use Rattle.wasm_spec.specs.Execution.{Terms}
use Rattle.std.proofs.Common.{◌≡◌, ◌≢◌, ℕ, zero, suc, List, [], ◌∷◌, length, Option, Some, None, refl, sym, ap, ◌∙◌, subst, arith}
use Rattle.std.specs.Prelude.{slice_get, slice_set}
use Rattle.wasm_values.specs.declared.outcome.Val.{Val}
use Rattle.wasm_values.specs.declared.outcome.Val.TheVariants as val
use Rattle.wasm_values.specs.declared.outcome.TrapKind.{TrapKind}
use Rattle.wasm_types.specs.declared.instr.Width.{Width}
use Rattle.wasm_types.specs.declared.instr.Width.TheVariants.{W32}
use Rattle.wasm_types.specs.declared.instr.Instr.{Instr}
use Rattle.wasm_types.specs.declared.instr.Instr.TheVariants as instr
use Rattle.wasm_types.specs.Tree.{ModuleTree}
use Rattle.wasm_spec.specs.Store.{Store}
use Rattle.wasm_spec.specs.Typing.{number}
use Rattle.wasm_spec.specs.Execution.{State, Signal, Next, Stuck, value, given, pop, pop_number, chosen, or_trap, with_operands, plain}
use Rattle.machine_steps.specs.declared.machine.Machine.{Machine}
use Rattle.machine_steps.specs.Configuration.{Configuration, state}
use Rattle.machine_steps.specs.StackLayout.{Represents}
use Rattle.machine_steps.specs.InstructionKinds.{takes_width, gives_width, IsOfOne, of_one, IsOfTwo, of_two}
use Rattle.machine_steps.specs.PlainSteps.{EndsAs, HasOperand}
use Rattle.machine_steps.proofs.OperandLemmas.{Two, given_there, given_at, on_two, two_there, at_two}

-- ---- one operand of a width

pub record Single (w : Width) (vs : List Val) : Type 0 where
  pub top : Val
  pub rest : List Val
  pub are : vs ≡ top ∷ rest
  pub n : ℕ
  pub is : number w top ≡ Some n

abbrev pub on_one : Width → List Val → (ℕ → List Val → Signal) → Signal
on_one w vs go = pop_number w vs go

pub single_there : (w : Width) (vs : List Val) (go : ℕ → List Val → Signal) → on_one w vs go ≢ Stuck → Single w vs
single_there w [] go n = absurd (n refl)
single_there w (x ∷ rest) go n =
    let (a, is) = given_there (number w x) (λ a. go a rest) n in
    record { top = x; rest = rest; are = refl; n = a; is = is }

pub at_single : (w : Width) (vs : List Val) (go : ℕ → List Val → Signal) (t : Single w vs) → on_one w vs go ≡ go t.n t.rest
at_single w vs go t = ap (λ (l : List Val). on_one w l go) t.are ∙ given_at (number w t.top) t.n (λ a. go a t.rest) t.is

pub single_top : (w : Width) (k : Configuration) (old : Machine) (t : Single w k.operands) → Represents k old → HasOperand old
single_top w k old t sh = record { configuration = k; represents = sh; some = omega (arith, ap length t.are) }

-- ---- one operand alone

pub top_there : (vs : List Val) (go : Val → List Val → Signal) → pop vs go ≢ Stuck → (x : Val) × (rest : List Val) × (vs ≡ x ∷ rest)
top_there [] go n = absurd (n refl)
top_there (x ∷ rest) go n = (x, rest, refl)

pub has_top : (k : Configuration) (old : Machine) (x : Val) (rest : List Val) → k.operands ≡ x ∷ rest → Represents k old → HasOperand old
has_top k old x rest are sh = record { configuration = k; represents = sh; some = omega (arith, ap length are) }

-- ---- a condition on two operands

pub record Chosen (vs : List Val) : Type 0 where
  pub condition : ℕ
  pub first : Val
  pub second : Val
  pub rest : List Val
  pub are : vs ≡ val.I32 condition ∷ second ∷ first ∷ rest

abbrev pub on_chosen : List Val → (ℕ → Val → Val → List Val → Signal) → Signal
on_chosen vs go = pop_number W32 vs (λ n xs. pop xs (λ y ys. pop ys (λ x rest. go n x y rest)))

pub chosen_there : (vs : List Val) (go : ℕ → Val → Val → List Val → Signal) → on_chosen vs go ≢ Stuck → Chosen vs
chosen_there [] go n = absurd (n refl)
chosen_there (val.I64 c ∷ xs) go n = absurd (n refl)
chosen_there (val.I32 c ∷ []) go n = absurd (n refl)
chosen_there (val.I32 c ∷ y ∷ []) go n = absurd (n refl)
chosen_there (val.I32 c ∷ y ∷ x ∷ rest) go n = record { condition = c; first = x; second = y; rest = rest; are = refl }

module _ (m : ModuleTree) (limits : Terms) where
  one_is : (i : Instr) (s : State) → IsOfOne i → plain m limits i s ≡ on_one (takes_width i) s.operands (λ a vs. with_operands (value (gives_width i) (of_one i a) ∷ vs) s)
  one_is (instr.Eqz w) s h = refl
  one_is (instr.Unary w o) s h = refl
  one_is instr.Wrap s h = refl
  one_is (instr.Extend e) s h = refl
  one_is _ s h = absurd h

  pub one_of : (i : Instr) (k : Configuration) (store : Store) → IsOfOne i → plain m limits i (state k store) ≢ Stuck → Single (takes_width i) k.operands
  one_of i k store h fine =
      let go : ℕ → List Val → Signal = λ a vs. with_operands (value (gives_width i) (of_one i a) ∷ vs) (state k store) in
      single_there (takes_width i) k.operands go (λ e. fine (one_is i (state k store) h ∙ e))

  pub one_means : (i : Instr) (k : Configuration) (store : Store) → IsOfOne i → (t : Single (takes_width i) k.operands)
      → plain m limits i (state k store) ≡ with_operands (value (gives_width i) (of_one i t.n) ∷ t.rest) (state k store)
  one_means i k store h t =
      let go : ℕ → List Val → Signal = λ a vs. with_operands (value (gives_width i) (of_one i a) ∷ vs) (state k store) in
      one_is i (state k store) h ∙ at_single (takes_width i) k.operands go t

  two_is : (i : Instr) (s : State) → IsOfTwo i → plain m limits i s ≡ on_two (takes_width i) s.operands (λ a b vs. or_trap (of_two i a b) s (λ n. with_operands (value (gives_width i) n ∷ vs) s))
  two_is (instr.Compare w o) s h = refl
  two_is (instr.Binary w o) s h = refl
  two_is _ s h = absurd h

  pub two_of : (i : Instr) (k : Configuration) (store : Store) → IsOfTwo i → plain m limits i (state k store) ≢ Stuck → Two (takes_width i) k.operands
  two_of i k store h fine =
      let go : ℕ → ℕ → List Val → Signal = λ a b vs. or_trap (of_two i a b) (state k store) (λ n. with_operands (value (gives_width i) n ∷ vs) (state k store)) in
      two_there (takes_width i) k.operands go (λ e. fine (two_is i (state k store) h ∙ e))

  pub two_means : (i : Instr) (k : Configuration) (store : Store) → IsOfTwo i → (t : Two (takes_width i) k.operands)
      → plain m limits i (state k store) ≡ or_trap (of_two i t.a t.b) (state k store) (λ n. with_operands (value (gives_width i) n ∷ t.rest) (state k store))
  two_means i k store h t =
      let go : ℕ → ℕ → List Val → Signal = λ a b vs. or_trap (of_two i a b) (state k store) (λ n. with_operands (value (gives_width i) n ∷ vs) (state k store)) in
      two_is i (state k store) h ∙ at_two (takes_width i) k.operands go t

  -- another signal is all that differs
  pub after_as : (i : Instr) (k : Configuration) (store after : Store) (e : Signal) (o : Option TrapKind) (new : Machine) → plain m limits i (state k store) ≡ e → EndsAs e k o new after → EndsAs (plain m limits i (state k store)) k o new after
  after_as i k store after e o new is h = subst (λ (x : Signal). EndsAs x k o new after) (sym is) h

  pub drop_means : (k : Configuration) (store : Store) (x : Val) (rest : List Val) → k.operands ≡ x ∷ rest → plain m limits instr.Drop (state k store) ≡ with_operands rest (state k store)
  drop_means k store x rest are = ap (λ (l : List Val). pop l (λ x vs. with_operands vs (state k store))) are

  pub select_of : (k : Configuration) (store : Store) → plain m limits instr.Select (state k store) ≢ Stuck → Chosen k.operands
  select_of k store fine = chosen_there k.operands (λ n x y vs. chosen n (with_operands (x ∷ vs) (state k store)) (with_operands (y ∷ vs) (state k store))) fine

  pub select_means : (k : Configuration) (store : Store) (t : Chosen k.operands)
      → plain m limits instr.Select (state k store) ≡ chosen t.condition (with_operands (t.first ∷ t.rest) (state k store)) (with_operands (t.second ∷ t.rest) (state k store))
  select_means k store t = ap (λ (l : List Val). on_chosen l (λ n x y vs. chosen n (with_operands (x ∷ vs) (state k store)) (with_operands (y ∷ vs) (state k store)))) t.are

-- what select leaves
pub select_after : (c : ℕ) (x y v : Val) (vs : List Val) (k : Configuration) (new : Machine) (store : Store) → (c ≡ 0 → v ≡ y) → (c ≢ 0 → v ≡ x) → Represents (record k { operands = v ∷ vs }) new
    → EndsAs (chosen c (with_operands (x ∷ vs) (state k store)) (with_operands (y ∷ vs) (state k store))) k None new store
select_after zero x y v vs k new store is other sh = (subst (λ (u : Val). Represents (record k { operands = u ∷ vs }) new) (is refl) sh, refl)
select_after (suc c) x y v vs k new store is other sh = (subst (λ (u : Val). Represents (record k { operands = u ∷ vs }) new) (other (λ e. absurd (cc (e)))) sh, refl)

-- ---- a local or a global that is given the topmost operand

pub record Setting (vs ls : List Val) (x : ℕ) : Type 0 where
  pub top : Val
  pub rest : List Val
  pub are : vs ≡ top ∷ rest
  pub old : Val
  pub there : slice_get ls x ≡ Some old

abbrev on_setting : List Val → List Val → ℕ → (Val → List Val → Signal) → Signal
on_setting vs ls x go = pop vs (λ v vs. given (slice_get ls x) (λ old. go v vs))

setting_there : (vs ls : List Val) (x : ℕ) (go : Val → List Val → Signal) → on_setting vs ls x go ≢ Stuck → Setting vs ls x
setting_there [] ls x go n = absurd (n refl)
setting_there (v ∷ rest) ls x go n =
    let (old, there) = given_there (slice_get ls x) (λ old. go v rest) n in
    record { top = v; rest = rest; are = refl; old = old; there = there }

at_setting : (vs ls : List Val) (x : ℕ) (go : Val → List Val → Signal) (t : Setting vs ls x) → on_setting vs ls x go ≡ go t.top t.rest
at_setting vs ls x go t = ap (λ (l : List Val). on_setting l ls x go) t.are ∙ given_at (slice_get ls x) t.old (λ old. go t.top t.rest) t.there

module _ (m : ModuleTree) (limits : Terms) (x : ℕ) (k : Configuration) (store : Store) where
  pub local_set_of : plain m limits (instr.LocalSet x) (state k store) ≢ Stuck → Setting k.operands k.locals x
  local_set_of fine = setting_there k.operands k.locals x (λ v vs. Next (record { locals = slice_set k.locals x v; operands = vs; store = store })) fine

  pub local_set_means : (t : Setting k.operands k.locals x)
      → plain m limits (instr.LocalSet x) (state k store) ≡ Next (record { locals = slice_set k.locals x t.top; operands = t.rest; store = store })
  local_set_means t = at_setting k.operands k.locals x (λ v vs. Next (record { locals = slice_set k.locals x v; operands = vs; store = store })) t

  pub local_tee_of : plain m limits (instr.LocalTee x) (state k store) ≢ Stuck → Setting k.operands k.locals x
  local_tee_of fine = setting_there k.operands k.locals x (λ v vs. Next (record { locals = slice_set k.locals x v; operands = k.operands; store = store })) fine

  pub local_tee_means : (t : Setting k.operands k.locals x)
      → plain m limits (instr.LocalTee x) (state k store) ≡ Next (record { locals = slice_set k.locals x t.top; operands = t.top ∷ t.rest; store = store })
  local_tee_means t =
      at_setting k.operands k.locals x (λ v vs. Next (record { locals = slice_set k.locals x v; operands = k.operands; store = store })) t
      ∙ ap (λ (l : List Val). Next (record { locals = slice_set k.locals x t.top; operands = l; store = store })) t.are

  pub local_get_of : plain m limits (instr.LocalGet x) (state k store) ≢ Stuck → (v : Val) × (slice_get k.locals x ≡ Some v)
  local_get_of fine = given_there (slice_get k.locals x) (λ v. with_operands (v ∷ k.operands) (state k store)) fine

  pub local_get_means : (v : Val) → slice_get k.locals x ≡ Some v → plain m limits (instr.LocalGet x) (state k store) ≡ with_operands (v ∷ k.operands) (state k store)
  local_get_means v there = given_at (slice_get k.locals x) v (λ v. with_operands (v ∷ k.operands) (state k store)) there

  pub global_set_of : plain m limits (instr.GlobalSet x) (state k store) ≢ Stuck → Setting k.operands store.globals x
  global_set_of fine = setting_there k.operands store.globals x (λ v vs. Next (record { locals = k.locals; operands = vs; store = record store { globals = slice_set store.globals x v } })) fine

  pub global_set_means : (t : Setting k.operands store.globals x)
      → plain m limits (instr.GlobalSet x) (state k store) ≡ Next (record { locals = k.locals; operands = t.rest; store = record store { globals = slice_set store.globals x t.top } })
  global_set_means t = at_setting k.operands store.globals x (λ v vs. Next (record { locals = k.locals; operands = vs; store = record store { globals = slice_set store.globals x v } })) t

  pub global_get_means : (v : Val) → slice_get store.globals x ≡ Some v → plain m limits (instr.GlobalGet x) (state k store) ≡ with_operands (v ∷ k.operands) (state k store)
  global_get_means v there = given_at (slice_get store.globals x) v (λ v. with_operands (v ∷ k.operands) (state k store)) there
