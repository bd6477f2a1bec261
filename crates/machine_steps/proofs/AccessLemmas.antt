-- Loads and stores.
use Rattle.wasm_spec.specs.Execution.{Terms}
use Rattle.std.proofs.Common.{◌≡◌, ◌≢◌, ℕ, ◌+◌, ◌*◌, ◌/◌, ◌^◌, ◌-◌, ◌≤◌, List, [], ◌∷◌, length, Bool, true, false, Option, Some, None, refl, sym, ap, ◌∙◌, subst, arith, length-take-le, mul-le-mul_right}
use Rattle.std.specs.Prelude.{nat_lt, nat_le, not, if◌then◌else◌, unwrap_or}
use Rattle.std.proofs.lemmas.Bool.Decides.{nat_tests}
use Rattle.wasm_values.specs.declared.outcome.Val.{Val}
use Rattle.wasm_values.specs.declared.outcome.Val.TheVariants as val
use Rattle.wasm_values.specs.declared.outcome.TrapKind.TheVariants as trap
use Rattle.wasm_types.specs.declared.instr.Width.{Width}
use Rattle.wasm_types.specs.declared.instr.Width.TheVariants.{W32}
use Rattle.wasm_types.specs.declared.instr.Instr.{Instr}
use Rattle.wasm_types.specs.declared.instr.Instr.TheVariants as instr
use Rattle.wasm_types.specs.Tree.{ModuleTree}
use Rattle.wasm_spec.specs.Store.{Store, page_size, written}
use Rattle.wasm_spec.specs.Typing.{number}
use Rattle.wasm_spec.specs.Execution.{State, Signal, Next, Trapped, Stuck, value, pop_number, pop_address, load_number, store_number, write_where, most_pages, plain}
use Rattle.wasm_spec.specs.Execution as execution
use Rattle.machine_steps.specs.declared.machine.Machine.{Machine}
use Rattle.linear_memory.specs.declared.memory.Memory.{Memory}
use Rattle.machine_steps.specs.Configuration.{Configuration, state}
use Rattle.machine_steps.specs.StackLayout.{Represents}
use Rattle.machine_steps.specs.InstructionKinds.{takes_width, gives_width, IsLoad, IsStoring, address_offset, access_width, loaded_as, stored_as}
use Rattle.linear_memory.specs.Bytes.{IsMemory, Grows, shown}
use Rattle.machine_steps.specs.Lent.{memory_set, store_of}
use Rattle.machine_steps.specs.PlainSteps.{EndsAs}
use Rattle.machine_steps.proofs.OperandLemmas.{given_there, given_at}
use Rattle.machine_steps.proofs.KindLemmas.{Single, single_there, at_single}

-- an i32 on the top
pub record One (vs : List Val) : Type 0 where
  pub n : ℕ
  pub rest : List Val
  pub are : vs ≡ val.I32 n ∷ rest

abbrev on_address : ℕ → List Val → (ℕ → List Val → Signal) → Signal
on_address offset vs go = pop_address offset vs go

address_there : (offset : ℕ) (vs : List Val) (go : ℕ → List Val → Signal) → on_address offset vs go ≢ Stuck → One vs
address_there offset [] go n = absurd (n refl)
address_there offset (val.I64 b ∷ rest) go n = absurd (n refl)
address_there offset (val.I32 b ∷ rest) go n = record { n = b; rest = rest; are = refl }

at_one : (offset : ℕ) (vs : List Val) (go : ℕ → List Val → Signal) (t : One vs) → on_address offset vs go ≡ go (t.n + offset) t.rest
at_one offset vs go t = ap (λ (l : List Val). on_address offset l go) t.are

-- a number of a width on the top, and an address under it
pub record Pair (w : Width) (vs : List Val) : Type 0 where
  pub top : Val
  pub base : ℕ
  pub rest : List Val
  pub are : vs ≡ top ∷ val.I32 base ∷ rest
  pub n : ℕ
  pub is : number w top ≡ Some n

abbrev on_pair : Width → ℕ → List Val → (ℕ → ℕ → List Val → Signal) → Signal
on_pair w offset vs go = pop_number w vs (λ n xs. pop_address offset xs (λ at rest. go n at rest))

pair_there : (w : Width) (offset : ℕ) (vs : List Val) (go : ℕ → ℕ → List Val → Signal) → on_pair w offset vs go ≢ Stuck → Pair w vs
pair_there w offset [] go n = absurd (n refl)
pair_there w offset (v ∷ []) go n = let (a, is) = given_there (number w v) (λ a. Stuck) n in absurd (n (given_at (number w v) a (λ a. Stuck) is))
pair_there w offset (v ∷ val.I64 b ∷ rest) go n = let (a, is) = given_there (number w v) (λ a. Stuck) n in absurd (n (given_at (number w v) a (λ a. Stuck) is))
pair_there w offset (v ∷ val.I32 b ∷ rest) go n =
    let (a, is) = given_there (number w v) (λ a. go a (b + offset) rest) n in
    record { top = v; base = b; rest = rest; are = refl; n = a; is = is }

at_pair : (w : Width) (offset : ℕ) (vs : List Val) (go : ℕ → ℕ → List Val → Signal) (t : Pair w vs) → on_pair w offset vs go ≡ go t.n (t.base + offset) t.rest
at_pair w offset vs go t = ap (λ (l : List Val). on_pair w offset l go) t.are ∙ given_at (number w t.top) t.n (λ n. go n (t.base + offset) t.rest) t.is

module _ (m : ModuleTree) (limits : Terms) where
  load_is : (i : Instr) (s : State) → IsLoad i → plain m limits i s ≡ on_address (address_offset i) s.operands (λ at vs. load_number (access_width i) (λ n. value (gives_width i) (loaded_as i n)) at vs s)
  load_is (instr.Load w a) s h = refl
  load_is (instr.LoadPacked w p e a) s h = refl
  load_is _ s h = absurd h

  pub load_of : (i : Instr) (k : Configuration) (store : Store) → IsLoad i → plain m limits i (state k store) ≢ Stuck → One k.operands
  load_of i k store h fine =
      let go : ℕ → List Val → Signal = λ at vs. load_number (access_width i) (λ n. value (gives_width i) (loaded_as i n)) at vs (state k store) in
      address_there (address_offset i) k.operands go (λ e. fine (load_is i (state k store) h ∙ e))

  pub load_means : (i : Instr) (k : Configuration) (store : Store) → IsLoad i → (t : One k.operands)
      → plain m limits i (state k store) ≡ load_number (access_width i) (λ n. value (gives_width i) (loaded_as i n)) (t.n + address_offset i) t.rest (state k store)
  load_means i k store h t =
      let go : ℕ → List Val → Signal = λ at vs. load_number (access_width i) (λ n. value (gives_width i) (loaded_as i n)) at vs (state k store) in
      load_is i (state k store) h ∙ at_one (address_offset i) k.operands go t

  store_is : (i : Instr) (s : State) → IsStoring i → plain m limits i s ≡ on_pair (takes_width i) (address_offset i) s.operands (λ n at vs. store_number (access_width i) (stored_as i n) at vs s)
  store_is (instr.Store w a) s h = refl
  store_is (instr.StorePacked w p a) s h = refl
  store_is _ s h = absurd h

  pub store_of_pair : (i : Instr) (k : Configuration) (store : Store) → IsStoring i → plain m limits i (state k store) ≢ Stuck → Pair (takes_width i) k.operands
  store_of_pair i k store h fine =
      let go : ℕ → ℕ → List Val → Signal = λ n at vs. store_number (access_width i) (stored_as i n) at vs (state k store) in
      pair_there (takes_width i) (address_offset i) k.operands go (λ e. fine (store_is i (state k store) h ∙ e))

  pub store_means : (i : Instr) (k : Configuration) (store : Store) → IsStoring i → (t : Pair (takes_width i) k.operands)
      → plain m limits i (state k store) ≡ store_number (access_width i) (stored_as i t.n) (t.base + address_offset i) t.rest (state k store)
  store_means i k store h t =
      let go : ℕ → ℕ → List Val → Signal = λ n at vs. store_number (access_width i) (stored_as i n) at vs (state k store) in
      store_is i (state k store) h ∙ at_pair (takes_width i) (address_offset i) k.operands go t

  pub grow_of : (k : Configuration) (store : Store) → plain m limits instr.MemoryGrow (state k store) ≢ Stuck → Single W32 k.operands
  grow_of k store fine = single_there W32 k.operands (λ n vs. execution.grow (most_pages m.memories limits.pages) n vs (state k store)) fine

  pub grow_means : (k : Configuration) (store : Store) (t : Single W32 k.operands)
      → plain m limits instr.MemoryGrow (state k store) ≡ execution.grow (most_pages m.memories limits.pages) t.n t.rest (state k store)
  grow_means k store t = at_single W32 k.operands (λ n vs. execution.grow (most_pages m.memories limits.pages) n vs (state k store)) t

number_is : (v : Val) (n : ℕ) → number W32 v ≡ Some n → v ≡ val.I32 n
number_is (val.I32 a) n e = cc
number_is (val.I64 a) n e = absurd (cc)

pub single_number : (vs : List Val) (t : Single W32 vs) → vs ≡ val.I32 t.n ∷ t.rest
single_number vs t = t.are ∙ ap (λ (v : Val). v ∷ t.rest) (number_is t.top t.n t.is)

-- what lies within does not reach past the end
pub fits_unless : (past : Bool) (at n : ℕ) → nat_lt n at ≡ past → nat_le at n ≡ not past
fits_unless true at n e = grind (arith, nat_tests)
fits_unless false at n e = grind (arith, nat_tests)

-- what a load leaves, by the test of its address
pub load_after : (past fits : Bool) (v : Val) (o : Option Val) (k : Configuration) (vs : List Val) (new : Machine) (store : Store) → fits ≡ not past → Some v ≡ (if past then None else o) → Represents (record k { operands = v ∷ vs }) new
    → (u : Val) → o ≡ Some u → EndsAs (if fits then Next (record (state k store) { operands = u ∷ vs }) else Trapped trap.Memory store) k None new store
load_after true fits v o k vs new store f e sh u is = absurd (cc)
load_after false true v o k vs new store f e sh u is = (subst (λ (x : Val). Represents (record k { operands = x ∷ vs }) new) (cc) sh, refl)
load_after false false v o k vs new store f e sh u is = let g : false ≡ true = f in absurd (cc (g))

pub load_traps : (past fits : Bool) (o : Option Val) (k : Configuration) (vs : List Val) (new : Machine) (store : Store) → fits ≡ not past → None ≡ (if past then None else o)
    → (u : Val) → o ≡ Some u → EndsAs (if fits then Next (record (state k store) { operands = u ∷ vs }) else Trapped trap.Memory store) k (Some trap.Memory) new store
load_traps true false o k vs new store f e u is = (refl, refl)
load_traps true true o k vs new store f e u is = let g : true ≡ false = f in absurd (cc (g))
load_traps false fits o k vs new store f e u is = absurd (cc)

-- what a store leaves
pub store_after : (fits : Bool) (k : Configuration) (vs : List Val) (new : Machine) (before after : Store) (at : ℕ) (bytes : List ℕ) → fits ≡ true → memory_set (written before.memory at bytes) before ≡ after → Represents (record k { operands = vs }) new
    → EndsAs (write_where fits at bytes vs (state k before)) k None new after
store_after true k vs new before after at bytes e same sh = (sh, same)
store_after false k vs new before after at bytes e same sh = absurd (cc)

pub store_traps : (fits : Bool) (k : Configuration) (vs : List Val) (new : Machine) (before after : Store) (at : ℕ) (bytes : List ℕ) → fits ≡ false → before ≡ after
    → EndsAs (write_where fits at bytes vs (state k before)) k (Some trap.Memory) new after
store_traps true k vs new before after at bytes e same = absurd (cc)
store_traps false k vs new before after at bytes e same = (refl, same)

-- ---- the memory's size

pub pages_are : (limit : ℕ) (memory : Memory) → IsMemory limit memory → length (shown memory) / page_size ≡ memory.pages
pages_are limit memory is =
    let most : memory.pages * page_size ≤ limit * page_size = mul-le-mul_right page_size is.size in
    let room = is.bytes in
    omega (arith, length-take-le (memory.pages * page_size) memory.bytes.items (omega arith))

abbrev stored : List ℕ → List (Option ℕ) → List Val → List ℕ → Store
stored memory table globals answer = record { memory = memory; table = table; globals = globals; answer = answer }

-- what growing leaves, by the test of the size
pub grow_after : (o : Option ℕ) (most n before limit : ℕ) (k : Configuration) (vs : List Val) (new : Machine) (old grown : Memory) (table : List (Option ℕ)) (globals : List Val) (answer : List ℕ) → IsMemory limit old → Grows most n old o grown
    → before ≡ unwrap_or o (2 ^ 32 - 1) → Represents (record k { operands = val.I32 before ∷ vs }) new
    → EndsAs (execution.grow most n vs (state k (store_of old table globals answer))) k None new (store_of grown table globals answer)
grow_after None most n before limit k vs new old grown table globals answer is (much, same) e sh =
    let pages = pages_are limit old is in
    let test : nat_lt most (length (shown old) / page_size + n) ≡ true = ap (λ (p : ℕ). nat_lt most (p + n)) pages ∙ grind (arith, nat_tests) in
    rw test (subst (λ (x : ℕ). Represents (record k { operands = val.I32 x ∷ vs }) new) e sh, ap (λ (l : List ℕ). stored l table globals answer) (sym same))
grow_after (Some b) most n before limit k vs new old grown table globals answer is grows e sh =
    let pages = pages_are limit old is in
    let fits = grows.fits in
    let test : nat_lt most (length (shown old) / page_size + n) ≡ false = ap (λ (p : ℕ). nat_lt most (p + n)) pages ∙ grind (arith, nat_tests) in
    rw test (subst (λ (x : ℕ). Represents (record k { operands = val.I32 x ∷ vs }) new) (e ∙ grows.before_is ∙ sym pages) sh, ap (λ (l : List ℕ). stored l table globals answer) (sym grows.shown_is))
