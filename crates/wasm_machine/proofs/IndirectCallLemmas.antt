-- Calls of elements of the table.
use Rattle.wasm_types.specs.SameTypes.{same_type}
use Rattle.wasm_spec.specs.Execution.{Terms}
use Rattle.std.proofs.Common.{◌≡◌, ℕ, suc, ◌+◌, ◌<◌, List, [], ◌∷◌, ◌++◌, length, map, reverse, Bool, true, false, Option, Some, None, refl, sym, ap, ◌∙◌, subst, arith, length-append}
use Rattle.std.specs.Prelude.{slice_get, if◌then◌else◌, option_and_then, IsSome, ◌-◌}
use Rattle.wasm_types.specs.declared.types.ValType.{ValType}
use Rattle.wasm_types.specs.declared.types.ValType.TheVariants.{I32}
use Rattle.wasm_types.specs.declared.types.FuncType.{FuncType}
use Rattle.wasm_types.specs.declared.types.Limits.{Limits}
use Rattle.wasm_values.specs.declared.outcome.Val.{Val}
use Rattle.wasm_values.specs.declared.outcome.TrapKind.TheVariants as trap
use Rattle.wasm_types.specs.declared.instr.Op.TheVariants as op
use Rattle.wasm_types.specs.declared.module.Module.{Module}
use Rattle.wasm_types.specs.Tree.{Code, function_tree, module_tree}
use Rattle.wasm_spec.specs.Typing.{Context, Takes, Typed, type_of, named, needs_one, Fixed, call_indirect_rule, IsTypedFunction}
use Rattle.wasm_spec.specs.Functions.{Callee, Imported, Own, callee_at, callee_type, function_type}
use Rattle.wasm_spec.proofs.FunctionNumbers.{callee_within, imported_there, own_there}
use Rattle.wasm_types.specs.declared.module.Import.{Import}
use Rattle.std.proofs.lemmas.List.{length-map}
use Rattle.wasm_spec.specs.Need.{height, highest}
use Rattle.wasm_spec.specs.Store.{Store}
use Rattle.wasm_spec.specs.Execution.{State, Trapped, Ended, Continuation, pop_index, with_element, if_there, with_function, call, typed_call, element_call, exec}
use Rattle.wasm_spec.proofs.Equations.{exec-CallIndirect}
use Rattle.wasm_types.specs.Sequences.{code_at}
use Rattle.machine_steps.specs.declared.machine.Machine.{Machine}
use Rattle.machine_steps.specs.Configuration.{Configuration, state}
use Rattle.wasm_machine.specs.Remaining.{after_sequence}
use Rattle.machine_steps.specs.StackLayout.{KeepsRoom}
use Rattle.wasm_machine.specs.TypedConfiguration.{operand_count, IsRunnable, IsTypedAt, context, ends_of}
use Rattle.wasm_machine.specs.Simulation.{HasFetched, SimulatesCalling, body_of, paid}
use Rattle.machine_steps.specs.PlainSteps.{HasNumber}
use Rattle.machine_steps.proofs.StackLayoutLemmas.{room_kept}
use Rattle.wasm_machine.proofs.RemainingLemmas.{after_sequence-Trapped}
use Rattle.wasm_types.proofs.Found.{all_found, some_found}
use Rattle.wasm_types.proofs.SameTypeLemmas.{same_type_is}
use Rattle.wasm_machine.proofs.IfLemmas.{Pops32, Condition, condition_of}
use Rattle.wasm_machine.proofs.StepLemmas.{calls_it}

-- ---- functions that are there

-- a function of the module, and its type
pub record Member (m : Module) (y : ℕ) : Type 0 where
  pub callee : Callee
  pub type : FuncType
  pub there : callee_at (module_tree m) y ≡ Some callee
  pub typed : callee_type (module_tree m) callee ≡ Some type
  pub known : function_type (module_tree m) y ≡ Some type

-- each callee of a valid module has a type
has_type : (m : Module) (frame y : ℕ) (c : Callee) → IsRunnable m frame → callee_at (module_tree m) y ≡ Some c → IsSome (callee_type (module_tree m) c)
has_type m frame y (Imported i) run there = all_found (λ (i : Import). IsSome (callee_type (module_tree m) (Imported i))) m.imports y i run.valid.imports (imported_there (module_tree m) y i there)
has_type m frame y (Own f) run there =
    (all_found (IsTypedFunction (module_tree m)) (module_tree m).functions (y - length m.imports) f run.valid.functions (own_there (module_tree m) y f there)).0

pub member : (m : Module) (frame y : ℕ) → IsRunnable m frame → y < length m.imports + length m.functions → Member m y
member m frame y run lt =
    let (c, there) = callee_within (module_tree m) y (let long = length-map m.functions function_tree in omega arith) in
    let (t, has) = some_found (callee_type (module_tree m) c) (has_type m frame y c run there) in
    record { callee = c; type = t; there = there; typed = has; known = ap (option_and_then (callee_type (module_tree m))) there ∙ has }

-- ---- what the instruction takes

-- an index, and the arguments under it
record Indirect (C : Context) (x : ℕ) (ts middle : List ValType) : Type 0 where
  type : FuncType
  is : slice_get C.defined.types x ≡ Some type
  below : List ValType
  takes : ts ≡ I32 ∷ (reverse type.params ++ below)
  gives : middle ≡ type.results ++ below
  counted : height (call_indirect_rule C x) (length ts) ≡ length middle

indirect_by : (tables : List Limits) (o : Option FuncType) (ts middle : List ValType) → Takes (needs_one tables (named o (λ (t : FuncType). Fixed (I32 ∷ reverse t.params) t.results))) ts middle
    → (t : FuncType) × (below : List ValType) × (o ≡ Some t) × (ts ≡ I32 ∷ (reverse t.params ++ below)) × (middle ≡ t.results ++ below) × (height (needs_one tables (named o (λ (t : FuncType). Fixed (I32 ∷ reverse t.params) t.results))) (length ts) ≡ length middle)
indirect_by [] o ts middle h = absurd h
indirect_by (l ∷ tables) None ts middle h = absurd h
indirect_by (l ∷ tables) (Some t) ts middle (below, takes, gives) =
    (t, below, refl, takes, gives, omega (arith, ap length takes, ap length gives, length-append (reverse t.params) below, length-append t.results below))

indirect : (C : Context) (x : ℕ) (ts middle : List ValType) → Takes (call_indirect_rule C x) ts middle → Indirect C x ts middle
indirect C x ts middle h =
    let (t, below, is, takes, gives, counted) = indirect_by C.defined.tables (slice_get C.defined.types x) ts middle h in
    record { type = t; is = is; below = below; takes = takes; gives = gives; counted = counted }

module _ (m : Module) (limits : Terms) (frame : ℕ) where
  -- the type that is named, the index on the top, and what is left to do with it
  pub record Element (k : Configuration) (x : ℕ) (store : Store) (r : ℕ → Ended) : Type 0 where
    pub type : FuncType
    pub is : slice_get m.types x ≡ Some type
    pub below : List ValType
    pub index : Condition k.operands (reverse type.params ++ below)
    pub resumes : IsTypedAt m frame k.function k.blocks (type.results ++ below) k.sequence k.place
    pub goes : (fuel : ℕ)
        → after_sequence m limits k (element_call (module_tree m) limits (length k.activations + 1) (exec (module_tree m) limits (length k.activations + 1 + 1)) (exec (module_tree m) limits (length k.activations + 1) (code_at (body_of m k) k.sequence k.place)) x index.n (state (record k { operands = index.rest }) store) fuel) ≡ r fuel

  pub element : (machine : Machine) (store : Store) (here x : ℕ) (r : ℕ → Ended) (b : HasFetched m limits frame machine store here (op.CallIndirect x) r) → Element b.configuration x store (paid r)
  element machine store here x r b =
      let k = b.configuration in
      let C : Context = context m frame k.function k.blocks in
      let rest : Code = code_at (body_of m k) k.sequence k.place in
      let (middle, takes, typed) = b.typed.typed in
      let i = indirect C x (map type_of k.operands) middle takes in
      let c = condition_of k.operands (reverse i.type.params ++ i.below) i.takes in
      let fits = b.typed.fits in
      let same : highest (operand_count k.blocks) C rest (length (i.type.results ++ i.below)) ≡ highest (operand_count k.blocks) C rest (height (call_indirect_rule C x) (length (map type_of k.operands))) =
      ap (λ (z : ℕ). highest (operand_count k.blocks) C rest z) (ap length (sym i.gives) ∙ sym i.counted) in
      let d = length k.activations + 1 in
      record {
        type = i.type;
        is = i.is;
        below = i.below;
        index = c;
        resumes = record { typed = subst (λ (us : List ValType). Typed C rest us (ends_of m frame k.function k.blocks)) i.gives typed; fits = omega arith; narrow = b.typed.narrow };
        goes = λ fuel.
            ap (after_sequence m limits k)
            (ap (λ (vs : List Val). pop_index vs (element_call (module_tree m) limits d (exec (module_tree m) limits (d + 1)) (exec (module_tree m) limits d rest) x) (state k store) fuel) (sym c.are)
            ∙ sym (exec-CallIndirect (module_tree m) limits d x rest (state k store) fuel))
            ∙ b.goes (suc fuel);
      }

  pub element_number : (machine : Machine) (store : Store) (here x : ℕ) (r : ℕ → Ended) → HasFetched m limits frame machine store here (op.CallIndirect x) r → HasNumber machine
  element_number machine store here x r b =
      let e = element machine store here x r b in
      record { configuration = b.configuration; represents = b.represents; top = e.index.n; rest = e.index.rest; are = e.index.are }

  module _ (old mid : Machine) (store : Store) (here x i : ℕ) (r : ℕ → Ended) (b : HasFetched m limits frame old store here (op.CallIndirect x) r) (pops : Pops32 m limits frame old i mid) where
    -- the index that was popped
    index_is : (e : Element b.configuration x store (paid r)) → i ≡ e.index.n
    index_is e = (pops b.configuration e.index.n e.index.rest b.represents e.index.are).0

    -- an element that can't be called
    pub no_element : slice_get store.table i ≡ None → (g : ℕ) → paid r g ≡ (Trapped trap.Element store, g)
    no_element got g =
        let e = element old store here x r b in
        let k = b.configuration in
        let next : ℕ → Continuation = λ y. if_there (slice_get (module_tree m).types x) (λ u. with_function (module_tree m) y (typed_call (module_tree m) limits (length k.activations + 1) (exec (module_tree m) limits (length k.activations + 1 + 1)) (exec (module_tree m) limits (length k.activations + 1) (code_at (body_of m k) k.sequence k.place)) u)) in
        sym (e.goes g)
        ∙ ap (λ (o : Option (Option ℕ)). after_sequence m limits k (with_element o next (state (record k { operands = e.index.rest }) store) g)) (ap (slice_get store.table) (sym (index_is e)) ∙ got)
        ∙ after_sequence-Trapped m limits k trap.Element store g

    pub empty_element : slice_get store.table i ≡ Some None → (g : ℕ) → paid r g ≡ (Trapped trap.Uninit store, g)
    empty_element got g =
        let e = element old store here x r b in
        let k = b.configuration in
        let next : ℕ → Continuation = λ y. if_there (slice_get (module_tree m).types x) (λ u. with_function (module_tree m) y (typed_call (module_tree m) limits (length k.activations + 1) (exec (module_tree m) limits (length k.activations + 1 + 1)) (exec (module_tree m) limits (length k.activations + 1) (code_at (body_of m k) k.sequence k.place)) u)) in
        sym (e.goes g)
        ∙ ap (λ (o : Option (Option ℕ)). after_sequence m limits k (with_element o next (state (record k { operands = e.index.rest }) store) g)) (ap (slice_get store.table) (sym (index_is e)) ∙ got)
        ∙ after_sequence-Trapped m limits k trap.Uninit store g

    -- one that is a function goes on with the test of its type
    typed_goes : (e : Element b.configuration x store (paid r)) (y : ℕ) (h : Member m y) → slice_get store.table i ≡ Some (Some y) → (g : ℕ)
        → let k = b.configuration in let rest : Code = code_at (body_of m k) k.sequence k.place in
        after_sequence m limits k (typed_call (module_tree m) limits (length k.activations + 1) (exec (module_tree m) limits (length k.activations + 1 + 1)) (exec (module_tree m) limits (length k.activations + 1) rest) e.type h.callee h.type (state (record k { operands = e.index.rest }) store) g) ≡ paid r g
    typed_goes e y h got g =
        let k = b.configuration in
        let d = length k.activations + 1 in
        let rest : Code = code_at (body_of m k) k.sequence k.place in
        let s : State = state (record k { operands = e.index.rest }) store in
        let next : ℕ → Continuation = λ y. if_there (slice_get (module_tree m).types x) (λ u. with_function (module_tree m) y (typed_call (module_tree m) limits d (exec (module_tree m) limits (d + 1)) (exec (module_tree m) limits d rest) u)) in
        sym (ap (λ (o : Option (Option ℕ)). after_sequence m limits k (with_element o next s g)) (ap (slice_get store.table) (sym (index_is e)) ∙ got)
        ∙ ap (λ (o : Option FuncType). after_sequence m limits k (if_there o (λ u. with_function (module_tree m) y (typed_call (module_tree m) limits d (exec (module_tree m) limits (d + 1)) (exec (module_tree m) limits d rest) u)) s g)) e.is
        ∙ ap (after_sequence m limits k) (calls_it m y h.callee h.type (typed_call (module_tree m) limits d (exec (module_tree m) limits (d + 1)) (exec (module_tree m) limits d rest) e.type) s g h.there h.typed))
        ∙ e.goes g

    pub other_type : (y : ℕ) (h : Member m y) → slice_get store.table i ≡ Some (Some y) → (same : Bool) → ((t u : FuncType) → slice_get m.types x ≡ Some t → function_type (module_tree m) y ≡ Some u → same ≡ same_type t u) → same ≡ false
        → (g : ℕ) → paid r g ≡ (Trapped trap.Signature store, g)
    other_type y h got same tests differs g =
        let e = element old store here x r b in
        let k = b.configuration in
        let d = length k.activations + 1 in
        let rest : Code = code_at (body_of m k) k.sequence k.place in
        let s : State = state (record k { operands = e.index.rest }) store in
        let differ : same_type e.type h.type ≡ false = sym (tests e.type h.type e.is h.known) ∙ differs in
        sym (typed_goes e y h got g)
        ∙ ap (λ (t : Bool). after_sequence m limits k (if t then call (module_tree m) limits d (exec (module_tree m) limits (d + 1)) (exec (module_tree m) limits d rest) h.callee h.type s g else (Trapped trap.Signature store, g))) differ
        ∙ after_sequence-Trapped m limits k trap.Signature store g

    pub element_calls : (y : ℕ) (h : Member m y) → slice_get store.table i ≡ Some (Some y) → (same : Bool) → ((t u : FuncType) → slice_get m.types x ≡ Some t → function_type (module_tree m) y ≡ Some u → same ≡ same_type t u) → same ≡ true
        → KeepsRoom old mid → SimulatesCalling m limits frame mid store y (paid r)
    element_calls y h got same tests is keeps =
        let e = element old store here x r b in
        let k = b.configuration in
        let d = length k.activations + 1 in
        let rest : Code = code_at (body_of m k) k.sequence k.place in
        let k' : Configuration = record k { operands = e.index.rest } in
        let p = pops k e.index.n e.index.rest b.represents e.index.are in
        let agree : same_type e.type h.type ≡ true = sym (tests e.type h.type e.is h.known) ∙ is in
        let (params, results) = same_type_is e.type h.type agree in
        record {
          configuration = k';
          represents = p.1;
          type = h.type;
          callee = h.callee;
          there = h.there;
          typed = h.typed;
          below = e.below;
          arguments = e.index.types ∙ ap (λ (ts : List ValType). reverse ts ++ e.below) params;
          resumes = subst (λ (ts : List ValType). IsTypedAt m frame k.function k.blocks (ts ++ e.below) k.sequence k.place) results e.resumes;
          around = record { locals = b.around.locals; blocks = b.around.blocks; activations = b.around.activations; deep = b.around.deep; there = b.around.there };
          stored = b.stored;
          room = room_kept limits.depth frame old mid b.room keeps;
          goes = λ fuel.
              ap (λ (t : Bool). after_sequence m limits k (if t then call (module_tree m) limits d (exec (module_tree m) limits (d + 1)) (exec (module_tree m) limits d rest) h.callee h.type (state k' store) fuel else (Trapped trap.Signature store, fuel))) (sym agree)
              ∙ typed_goes e y h got fuel;
        }
