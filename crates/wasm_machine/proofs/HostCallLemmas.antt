-- Calls by number: of the module's own functions, and of imports.
use Rattle.std.proofs.Common.{◌≡◌, ◌≢◌, ℕ, zero, suc, ◌+◌, ◌-◌, ◌^◌, ◌<◌, ◌≤◌, List, [], ◌∷◌, ◌++◌, Bool, true, false, length, map, reverse, Option, Some, None, refl, sym, ap, ◌∙◌, subst, arith}
use Rattle.std.specs.Prelude.{slice_get, nat_lt, if◌then◌else◌, option_and_then, option_map, IfSome, IsTrue}
use Rattle.std.proofs.lemmas.Option.{slice_get_within}
use Rattle.std.proofs.lemmas.List.{length-map}
use Rattle.wasm_types.proofs.Found.{all_found}
use Rattle.wasm_types.proofs.SameTypeLemmas.{same_type_is}
use Rattle.wasm_types.specs.SameTypes.{same_type}
use Rattle.wasm_types.specs.declared.types.ValType.{ValType}
use Rattle.wasm_types.specs.declared.types.ValType.TheVariants as type
use Rattle.wasm_types.specs.declared.types.FuncType.{FuncType}
use Rattle.wasm_values.specs.declared.outcome.Val.{Val}
use Rattle.wasm_values.specs.declared.outcome.Val.TheVariants as val
use Rattle.wasm_values.specs.declared.outcome.TrapKind.{TrapKind}
use Rattle.wasm_values.specs.declared.outcome.TrapKind.TheVariants as trap
use Rattle.wasm_types.specs.declared.host.HostFunction.{HostFunction}
use Rattle.wasm_types.specs.declared.host.HostFunction.TheVariants as host
use Rattle.wasm_types.specs.declared.module.Import.{Import}
use Rattle.wasm_types.specs.declared.module.ImportDesc.{ImportDesc}
use Rattle.wasm_types.specs.declared.module.Module.{Module}
use Rattle.wasm_types.specs.Tree.{FunctionTree, module_tree}
use Rattle.wasm_spec.specs.Functions.{Callee, Imported, Own, callee_at, callee_type, imported_type, host_function, host_type}
use Rattle.wasm_spec.proofs.FunctionNumbers.{callee-imported, imported_there, own_there}
use Rattle.wasm_spec.proofs.NeedLaws.{highest-least}
use Rattle.wasm_spec.specs.Typing.{type_of}
use Rattle.wasm_spec.specs.Validity.{IsHostImport}
use Rattle.wasm_spec.specs.Store.{Store, written}
use Rattle.wasm_spec.specs.Execution.{Terms, Signal, Next, Branch, Returned, Trapped, OutOfFuel, Stuck, Ended, Continuation, exec, call, and_then, given, with_operands, most_answer, lies_within, part, read_request, write_answer, host_call}
use Rattle.machine_steps.specs.Lent.{memory_set, answer_set}
use Rattle.wasm_types.specs.Sequences.{code_at}
use Rattle.machine_steps.specs.declared.machine.Machine.{Machine}
use Rattle.machine_steps.specs.Configuration.{Configuration, state}
use Rattle.machine_steps.specs.StackLayout.{HasRoom, KeepsRoom}
use Rattle.machine_steps.specs.PlainSteps.{EndsAs, with_state}
use Rattle.machine_steps.specs.HostSteps.{CallsHost, CanCallHost, IsHostReady}
use Rattle.machine_steps.proofs.HostLemmas.{ThreeNumbers, TwoNumbers, at_three, at_two}
use Rattle.machine_steps.proofs.StackLayoutLemmas.{room_kept}
use Rattle.wasm_machine.specs.Remaining.{resume_at, after_sequence, function_of}
use Rattle.wasm_machine.specs.TypedConfiguration.{operand_count, IsRunnable, IsTypedAt, IsTypedContext, IsTypedStore, context}
use Rattle.wasm_machine.specs.declared.interpreter.Step.{Step}
use Rattle.wasm_machine.specs.Simulation.{SimulatesCall, SimulatesCalling, SimulatesUnlessTrapped, SimulatesStep, step_unless_trapped}
use Rattle.wasm_machine.proofs.RemainingLemmas.{after_sequence-Trapped}
use Rattle.wasm_machine.proofs.RoomLemmas.{free_value}

-- ---- which it is

pub slice_there : (is : List Import) (x : ℕ) → x < length is → (i : Import) × (slice_get is x ≡ Some i)
slice_there [] x h = absurd (omega arith)
slice_there (i ∷ is) zero h = (i, refl)
slice_there (i ∷ is) (suc x) h = slice_there is x (omega arith)

own_found : (m : Module) (x : ℕ) (c : Callee) → callee_at (module_tree m) x ≡ Some c → length m.imports ≤ x
    → (f : FunctionTree) × (c ≡ Own f) × (slice_get (module_tree m).functions (x - length m.imports) ≡ Some f)
own_found m x (Own f) there le = (f, refl, own_there (module_tree m) x f there)
own_found m x (Imported i) there le = absurd (let lt = slice_get_within m.imports x i (imported_there (module_tree m) x i there) in omega arith)

import_found : (m : Module) (x : ℕ) (c : Callee) → callee_at (module_tree m) x ≡ Some c → x < length m.imports → (i : Import) × (c ≡ Imported i) × (slice_get m.imports x ≡ Some i)
import_found m x (Imported i) there lt = (i, refl, imported_there (module_tree m) x i there)
import_found m x (Own f) there lt = absurd (no_own m x f there lt) where
  no_own : (m : Module) (x : ℕ) (f : FunctionTree) → callee_at (module_tree m) x ≡ Some (Own f) → x < length m.imports → ⊥
  no_own m x f there lt = let (i, is) = slice_there m.imports x lt in cc (sym there ∙ callee-imported (module_tree m) x lt ∙ ap (option_map (λ j. Imported j)) is)

-- a call of an own function, by its number among these
pub own_calls : (m : Module) (limits : Terms) (frame : ℕ) (machine : Machine) (store : Store) (x : ℕ) (r : ℕ → Ended) → length m.imports ≤ x
    → SimulatesCalling m limits frame machine store x r → SimulatesCall m limits frame machine store (x - length m.imports) r
own_calls m limits frame machine store x r le c =
    let (f, is, there) = own_found m x c.callee c.there le in
    let k = c.configuration in
    let d = length k.activations + 1 in
    let rest : Continuation = resume_at m limits d k.function k.sequence k.place in
    record {
      configuration = k;
      represents = c.represents;
      type = c.type;
      function = f;
      there = there;
      typed = subst (λ (a : Callee). callee_type (module_tree m) a ≡ Some c.type) is c.typed;
      below = c.below;
      arguments = c.arguments;
      resumes = c.resumes;
      around = c.around;
      stored = c.stored;
      room = c.room;
      goes = λ fuel. ap (λ (a : Callee). after_sequence m limits k (call (module_tree m) limits d (exec (module_tree m) limits (d + 1)) rest a c.type (state k store) fuel)) (sym is) ∙ c.goes fuel;
    }

-- an import's function of the host, and that its type is that function's
pub record IsHostCallee (m : Module) (x : ℕ) (c : Callee) (t : FuncType) : Type 0 where
  pub function : HostFunction
  pub import : Import
  pub there : slice_get m.imports x ≡ Some import
  pub is : c ≡ Imported import
  pub named : host_function import ≡ Some function
  pub params : t.params ≡ (host_type function).params
  pub results : t.results ≡ (host_type function).results

pub host_callee : (m : Module) (frame x : ℕ) (c : Callee) (t : FuncType) → IsRunnable m frame → callee_at (module_tree m) x ≡ Some c → callee_type (module_tree m) c ≡ Some t → x < length m.imports → IsHostCallee m x c t
host_callee m frame x c t run there typed lt =
    let (i, is, at) = import_found m x c there lt in
    let h : IsHostImport (module_tree m) i = all_found (IsHostImport (module_tree m)) m.imports x i run.supported.imports at in
    let found : slice_get m.types h.type ≡ Some t =
    ap (λ (d : ImportDesc). option_and_then (λ n. slice_get m.types n) (imported_type d)) (sym h.imports) ∙ subst (λ (a : Callee). callee_type (module_tree m) a ≡ Some t) is typed in
    let same : IsTrue (same_type t (host_type h.function)) = subst (λ (o : Option FuncType). IfSome o (λ u. IsTrue (same_type u (host_type h.function)))) found h.same in
    let (params, results) = same_type_is t (host_type h.function) same in
    record { function = h.function; import = i; there = at; is = is; named = h.named; params = params; results = results }

-- ---- what it leaves is typed

-- it goes on with operands of these types and the same locals, or traps
abbrev pub IsHostPreserved : Module → List ValType → List Val → Signal → Type 0
IsHostPreserved m types locals (Next s) = (map type_of s.operands ≡ types) × (s.locals ≡ locals) × IsTypedStore m s.store
IsHostPreserved m types locals (Trapped t store) = Unit {0}
IsHostPreserved m types locals (Branch l s) = ⊥
IsHostPreserved m types locals (Returned s) = ⊥
IsHostPreserved m types locals (OutOfFuel store) = ⊥
IsHostPreserved m types locals Stuck = ⊥

three_typed : (vs : List Val) (below : List ValType) → map type_of vs ≡ type.I32 ∷ type.I32 ∷ type.I32 ∷ below → (t : ThreeNumbers vs) × (map type_of t.rest ≡ below)
three_typed [] below e = absurd (cc)
three_typed (z ∷ []) below e = absurd (cc)
three_typed (z ∷ y ∷ []) below e = absurd (cc)
three_typed (z ∷ y ∷ val.I64 x ∷ rest) below e = absurd (cc)
three_typed (z ∷ val.I64 y ∷ val.I32 x ∷ rest) below e = absurd (cc)
three_typed (val.I64 z ∷ val.I32 y ∷ val.I32 x ∷ rest) below e = absurd (cc)
three_typed (val.I32 z ∷ val.I32 y ∷ val.I32 x ∷ rest) below e = (record { a = x; b = y; n = z; rest = rest; are = refl }, cc)

two_typed : (vs : List Val) (below : List ValType) → map type_of vs ≡ type.I32 ∷ type.I32 ∷ below → (t : TwoNumbers vs) × (map type_of t.rest ≡ below)
two_typed [] below e = absurd (cc)
two_typed (y ∷ []) below e = absurd (cc)
two_typed (y ∷ val.I64 x ∷ rest) below e = absurd (cc)
two_typed (val.I64 y ∷ val.I32 x ∷ rest) below e = absurd (cc)
two_typed (val.I32 y ∷ val.I32 x ∷ rest) below e = (record { a = x; n = y; rest = rest; are = refl }, cc)

module _ (m : Module) (below : List ValType) (k : Configuration) (store : Store) (stored : IsTypedStore m store) where
  read_as : (fits : Bool) (n : ℕ) (bytes : List ℕ) (vs : List Val) → map type_of vs ≡ below
      → IsHostPreserved m (type.I32 ∷ below) k.locals (if fits then Next (record (state k store) { operands = val.I32 n ∷ vs; store = memory_set bytes store }) else Trapped trap.Memory store)
  read_as true n bytes vs e = (ap (λ (l : List ValType). type.I32 ∷ l) e, refl, record { globals = stored.globals; table = stored.table })
  read_as false n bytes vs e = tt

  write_as : (fits full : Bool) (n : ℕ) (bytes : List ℕ) (vs : List Val) → map type_of vs ≡ below
      → IsHostPreserved m (type.I32 ∷ below) k.locals (if fits then (if full then with_operands (val.I32 (2 ^ 32 - 1) ∷ vs) (state k store) else Next (record (state k store) { operands = val.I32 n ∷ vs; store = answer_set bytes store })) else Trapped trap.Memory store)
  write_as true true n bytes vs e = (ap (λ (l : List ValType). type.I32 ∷ l) e, refl, stored)
  write_as true false n bytes vs e = (ap (λ (l : List ValType). type.I32 ∷ l) e, refl, record { globals = stored.globals; table = stored.table })
  write_as false full n bytes vs e = tt

  pub host_preserved : (request : List ℕ) (h : HostFunction) → map type_of k.operands ≡ reverse (host_type h).params ++ below
      → IsHostPreserved m (type.I32 ∷ below) k.locals (host_call request h (state k store))
  host_preserved request host.Len e = (ap (λ (l : List ValType). type.I32 ∷ l) e, refl, stored)
  host_preserved request host.Read e =
      let (t, types) = three_typed k.operands below e in
      subst (λ (signal : Signal). IsHostPreserved m (type.I32 ∷ below) k.locals signal) (sym (at_three k.operands (λ to from n vs. read_request request to from n vs (state k store)) t))
      (read_as (lies_within store t.a t.n) (length (part request t.b t.n)) (written store.memory t.a (part request t.b t.n)) t.rest types)
  host_preserved request host.Write e =
      let (t, types) = two_typed k.operands below e in
      subst (λ (signal : Signal). IsHostPreserved m (type.I32 ∷ below) k.locals signal) (sym (at_two k.operands (λ from n vs. write_answer from n vs (state k store)) t))
      (write_as (lies_within store t.a t.n) (nat_lt most_answer (length store.answer + t.n)) (length store.answer + t.n) (store.answer ++ part store.memory t.a t.n) t.rest types)

host_fine : (m : Module) (types : List ValType) (locals : List Val) (e : Signal) → IsHostPreserved m types locals e → e ≢ Stuck
host_fine m types locals Stuck h n = h
host_fine m types locals (Next s) h n = cc
host_fine m types locals (Branch l s) h n = cc
host_fine m types locals (Returned s) h n = cc
host_fine m types locals (Trapped t s) h n = cc
host_fine m types locals (OutOfFuel s) h n = cc

-- ---- the call

pub stopped : (o : Option TrapKind) (t : Step) (m : Module) (limits : Terms) (frame : ℕ) (machine : Machine) (store : Store) (r : ℕ → Ended) → t ≡ step_unless_trapped o → SimulatesUnlessTrapped o m limits frame machine store r → SimulatesStep t m limits frame machine store r
stopped None t m limits frame machine store r e s = subst (λ (x : Step). SimulatesStep x m limits frame machine store r) (sym e) s
stopped (Some u) t m limits frame machine store r e s = subst (λ (x : Step). SimulatesStep x m limits frame machine store r) (sym e) s

module _ (m : Module) (limits : Terms) (frame : ℕ) where
  host_done : (e : Signal) (k : Configuration) (types : List ValType) (o : Option TrapKind) (old new : Machine) (store' : Store) (r : ℕ → Ended) → IsHostPreserved m types k.locals e
      → IsTypedAt m frame k.function k.blocks types k.sequence k.place → IsTypedContext m frame limits.depth k → HasRoom limits.depth frame old → KeepsRoom old new
      → ((g : ℕ) → after_sequence m limits k (and_then e g (resume_at m limits (length k.activations + 1) k.function k.sequence k.place)) ≡ r g)
      → EndsAs e k o new store' → SimulatesUnlessTrapped o m limits frame new store' r
  host_done (Next s) k types None old new store' r (are, locals, stored) resumes around room keeps goes (represents, same) = record {
    configuration = with_state k s;
    represents = represents;
    typed = record {
      here = subst (λ (us : List ValType). IsTypedAt m frame k.function k.blocks us k.sequence k.place) (sym are) resumes;
      around = record { locals = ap (map type_of) locals ∙ around.locals; blocks = around.blocks; activations = around.activations; deep = around.deep; there = around.there };
    };
    stored = subst (λ (t : Store). IsTypedStore m t) same stored;
    room = room_kept limits.depth frame old new room keeps;
    goes = λ g. ap (λ (t : Store). after_sequence m limits k (resume_at m limits (length k.activations + 1) k.function k.sequence k.place (record { locals = s.locals; operands = s.operands; store = t }) g)) (sym same) ∙ goes g;
  }
  host_done (Next s) k types (Some t) old new store' r good resumes around room keeps goes after = absurd after
  host_done (Trapped t before) k types None old new store' r good resumes around room keeps goes after = absurd after
  host_done (Trapped t before) k types (Some u) old new store' r good resumes around room keeps goes (is, same) =
      λ g. sym (goes g) ∙ after_sequence-Trapped m limits k t before g ∙ ap (λ (v : TrapKind). (Trapped v before, g)) (sym is) ∙ ap (λ (st : Store). (Trapped u st, g)) same
  host_done (Branch l s) k types o old new store' r good resumes around room keeps goes after = absurd good
  host_done (Returned s) k types o old new store' r good resumes around room keeps goes after = absurd good
  host_done (OutOfFuel s) k types o old new store' r good resumes around room keeps goes after = absurd good
  host_done Stuck k types o old new store' r good resumes around room keeps goes after = absurd good

  results_are : (h : HostFunction) → (host_type h).results ≡ type.I32 ∷ []
  results_are host.Len = refl
  results_are host.Read = refl
  results_are host.Write = refl

  module _ (old : Machine) (store : Store) (x : ℕ) (r : ℕ → Ended) (c : SimulatesCalling m limits frame old store x r) (h : IsHostCallee m x c.callee c.type) where
    arguments_are : map type_of c.configuration.operands ≡ reverse (host_type h.function).params ++ c.below
    arguments_are = c.arguments ∙ ap (λ (ts : List ValType). reverse ts ++ c.below) h.params

    preserved : IsHostPreserved m (type.I32 ∷ c.below) c.configuration.locals (host_call limits.request h.function (state c.configuration store))
    preserved = host_preserved m c.below c.configuration store c.stored limits.request h.function arguments_are

    goes_on : IsTypedAt m frame c.configuration.function c.configuration.blocks (type.I32 ∷ c.below) c.configuration.sequence c.configuration.place
    goes_on = subst (λ (us : List ValType). IsTypedAt m frame c.configuration.function c.configuration.blocks (us ++ c.below) c.configuration.sequence c.configuration.place) (h.results ∙ results_are h.function) c.resumes

    pub can_call_host : CanCallHost limits.request h.function old
    can_call_host = record {
      configuration = c.configuration;
      store = store;
      represents = c.represents;
      fine = host_fine m (type.I32 ∷ c.below) c.configuration.locals (host_call limits.request h.function (state c.configuration store)) preserved;
    }

    one_free : h.function ≡ host.Len → length old.values.items < old.values.room
    one_free is =
        let k = c.configuration in
        let f = goes_on.fits in
        let none : map type_of k.operands ≡ c.below = arguments_are ∙ ap (λ (g : HostFunction). reverse (host_type g).params ++ c.below) is in
        let least = highest-least (operand_count k.blocks) (context m frame k.function k.blocks) (code_at (function_of m k.function).body k.sequence k.place) (length (type.I32 ∷ c.below)) in
        omega (arith, free_value m limits frame k old c.represents c.around c.room (omega (arith, ap length none, length-map k.operands type_of)))

    ready_by : (g : HostFunction) → h.function ≡ g → IsHostReady g old
    ready_by host.Len is = one_free is
    ready_by host.Read is = tt
    ready_by host.Write is = tt

    pub host_ready : IsHostReady h.function old
    host_ready = ready_by h.function refl

    -- an import that has been called
    pub import_done : (new : Machine) (store' : Store) (o : Option TrapKind) → EndsAs (host_call limits.request h.function (state c.configuration store)) c.configuration o new store' → KeepsRoom old new → SimulatesUnlessTrapped o m limits frame new store' r
    import_done new store' o after keeps =
        let k = c.configuration in
        let d = length k.activations + 1 in
        let rest : Continuation = resume_at m limits d k.function k.sequence k.place in
        host_done (host_call limits.request h.function (state k store)) k (type.I32 ∷ c.below) o old new store' r preserved goes_on c.around c.room keeps
        (λ g. ap (λ (p : Option HostFunction). after_sequence m limits k (and_then (given p (λ f. host_call limits.request f (state k store))) g rest)) (sym h.named)
        ∙ ap (λ (a : Callee). after_sequence m limits k (call (module_tree m) limits d (exec (module_tree m) limits (d + 1)) rest a c.type (state k store) g)) (sym h.is)
        ∙ c.goes g) after

-- ---- the function that is found

pub found_function : (m : Module) (x : ℕ) (c : Callee) (t : FuncType) (h : IsHostCallee m x c t) (o : Option HostFunction) → o ≡ option_and_then host_function (slice_get m.imports x) → o ≡ Some h.function
found_function m x c t h o e = e ∙ ap (option_and_then host_function) h.there ∙ h.named

pub some_same : (f g : HostFunction) (o : Option HostFunction) → o ≡ Some f → o ≡ Some g → f ≡ g
some_same f g o e d = cc

module _ (m : Module) (limits : Terms) (frame : ℕ) (old : Machine) (store : Store) (x : ℕ) (r : ℕ → Ended) (run : IsRunnable m frame) (c : SimulatesCalling m limits frame old store x r) (lt : x < length m.imports)
    (o : Option HostFunction) (is : o ≡ option_and_then host_function (slice_get m.imports x)) where
  abbrev host_of_call : IsHostCallee m x c.callee c.type
  host_of_call = host_callee m frame x c.callee c.type run c.there c.typed lt

  pub some_function : o ≢ None
  some_function e = let f = found_function m x c.callee c.type host_of_call o is in cc

  module _ (f : HostFunction) (got : o ≡ Some f) where
    function_is : f ≡ host_of_call.function
    function_is = some_same f host_of_call.function o got (found_function m x c.callee c.type host_of_call o is)

    pub found_can : CanCallHost limits.request f old
    found_can = subst (λ (g : HostFunction). CanCallHost limits.request g old) (sym function_is) (can_call_host m limits frame old store x r c host_of_call)

    pub found_ready : IsHostReady f old
    found_ready = subst (λ (g : HostFunction). IsHostReady g old) (sym function_is) (host_ready m limits frame old store x r c host_of_call)

    pub found_done : (new : Machine) (store' : Store) (p : Option TrapKind) → CallsHost limits.request f old store p new store' → KeepsRoom old new → SimulatesUnlessTrapped p m limits frame new store' r
    found_done new store' p calls keeps =
        import_done m limits frame old store x r c host_of_call new store' p
        (subst (λ (g : HostFunction). CallsHost limits.request g old store p new store') function_is calls c.configuration c.represents
        (host_fine m (type.I32 ∷ c.below) c.configuration.locals (host_call limits.request host_of_call.function (state c.configuration store)) (preserved m limits frame old store x r c host_of_call)))
        keeps
