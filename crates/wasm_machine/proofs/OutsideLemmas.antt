-- Functions of the host that are called from outside.
use Rattle.std.proofs.Common.{◌≡◌, ℕ, ◌-◌, ◌^◌, ◌<◌, ◌≤◌, List, [], ◌∷◌, Bool, true, false, length, map, Option, Some, None, ⊎_elim, refl, sym, ap, ◌∙◌, subst}
use Rattle.std.specs.Prelude.{IfSome, slice_get, if◌then◌else◌, option_and_then, option_map}
use Rattle.std.proofs.lemmas.Bool.{cases_lt}
use Rattle.wasm_types.specs.declared.types.ValType.TheVariants as type
use Rattle.wasm_types.specs.declared.types.FuncType.{FuncType}
use Rattle.wasm_values.specs.declared.outcome.Val.{Val}
use Rattle.wasm_values.specs.declared.outcome.Val.TheVariants as val
use Rattle.wasm_values.specs.declared.outcome.TrapKind.TheVariants as trap
use Rattle.wasm_values.specs.declared.outcome.Outcome.{Outcome}
use Rattle.wasm_values.specs.declared.outcome.Outcome.TheVariants as outcome
use Rattle.wasm_types.specs.declared.host.HostFunction.{HostFunction}
use Rattle.wasm_types.specs.declared.host.HostFunction.TheVariants as host
use Rattle.wasm_types.specs.declared.instr.Width.TheVariants.{W32}
use Rattle.wasm_types.specs.declared.module.Import.{Import}
use Rattle.wasm_types.specs.declared.module.Module.{Module}
use Rattle.wasm_types.specs.Tree.{FunctionTree, module_tree}
use Rattle.wasm_spec.specs.Functions.{Callee, Imported, Own, callee_at, callee_type, host_type}
use Rattle.wasm_spec.proofs.FunctionNumbers.{callee-imported, callee-past}
use Rattle.wasm_spec.specs.Typing.{type_of}
use Rattle.wasm_spec.specs.Validity.{IsStart, IsValid}
use Rattle.wasm_spec.specs.Store.{Store}
use Rattle.wasm_spec.specs.Typing.{number}
use Rattle.wasm_spec.specs.Execution.{Terms, State, Signal, Next, Branch, Returned, Trapped, OutOfFuel, Stuck, and_then, given, call, exec, with_operands, host_call}
use Rattle.machine_steps.specs.Lent.{memory_set, answer_set}
use Rattle.wasm_spec.specs.Result.{finish, result_of, function_result}
use Rattle.wasm_machine.specs.Calls.{GivesOutside, IsCall, IsOwnCall, outside}
use Rattle.wasm_machine.specs.TypedConfiguration.{IsRunnable}
use Rattle.wasm_machine.proofs.StepLemmas.{calls_it}
use Rattle.wasm_machine.proofs.HostCallLemmas.{IsHostCallee, host_callee, slice_there}

-- ---- arguments

-- the i32 at a place
abbrev pub number_at : List Val → ℕ → Option ℕ
number_at args place = option_and_then (λ v. number W32 v) (slice_get args place)

pub record ThreeArguments (args : List Val) : Type 0 where
  pub a : ℕ
  pub b : ℕ
  pub n : ℕ
  pub are : args ≡ val.I32 a ∷ val.I32 b ∷ val.I32 n ∷ []

pub three_arguments : (args : List Val) → map type_of args ≡ type.I32 ∷ type.I32 ∷ type.I32 ∷ [] → ThreeArguments args
three_arguments [] e = absurd (cc)
three_arguments (x ∷ []) e = absurd (cc)
three_arguments (x ∷ y ∷ []) e = absurd (cc)
three_arguments (x ∷ y ∷ z ∷ w ∷ rest) e = absurd (cc)
three_arguments (val.I64 x ∷ y ∷ z ∷ []) e = absurd (cc)
three_arguments (val.I32 x ∷ val.I64 y ∷ z ∷ []) e = absurd (cc)
three_arguments (val.I32 x ∷ val.I32 y ∷ val.I64 z ∷ []) e = absurd (cc)
three_arguments (val.I32 x ∷ val.I32 y ∷ val.I32 z ∷ []) e = record { a = x; b = y; n = z; are = refl }

pub record TwoArguments (args : List Val) : Type 0 where
  pub a : ℕ
  pub n : ℕ
  pub are : args ≡ val.I32 a ∷ val.I32 n ∷ []

pub two_arguments : (args : List Val) → map type_of args ≡ type.I32 ∷ type.I32 ∷ [] → TwoArguments args
two_arguments [] e = absurd (cc)
two_arguments (x ∷ []) e = absurd (cc)
two_arguments (x ∷ y ∷ z ∷ rest) e = absurd (cc)
two_arguments (val.I64 x ∷ y ∷ []) e = absurd (cc)
two_arguments (val.I32 x ∷ val.I64 y ∷ []) e = absurd (cc)
two_arguments (val.I32 x ∷ val.I32 y ∷ []) e = record { a = x; n = y; are = refl }

pub number_is : (args list : List Val) (place n k : ℕ) → args ≡ list → number_at list place ≡ Some n → number_at args place ≡ Some k → k ≡ n
number_is args list place n k e is got = same (sym got ∙ ap (λ (l : List Val). number_at l place) e ∙ is) where
  same : Some k ≡ Some n → k ≡ n
  same f = cc

-- ---- what is given

pub read_gives : (fits : Bool) (n : ℕ) (bytes : List ℕ) (s : State) (o : Option ℕ) (after : Store) → o ≡ (if fits then Some n else None) → after ≡ (if fits then memory_set bytes s.store else s.store)
    → GivesOutside (if fits then Next (record s { operands = val.I32 n ∷ []; store = memory_set bytes s.store }) else Trapped trap.Memory s.store) o after
read_gives true n bytes s o after e is = subst (λ (p : Option ℕ). GivesOutside (Next (record s { operands = val.I32 n ∷ []; store = memory_set bytes s.store })) p after) (sym e) (refl, sym is)
read_gives false n bytes s o after e is = subst (λ (p : Option ℕ). GivesOutside (Trapped trap.Memory s.store) p after) (sym e) (refl, sym is)

pub write_gives : (fits full : Bool) (n : ℕ) (bytes : List ℕ) (s : State) (o : Option ℕ) (after : Store) → o ≡ (if fits then Some (if full then 2 ^ 32 - 1 else n) else None)
    → after ≡ (if fits then (if full then s.store else answer_set bytes s.store) else s.store)
    → GivesOutside (if fits then (if full then with_operands (val.I32 (2 ^ 32 - 1) ∷ []) s else Next (record s { operands = val.I32 n ∷ []; store = answer_set bytes s.store })) else Trapped trap.Memory s.store) o after
write_gives true true n bytes s o after e is = subst (λ (p : Option ℕ). GivesOutside (with_operands (val.I32 (2 ^ 32 - 1) ∷ []) s) p after) (sym e) (refl, sym is)
write_gives true false n bytes s o after e is = subst (λ (p : Option ℕ). GivesOutside (Next (record s { operands = val.I32 n ∷ []; store = answer_set bytes s.store })) p after) (sym e) (refl, sym is)
write_gives false full n bytes s o after e is = subst (λ (p : Option ℕ). GivesOutside (Trapped trap.Memory s.store) p after) (sym e) (refl, sym is)

-- ---- the result of the whole

abbrev pub host_outcome : Option ℕ → Outcome
host_outcome (Some n) = outcome.Done (Some (val.I32 n))
host_outcome None = outcome.Trap trap.Memory

gives_result : (e : Signal) (o : Option ℕ) (after : Store) (turns : ℕ) → GivesOutside e o after → result_of (and_then e turns finish) ≡ Some (record { outcome = host_outcome o; store = after; fuel = turns })
gives_result (Next s) (Some n) after turns (top, same) = λ i. Some (record { outcome = outcome.Done (top i); store = same i; fuel = turns })
gives_result (Trapped t before) None after turns (is, same) = λ i. Some (record { outcome = outcome.Trap (is i); store = same i; fuel = turns })
gives_result (Next s) None after turns h = absurd h
gives_result (Trapped t before) (Some n) after turns h = absurd h
gives_result (Branch l s) o after turns h = absurd h
gives_result (Returned s) o after turns h = absurd h
gives_result (OutOfFuel s) o after turns h = absurd h
gives_result Stuck o after turns h = absurd h

module _ (m : Module) (limits : Terms) (frame x : ℕ) (args : List Val) (run : IsRunnable m frame) (is : IsCall m x args) (lt : x < length m.imports) where
  abbrev pub the_import : Import
  the_import = (slice_there m.imports x lt).0

  import_at : callee_at (module_tree m) x ≡ Some (Imported the_import)
  import_at = callee-imported (module_tree m) x lt ∙ ap (option_map (λ i. Imported i)) (slice_there m.imports x lt).1

  type_at : callee_type (module_tree m) (Imported the_import) ≡ Some is.type
  type_at = sym (ap (option_and_then (callee_type (module_tree m))) import_at) ∙ is.typed

  pub outside_callee : IsHostCallee m x (Imported the_import) is.type
  outside_callee = host_callee m frame x (Imported the_import) is.type run import_at type_at lt

  pub outside_result : (before after : Store) (o : Option ℕ) (f : HostFunction) → f ≡ outside_callee.function → GivesOutside (host_call limits.request f (outside args before)) o after
      → (turns : ℕ) → function_result (module_tree m) limits x args before turns ≡ Some (record { outcome = host_outcome o; store = after; fuel = turns })
  outside_result before after o f same gives turns =
      ap result_of (calls_it m x (Imported the_import) is.type (call (module_tree m) limits 0 (exec (module_tree m) limits 1) finish) (outside args before) turns import_at type_at
      ∙ ap (λ (c : Callee). call (module_tree m) limits 0 (exec (module_tree m) limits 1) finish c is.type (outside args before) turns) outside_callee.is
      ∙ ap (λ (p : Option HostFunction). and_then (given p (λ h. host_call limits.request h (outside args before))) turns finish) (outside_callee.named ∙ ap (λ (h : HostFunction). Some h) (sym same)))
      ∙ gives_result (host_call limits.request f (outside args before)) o after turns gives

-- ---- a call of an own function

own_call_by : (m : Module) (y : ℕ) (args : List Val) (t : FuncType) (o : Option FunctionTree) → slice_get (module_tree m).functions y ≡ o → option_and_then (callee_type (module_tree m)) (option_map (λ f. Own f) o) ≡ Some t → map type_of args ≡ t.params → IsOwnCall m y args
own_call_by m y args t None there typed fit = absurd (cc)
own_call_by m y args t (Some f) there typed fit = record { function = f; type = t; there = there; typed = typed; args_fit = fit }

pub own_call : (m : Module) (x : ℕ) (args : List Val) → IsCall m x args → length m.imports ≤ x → IsOwnCall m (x - length m.imports) args
own_call m x args is le = own_call_by m (x - length m.imports) args is.type (slice_get (module_tree m).functions (x - length m.imports)) refl
    (sym (ap (option_and_then (callee_type (module_tree m))) (callee-past (module_tree m) x le)) ∙ is.typed) is.args_fit

-- ---- the start function

-- a valid module's is called with nothing
pub start_call : (m : Module) (start : ℕ) → IsValid (module_tree m) → m.start ≡ Some start → IsCall m start []
start_call m start valid is =
    let s : IsStart (module_tree m) start = subst (λ (o : Option ℕ). IfSome o (IsStart (module_tree m))) is valid.start in
    record { type = s.type; typed = s.there; args_fit = sym s.no_params }

-- each function of the host has a result
gives_one : (f : HostFunction) → (host_type f).results ≡ [] → ⊥
gives_one host.Len e = cc
gives_one host.Read e = cc
gives_one host.Write e = cc

-- so it is none of them
pub start_own : (m : Module) (frame start : ℕ) → IsRunnable m frame → m.start ≡ Some start → length m.imports ≤ start
start_own m frame start run is = ⊎_elim (λ (lt : start < length m.imports). absurd (imported lt)) (λ (le : length m.imports ≤ start). le) (cases_lt start (length m.imports)) where
  imported : start < length m.imports → ⊥
  imported lt =
      let s : IsStart (module_tree m) start = subst (λ (o : Option ℕ). IfSome o (IsStart (module_tree m))) is run.valid.start in
      let limits : Terms = record { pages = 0; depth = 0; request = [] } in
      let h = outside_callee m limits frame start [] run (record { type = s.type; typed = s.there; args_fit = sym s.no_params }) lt in
      gives_one h.function (sym h.results ∙ s.no_results)
