-- What an exported function of a valid module is called as, and what the call gives.
use Rattle.std.proofs.Common.{◌≡◌, ℕ, ◌+◌, List, Option, Some, map, refl, sym, ap, ◌∙◌, subst}
use Rattle.std.specs.Prelude.{[], ◌-◌, IsSome, length, option_and_then, if◌then◌else◌}
use Rattle.std.proofs.lemmas.Option.{get_or_from_slice_get, slice_get_within}
use Rattle.wasm_types.specs.declared.types.FuncType.{FuncType}
use Rattle.wasm_values.specs.declared.outcome.Outcome.{Outcome}
use Rattle.wasm_values.specs.declared.outcome.Outcome.TheVariants as outcome
use Rattle.wasm_values.specs.declared.outcome.Val.{Val}
use Rattle.wasm_types.specs.declared.module.Export.{Export}
use Rattle.wasm_types.specs.declared.module.ExportDesc.TheVariants as desc
use Rattle.wasm_types.specs.declared.module.Module.{Module}
use Rattle.wasm_types.proofs.Found.{some_found}
use Rattle.wasm_types.specs.Tree.{ModuleTree, module_tree}
use Rattle.wasm_types.specs.declared.module.Import.{Import}
use Rattle.wasm_spec.specs.Functions.{Callee, Imported, Own, callee_at, callee_type, function_type}
use Rattle.wasm_spec.proofs.FunctionNumbers.{imported_there, own_there}
use Rattle.wasm_spec.specs.Typing.{IsTypedFunction, type_of}
use Rattle.wasm_spec.specs.Validity.{Exports, IsDefined, IsValid}
use Rattle.wasm_spec.specs.Store.{Store}
use Rattle.wasm_spec.specs.Result.{CallResult, is_done}
use Rattle.wasm_machine.specs.Calls.{IsCall}
use Rattle.pool_limits.specs.declared.numbers.Numbers.{Numbers}
use Rattle.paused_call.specs.declared.call.PausedCall.{PausedCall}
use Rattle.paused_call.specs.declared.call.SliceEnd.{SliceEnd}
use Rattle.paused_call.specs.declared.call.SliceEnd.TheVariants as turned
use Rattle.paused_call.specs.Standing.{HasTurned}
use Rattle.instance_calls.specs.CallWords.{EndsAs, EndsWith, HasSliced, LacksTypes, MayCall, comes_of, kept_after, run_limits}

-- a function's type
pub record HasFunction (m : ModuleTree) (x : ℕ) : Type 0 where
  pub type : FuncType
  pub typed : function_type m x ≡ Some type

callee_typed : (m : ModuleTree) (x : ℕ) (c : Callee) → IsValid m → callee_at m x ≡ Some c → IsSome (callee_type m c)
callee_typed m x (Imported i) valid there =
    let at = imported_there m x i there in
    subst (λ (j : Import). IsSome (callee_type m (Imported j))) (get_or_from_slice_get m.imports x i i at) (valid.imports x i (slice_get_within m.imports x i at))
callee_typed m x (Own f) valid there =
    let y : ℕ = x - length m.imports in
    let at = own_there m x f there in
    let typed : IsTypedFunction m f = subst (IsTypedFunction m) (get_or_from_slice_get m.functions y f f at) (valid.functions y f (slice_get_within m.functions y f at)) in
    typed.0

pub exported_function : (m : ModuleTree) (export : List ℕ) (x : ℕ) → IsValid m → Exports m.exports export x → HasFunction m x
exported_function m export x valid exports =
    let e : Export = record { name = export; desc = desc.Func x } in
    let defined : IsDefined m e.desc = subst (λ (e : Export). IsDefined m e.desc) (get_or_from_slice_get m.exports exports.place e e exports.there)
    (valid.exports exports.place e (slice_get_within m.exports exports.place e exports.there)) in
    let (c, there) = some_found (callee_at m x) defined in
    let (t, type) = some_found (callee_type m c) (callee_typed m x c valid there) in
    record { type = t; typed = ap (option_and_then (callee_type m)) there ∙ type }

pub function_type_is : (m : ModuleTree) (x : ℕ) (h : HasFunction m x) → function_type m x ≡ Some h.type
function_type_is m x h = h.typed

-- what is called from outside
pub is_call : (v : Module) (x : ℕ) (args : List Val) (h : HasFunction (module_tree v) x) → map type_of args ≡ h.type.params → IsCall v x args
is_call v x args h fit = record { type = h.type; typed = h.typed; args_fit = fit }

pub lacks_types : (m : ModuleTree) (export : List ℕ) (x : ℕ) (args : List Val) (h : HasFunction m x) → Exports m.exports export x → (map type_of args ≡ h.type.params → ⊥) → LacksTypes m export args
lacks_types m export x args h exported differ = record { function = x; type = h.type; exported = record { exported = exported; typed = function_type_is m x h }; differ = differ }

pub may_call : (m : ModuleTree) (export : List ℕ) (x : ℕ) (args : List Val) (h : HasFunction m x) → Exports m.exports export x → map type_of args ≡ h.type.params → MayCall m export x args
may_call m export x args h exported fit = record { type = h.type; exported = record { exported = exported; typed = function_type_is m x h }; fit = fit }

-- what may be called is a call of the machine's
pub called : (v : Module) (export : List ℕ) (x : ℕ) (args : List Val) → IsValid (module_tree v) → MayCall (module_tree v) export x args → IsCall v x args
called v export x args valid may =
    let h : HasFunction (module_tree v) x = exported_function (module_tree v) export x valid may.exported.exported in
    let both : Some may.type ≡ Some h.type = sym may.exported.typed ∙ function_type_is (module_tree v) x h in
    let same : may.type ≡ h.type = cc in
    is_call v x args h (may.fit ∙ ap (λ (t : FuncType). t.params) same)

kept_is : (o : Outcome) (s : Store) (t : SliceEnd) → t ≡ turned.Done o → kept_after t s.answer ≡ (if is_done o then s.answer else [])
kept_is (outcome.Done v) s t is = ap (λ (u : SliceEnd). kept_after u s.answer) is
kept_is (outcome.Trap k) s t is = ap (λ (u : SliceEnd). kept_after u s.answer) is
kept_is outcome.Fuel s t is = ap (λ (u : SliceEnd). kept_after u s.answer) is

-- a slice answers what is kept of the store that it leaves
pub sliced : (result : ℕ → Option CallResult) (call : PausedCall) (slice : ℕ) (s : Store) (t : SliceEnd) (bytes : List ℕ) → bytes ≡ kept_after t s.answer
    → HasTurned result call slice s t → HasSliced result call.fuel (call.turns + slice) t bytes
sliced result call slice s turned.Again bytes kept h = h
sliced result call slice s (turned.Done o) bytes kept h = (
  h.0,
  record {
    end = h.1.end;
    gives = h.1.gives;
    ends = h.1.ends;
    answers = kept ∙ (λ i. kept_after (turned.Done (h.1.ends i)) ((sym h.1.leaves i).answer)) ∙ kept_is h.1.end.outcome h.1.end.store (turned.Done h.1.end.outcome) refl;
  },
)

-- what goes on keeps all
pub kept_on : (t : SliceEnd) (bytes : List ℕ) → t ≡ turned.Again → kept_after t bytes ≡ bytes
kept_on t bytes again = ap (λ (u : SliceEnd). kept_after u bytes) again

-- a call that may be made, and ends so, ends as a call of the export does
pub ends_with : (config : Numbers) (m : ModuleTree) (export : List ℕ) (x : ℕ) (args : List Val) (request : List ℕ) (fuel : ℕ) (outcome : Outcome) (answer : List ℕ)
    → MayCall m export x args → EndsAs (comes_of config m request x args) fuel outcome answer → EndsWith m (run_limits config) export args request fuel outcome answer
ends_with config m export x args request fuel outcome answer may over = record {
  function = x;
  type = may.type;
  exported = may.exported;
  fit = may.fit;
  result = over.end;
  ends = over.gives;
  shows = over.ends;
  answers = over.answers;
}
