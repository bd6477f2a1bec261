-- A valid module with every part, and an invalid one for each condition.
use Rattle.std.proofs.Common.{◌≡◌, ◌≢◌, ℕ, zero, suc, ◌≤◌, List, [], ◌∷◌, Bool, true, false, Option, Some, None, length, refl, ap, ◌∙◌, arith}
use Rattle.std.specs.Prelude.{All, AllPairs, slice_get, IsSome, codes}
use Rattle.std.proofs.lemmas.List.Elements.{All-nil, All-cons}
use Rattle.wasm_types.specs.declared.types.ValType.TheVariants as type
use Rattle.wasm_types.specs.declared.types.FuncType.{FuncType}
use Rattle.wasm_types.specs.declared.types.Limits.{Limits}
use Rattle.wasm_values.specs.declared.outcome.Val.{Val}
use Rattle.wasm_values.specs.declared.outcome.Val.TheVariants as val
use Rattle.wasm_types.specs.declared.instr.Instr.TheVariants as instr
use Rattle.wasm_types.specs.declared.module.Export.{Export}
use Rattle.wasm_types.specs.declared.module.ExportDesc.{ExportDesc}
use Rattle.wasm_types.specs.declared.module.ExportDesc.TheVariants as desc
use Rattle.wasm_types.specs.declared.module.ImportDesc.TheVariants as import
use Rattle.wasm_types.specs.Tree.{Code, End, FunctionTree, GlobalTree, ElementTree, DataTree, ModuleTree}
use Rattle.wasm_values.specs.declared.profile.Profile.TheVariants.{One}
use Rattle.wasm_spec.specs.Functions.{callee_at}
use Rattle.wasm_spec.specs.Typing.{IsTypedFunction}
use Rattle.wasm_spec.specs.Validity.{IsValid, IsSupported, IsDefined, IsInitialised, IsElementSegment, IsDataSegment, IsMemoryType, AreOrdered, IsStart, Exports}
use Rattle.wasm_spec.proofs.AddModule.{all_one}
use Rattle.wasm_examples.proofs.Modules.{straight, i32_const, function_type, function_of, bare, empty_type, unary_type}

-- ---- a valid module with every part

abbrev range : ℕ → Option ℕ → Limits
range low high = record { min = low; max = high }

abbrev global_of : Bool → Val → GlobalTree
global_of mutable v = record { global_type = record { value = type.I32; mutable = mutable }; init = straight (instr.Const v ∷ []) End }

abbrev exports_as : List ℕ → ExportDesc → Export
exports_as name what = record { name = name; desc = what }

abbrev the_function : FunctionTree
the_function = function_of 0 End

abbrev elements_at : Code → List ℕ → ElementTree
elements_at offset functions = record { table = 0; offset = offset; functions = functions }

abbrev data_at : Code → DataTree
data_at offset = record { memory = 0; offset = offset; bytes = codes "ab" }

abbrev at_constant : Code
at_constant = straight (i32_const 0 ∷ []) End

-- an offset that an immutable global gives
abbrev at_global : ℕ → Code
at_global x = straight (instr.GlobalGet x ∷ []) End

abbrev last_exports : List Export
last_exports = exports_as (codes "m") (desc.Memory 0) ∷ exports_as (codes "g") (desc.Global 1) ∷ []

abbrev whole_exports : List Export
whole_exports = exports_as (codes "f") (desc.Func 0) ∷ exports_as (codes "t") (desc.Table 0) ∷ last_exports

abbrev whole : ModuleTree
whole = record {
  types = empty_type ∷ unary_type ∷ [];
  imports = [];
  functions = the_function ∷ [];
  tables = range 2 (Some 2) ∷ [];
  memories = range 65536 (Some 65536) ∷ [];
  globals = global_of false (val.I32 1) ∷ global_of true (val.I32 1) ∷ [];
  exports = whole_exports;
  start = Some 0;
  element_segments = elements_at (at_global 0) (0 ∷ []) ∷ [];
  data_segments = data_at (at_global 0) ∷ data_at at_constant ∷ [];
}

-- whether two names differ, by their first bytes
differ : (a b : ℕ) (xs ys : List ℕ) → ¬ (a ≡ b) → (a ∷ xs) ≢ (b ∷ ys)
differ a b xs ys n e = n (cc (e))

names_differ : AllPairs (λ (a b : Export). a.name ≢ b.name) whole_exports
names_differ zero zero d lt le = absurd (omega arith)
names_differ zero (suc zero) d lt le = differ 102 116 [] [] (omega arith)
names_differ zero (suc (suc zero)) d lt le = differ 102 109 [] [] (omega arith)
names_differ zero (suc (suc (suc zero))) d lt le = differ 102 103 [] [] (omega arith)
names_differ zero (suc (suc (suc (suc n)))) d lt le = absurd (omega arith)
names_differ (suc zero) zero d lt le = absurd (omega arith)
names_differ (suc zero) (suc zero) d lt le = absurd (omega arith)
names_differ (suc zero) (suc (suc zero)) d lt le = differ 116 109 [] [] (omega arith)
names_differ (suc zero) (suc (suc (suc zero))) d lt le = differ 116 103 [] [] (omega arith)
names_differ (suc zero) (suc (suc (suc (suc n)))) d lt le = absurd (omega arith)
names_differ (suc (suc zero)) zero d lt le = absurd (omega arith)
names_differ (suc (suc zero)) (suc zero) d lt le = absurd (omega arith)
names_differ (suc (suc zero)) (suc (suc zero)) d lt le = absurd (omega arith)
names_differ (suc (suc zero)) (suc (suc (suc zero))) d lt le = differ 109 103 [] [] (omega arith)
names_differ (suc (suc zero)) (suc (suc (suc (suc n)))) d lt le = absurd (omega arith)
names_differ (suc (suc (suc i))) j d lt le = absurd (omega arith)

two : {X : Type 0} (P : X → Type 0) (x y : X) → P x → P y → All P (x ∷ y ∷ [])
two P x y p q = All-cons P x (y ∷ []) p (all_one P y q)

memory_type : IsMemoryType (range 65536 (Some 65536))
memory_type = record { least = omega arith; most = omega arith; ordered = omega arith }

element_segment : IsElementSegment whole (elements_at (at_global 0) (0 ∷ []))
element_segment = record { table = refl; offset = refl; functions = all_one (λ x. IsSome (callee_at whole x)) 0 refl }

whole_is_valid : IsValid whole
whole_is_valid = record {
  function_types = two (λ (t : FuncType). length t.results ≤ 1) empty_type unary_type (omega arith) (omega arith);
  imports = All-nil _;
  functions = all_one (IsTypedFunction whole) the_function (refl, refl);
  one_table = omega arith;
  table_types = all_one AreOrdered (range 2 (Some 2)) (omega arith);
  one_memory = omega arith;
  memory_types = all_one IsMemoryType (range 65536 (Some 65536)) memory_type;
  globals = two IsInitialised (global_of false (val.I32 1)) (global_of true (val.I32 1)) refl refl;
  element_segments = all_one (IsElementSegment whole) (elements_at (at_global 0) (0 ∷ [])) element_segment;
  data_segments = two (IsDataSegment whole) (data_at (at_global 0)) (data_at at_constant) (record { memory = refl; offset = refl }) (record { memory = refl; offset = refl });
  start = record { type = empty_type; there = refl; no_params = refl; no_results = refl };
  exports = All-cons (λ e. IsDefined whole e.desc) (exports_as (codes "f") (desc.Func 0)) (exports_as (codes "t") (desc.Table 0) ∷ last_exports) refl
      (All-cons (λ e. IsDefined whole e.desc) (exports_as (codes "t") (desc.Table 0)) last_exports refl
      (two (λ e. IsDefined whole e.desc) (exports_as (codes "m") (desc.Memory 0)) (exports_as (codes "g") (desc.Global 1)) refl refl));
  names_differ = names_differ;
}

whole_is_supported : IsSupported One whole
whole_is_supported = record { imports = refl; no_float = refl }

an_import_is_unsupported : IsSupported One (record whole { imports = record { module_name = []; item_name = []; desc = import.Func 0 } ∷ [] }) → ⊥
an_import_is_unsupported s = let e = s.imports in cc (e)

a_float_is_unsupported : IsSupported One (record whole { types = empty_type ∷ function_type [] (type.F32 ∷ []) ∷ [] }) → ⊥
a_float_is_unsupported s = let e : true ≡ false = s.no_float in cc (e)

-- ---- what is valid besides

global_of_64_bits : IsInitialised (record { global_type = record { value = type.I64; mutable = false }; init = straight (instr.Const (val.I64 5) ∷ []) End })
global_of_64_bits = refl

range_from_0_to_0 : AreOrdered (range 0 (Some 0))
range_from_0_to_0 = omega arith

-- two exports whose names begin alike
abbrev alike_exports : List Export
alike_exports = exports_as (codes "ab") (desc.Func 0) ∷ exports_as (codes "ac") (desc.Func 0) ∷ []

abbrev alike : ModuleTree
alike = bare (empty_type ∷ []) (the_function ∷ []) alike_exports

abbrev second_of : List ℕ → ℕ
second_of (a ∷ b ∷ bytes) = b
second_of _ = 0

alike_differ : AllPairs (λ (a b : Export). a.name ≢ b.name) alike_exports
alike_differ zero zero d lt le = absurd (omega arith)
alike_differ zero (suc zero) d lt le = λ e. omega (arith, ap second_of e)
alike_differ zero (suc (suc n)) d lt le = absurd (omega arith)
alike_differ (suc i) j d lt le = absurd (omega arith)

names_that_begin_alike : IsValid alike
names_that_begin_alike = record {
  function_types = all_one (λ (t : FuncType). length t.results ≤ 1) empty_type (omega arith);
  imports = All-nil _;
  functions = all_one (IsTypedFunction alike) the_function (refl, refl);
  one_table = omega arith;
  table_types = All-nil _;
  one_memory = omega arith;
  memory_types = All-nil _;
  globals = All-nil _;
  element_segments = All-nil _;
  data_segments = All-nil _;
  start = tt;
  exports = two (λ e. IsDefined alike e.desc) (exports_as (codes "ab") (desc.Func 0)) (exports_as (codes "ac") (desc.Func 0)) refl refl;
  names_differ = alike_differ;
}

-- ---- an invalid module for each condition

two_results : IsValid (record whole { types = empty_type ∷ function_type [] (type.I32 ∷ type.I32 ∷ []) ∷ [] }) → ⊥
two_results v = let few = v.function_types 1 empty_type (omega arith) in omega (arith, few)

no_such_type : IsValid (record whole { functions = the_function ∷ function_of 2 End ∷ [] }) → ⊥
no_such_type v = let there = (v.functions 1 the_function (omega arith)).0 in cc (there)

untyped_body : IsValid (record whole { functions = the_function ∷ function_of 1 End ∷ [] }) → ⊥
untyped_body v = let body = (v.functions 1 the_function (omega arith)).1 in cc (body)

two_tables : IsValid (record whole { tables = range 2 None ∷ range 2 None ∷ [] }) → ⊥
two_tables v = let few = v.one_table in omega (arith, few)

table_above_its_maximum : IsValid (record whole { tables = range 3 (Some 2) ∷ [] }) → ⊥
table_above_its_maximum v = let ordered = v.table_types 0 (range 3 (Some 2)) (omega arith) in omega (arith, ordered)

two_memories : IsValid (record whole { memories = range 1 None ∷ range 1 None ∷ [] }) → ⊥
two_memories v = let few = v.one_memory in omega (arith, few)

memory_past_the_greatest : IsValid (record whole { memories = range 65537 None ∷ [] }) → ⊥
memory_past_the_greatest v = let least = (v.memory_types 0 (range 65537 None) (omega arith)).least in omega (arith, least)

maximum_past_the_greatest : IsValid (record whole { memories = range 1 (Some 65537) ∷ [] }) → ⊥
maximum_past_the_greatest v = let most = (v.memory_types 0 (range 1 (Some 65537)) (omega arith)).most in omega (arith, most)

memory_above_its_maximum : IsValid (record whole { memories = range 2 (Some 1) ∷ [] }) → ⊥
memory_above_its_maximum v = let ordered = (v.memory_types 0 (range 2 (Some 1)) (omega arith)).ordered in omega (arith, ordered)

abbrev with_global : GlobalTree → ModuleTree
with_global g = record whole { globals = global_of false (val.I32 1) ∷ global_of true (val.I32 1) ∷ g ∷ [] }

abbrev initialised_by : Code → GlobalTree
initialised_by init = record { global_type = record { value = type.I32; mutable = true }; init = init }

global_of_another_type : IsValid (with_global (global_of true (val.I64 1))) → ⊥
global_of_another_type v = let e = v.globals 2 (global_of true (val.I64 1)) (omega arith) in cc (e)

global_by_a_global : IsValid (with_global (initialised_by (at_global 0))) → ⊥
global_by_a_global v = let e = v.globals 2 (initialised_by (at_global 0)) (omega arith) in cc (e)

global_by_two_instructions : IsValid (with_global (initialised_by (straight (i32_const 1 ∷ instr.Nop ∷ []) End))) → ⊥
global_by_two_instructions v = let e = v.globals 2 (initialised_by (straight (i32_const 1 ∷ instr.Nop ∷ []) End)) (omega arith) in cc (e)

global_by_nothing : IsValid (with_global (initialised_by End)) → ⊥
global_by_nothing v = let e = v.globals 2 (initialised_by End) (omega arith) in cc (e)

abbrev with_elements : ElementTree → ModuleTree
with_elements s = record whole { element_segments = s ∷ [] }

elements_of_table_1 : IsValid (with_elements (record { table = 1; offset = at_constant; functions = [] })) → ⊥
elements_of_table_1 v = let e = (v.element_segments 0 (elements_at at_constant []) (omega arith)).table in cc (e)

elements_without_a_table : IsValid (record (with_elements (elements_at at_constant [])) { tables = []; exports = [] }) → ⊥
elements_without_a_table v = let e = (v.element_segments 0 (elements_at at_constant []) (omega arith)).table in cc (e)

elements_at_64_bits : IsValid (with_elements (elements_at (straight (instr.Const (val.I64 0) ∷ []) End) [])) → ⊥
elements_at_64_bits v = let e = (v.element_segments 0 (elements_at at_constant []) (omega arith)).offset in cc (e)

elements_at_a_variable : IsValid (with_elements (elements_at (at_global 1) [])) → ⊥
elements_at_a_variable v = let e = (v.element_segments 0 (elements_at at_constant []) (omega arith)).offset in cc (e)

elements_past_the_functions : IsValid (with_elements (elements_at at_constant (0 ∷ 1 ∷ []))) → ⊥
elements_past_the_functions v = let e = (v.element_segments 0 (elements_at at_constant []) (omega arith)).functions 1 0 (omega arith) in cc (e)

abbrev with_data : DataTree → ModuleTree
with_data s = record whole { data_segments = s ∷ [] }

data_of_memory_1 : IsValid (with_data (record { memory = 1; offset = at_constant; bytes = [] })) → ⊥
data_of_memory_1 v = let e = (v.data_segments 0 (data_at at_constant) (omega arith)).memory in cc (e)

data_without_a_memory : IsValid (record (with_data (data_at at_constant)) { memories = []; exports = [] }) → ⊥
data_without_a_memory v = let e = (v.data_segments 0 (data_at at_constant) (omega arith)).memory in cc (e)

data_at_a_variable : IsValid (with_data (data_at (at_global 1))) → ⊥
data_at_a_variable v = let e = (v.data_segments 0 (data_at at_constant) (omega arith)).offset in cc (e)

data_past_the_globals : IsValid (with_data (data_at (at_global 2))) → ⊥
data_past_the_globals v = let e = (v.data_segments 0 (data_at at_constant) (omega arith)).offset in cc (e)

data_at_two_instructions : IsValid (with_data (data_at (straight (i32_const 0 ∷ instr.Nop ∷ []) End))) → ⊥
data_at_two_instructions v = let e = (v.data_segments 0 (data_at at_constant) (omega arith)).offset in cc (e)

abbrev starting_with : FuncType → Code → ModuleTree
starting_with t body = record whole { types = t ∷ []; functions = function_of 0 body ∷ [] }

start_with_a_parameter : IsValid (starting_with (function_type (type.I32 ∷ []) []) End) → ⊥
start_with_a_parameter v = let s = v.start in let there = s.there in let none = s.no_params in cc (there, none)

start_with_a_result : IsValid (starting_with (function_type [] (type.I32 ∷ [])) (straight (i32_const 0 ∷ []) End)) → ⊥
start_with_a_result v = let s = v.start in let there = s.there in let none = s.no_results in cc (there, none)

no_such_start : IsValid (record whole { start = Some 1 }) → ⊥
no_such_start v = let there = v.start.there in cc (there)

-- a function's number is not that of its type
start_of_another_type_number : IsStart (record whole { types = unary_type ∷ empty_type ∷ []; functions = function_of 1 End ∷ [] }) 0
start_of_another_type_number = record { type = empty_type; there = refl; no_params = refl; no_results = refl }

abbrev exporting : ExportDesc → ModuleTree
exporting what = record whole { exports = exports_as (codes "x") what ∷ [] }

no_such_exported_function : IsValid (exporting (desc.Func 1)) → ⊥
no_such_exported_function v = let e = v.exports 0 (exports_as [] (desc.Func 1)) (omega arith) in cc (e)

no_such_exported_table : IsValid (exporting (desc.Table 1)) → ⊥
no_such_exported_table v = let e = v.exports 0 (exports_as [] (desc.Func 1)) (omega arith) in cc (e)

no_such_exported_memory : IsValid (exporting (desc.Memory 1)) → ⊥
no_such_exported_memory v = let e = v.exports 0 (exports_as [] (desc.Func 1)) (omega arith) in cc (e)

no_such_exported_global : IsValid (exporting (desc.Global 2)) → ⊥
no_such_exported_global v = let e = v.exports 0 (exports_as [] (desc.Func 1)) (omega arith) in cc (e)

-- nothing of another kind stands for what is missing
no_function_but_others : IsValid (record (exporting (desc.Func 0)) { functions = []; start = None; element_segments = [] }) → ⊥
no_function_but_others v = let e = v.exports 0 (exports_as [] (desc.Func 0)) (omega arith) in cc (e)

no_table_but_others : IsValid (record (exporting (desc.Table 0)) { tables = []; element_segments = [] }) → ⊥
no_table_but_others v = let e = v.exports 0 (exports_as [] (desc.Func 0)) (omega arith) in cc (e)

no_memory_but_others : IsValid (record (exporting (desc.Memory 0)) { memories = []; data_segments = [] }) → ⊥
no_memory_but_others v = let e = v.exports 0 (exports_as [] (desc.Func 0)) (omega arith) in cc (e)

no_global_but_others : IsValid (record (exporting (desc.Global 0)) { globals = []; element_segments = []; data_segments = [] }) → ⊥
no_global_but_others v = let e = v.exports 0 (exports_as [] (desc.Func 0)) (omega arith) in cc (e)

-- also where they are of two kinds
two_exports_of_one_name : IsValid (record whole { exports = exports_as (codes "a") (desc.Func 0) ∷ exports_as (codes "b") (desc.Table 0) ∷ exports_as (codes "a") (desc.Memory 0) ∷ [] }) → ⊥
two_exports_of_one_name v = v.names_differ 0 2 (exports_as [] (desc.Func 0)) (omega arith) (omega arith) refl

-- ---- exports by name: the function, and not the table of that name

function_of_its_name : Exports (exports_as (codes "t") (desc.Table 1) ∷ exports_as (codes "f") (desc.Func 7) ∷ []) (codes "f") 7
function_of_its_name = record { place = 1; there = refl }

table_at : (x place : ℕ) → slice_get (exports_as (codes "t") (desc.Table 1) ∷ []) place ≡ Some (exports_as (codes "t") (desc.Func x)) → ⊥
table_at x zero there =
    let same : exports_as (codes "t") (desc.Table 1) ≡ exports_as (codes "t") (desc.Func x) = cc (there) in
    let is : desc.Table 1 ≡ desc.Func x = ap (λ (y : Export). y.desc) same in cc (is)
table_at x (suc place) there = cc (there)

table_is_no_function : (x : ℕ) → Exports (exports_as (codes "t") (desc.Table 1) ∷ []) (codes "t") x → ⊥
table_is_no_function x e = table_at x e.place e.there

named_at : (place : ℕ) (e : Export) → slice_get (exports_as (codes "f") (desc.Func 7) ∷ []) place ≡ Some e → e.name ≡ codes "g" → ⊥
named_at zero e there named =
    let same : exports_as (codes "f") (desc.Func 7) ≡ e = cc (there) in
    differ 102 103 [] [] (omega arith) (ap (λ (y : Export). y.name) same ∙ named)
named_at (suc place) e there named = cc (there)

function_of_another_name : (x : ℕ) → Exports (exports_as (codes "f") (desc.Func 7) ∷ []) (codes "g") x → ⊥
function_of_another_name x e = named_at e.place (exports_as (codes "g") (desc.Func x)) e.there refl
