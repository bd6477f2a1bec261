-- The numbers and types of functions behind imports, and which imports are run.
use Rattle.std.proofs.Common.{sym, subst, true≢false, arith}
use Rattle.std.specs.Prelude.{◌≡◌, ◌≢◌, ℕ, false, ◌≤◌, List, [], ◌∷◌, ◌++◌, Option, Some, None, IfSome, IsSome, IsTrue, codes, length, map, slice_get, refl}
use Rattle.std.proofs.lemmas.List.Elements.{All-nil, All-from_recursion}
use Rattle.wasm_types.specs.declared.types.ValType.TheVariants.{I32}
use Rattle.wasm_types.specs.declared.types.FuncType.{FuncType}
use Rattle.wasm_types.specs.declared.host.HostFunction.{HostFunction}
use Rattle.wasm_types.specs.declared.host.HostFunction.TheVariants as host
use Rattle.wasm_types.specs.declared.instr.Instr.TheVariants as instr
use Rattle.wasm_types.specs.declared.module.Import.{Import}
use Rattle.wasm_types.specs.declared.module.ImportDesc.{ImportDesc}
use Rattle.wasm_types.specs.declared.module.ImportDesc.TheVariants as item
use Rattle.wasm_types.specs.declared.module.ExportDesc.TheVariants as export
use Rattle.wasm_values.specs.declared.profile.Profile.TheVariants.{Two, Three}
use Rattle.wasm_types.specs.Tree.{End, Call, CallIndirect, FunctionTree, ElementTree}
use Rattle.wasm_types.specs.SameTypes.{same_type}
use Rattle.wasm_spec.specs.Functions.{host_function, host_type, Imported, Own, callee_at, callee_type, function_type}
use Rattle.wasm_spec.specs.Typing.{IsTypedFunction}
use Rattle.wasm_spec.specs.Validity.{IsHostImport, IsSupported, IsValid, IsDefined, IsElementSegment, IsMemoryType, IsStart, AreOrdered}
use Rattle.wasm_spec.specs.Bulk.{HasFewMarks}
use Rattle.wasm_examples.proofs.Modules.{straight, function_of, at_least, empty_type, constant_type, binary_type}
use Rattle.wasm_examples.proofs.ImportExamples.{echo, i32}

abbrev imports_from : List ℕ → List ℕ → ImportDesc → Import
imports_from module_name name what = record { module_name = module_name; item_name = name; desc = what }

abbrev host_import : List ℕ → ℕ → Import
host_import name t = imports_from (codes "host") name (item.Func t)

abbrev ternary_type : FuncType
ternary_type = record { params = I32 ∷ I32 ∷ I32 ∷ []; results = I32 ∷ [] }

-- ---- the functions of the host, by their names

abbrev named : List ℕ → Option HostFunction
named name = host_function (host_import name 0)

names : named (codes "len") ∷ named (codes "read") ∷ named (codes "write") ∷ [] ≡ Some host.Len ∷ Some host.Read ∷ Some host.Write ∷ []
names = refl

name_of_another_item : named (codes "reads") ∷ named (codes "rea") ∷ named (codes "Len") ∷ named [] ∷ [] ≡ None ∷ None ∷ None ∷ None ∷ []
name_of_another_item = refl

abbrev len_of : List ℕ → Option HostFunction
len_of module_name = host_function (imports_from module_name (codes "len") (item.Func 0))

name_of_another_module : len_of (codes "env") ∷ len_of (codes "hosts") ∷ len_of (codes "hos") ∷ len_of [] ∷ [] ≡ None ∷ None ∷ None ∷ None ∷ []
name_of_another_module = refl

-- a name is told by all of its bytes
longer_names : named (codes "lens") ∷ named (codes "length") ∷ named (codes "reader") ∷ named (codes "writer") ∷ named (codes "writ") ∷ [] ≡ None ∷ None ∷ None ∷ None ∷ None ∷ []
longer_names = refl

longer_modules : len_of (codes "ghost") ∷ len_of (codes "hosted") ∷ len_of (codes "Host") ∷ [] ≡ None ∷ None ∷ None ∷ []
longer_modules = refl

types_of_the_host : host_type host.Len ∷ host_type host.Read ∷ host_type host.Write ∷ [] ≡ constant_type ∷ ternary_type ∷ binary_type ∷ []
types_of_the_host = refl

-- ---- numbers: those of the three imports, then those of the two own functions

last_import : callee_at echo 2 ≡ Some (Imported (host_import (codes "write") 2))
last_import = refl

last_own_function : callee_at echo 4 ≡ Some (Own (function_of 0 (i32 0 (CallIndirect 0 End))))
last_own_function = refl

types_by_number : map (function_type echo) (0 ∷ 1 ∷ 2 ∷ 3 ∷ 4 ∷ 5 ∷ []) ≡ Some constant_type ∷ Some ternary_type ∷ Some binary_type ∷ Some constant_type ∷ Some constant_type ∷ None ∷ []
types_by_number = refl

own_function_of_a_last_type : function_type (record echo { functions = function_of 2 End ∷ [] }) 3 ≡ Some binary_type
own_function_of_a_last_type = refl

-- what is imported and is no function has no type, nor has one whose type is not there
abbrev type_of_one : ImportDesc → Option FuncType
type_of_one what = function_type (record echo { imports = imports_from (codes "host") (codes "len") what ∷ [] }) 0

no_type_of_others : type_of_one (item.Table (at_least 0)) ∷ type_of_one (item.Memory (at_least 0)) ∷ type_of_one (item.Global (record { value = I32; mutable = false })) ∷ type_of_one (item.Func 3) ∷ [] ≡ None ∷ None ∷ None ∷ None ∷ []
no_type_of_others = refl

-- ---- a valid module that imports

abbrev first_own : FunctionTree
first_own = function_of 0 (i32 0 (i32 0 (i32 0 (Call 0 (Call 1 (Call 2 End))))))

abbrev second_own : FunctionTree
second_own = function_of 0 (i32 0 (CallIndirect 0 End))

first_typed : IsTypedFunction echo first_own
first_typed = (
  refl,
  (
    I32 ∷ [],
    ([], refl, refl),
    (
      I32 ∷ I32 ∷ [],
      (I32 ∷ [], refl, refl),
      (
        I32 ∷ I32 ∷ I32 ∷ [],
        (I32 ∷ I32 ∷ [], refl, refl),
        (
          I32 ∷ I32 ∷ I32 ∷ I32 ∷ [],
          (I32 ∷ I32 ∷ I32 ∷ [], refl, refl),
          (I32 ∷ I32 ∷ [], (I32 ∷ [], refl, refl), (I32 ∷ [], ([], refl, refl), refl)),
        ),
      ),
    ),
  ),
)

second_typed : IsTypedFunction echo second_own
second_typed = (refl, (I32 ∷ [], ([], refl, refl), (I32 ∷ [], ([], refl, refl), refl)))

one_page : IsMemoryType (at_least 1)
one_page = record { least = omega arith; most = tt; ordered = tt }

abbrev elements_of : List ℕ → ElementTree
elements_of functions = record { table = 0; offset = i32 0 End; functions = functions }

an_import_is_an_element : IsElementSegment echo (elements_of (0 ∷ []))
an_import_is_an_element = record { table = refl; offset = refl; functions = All-from_recursion (λ x. IsSome (callee_at echo x)) (0 ∷ []) (refl, tt) }

echo_is_valid : IsValid echo
echo_is_valid = record {
  function_types = All-from_recursion (λ (t : FuncType). length t.results ≤ 1) echo.types (omega arith, (omega arith, (omega arith, tt)));
  imports = All-from_recursion (λ i. IsSome (callee_type echo (Imported i))) echo.imports (refl, (refl, (refl, tt)));
  functions = All-from_recursion (IsTypedFunction echo) echo.functions (first_typed, (second_typed, tt));
  one_table = omega arith;
  table_types = All-from_recursion AreOrdered echo.tables (tt, tt);
  one_memory = omega arith;
  memory_types = All-from_recursion IsMemoryType echo.memories (one_page, tt);
  globals = All-nil _;
  element_segments = All-from_recursion (IsElementSegment echo) echo.element_segments (an_import_is_an_element, tt);
  data_segments = All-nil _;
  start = tt;
  exports = All-nil _;
  names_differ = λ i j d lt le. absurd (omega arith);
}

import_of_no_type : IsValid (record echo { imports = host_import (codes "len") 3 ∷ [] }) → ⊥
import_of_no_type v = let e = v.imports 0 (host_import [] 0) (omega arith) in cc (e)

-- an own function's number counts the imports
last_own_is_an_element : IsElementSegment echo (elements_of (4 ∷ []))
last_own_is_an_element = record { table = refl; offset = refl; functions = All-from_recursion (λ x. IsSome (callee_at echo x)) (4 ∷ []) (refl, tt) }

no_element_past_them : IsElementSegment echo (elements_of (5 ∷ [])) → ⊥
no_element_past_them s = let e = s.functions 0 0 (omega arith) in cc (e)

an_import_is_exported : IsDefined (record echo { functions = [] }) (export.Func 2)
an_import_is_exported = refl

last_own_is_exported : IsDefined echo (export.Func 4)
last_own_is_exported = refl

no_export_past_them : IsDefined echo (export.Func 5) → ⊥
no_export_past_them e = cc (e)

start_behind_the_imports : IsStart (record echo { types = echo.types ++ empty_type ∷ []; functions = function_of 3 End ∷ [] }) 3
start_behind_the_imports = record { type = empty_type; there = refl; no_params = refl; no_results = refl }

no_start_by_an_import : IsStart echo 0 → ⊥
no_start_by_an_import s = let there = s.there in let none = s.no_results in cc (there, none)

-- ---- which imports are run

import_of_its_type : IsHostImport echo (host_import (codes "read") 1)
import_of_its_type = record { function = host.Read; named = refl; type = 1; imports = refl; same = refl }

import_whose_type_is_not_there : IsHostImport echo (host_import (codes "read") 9)
import_whose_type_is_not_there = record { function = host.Read; named = refl; type = 9; imports = refl; same = tt }

import_of_another_type : IsHostImport echo (host_import (codes "len") 1) → ⊥
import_of_another_type h =
    let named : Some host.Len ≡ Some h.function = h.named in
    let len : host.Len ≡ h.function = cc (named) in
    let imports : item.Func 1 ≡ item.Func h.type = h.imports in
    let one : 1 ≡ h.type = cc (imports) in
    let same : IfSome (slice_get echo.types 1) (λ t. IsTrue (same_type t (host_type host.Len))) =
    subst (λ (f : HostFunction). IfSome (slice_get echo.types 1) (λ t. IsTrue (same_type t (host_type f)))) (sym len)
    (subst (λ (n : ℕ). IfSome (slice_get echo.types n) (λ t. IsTrue (same_type t (host_type h.function)))) (sym one) h.same) in true≢false (sym same)

-- its parameters and its results are both told
import_of_another_result : IsHostImport (record echo { types = record { params = []; results = [] } ∷ [] }) (host_import (codes "len") 0) → ⊥
import_of_another_result h =
    let named : Some host.Len ≡ Some h.function = h.named in
    let len : host.Len ≡ h.function = cc (named) in
    let imports : item.Func 0 ≡ item.Func h.type = h.imports in
    let first : 0 ≡ h.type = cc (imports) in
    let types : List FuncType = record { params = []; results = [] } ∷ [] in
    let same : IfSome (slice_get types 0) (λ t. IsTrue (same_type t (host_type host.Len))) =
    subst (λ (f : HostFunction). IfSome (slice_get types 0) (λ t. IsTrue (same_type t (host_type f)))) (sym len)
    (subst (λ (n : ℕ). IfSome (slice_get types n) (λ t. IsTrue (same_type t (host_type h.function)))) (sym first) h.same) in true≢false (sym same)

import_of_another_name : IsHostImport echo (host_import (codes "reads") 1) → ⊥
import_of_another_name h = let e = h.named in cc (e)

import_of_a_memory : IsHostImport echo (imports_from (codes "host") (codes "len") (item.Memory (at_least 0))) → ⊥
import_of_a_memory h = let e = h.imports in cc (e)

len_is_run : IsHostImport echo (host_import (codes "len") 0)
len_is_run = record { function = host.Len; named = refl; type = 0; imports = refl; same = refl }

write_is_run : IsHostImport echo (host_import (codes "write") 2)
write_is_run = record { function = host.Write; named = refl; type = 2; imports = refl; same = refl }

echo_is_run_in_profile_3 : IsSupported Three echo
echo_is_run_in_profile_3 = record {
  imports = All-from_recursion (IsHostImport echo) echo.imports (len_is_run, (import_of_its_type, (write_is_run, tt)));
  no_float = refl;
}

echo_is_not_run_in_profile_2 : IsSupported Two echo → ⊥
echo_is_not_run_in_profile_2 s = let e = s.imports in cc (e)

not_run_behind_one_that_is : IsSupported Three (record echo { imports = host_import (codes "len") 0 ∷ host_import (codes "reads") 1 ∷ [] }) → ⊥
not_run_behind_one_that_is s = let e = (s.imports 1 (host_import [] 0) (omega arith)).named in cc (e)

-- ---- few marks

echo_may_mark_more : HasFewMarks echo → ⊥
echo_may_mark_more few = few.imports 1 (host_import [] 0) (omega arith) refl

len_and_write_mark_nothing : HasFewMarks (record echo { imports = host_import (codes "len") 0 ∷ host_import (codes "write") 2 ∷ [] })
len_and_write_mark_nothing = record {
  imports = All-from_recursion (λ i. host_function i ≢ Some host.Read) (host_import (codes "len") 0 ∷ host_import (codes "write") 2 ∷ []) ((λ e. cc), ((λ e. cc), tt));
  bulk = refl;
}

a_fill_may_mark_more : HasFewMarks (record echo { imports = []; functions = function_of 0 (straight (instr.MemoryFill ∷ []) End) ∷ [] }) → ⊥
a_fill_may_mark_more few = true≢false few.bulk

without_either : HasFewMarks (record echo { imports = []; functions = function_of 0 (straight (instr.MemoryGrow ∷ []) End) ∷ [] })
without_either = record { imports = All-nil (λ i. host_function i ≢ Some host.Read); bulk = refl }
