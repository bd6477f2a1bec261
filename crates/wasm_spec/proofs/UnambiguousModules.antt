-- Bytes spell at most one module.
use Rattle.std.proofs.Common.{◌≡◌, ℕ, List, [], ◌∷◌, length, map, flat_map, refl, sym, ap, ◌∙◌, subst, arith}
use Rattle.std.specs.Prelude.{Option, Some, None}
use Rattle.wasm_values.specs.declared.profile.Profile.{Profile}
use Rattle.wasm_types.specs.declared.types.ValType.{ValType}
use Rattle.wasm_types.specs.declared.types.Limits.{Limits}
use Rattle.wasm_types.specs.declared.types.GlobalType.{GlobalType}
use Rattle.wasm_types.specs.declared.module.LocalRun.{LocalRun}
use Rattle.wasm_types.specs.declared.module.Import.{Import}
use Rattle.wasm_types.specs.declared.module.ImportDesc.{ImportDesc}
use Rattle.wasm_types.specs.declared.module.ImportDesc.TheVariants as import
use Rattle.wasm_types.specs.declared.module.Export.{Export}
use Rattle.wasm_types.specs.declared.module.ExportDesc.{ExportDesc}
use Rattle.wasm_types.specs.declared.module.ExportDesc.TheVariants as export
use Rattle.wasm_types.specs.Tree.{Code, FunctionTree, GlobalTree, ElementTree, DataTree, ModuleTree, locals_of}
use Rattle.wasm_spec.specs.Numbers.{TakesUnsigned, TakesEach, TakesVec, TakesBytes, TakesName, IsUnambiguous}
use Rattle.wasm_spec.specs.TypeGrammar.{TakesValType, TakesFuncType, TakesLimits, TakesTableType, TakesGlobalType}
use Rattle.wasm_spec.specs.InstrGrammar.{TakesExpr}
use Rattle.wasm_spec.specs.Grammar.{TakesImportDesc, TakesImport, TakesGlobal, TakesExportDesc, TakesExport, TakesElement, TakesLocalRun, Body, TakesBody, TakesSizedBody, body_of, TakesData, Section, TakesSection, section, SpellsVec, SpellsStart, SpellsFields, Spells}
use Rattle.wasm_spec.proofs.UnambiguousNumbers.{same_first, same_others, unsigned-unique, vec-unique, bytes-unique, name-unique}
use Rattle.wasm_spec.proofs.UnambiguousTypes.{val_type-unique, func_type-unique, limits-unique, table_type-unique, global_type-unique}
use Rattle.wasm_spec.proofs.UnambiguousInstrs.{expr-unique}

pub import_desc-unique : IsUnambiguous TakesImportDesc
import_desc-unique (import.Func x) (import.Func y) bytes r s a b =
    let u = unsigned-unique 32 x y a.0 r s a.2 (subst (λ (l : List ℕ). TakesUnsigned 32 y l s) (sym (same_others a.1 b.1)) b.2) in
    (ap (λ (z : ℕ). import.Func z) u.0, u.1)
import_desc-unique (import.Table x) (import.Table y) bytes r s a b =
    let u = table_type-unique x y a.0 r s a.2 (subst (λ (l : List ℕ). TakesTableType y l s) (sym (same_others a.1 b.1)) b.2) in
    (ap (λ (z : Limits). import.Table z) u.0, u.1)
import_desc-unique (import.Memory x) (import.Memory y) bytes r s a b =
    let u = limits-unique x y a.0 r s a.2 (subst (λ (l : List ℕ). TakesLimits y l s) (sym (same_others a.1 b.1)) b.2) in
    (ap (λ (z : Limits). import.Memory z) u.0, u.1)
import_desc-unique (import.Global x) (import.Global y) bytes r s a b =
    let u = global_type-unique x y a.0 r s a.2 (subst (λ (l : List ℕ). TakesGlobalType y l s) (sym (same_others a.1 b.1)) b.2) in
    (ap (λ (z : GlobalType). import.Global z) u.0, u.1)
import_desc-unique (import.Func x) _ bytes r s a b = absurd (omega (arith, same_first a.1 b.1))
import_desc-unique (import.Table x) _ bytes r s a b = absurd (omega (arith, same_first a.1 b.1))
import_desc-unique (import.Memory x) _ bytes r s a b = absurd (omega (arith, same_first a.1 b.1))
import_desc-unique (import.Global x) _ bytes r s a b = absurd (omega (arith, same_first a.1 b.1))

pub import-unique : IsUnambiguous TakesImport
import-unique i j bytes r s a b =
    let u = name-unique i.module_name j.module_name bytes a.after_module b.after_module a.module_name b.module_name in
    let v = name-unique i.item_name j.item_name a.after_module a.after_item b.after_item a.item_name
    (subst (λ (l : List ℕ). TakesName j.item_name l b.after_item) (sym u.1) b.item_name) in
    let w = import_desc-unique i.desc j.desc a.after_item r s a.desc (subst (λ (l : List ℕ). TakesImportDesc j.desc l s) (sym v.1) b.desc) in
    let make : List ℕ → List ℕ → ImportDesc → Import = λ m n d. record { module_name = m; item_name = n; desc = d } in
    (ap (λ (z : List ℕ). make z i.item_name i.desc) u.0 ∙ ap (λ (z : List ℕ). make j.module_name z i.desc) v.0 ∙ ap (λ (z : ImportDesc). make j.module_name j.item_name z) w.0, w.1)

pub global-unique : (profile : Profile) → IsUnambiguous (TakesGlobal profile)
global-unique profile g h bytes r s a b =
    let u = global_type-unique g.global_type h.global_type bytes a.mid b.mid a.global_type b.global_type in
    let v = expr-unique profile g.init h.init a.mid r s a.init (subst (λ (l : List ℕ). TakesExpr profile h.init l s) (sym u.1) b.init) in
    let make : GlobalType → Code → GlobalTree = λ t c. record { global_type = t; init = c } in
    (ap (λ (z : GlobalType). make z g.init) u.0 ∙ ap (λ (z : Code). make h.global_type z) v.0, v.1)

pub export_desc-unique : IsUnambiguous TakesExportDesc
export_desc-unique (export.Func x) (export.Func y) bytes r s a b =
    let u = unsigned-unique 32 x y a.0 r s a.2 (subst (λ (l : List ℕ). TakesUnsigned 32 y l s) (sym (same_others a.1 b.1)) b.2) in
    (ap (λ (z : ℕ). export.Func z) u.0, u.1)
export_desc-unique (export.Table x) (export.Table y) bytes r s a b =
    let u = unsigned-unique 32 x y a.0 r s a.2 (subst (λ (l : List ℕ). TakesUnsigned 32 y l s) (sym (same_others a.1 b.1)) b.2) in
    (ap (λ (z : ℕ). export.Table z) u.0, u.1)
export_desc-unique (export.Memory x) (export.Memory y) bytes r s a b =
    let u = unsigned-unique 32 x y a.0 r s a.2 (subst (λ (l : List ℕ). TakesUnsigned 32 y l s) (sym (same_others a.1 b.1)) b.2) in
    (ap (λ (z : ℕ). export.Memory z) u.0, u.1)
export_desc-unique (export.Global x) (export.Global y) bytes r s a b =
    let u = unsigned-unique 32 x y a.0 r s a.2 (subst (λ (l : List ℕ). TakesUnsigned 32 y l s) (sym (same_others a.1 b.1)) b.2) in
    (ap (λ (z : ℕ). export.Global z) u.0, u.1)
export_desc-unique (export.Func x) _ bytes r s a b = absurd (omega (arith, same_first a.1 b.1))
export_desc-unique (export.Table x) _ bytes r s a b = absurd (omega (arith, same_first a.1 b.1))
export_desc-unique (export.Memory x) _ bytes r s a b = absurd (omega (arith, same_first a.1 b.1))
export_desc-unique (export.Global x) _ bytes r s a b = absurd (omega (arith, same_first a.1 b.1))

pub export-unique : IsUnambiguous TakesExport
export-unique e f bytes r s a b =
    let u = name-unique e.name f.name bytes a.mid b.mid a.name b.name in
    let v = export_desc-unique e.desc f.desc a.mid r s a.desc (subst (λ (l : List ℕ). TakesExportDesc f.desc l s) (sym u.1) b.desc) in
    let make : List ℕ → ExportDesc → Export = λ n d. record { name = n; desc = d } in
    (ap (λ (z : List ℕ). make z e.desc) u.0 ∙ ap (λ (z : ExportDesc). make f.name z) v.0, v.1)

pub element-unique : (profile : Profile) → IsUnambiguous (TakesElement profile)
element-unique profile e f bytes r s a b =
    let u = unsigned-unique 32 e.table f.table bytes a.after_table b.after_table a.table b.table in
    let v = expr-unique profile e.offset f.offset a.after_table a.after_offset b.after_offset a.offset
    (subst (λ (l : List ℕ). TakesExpr profile f.offset l b.after_offset) (sym u.1) b.offset) in
    let w = vec-unique (TakesUnsigned 32) (unsigned-unique 32) e.functions f.functions a.after_offset r s a.functions
    (subst (λ (l : List ℕ). TakesVec (TakesUnsigned 32) f.functions l s) (sym v.1) b.functions) in
    let make : ℕ → Code → List ℕ → ElementTree = λ t o fs. record { table = t; offset = o; functions = fs } in
    (ap (λ (z : ℕ). make z e.offset e.functions) u.0 ∙ ap (λ (z : Code). make f.table z e.functions) v.0 ∙ ap (λ (z : List ℕ). make f.table f.offset z) w.0, w.1)

pub local_run-unique : IsUnambiguous TakesLocalRun
local_run-unique p q bytes r s a b =
    let u = unsigned-unique 32 p.count q.count bytes a.mid b.mid a.count b.count in
    let v = val_type-unique p.value q.value a.mid r s a.value (subst (λ (l : List ℕ). TakesValType q.value l s) (sym u.1) b.value) in
    let make : ℕ → ValType → LocalRun = λ n t. record { count = n; value = t } in
    (ap (λ (z : ℕ). make z p.value) u.0 ∙ ap (λ (z : ValType). make q.count z) v.0, v.1)

pub body-unique : (profile : Profile) → IsUnambiguous (TakesBody profile)
body-unique profile p q bytes r s a b =
    let u = vec-unique TakesLocalRun local_run-unique a.runs b.runs bytes a.mid b.mid a.spelled b.spelled in
    let v = expr-unique profile p.code q.code a.mid r s a.code (subst (λ (l : List ℕ). TakesExpr profile q.code l s) (sym u.1) b.code) in
    let w : p.locals ≡ q.locals = a.locals ∙ ap (λ (runs : List LocalRun). flat_map locals_of runs) u.0 ∙ sym b.locals in
    let make : List ValType → Code → Body = λ l c. record { locals = l; code = c } in
    (ap (λ (z : List ValType). make z p.code) w ∙ ap (λ (z : Code). make q.locals z) v.0, v.1)

pub sized_body-unique : (profile : Profile) → IsUnambiguous (TakesSizedBody profile)
sized_body-unique profile p q bytes r s a b =
    let u = bytes-unique a.contents b.contents bytes r s a.sized b.sized in
    let v = body-unique profile p q a.contents [] [] a.body (subst (λ (l : List ℕ). TakesBody profile q l []) (sym u.0) b.body) in
    (v.0, u.1)

pub data-unique : (profile : Profile) → IsUnambiguous (TakesData profile)
data-unique profile d e bytes r s a b =
    let u = unsigned-unique 32 d.memory e.memory bytes a.after_memory b.after_memory a.memory b.memory in
    let v = expr-unique profile d.offset e.offset a.after_memory a.after_offset b.after_offset a.offset
    (subst (λ (l : List ℕ). TakesExpr profile e.offset l b.after_offset) (sym u.1) b.offset) in
    let w = bytes-unique d.bytes e.bytes a.after_offset r s a.contents (subst (λ (l : List ℕ). TakesBytes e.bytes l s) (sym v.1) b.contents) in
    let make : ℕ → Code → List ℕ → DataTree = λ m o c. record { memory = m; offset = o; bytes = c } in
    (ap (λ (z : ℕ). make z d.offset d.bytes) u.0 ∙ ap (λ (z : Code). make e.memory z d.bytes) v.0 ∙ ap (λ (z : List ℕ). make e.memory e.offset z) w.0, w.1)

pub section-unique : IsUnambiguous TakesSection
section-unique p q bytes r s a b =
    let u = bytes-unique p.contents q.contents a.after r s a.sized (subst (λ (l : List ℕ). TakesBytes q.contents l s) (sym (same_others a.id b.id)) b.sized) in
    let make : ℕ → List ℕ → Section = λ i c. record { id = i; contents = c } in
    (ap (λ (z : ℕ). make z p.contents) (same_first a.id b.id) ∙ ap (λ (z : List ℕ). make q.id z) u.0, u.1)

-- sections that follow each other up to the end
pub sections-unique : (ss ts : List Section) (bytes : List ℕ) → TakesEach TakesSection ss bytes [] → TakesEach TakesSection ts bytes [] → ss ≡ ts
sections-unique [] [] bytes a b = refl
sections-unique [] (t ∷ ts) bytes a b = absurd (omega (arith, ap length (a ∙ b.1.id)))
sections-unique (s ∷ ss) [] bytes a b = absurd (omega (arith, ap length (b ∙ a.1.id)))
sections-unique (s ∷ ss) (t ∷ ts) bytes a b =
    let u = section-unique s t bytes a.0 b.0 a.1 b.1 in
    let v = sections-unique ss ts a.0 a.2 (subst (λ (l : List ℕ). TakesEach TakesSection ts l []) (sym u.1) b.2) in
    ap (λ (z : Section). z ∷ ss) u.0 ∙ ap (λ (l : List Section). t ∷ l) v

pub spelled_vec-unique : {A : Type 0} (Takes : A → List ℕ → List ℕ → Type 0) → IsUnambiguous Takes
    → (xs ys : List A) (o : Option Section) → SpellsVec Takes xs o → SpellsVec Takes ys o → xs ≡ ys
spelled_vec-unique Takes u xs ys None a b = a ∙ sym b
spelled_vec-unique Takes u xs ys (Some s) a b = let v = vec-unique Takes u xs ys s.contents [] [] a b in v.0

pub start-unique : (x y : Option ℕ) (o : Option Section) → SpellsStart x o → SpellsStart y o → x ≡ y
start-unique x y None a b = a ∙ sym b
start-unique x y (Some s) a b =
    let u = unsigned-unique 32 a.0 b.0 s.contents [] [] a.2 b.2 in
    a.1 ∙ ap (λ (z : ℕ). Some z) u.0 ∙ sym b.1

abbrev head_index : ℕ → List ℕ → ℕ
head_index d [] = d
head_index d (x ∷ xs) = x

abbrev head_body : Body → List Body → Body
head_body d [] = d
head_body d (x ∷ xs) = x

abbrev tail_of : {A : Type 0} → List A → List A
tail_of [] = []
tail_of (x ∷ xs) = xs

-- functions of the same types and the same bodies
pub functions-equal : (fs gs : List FunctionTree) → map (λ (f : FunctionTree). f.type_index) fs ≡ map (λ (f : FunctionTree). f.type_index) gs → map body_of fs ≡ map body_of gs → fs ≡ gs
functions-equal [] [] e h = refl
functions-equal [] (g ∷ gs) e h = absurd (omega (arith, ap length e))
functions-equal (f ∷ fs) [] e h = absurd (omega (arith, ap length e))
functions-equal (f ∷ fs) (g ∷ gs) e h =
    let b : body_of f ≡ body_of g = ap (head_body (body_of f)) h in
    let make : ℕ → Body → FunctionTree = λ x y. record { type_index = x; locals = y.locals; body = y.code } in
    ap (λ (x : ℕ). make x (body_of f) ∷ fs) (ap (head_index 0) e)
    ∙ ap (λ (y : Body). make g.type_index y ∷ fs) b
    ∙ ap (λ (l : List FunctionTree). g ∷ l) (functions-equal fs gs (ap tail_of e) (ap tail_of h))

abbrev eight_off : List ℕ → List ℕ
eight_off l = tail_of (tail_of (tail_of (tail_of (tail_of (tail_of (tail_of (tail_of l)))))))

pub fields-unique : (profile : Profile) (sections : List Section) (m n : ModuleTree) → SpellsFields profile sections m → SpellsFields profile sections n → m ≡ n
fields-unique profile sections m n a b =
    let types = spelled_vec-unique TakesFuncType func_type-unique m.types n.types (section 1 sections) a.types b.types in
    let imports = spelled_vec-unique TakesImport import-unique m.imports n.imports (section 2 sections) a.imports b.imports in
    let indices = spelled_vec-unique (TakesUnsigned 32) (unsigned-unique 32) (map (λ (f : FunctionTree). f.type_index) m.functions) (map (λ (f : FunctionTree). f.type_index) n.functions) (section 3 sections) a.function_types b.function_types in
    let tables = spelled_vec-unique TakesTableType table_type-unique m.tables n.tables (section 4 sections) a.tables b.tables in
    let memories = spelled_vec-unique TakesLimits limits-unique m.memories n.memories (section 5 sections) a.memories b.memories in
    let globals = spelled_vec-unique (TakesGlobal profile) (global-unique profile) m.globals n.globals (section 6 sections) a.globals b.globals in
    let exports = spelled_vec-unique TakesExport export-unique m.exports n.exports (section 7 sections) a.exports b.exports in
    let start = start-unique m.start n.start (section 8 sections) a.start b.start in
    let elements = spelled_vec-unique (TakesElement profile) (element-unique profile) m.element_segments n.element_segments (section 9 sections) a.element_segments b.element_segments in
    let bodies = spelled_vec-unique (TakesSizedBody profile) (sized_body-unique profile) (map body_of m.functions) (map body_of n.functions) (section 10 sections) a.bodies b.bodies in
    let datas = spelled_vec-unique (TakesData profile) (data-unique profile) m.data_segments n.data_segments (section 11 sections) a.data_segments b.data_segments in
    let functions = functions-equal m.functions n.functions indices bodies in
    λ i. record {
      types = types i;
      imports = imports i;
      functions = functions i;
      tables = tables i;
      memories = memories i;
      globals = globals i;
      exports = exports i;
      start = start i;
      element_segments = elements i;
      data_segments = datas i;
    }

-- bytes after the same header have the same sections
pub sections-are : (profile : Profile) (bytes after : List ℕ) (sections : List Section) (m : ModuleTree) → bytes ≡ 0x00 ∷ 0x61 ∷ 0x73 ∷ 0x6D ∷ 0x01 ∷ 0x00 ∷ 0x00 ∷ 0x00 ∷ after
    → TakesEach TakesSection sections after [] → (h : Spells profile bytes m) → h.sections ≡ sections
sections-are profile bytes after sections m e whole h =
    let rests : h.after ≡ after = ap eight_off (sym h.header ∙ e) in
    sections-unique h.sections sections after (subst (λ (l : List ℕ). TakesEach TakesSection h.sections l []) rests h.whole) whole

pub spells-unique : (profile : Profile) (bytes : List ℕ) (m n : ModuleTree) → Spells profile bytes m → Spells profile bytes n → m ≡ n
spells-unique profile bytes m n a b =
    let e = sections-are profile bytes b.after b.sections m b.header b.whole a in
    fields-unique profile b.sections m n (subst (λ (ss : List Section). SpellsFields profile ss m) e a.fields) b.fields
