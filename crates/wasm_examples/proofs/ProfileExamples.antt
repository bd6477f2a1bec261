-- Bytes that spell a module in profile 2 and none in profile 1: an extension by the sign, a fill, and a data count section. The
-- expected values are those of another engine, V8.
use Rattle.std.proofs.Common.{◌≡◌, ◌≢◌, ◌≤◌, ℕ, false, inl, inr, List, [], ◌∷◌, ◌++◌, length, map, refl, sym, ap, subst, arith, pos}
use Rattle.std.specs.Prelude.{Ok, Err, codes}
use Rattle.std.proofs.lemmas.List.Elements.{All-nil, All-cons}
use Rattle.wasm_values.specs.declared.outcome.Val.TheVariants as val
use Rattle.wasm_values.specs.declared.profile.Profile.{Profile}
use Rattle.wasm_values.specs.declared.profile.Profile.TheVariants.{One, Two}
use Rattle.wasm_types.specs.declared.limits.LoadLimits.{LoadLimits}
use Rattle.wasm_types.specs.declared.types.ValType.TheVariants as type
use Rattle.wasm_types.specs.declared.types.FuncType.{FuncType}
use Rattle.wasm_types.specs.declared.instr.Width.TheVariants.{W32}
use Rattle.wasm_types.specs.declared.instr.PackSize.TheVariants.{Pack8}
use Rattle.wasm_types.specs.declared.instr.UnaryOp.TheVariants.{ExtendS}
use Rattle.wasm_types.specs.declared.instr.Instr.{Instr}
use Rattle.wasm_types.specs.declared.instr.Instr.TheVariants as instr
use Rattle.wasm_types.specs.declared.module.Export.{Export}
use Rattle.wasm_types.specs.Tree.{Code, End, Plain, Block, Loop, If, Call, CallIndirect, FunctionTree, ElementTree, DataTree, ModuleTree}
use Rattle.wasm_spec.specs.Numbers.{TakesUnsigned, TakesEach, TakesVec, TakesBytes}
use Rattle.wasm_spec.specs.TypeGrammar.{TakesFuncType, TakesLimits}
use Rattle.wasm_spec.specs.InstrGrammar.{Shape, Alone, WithI32, shape, TakesShape, TakesInstr, TakesCode, ByEnd}
use Rattle.wasm_spec.specs.Grammar.{Section, Body, TakesSection, TakesLocalRun, TakesGlobal, TakesExport, TakesElement, TakesSizedBody, TakesData, SpellsVec, SpellsCount, body_of, section, Spells}
use Rattle.wasm_spec.specs.Typing.{IsTypedFunction}
use Rattle.wasm_spec.specs.Validity.{IsValid, IsSupported, IsDefined}
use Rattle.wasm_spec.specs.Loading.{Loads, Malformed}
use Rattle.wasm_spec.proofs.AddModule.{one_pair, short, section_is}
use Rattle.wasm_spec.proofs.UnambiguousNumbers.{same_first, same_others, unsigned-unique, signed-unique, bytes-unique}
use Rattle.wasm_spec.proofs.UnambiguousModules.{sections-unique}
use Rattle.wasm_examples.proofs.Modules.{exported, unary_type, extend_module, fill_module, counted_module}
use Rattle.wasm_examples.proofs.GrammarExamples.{no_runs}

-- what each begins with
abbrev header : List ℕ → List ℕ
header after = 0x00 ∷ 0x61 ∷ 0x73 ∷ 0x6D ∷ 0x01 ∷ 0x00 ∷ 0x00 ∷ 0x00 ∷ after

-- ---- an extension of the lowest 8 bits

abbrev extend_type : List ℕ
extend_type = 0x01 ∷ 0x60 ∷ 0x01 ∷ 0x7F ∷ 0x01 ∷ 0x7F ∷ []

abbrev one_function : List ℕ
one_function = 0x01 ∷ 0x00 ∷ []

abbrev extend_export : List ℕ
extend_export = 0x01 ∷ 0x01 ∷ 0x65 ∷ 0x00 ∷ 0x00 ∷ []

abbrev extend_body : List ℕ
extend_body = 0x00 ∷ 0x20 ∷ 0x00 ∷ 0xC0 ∷ 0x0B ∷ []

abbrev extend_code : List ℕ
extend_code = 0x01 ∷ 0x05 ∷ extend_body

abbrev extend_from_code : List ℕ
extend_from_code = 0x0A ∷ 0x07 ∷ extend_code ++ []

abbrev extend_from_export : List ℕ
extend_from_export = 0x07 ∷ 0x05 ∷ extend_export ++ extend_from_code

abbrev extend_from_function : List ℕ
extend_from_function = 0x03 ∷ 0x02 ∷ one_function ++ extend_from_export

abbrev extend_from_type : List ℕ
extend_from_type = 0x01 ∷ 0x06 ∷ extend_type ++ extend_from_function

abbrev extend_sections : List Section
extend_sections = record { id = 1; contents = extend_type } ∷ record { id = 3; contents = one_function } ∷ record { id = 7; contents = extend_export } ∷ record { id = 10; contents = extend_code } ∷ []

extend_follows : TakesEach TakesSection extend_sections extend_from_type []
extend_follows = (
  extend_from_function,
  section_is 1 extend_type extend_from_function (omega arith),
  (
    extend_from_export,
    section_is 3 one_function extend_from_export (omega arith),
    (extend_from_code, section_is 7 extend_export extend_from_code (omega arith), ([], section_is 10 extend_code [] (omega arith), refl)),
  ),
)

extend_type_spelled : TakesVec TakesFuncType extend_module.types extend_type []
extend_type_spelled = record { mid = _; count = short 1 _ (omega arith); items = (_, record { after = _; mid = _; tag = refl; params = record { mid = _; count = short 1 _ (omega arith); items = (_, refl, refl) }; results = record { mid = _; count = short 1 _ (omega arith); items = (_, refl, refl) } }, refl) }

one_function_spelled : TakesVec (TakesUnsigned 32) (0 ∷ []) one_function []
one_function_spelled = record { mid = _; count = short 1 _ (omega arith); items = ([], short 0 [] (omega arith), refl) }

extend_export_spelled : TakesVec TakesExport extend_module.exports extend_export []
unfolding lib.Utf8.encode
extend_export_spelled = record { mid = _; count = short 1 _ (omega arith); items = (_, record { mid = _; name = record { spelled = record { mid = _; count = short 1 _ (omega arith); items = refl }; utf8 = (101 ∷ [], (refl, refl)) }; desc = (_, refl, short 0 [] (omega arith)) }, refl) }

extend_code_spelled : TakesVec (TakesSizedBody Two) (map body_of extend_module.functions) extend_code []
unfolding shape
extend_code_spelled = record {
  mid = _;
  count = short 1 _ (omega arith);
  items = (
    _,
    record {
      contents = extend_body;
      sized = record { mid = _; count = short 5 _ (omega arith); items = refl };
      body = record {
        runs = [];
        mid = _;
        spelled = record { mid = _; count = short 0 _ (omega arith); items = refl };
        locals = refl;
        few = omega arith;
        code = (
          _,
          record { opcode = 0x20; after = _; leads = refl; follows = (0, refl, short 0 _ (omega arith)) },
          (_, record { opcode = 0xC0; after = _; leads = refl; follows = (refl, refl) }, refl),
        );
      };
    },
    refl,
  );
}

abbrev extend_bytes : List ℕ
extend_bytes = header extend_from_type

extend_is_spelled : Spells Two extend_bytes extend_module
extend_is_spelled = record {
  after = extend_from_type;
  sections = extend_sections;
  header = refl;
  whole = extend_follows;
  ordered = inr (omega arith, omega arith, inr (omega arith, omega arith, inr (omega arith, omega arith, inr (omega arith, omega arith, tt))));
  fields = record {
    types = extend_type_spelled;
    imports = refl;
    function_types = one_function_spelled;
    tables = refl;
    memories = refl;
    globals = refl;
    exports = extend_export_spelled;
    start = refl;
    element_segments = refl;
    bodies = extend_code_spelled;
    data_segments = refl;
    data_count = tt;
  };
}

abbrev extend_function : FunctionTree
extend_function = record { type_index = 0; locals = []; body = Plain (instr.LocalGet 0) (Plain (instr.Unary W32 (ExtendS Pack8)) End) }

extend_typed : IsTypedFunction extend_module extend_function
extend_typed = (refl, (type.I32 ∷ [], ([], refl, refl), (type.I32 ∷ [], ([], refl, refl), refl)))

extend_valid : IsValid extend_module
extend_valid = record {
  function_types = All-cons (λ (t : FuncType). length t.results ≤ 1) unary_type [] (omega arith) (All-nil (λ (t : FuncType). length t.results ≤ 1));
  imports = All-nil _;
  functions = All-cons (IsTypedFunction extend_module) extend_function [] extend_typed (All-nil (IsTypedFunction extend_module));
  one_table = omega arith;
  table_types = All-nil _;
  one_memory = omega arith;
  memory_types = All-nil _;
  globals = All-nil _;
  element_segments = All-nil _;
  data_segments = All-nil _;
  start = tt;
  exports = All-cons (λ (e : Export). IsDefined extend_module e.desc) (exported (codes "e") 0) [] refl (All-nil (λ (e : Export). IsDefined extend_module e.desc));
  names_differ = one_pair (λ (a b : Export). a.name ≢ b.name) (exported (codes "e") 0);
}

extend_supported : IsSupported Two extend_module
extend_supported = record { imports = refl; no_float = refl }

abbrev limits : LoadLimits
limits = record { pages = 1; elements = 0; frame = 8 }

extend_is_loaded_in_profile_2 : Loads Two extend_bytes limits (Ok extend_module)
extend_is_loaded_in_profile_2 = record { tree = extend_module; spells = extend_is_spelled; answers = (record { runs = extend_supported; valid = extend_valid; late_is = refl }, refl) }

extend_is_not_malformed_in_profile_2 : Loads Two extend_bytes limits (Err Malformed) → ⊥
extend_is_not_malformed_in_profile_2 h = h extend_module extend_is_spelled

-- ---- an extension in an initialiser and in offsets, which are read in the profile of the module

abbrev extended_constant : Code
extended_constant = Plain (instr.Const (val.I32 0)) (Plain (instr.Unary W32 (ExtendS Pack8)) End)

abbrev extended_bytes : List ℕ
extended_bytes = 0x41 ∷ 0x00 ∷ 0xC0 ∷ 0x0B ∷ []

extended_spelled : (profile : Profile) → shape profile 0x41 ≡ WithI32 → shape profile 0xC0 ≡ Alone (instr.Unary W32 (ExtendS Pack8)) → (rest : List ℕ) → TakesCode profile ByEnd extended_constant (extended_bytes ++ rest) rest
extended_spelled profile constant extension rest = (
  _,
  record { opcode = 0x41; after = _; leads = refl; follows = subst (λ (k : Shape). TakesShape k (instr.Const (val.I32 0)) (0x00 ∷ 0xC0 ∷ 0x0B ∷ rest) (0xC0 ∷ 0x0B ∷ rest)) (sym constant) (pos 0, refl, inl (omega arith, omega arith, refl, refl)) },
  (
    _,
    record { opcode = 0xC0; after = _; leads = refl; follows = subst (λ (k : Shape). TakesShape k (instr.Unary W32 (ExtendS Pack8)) (0x0B ∷ rest) (0x0B ∷ rest)) (sym extension) (refl, refl) },
    refl,
  ),
)

in_profile_2 : (rest : List ℕ) → TakesCode Two ByEnd extended_constant (extended_bytes ++ rest) rest
unfolding shape
in_profile_2 rest = extended_spelled Two refl refl rest

extended_initialiser : TakesGlobal Two (record { global_type = record { value = type.I32; mutable = false }; init = extended_constant }) (0x7F ∷ 0x00 ∷ extended_bytes) []
extended_initialiser = record { mid = extended_bytes; global_type = refl; init = in_profile_2 [] }

extended_offset_of_elements : TakesElement Two (record { table = 0; offset = extended_constant; functions = [] }) (0x00 ∷ extended_bytes ++ 0x00 ∷ []) []
extended_offset_of_elements = record { after_table = _; after_offset = 0x00 ∷ []; table = short 0 _ (omega arith); offset = in_profile_2 (0x00 ∷ []); functions = record { mid = []; count = short 0 [] (omega arith); items = refl } }

extended_offset_of_data : TakesData Two (record { memory = 0; offset = extended_constant; bytes = [] }) (0x00 ∷ extended_bytes ++ 0x00 ∷ []) []
extended_offset_of_data = record { after_memory = _; after_offset = 0x00 ∷ []; memory = short 0 _ (omega arith); offset = in_profile_2 (0x00 ∷ []); contents = record { mid = []; count = short 0 [] (omega arith); items = refl } }

-- ---- the same bytes in profile 1

-- no row has the opcode
no_extension : (i : Instr) (after rest : List ℕ) → TakesInstr One i (0xC0 ∷ after) rest → ⊥
unfolding shape
no_extension i after rest h =
    let is : h.opcode ≡ 0xC0 = let e = h.leads in cc (e) in
    subst (λ (opcode : ℕ). TakesShape (shape One opcode) i h.after rest) is h.follows

-- lists that are the same begin with the same byte
first_bytes : (x y : ℕ) (a b : List ℕ) → x ∷ a ≡ y ∷ b → x ≡ y
first_bytes x y a b e = same_first refl e

no_code_from_an_extension : (c : Code) → TakesCode One ByEnd c (0xC0 ∷ 0x0B ∷ []) [] → ⊥
no_code_from_an_extension End h = absurd (omega (arith, first_bytes 0xC0 0x0B (0x0B ∷ []) [] h))
no_code_from_an_extension (Plain i more) h = no_extension i (0x0B ∷ []) h.0 h.1
no_code_from_an_extension (Block t body more) h = absurd (omega (arith, first_bytes 0xC0 0x02 (0x0B ∷ []) h.0 h.1))
no_code_from_an_extension (Loop t body more) h = absurd (omega (arith, first_bytes 0xC0 0x03 (0x0B ∷ []) h.0 h.1))
no_code_from_an_extension (If t first second more) h = absurd (omega (arith, first_bytes 0xC0 0x04 (0x0B ∷ []) h.0 h.1))
no_code_from_an_extension (Call x more) h = absurd (omega (arith, first_bytes 0xC0 0x10 (0x0B ∷ []) h.0 h.1))
no_code_from_an_extension (CallIndirect x more) h = absurd (omega (arith, first_bytes 0xC0 0x11 (0x0B ∷ []) h.0 h.1))

-- behind a constant of one byte stands what follows it
constant_taken : (i : Instr) (mid : List ℕ) (rest : List ℕ) → TakesShape (shape One 0x41) i (0x00 ∷ 0xC0 ∷ rest) mid → mid ≡ 0xC0 ∷ rest
unfolding shape
constant_taken i mid rest h = (signed-unique 32 h.0 (pos 0) (0x00 ∷ 0xC0 ∷ rest) mid (0xC0 ∷ rest) h.2 (inl (omega arith, omega arith, refl, refl))).1

no_code_from_an_extension_on : (c : Code) (after rest : List ℕ) → TakesCode One ByEnd c (0xC0 ∷ after) rest → ⊥
no_code_from_an_extension_on End after rest h = absurd (omega (arith, first_bytes 0xC0 0x0B after rest h))
no_code_from_an_extension_on (Plain i more) after rest h = no_extension i after h.0 h.1
no_code_from_an_extension_on (Block t body more) after rest h = absurd (omega (arith, first_bytes 0xC0 0x02 after h.0 h.1))
no_code_from_an_extension_on (Loop t body more) after rest h = absurd (omega (arith, first_bytes 0xC0 0x03 after h.0 h.1))
no_code_from_an_extension_on (If t first second more) after rest h = absurd (omega (arith, first_bytes 0xC0 0x04 after h.0 h.1))
no_code_from_an_extension_on (Call x more) after rest h = absurd (omega (arith, first_bytes 0xC0 0x10 after h.0 h.1))
no_code_from_an_extension_on (CallIndirect x more) after rest h = absurd (omega (arith, first_bytes 0xC0 0x11 after h.0 h.1))

behind_the_constant : (i : Instr) (mid rest : List ℕ) → TakesInstr One i (0x41 ∷ 0x00 ∷ 0xC0 ∷ rest) mid → mid ≡ 0xC0 ∷ rest
behind_the_constant i mid rest h =
    let is : h.opcode ≡ 0x41 = same_first h.leads refl in
    let after : h.after ≡ 0x00 ∷ 0xC0 ∷ rest = same_others h.leads refl in
    constant_taken i mid rest (subst (λ (l : List ℕ). TakesShape (shape One 0x41) i l mid) after (subst (λ (opcode : ℕ). TakesShape (shape One opcode) i h.after mid) is h.follows))

-- in profile 1 no offset holds an extension
no_extended_code : (c : Code) (after rest : List ℕ) → TakesCode One ByEnd c (0x41 ∷ 0x00 ∷ 0xC0 ∷ after) rest → ⊥
no_extended_code End after rest h = absurd (omega (arith, first_bytes 0x41 0x0B (0x00 ∷ 0xC0 ∷ after) rest h))
no_extended_code (Plain i more) after rest h = no_code_from_an_extension_on more after rest (subst (λ (l : List ℕ). TakesCode One ByEnd more l rest) (behind_the_constant i h.0 after h.1) h.2)
no_extended_code (Block t body more) after rest h = absurd (omega (arith, first_bytes 0x41 0x02 (0x00 ∷ 0xC0 ∷ after) h.0 h.1))
no_extended_code (Loop t body more) after rest h = absurd (omega (arith, first_bytes 0x41 0x03 (0x00 ∷ 0xC0 ∷ after) h.0 h.1))
no_extended_code (If t first second more) after rest h = absurd (omega (arith, first_bytes 0x41 0x04 (0x00 ∷ 0xC0 ∷ after) h.0 h.1))
no_extended_code (Call x more) after rest h = absurd (omega (arith, first_bytes 0x41 0x10 (0x00 ∷ 0xC0 ∷ after) h.0 h.1))
no_extended_code (CallIndirect x more) after rest h = absurd (omega (arith, first_bytes 0x41 0x11 (0x00 ∷ 0xC0 ∷ after) h.0 h.1))

no_extended_offset_of_data_in_profile_1 : (d : DataTree) (rest : List ℕ) → TakesData One d (0x00 ∷ extended_bytes ++ 0x00 ∷ []) rest → ⊥
no_extended_offset_of_data_in_profile_1 d rest h =
    let behind : List ℕ = extended_bytes ++ 0x00 ∷ [] in
    let after : h.after_memory ≡ behind = (unsigned-unique 32 d.memory 0 (0x00 ∷ behind) h.after_memory behind h.memory (short 0 behind (omega arith))).1 in
    no_extended_code d.offset (0x0B ∷ 0x00 ∷ []) h.after_offset (subst (λ (l : List ℕ). TakesCode One ByEnd d.offset l h.after_offset) after h.offset)

no_extended_offset_of_elements_in_profile_1 : (e : ElementTree) (rest : List ℕ) → TakesElement One e (0x00 ∷ extended_bytes ++ 0x00 ∷ []) rest → ⊥
no_extended_offset_of_elements_in_profile_1 e rest h =
    let behind : List ℕ = extended_bytes ++ 0x00 ∷ [] in
    let after : h.after_table ≡ behind = (unsigned-unique 32 e.table 0 (0x00 ∷ behind) h.after_table behind h.table (short 0 behind (omega arith))).1 in
    no_extended_code e.offset (0x0B ∷ 0x00 ∷ []) h.after_offset (subst (λ (l : List ℕ). TakesCode One ByEnd e.offset l h.after_offset) after h.offset)

-- what a local's index takes
index_taken : (i : Instr) (mid : List ℕ) → TakesShape (shape One 0x20) i (0x00 ∷ 0xC0 ∷ 0x0B ∷ []) mid → mid ≡ 0xC0 ∷ 0x0B ∷ []
unfolding shape
index_taken i mid h = (unsigned-unique 32 h.0 0 (0x00 ∷ 0xC0 ∷ 0x0B ∷ []) mid (0xC0 ∷ 0x0B ∷ []) h.2 (short 0 _ (omega arith))).1

-- the index is 0, and what follows it begins with the opcode
behind_the_index : (i : Instr) (mid : List ℕ) → TakesInstr One i (0x20 ∷ 0x00 ∷ 0xC0 ∷ 0x0B ∷ []) mid → mid ≡ 0xC0 ∷ 0x0B ∷ []
behind_the_index i mid h =
    let is : h.opcode ≡ 0x20 = let e = h.leads in cc (e) in
    let after : h.after ≡ 0x00 ∷ 0xC0 ∷ 0x0B ∷ [] = let e = h.leads in cc (e) in
    index_taken i mid (subst (λ (l : List ℕ). TakesShape (shape One 0x20) i l mid) after (subst (λ (opcode : ℕ). TakesShape (shape One opcode) i h.after mid) is h.follows))

get_and_extend : (c : Code) → TakesCode One ByEnd c (0x20 ∷ 0x00 ∷ 0xC0 ∷ 0x0B ∷ []) [] → ⊥
get_and_extend End h = absurd (omega (arith, first_bytes 0x20 0x0B (0x00 ∷ 0xC0 ∷ 0x0B ∷ []) [] h))
get_and_extend (Plain i more) h = no_code_from_an_extension more (subst (λ (l : List ℕ). TakesCode One ByEnd more l []) (behind_the_index i h.0 h.1) h.2)
get_and_extend (Block t body more) h = absurd (omega (arith, first_bytes 0x20 0x02 (0x00 ∷ 0xC0 ∷ 0x0B ∷ []) h.0 h.1))
get_and_extend (Loop t body more) h = absurd (omega (arith, first_bytes 0x20 0x03 (0x00 ∷ 0xC0 ∷ 0x0B ∷ []) h.0 h.1))
get_and_extend (If t first second more) h = absurd (omega (arith, first_bytes 0x20 0x04 (0x00 ∷ 0xC0 ∷ 0x0B ∷ []) h.0 h.1))
get_and_extend (Call x more) h = absurd (omega (arith, first_bytes 0x20 0x10 (0x00 ∷ 0xC0 ∷ 0x0B ∷ []) h.0 h.1))
get_and_extend (CallIndirect x more) h = absurd (omega (arith, first_bytes 0x20 0x11 (0x00 ∷ 0xC0 ∷ 0x0B ∷ []) h.0 h.1))

no_body : (b : Body) (rest : List ℕ) → TakesSizedBody One b (0x05 ∷ extend_body) rest → ⊥
no_body b rest h =
    let five : TakesBytes extend_body (0x05 ∷ extend_body) [] = record { mid = _; count = short 5 _ (omega arith); items = refl } in
    let contents = bytes-unique h.contents extend_body (0x05 ∷ extend_body) rest [] h.sized five in
    let runs = subst (λ (l : List ℕ). TakesVec TakesLocalRun h.body.runs l h.body.mid) contents.0 h.body.spelled in
    get_and_extend b.code (subst (λ (l : List ℕ). TakesCode One ByEnd b.code l []) (no_runs h.body.runs (0x20 ∷ 0x00 ∷ 0xC0 ∷ 0x0B ∷ []) h.body.mid runs) h.body.code)

no_bodies : (bs : List Body) → TakesVec (TakesSizedBody One) bs extend_code [] → ⊥
no_bodies [] v =
    let count = unsigned-unique 32 0 1 extend_code v.mid (0x05 ∷ extend_body) v.count (short 1 _ (omega arith)) in
    absurd (omega (arith, count.0))
no_bodies (b ∷ bs) v =
    let count = unsigned-unique 32 (length (b ∷ bs)) 1 extend_code v.mid (0x05 ∷ extend_body) v.count (short 1 _ (omega arith)) in
    no_body b v.items.0 (subst (λ (l : List ℕ). TakesSizedBody One b l v.items.0) count.1 v.items.1)

no_module_in_profile_1 : (m : ModuleTree) → Spells One extend_bytes m → ⊥
no_module_in_profile_1 m h =
    let after : h.after ≡ extend_from_type = let e = h.header in cc (e) in
    let whole = subst (λ (l : List ℕ). TakesEach TakesSection h.sections l []) after h.whole in
    let are = sections-unique h.sections extend_sections extend_from_type whole extend_follows in
    no_bodies (map body_of m.functions) (subst (λ (ss : List Section). SpellsVec (TakesSizedBody One) (map body_of m.functions) (section 10 ss)) are h.fields.bodies)

extend_is_malformed_in_profile_1 : Loads One extend_bytes limits (Err Malformed)
extend_is_malformed_in_profile_1 = no_module_in_profile_1

-- ---- a fill by an argument

abbrev fill_type : List ℕ
fill_type = 0x01 ∷ 0x60 ∷ 0x02 ∷ 0x7F ∷ 0x7F ∷ 0x00 ∷ []

abbrev one_page : List ℕ
one_page = 0x01 ∷ 0x00 ∷ 0x01 ∷ []

abbrev fill_export : List ℕ
fill_export = 0x01 ∷ 0x01 ∷ 0x66 ∷ 0x00 ∷ 0x00 ∷ []

abbrev fill_body : List ℕ
fill_body = 0x00 ∷ 0x20 ∷ 0x00 ∷ 0x41 ∷ 0x07 ∷ 0x20 ∷ 0x01 ∷ 0xFC ∷ 0x0B ∷ 0x00 ∷ 0x0B ∷ []

abbrev fill_code : List ℕ
fill_code = 0x01 ∷ 0x0B ∷ fill_body

abbrev fill_from_code : List ℕ
fill_from_code = 0x0A ∷ 0x0D ∷ fill_code ++ []

abbrev fill_from_export : List ℕ
fill_from_export = 0x07 ∷ 0x05 ∷ fill_export ++ fill_from_code

abbrev fill_from_memory : List ℕ
fill_from_memory = 0x05 ∷ 0x03 ∷ one_page ++ fill_from_export

abbrev fill_from_function : List ℕ
fill_from_function = 0x03 ∷ 0x02 ∷ one_function ++ fill_from_memory

abbrev fill_from_type : List ℕ
fill_from_type = 0x01 ∷ 0x06 ∷ fill_type ++ fill_from_function

abbrev fill_sections : List Section
fill_sections = record { id = 1; contents = fill_type } ∷ record { id = 3; contents = one_function } ∷ record { id = 5; contents = one_page } ∷ record { id = 7; contents = fill_export } ∷ record { id = 10; contents = fill_code } ∷ []

fill_follows : TakesEach TakesSection fill_sections fill_from_type []
fill_follows = (
  fill_from_function,
  section_is 1 fill_type fill_from_function (omega arith),
  (
    fill_from_memory,
    section_is 3 one_function fill_from_memory (omega arith),
    (
      fill_from_export,
      section_is 5 one_page fill_from_export (omega arith),
      (fill_from_code, section_is 7 fill_export fill_from_code (omega arith), ([], section_is 10 fill_code [] (omega arith), refl)),
    ),
  ),
)

fill_type_spelled : TakesVec TakesFuncType fill_module.types fill_type []
fill_type_spelled = record { mid = _; count = short 1 _ (omega arith); items = (_, record { after = _; mid = _; tag = refl; params = record { mid = _; count = short 2 _ (omega arith); items = (_, refl, (_, refl, refl)) }; results = record { mid = _; count = short 0 _ (omega arith); items = refl } }, refl) }

one_page_spelled : TakesVec TakesLimits fill_module.memories one_page []
one_page_spelled = record { mid = _; count = short 1 _ (omega arith); items = (_, (_, refl, short 1 [] (omega arith)), refl) }

fill_export_spelled : TakesVec TakesExport fill_module.exports fill_export []
unfolding lib.Utf8.encode
fill_export_spelled = record { mid = _; count = short 1 _ (omega arith); items = (_, record { mid = _; name = record { spelled = record { mid = _; count = short 1 _ (omega arith); items = refl }; utf8 = (102 ∷ [], (refl, refl)) }; desc = (_, refl, short 0 [] (omega arith)) }, refl) }

fill_code_spelled : TakesVec (TakesSizedBody Two) (map body_of fill_module.functions) fill_code []
unfolding shape
fill_code_spelled = record {
  mid = _;
  count = short 1 _ (omega arith);
  items = (
    _,
    record {
      contents = fill_body;
      sized = record { mid = _; count = short 11 _ (omega arith); items = refl };
      body = record {
        runs = [];
        mid = _;
        spelled = record { mid = _; count = short 0 _ (omega arith); items = refl };
        locals = refl;
        few = omega arith;
        code = (
          _,
          record { opcode = 0x20; after = _; leads = refl; follows = (0, refl, short 0 _ (omega arith)) },
          (
            _,
            record { opcode = 0x41; after = _; leads = refl; follows = (pos 7, refl, inl (omega arith, omega arith, refl, refl)) },
            (
              _,
              record { opcode = 0x20; after = _; leads = refl; follows = (1, refl, short 1 _ (omega arith)) },
              (
                _,
                record {
                  opcode = 0xFC;
                  after = _;
                  leads = refl;
                  follows = record { number = 11; mid = _; row = record { number = 11; instr = instr.MemoryFill; zeros = 1 }; spelled = short 11 _ (omega arith); found = refl; is = refl; zeros = refl };
                },
                refl,
              ),
            ),
          ),
        );
      };
    },
    refl,
  );
}

fill_is_spelled : Spells Two (header fill_from_type) fill_module
fill_is_spelled = record {
  after = fill_from_type;
  sections = fill_sections;
  header = refl;
  whole = fill_follows;
  ordered = inr (omega arith, omega arith, inr (omega arith, omega arith, inr (omega arith, omega arith, inr (omega arith, omega arith, inr (omega arith, omega arith, tt)))));
  fields = record {
    types = fill_type_spelled;
    imports = refl;
    function_types = one_function_spelled;
    tables = refl;
    memories = one_page_spelled;
    globals = refl;
    exports = fill_export_spelled;
    start = refl;
    element_segments = refl;
    bodies = fill_code_spelled;
    data_segments = refl;
    data_count = tt;
  };
}

-- ---- a data segment, and the section that counts it

abbrev one_count : List ℕ
one_count = 0x01 ∷ []

abbrev one_segment : List ℕ
one_segment = 0x01 ∷ 0x00 ∷ 0x41 ∷ 0x00 ∷ 0x0B ∷ 0x01 ∷ 0x61 ∷ []

abbrev counted_from_data : List ℕ
counted_from_data = 0x0B ∷ 0x07 ∷ one_segment ++ []

abbrev counted_from_count : List ℕ
counted_from_count = 0x0C ∷ 0x01 ∷ one_count ++ counted_from_data

abbrev counted_from_memory : List ℕ
counted_from_memory = 0x05 ∷ 0x03 ∷ one_page ++ counted_from_count

abbrev counted_sections : List Section
counted_sections = record { id = 5; contents = one_page } ∷ record { id = 12; contents = one_count } ∷ record { id = 11; contents = one_segment } ∷ []

counted_follows : TakesEach TakesSection counted_sections counted_from_memory []
counted_follows = (
  counted_from_count,
  section_is 5 one_page counted_from_count (omega arith),
  (counted_from_data, section_is 12 one_count counted_from_data (omega arith), ([], section_is 11 one_segment [] (omega arith), refl)),
)

one_segment_spelled : TakesVec (TakesData Two) counted_module.data_segments one_segment []
unfolding shape
one_segment_spelled = record {
  mid = _;
  count = short 1 _ (omega arith);
  items = (
    _,
    record {
      after_memory = _;
      after_offset = _;
      memory = short 0 _ (omega arith);
      offset = (_, record { opcode = 0x41; after = _; leads = refl; follows = (pos 0, refl, inl (omega arith, omega arith, refl, refl)) }, refl);
      contents = record { mid = _; count = short 1 _ (omega arith); items = refl };
    },
    refl,
  );
}

counted_is_spelled : Spells Two (header counted_from_memory) counted_module
counted_is_spelled = record {
  after = counted_from_memory;
  sections = counted_sections;
  header = refl;
  whole = counted_follows;
  ordered = inr (omega arith, omega arith, inr (omega arith, omega arith, inr (omega arith, omega arith, tt)));
  fields = record {
    types = refl;
    imports = refl;
    function_types = refl;
    tables = refl;
    memories = one_page_spelled;
    globals = refl;
    exports = refl;
    start = refl;
    element_segments = refl;
    bodies = refl;
    data_segments = one_segment_spelled;
    data_count = short 1 [] (omega arith);
  };
}

-- one is counted, and there is none
abbrev miscounted_after_header : List ℕ
miscounted_after_header = 0x0C ∷ 0x01 ∷ one_count ++ []

abbrev miscounted_sections : List Section
miscounted_sections = record { id = 12; contents = one_count } ∷ []

miscounted : (m : ModuleTree) → Spells Two (header miscounted_after_header) m → ⊥
miscounted m h =
    let after : h.after ≡ miscounted_after_header = let e = h.header in cc (e) in
    let whole = subst (λ (l : List ℕ). TakesEach TakesSection h.sections l []) after h.whole in
    let are = sections-unique h.sections miscounted_sections miscounted_after_header whole ([], section_is 12 one_count [] (omega arith), refl) in
    let none : m.data_segments ≡ [] = subst (λ (ss : List Section). SpellsVec (TakesData Two) m.data_segments (section 11 ss)) are h.fields.data_segments in
    let counted : TakesUnsigned 32 (length m.data_segments) one_count [] = subst (λ (ss : List Section). SpellsCount (length m.data_segments) (section 12 ss)) are h.fields.data_count in
    let one = unsigned-unique 32 (length m.data_segments) 1 one_count [] [] counted (short 1 [] (omega arith)) in
    absurd (omega (arith, one.0, ap length none))
