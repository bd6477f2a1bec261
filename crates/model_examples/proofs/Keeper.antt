-- A small module with a memory and a table: its function `f` gives what stood at address 0, and writes 7 there.
use Rattle.std.proofs.Common.{ℕ, ◌≤◌, inl, inr, List, [], ◌∷◌, ◌++◌, length, map, refl, arith, pos}
use Rattle.std.specs.Prelude.{None, Ok, All, IsSome}
use Rattle.std.proofs.lemmas.List.Elements.{All-nil}
use Rattle.wasm_values.specs.declared.profile.Profile.TheVariants.{One}
use Rattle.wasm_types.specs.declared.limits.LoadLimits.{LoadLimits}
use Rattle.wasm_types.specs.declared.types.ValType.TheVariants as type
use Rattle.wasm_types.specs.declared.types.FuncType.{FuncType}
use Rattle.wasm_types.specs.declared.types.Limits.{Limits}
use Rattle.wasm_values.specs.declared.outcome.Val.TheVariants.{I32}
use Rattle.wasm_types.specs.declared.instr.Instr.{Instr}
use Rattle.wasm_types.specs.declared.instr.Instr.TheVariants as instr
use Rattle.wasm_types.specs.declared.instr.MemArg.{MemArg}
use Rattle.wasm_types.specs.declared.instr.Width.TheVariants.{W32}
use Rattle.wasm_types.specs.declared.module.Export.{Export}
use Rattle.wasm_types.specs.declared.module.ExportDesc.TheVariants as desc
use Rattle.wasm_types.specs.Tree.{Code, End, Plain, FunctionTree, ElementTree, ModuleTree}
use Rattle.wasm_spec.specs.Numbers.{TakesUnsigned, TakesEach, TakesVec}
use Rattle.wasm_spec.specs.TypeGrammar.{TakesFuncType, TakesTableType, TakesLimits}
use Rattle.wasm_spec.specs.InstrGrammar.{shape, TakesExpr}
use Rattle.wasm_spec.specs.Grammar.{Section, TakesSection, IsOrderedAbove, TakesExport, TakesElement, TakesSizedBody, body_of, Spells}
use Rattle.wasm_spec.specs.Functions.{callee_at}
use Rattle.wasm_spec.specs.Typing.{IsTypedFunction}
use Rattle.wasm_spec.specs.Validity.{IsValid, IsSupported, IsDefined, IsElementSegment, IsMemoryType, AreOrdered}
use Rattle.wasm_spec.specs.Loading.{Loads}
use Rattle.wasm_spec.proofs.AddModule.{all_one, short, section_is}

-- the four bytes from address 0 on
abbrev at_zero : MemArg
at_zero = record { align = 2; offset = 0 }

abbrev constant : ℕ → Instr
constant n = instr.Const (I32 n)

abbrev body : Code
body = Plain (constant 0) (Plain (instr.Load W32 at_zero) (Plain (constant 0) (Plain (constant 7) (Plain (instr.Store W32 at_zero) End))))

abbrev function : FunctionTree
function = record { type_index = 0; locals = []; body = body }

abbrev pub f_type : FuncType
f_type = record { params = []; results = type.I32 ∷ [] }

abbrev pub f_export : Export
f_export = record { name = 0x66 ∷ []; desc = desc.Func 0 }

-- one page, and one element
abbrev one_or_more : Limits
one_or_more = record { min = 1; max = None }

abbrev elements : ElementTree
elements = record { table = 0; offset = Plain (constant 0) End; functions = 0 ∷ [] }

abbrev pub keeper : ModuleTree
keeper = record {
  types = f_type ∷ [];
  imports = [];
  functions = function ∷ [];
  tables = one_or_more ∷ [];
  memories = one_or_more ∷ [];
  globals = [];
  exports = f_export ∷ [];
  start = None;
  element_segments = elements ∷ [];
  data_segments = [];
}

-- ---- its bytes

abbrev type_contents : List ℕ
type_contents = 0x01 ∷ 0x60 ∷ 0x00 ∷ 0x01 ∷ 0x7F ∷ []

abbrev keeper_functions : List ℕ
keeper_functions = 0x01 ∷ 0x00 ∷ []

abbrev table_contents : List ℕ
table_contents = 0x01 ∷ 0x70 ∷ 0x00 ∷ 0x01 ∷ []

abbrev memory_contents : List ℕ
memory_contents = 0x01 ∷ 0x00 ∷ 0x01 ∷ []

abbrev export_contents : List ℕ
export_contents = 0x01 ∷ 0x01 ∷ 0x66 ∷ 0x00 ∷ 0x00 ∷ []

abbrev element_contents : List ℕ
element_contents = 0x01 ∷ 0x00 ∷ 0x41 ∷ 0x00 ∷ 0x0B ∷ 0x01 ∷ 0x00 ∷ []

abbrev expression : List ℕ
expression = 0x41 ∷ 0x00 ∷ 0x28 ∷ 0x02 ∷ 0x00 ∷ 0x41 ∷ 0x00 ∷ 0x41 ∷ 0x07 ∷ 0x36 ∷ 0x02 ∷ 0x00 ∷ 0x0B ∷ []

abbrev body_contents : List ℕ
body_contents = 0x00 ∷ expression

abbrev code_contents : List ℕ
code_contents = 0x01 ∷ 0x0E ∷ body_contents

-- what follows the header, and each section
abbrev after_elements : List ℕ
after_elements = 0x0A ∷ 0x10 ∷ code_contents

abbrev after_exports : List ℕ
after_exports = 0x09 ∷ 0x07 ∷ element_contents ++ after_elements

abbrev after_memories : List ℕ
after_memories = 0x07 ∷ 0x05 ∷ export_contents ++ after_exports

abbrev after_tables : List ℕ
after_tables = 0x05 ∷ 0x03 ∷ memory_contents ++ after_memories

abbrev after_functions : List ℕ
after_functions = 0x04 ∷ 0x04 ∷ table_contents ++ after_tables

abbrev after_types : List ℕ
after_types = 0x03 ∷ 0x02 ∷ keeper_functions ++ after_functions

abbrev after_header : List ℕ
after_header = 0x01 ∷ 0x05 ∷ type_contents ++ after_types

abbrev keeper_sections : List Section
keeper_sections =
    record { id = 1; contents = type_contents } ∷ record { id = 3; contents = keeper_functions } ∷ record { id = 4; contents = table_contents }
    ∷ record { id = 5; contents = memory_contents } ∷ record { id = 7; contents = export_contents } ∷ record { id = 9; contents = element_contents }
    ∷ record { id = 10; contents = code_contents } ∷ []

keeper_follows : TakesEach TakesSection keeper_sections after_header []
keeper_follows = (
  after_types,
  section_is 1 type_contents after_types (omega arith),
  (
    after_functions,
    section_is 3 keeper_functions after_functions (omega arith),
    (
      after_tables,
      section_is 4 table_contents after_tables (omega arith),
      (
        after_memories,
        section_is 5 memory_contents after_memories (omega arith),
        (
          after_exports,
          section_is 7 export_contents after_exports (omega arith),
          (
            after_elements,
            section_is 9 element_contents after_elements (omega arith),
            ([], section_is 10 code_contents [] (omega arith), refl),
          ),
        ),
      ),
    ),
  ),
)

keeper_rises : IsOrderedAbove One 0 keeper_sections
keeper_rises = inr (
  omega arith,
  omega arith,
  inr (
    omega arith,
    omega arith,
    inr (
      omega arith,
      omega arith,
      inr (
        omega arith,
        omega arith,
        inr (omega arith, omega arith, inr (omega arith, omega arith, inr (omega arith, omega arith, tt))),
      ),
    ),
  ),
)

type_spelled : TakesVec TakesFuncType keeper.types type_contents []
type_spelled = record {
  mid = _;
  count = short 1 _ (omega arith);
  items = (
    [],
    record {
      after = _;
      mid = _;
      tag = refl;
      params = record { mid = _; count = short 0 _ (omega arith); items = refl };
      results = record { mid = _; count = short 1 _ (omega arith); items = (_, refl, refl) };
    },
    refl,
  );
}

index_spelled : TakesVec (TakesUnsigned 32) (0 ∷ []) keeper_functions []
index_spelled = record { mid = _; count = short 1 _ (omega arith); items = ([], short 0 [] (omega arith), refl) }

table_spelled : TakesVec TakesTableType keeper.tables table_contents []
table_spelled = record { mid = _; count = short 1 _ (omega arith); items = ([], (_, refl, (_, refl, short 1 [] (omega arith))), refl) }

memory_spelled : TakesVec TakesLimits keeper.memories memory_contents []
memory_spelled = record { mid = _; count = short 1 _ (omega arith); items = ([], (_, refl, short 1 [] (omega arith)), refl) }

export_spelled : TakesVec TakesExport keeper.exports export_contents []
unfolding lib.Utf8.encode
export_spelled = record {
  mid = _;
  count = short 1 _ (omega arith);
  items = (
    [],
    record {
      mid = 0x00 ∷ 0x00 ∷ [];
      name = record { spelled = record { mid = _; count = short 1 _ (omega arith); items = refl }; utf8 = (102 ∷ [], (refl, refl)) };
      desc = (_, refl, short 0 [] (omega arith));
    },
    refl,
  );
}

element_spelled : TakesVec (TakesElement One) keeper.element_segments element_contents []
unfolding shape
element_spelled = record {
  mid = _;
  count = short 1 _ (omega arith);
  items = (
    [],
    record {
      after_table = _;
      after_offset = _;
      table = short 0 _ (omega arith);
      offset = (_, record { opcode = 0x41; after = _; leads = refl; follows = (pos 0, refl, inl (omega arith, omega arith, refl, refl)) }, refl);
      functions = record { mid = _; count = short 1 _ (omega arith); items = ([], short 0 [] (omega arith), refl) };
    },
    refl,
  );
}

code_spelled : TakesExpr One body expression []
unfolding shape
code_spelled = (
  _,
  record { opcode = 0x41; after = _; leads = refl; follows = (pos 0, refl, inl (omega arith, omega arith, refl, refl)) },
  (
    _,
    record { opcode = 0x28; after = _; leads = refl; follows = (at_zero, _, refl, short 2 _ (omega arith), short 0 _ (omega arith)) },
    (
      _,
      record { opcode = 0x41; after = _; leads = refl; follows = (pos 0, refl, inl (omega arith, omega arith, refl, refl)) },
      (
        _,
        record { opcode = 0x41; after = _; leads = refl; follows = (pos 7, refl, inl (omega arith, omega arith, refl, refl)) },
        (_, record { opcode = 0x36; after = _; leads = refl; follows = (at_zero, _, refl, short 2 _ (omega arith), short 0 _ (omega arith)) }, refl),
      ),
    ),
  ),
)

body_spelled : TakesVec (TakesSizedBody One) (map body_of keeper.functions) code_contents []
body_spelled = record {
  mid = _;
  count = short 1 _ (omega arith);
  items = (
    [],
    record {
      contents = body_contents;
      sized = record { mid = _; count = short 14 _ (omega arith); items = refl };
      body = record {
        runs = [];
        mid = _;
        spelled = record { mid = _; count = short 0 _ (omega arith); items = refl };
        locals = refl;
        few = omega arith;
        code = code_spelled;
      };
    },
    refl,
  );
}

abbrev pub keeper_bytes : List ℕ
keeper_bytes = 0x00 ∷ 0x61 ∷ 0x73 ∷ 0x6D ∷ 0x01 ∷ 0x00 ∷ 0x00 ∷ 0x00 ∷ after_header

keeper_spelled : Spells One keeper_bytes keeper
keeper_spelled = record {
  after = after_header;
  sections = keeper_sections;
  header = refl;
  whole = keeper_follows;
  ordered = keeper_rises;
  fields = record {
    types = type_spelled;
    imports = refl;
    function_types = index_spelled;
    tables = table_spelled;
    memories = memory_spelled;
    globals = refl;
    exports = export_spelled;
    start = refl;
    element_segments = element_spelled;
    bodies = body_spelled;
    data_segments = refl;
    data_count = tt;
  };
}

-- ---- it is valid

typed : IsTypedFunction keeper function
typed = (
  refl,
  (
    type.I32 ∷ [],
    ([], refl, refl),
    (
      type.I32 ∷ [],
      ([], refl, refl),
      (
        type.I32 ∷ type.I32 ∷ [],
        (type.I32 ∷ [], refl, refl),
        (type.I32 ∷ type.I32 ∷ type.I32 ∷ [], (type.I32 ∷ type.I32 ∷ [], refl, refl), (type.I32 ∷ [], (type.I32 ∷ [], refl, refl), refl)),
      ),
    ),
  ),
)

element_segment : IsElementSegment keeper elements
element_segment = record { table = refl; offset = refl; functions = all_one (λ x. IsSome (callee_at keeper x)) 0 refl }

valid : IsValid keeper
valid = record {
  function_types = all_one (λ (t : FuncType). length t.results ≤ 1) f_type (omega arith);
  imports = All-nil _;
  functions = all_one (IsTypedFunction keeper) function typed;
  one_table = omega arith;
  table_types = all_one AreOrdered one_or_more tt;
  one_memory = omega arith;
  memory_types = all_one IsMemoryType one_or_more (record { least = omega arith; most = tt; ordered = tt });
  globals = All-nil _;
  element_segments = all_one (IsElementSegment keeper) elements element_segment;
  data_segments = All-nil _;
  start = tt;
  exports = all_one (λ (e : Export). IsDefined keeper e.desc) f_export refl;
  names_differ = λ i j d lt le. absurd (omega arith);
}

supported : IsSupported One keeper
supported = record { imports = refl; no_float = refl }

abbrev pub keeper_limits : LoadLimits
keeper_limits = record { pages = 1; elements = 1; frame = 8 }

pub keeper_loads : Loads One keeper_bytes keeper_limits (Ok keeper)
keeper_loads = record { tree = keeper; spells = keeper_spelled; answers = (record { runs = supported; valid = valid; late_is = refl }, refl) }
