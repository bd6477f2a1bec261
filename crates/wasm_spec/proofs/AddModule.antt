-- A small module: its function `add`, exported under that name, gives the sum of two i32.
use Rattle.std.proofs.Common.{ℕ, ◌<◌, ◌≢◌, ◌≤◌, inl, inr, List, [], ◌∷◌, ◌++◌, length, map, refl, arith}
use Rattle.std.specs.Prelude.{None, Ok, All, AllPairs}
use Rattle.std.proofs.lemmas.List.Elements.{All-nil, All-cons}
use Rattle.wasm_types.specs.declared.limits.LoadLimits.{LoadLimits}
use Rattle.wasm_values.specs.declared.profile.Profile.TheVariants.{One}
use Rattle.wasm_types.specs.declared.types.ValType.TheVariants.{I32}
use Rattle.wasm_types.specs.declared.types.FuncType.{FuncType}
use Rattle.wasm_types.specs.declared.instr.Instr.TheVariants as instr
use Rattle.wasm_types.specs.declared.instr.Width.TheVariants.{W32}
use Rattle.wasm_types.specs.declared.instr.BinaryOp.TheVariants as binary
use Rattle.wasm_types.specs.declared.module.Export.{Export}
use Rattle.wasm_types.specs.declared.module.ExportDesc.TheVariants as desc
use Rattle.wasm_types.specs.Tree.{Code, End, Plain, FunctionTree, ModuleTree}
use Rattle.wasm_spec.specs.Numbers.{TakesUnsigned, TakesEach, TakesVec}
use Rattle.wasm_spec.specs.TypeGrammar.{TakesFuncType}
use Rattle.wasm_spec.specs.InstrGrammar.{shape, TakesExpr}
use Rattle.wasm_spec.specs.Grammar.{Section, TakesSection, IsOrderedAbove, TakesExport, TakesSizedBody, body_of, Spells}
use Rattle.wasm_spec.specs.Typing.{IsTypedFunction}
use Rattle.wasm_spec.specs.Validity.{IsValid, IsSupported, IsDefined}
use Rattle.wasm_spec.specs.Loading.{Loads}

abbrev sum_of_both : Code
sum_of_both = Plain (instr.LocalGet 0) (Plain (instr.LocalGet 1) (Plain (instr.Binary W32 binary.Add) End))

abbrev pub add_function : FunctionTree
add_function = record { type_index = 0; locals = []; body = sum_of_both }

abbrev pub add_type : FuncType
add_type = record { params = I32 ∷ I32 ∷ []; results = I32 ∷ [] }

abbrev pub add_export : Export
add_export = record { name = 0x61 ∷ 0x64 ∷ 0x64 ∷ []; desc = desc.Func 0 }

abbrev pub add : ModuleTree
add = record {
  types = add_type ∷ [];
  imports = [];
  functions = add_function ∷ [];
  tables = [];
  memories = [];
  globals = [];
  exports = add_export ∷ [];
  start = None;
  element_segments = [];
  data_segments = [];
}

-- ---- its bytes

-- a number below 128 in one byte
pub short : (n : ℕ) (rest : List ℕ) → n < 128 → TakesUnsigned 32 n (n ∷ rest) rest
short n rest h = inl (omega (arith, h), omega (arith, h), refl, refl)

-- a section of less than 128 bytes
pub section_is : (id : ℕ) (contents rest : List ℕ) → length contents < 128 → TakesSection (record { id = id; contents = contents }) (id ∷ length contents ∷ contents ++ rest) rest
section_is id contents rest h = record { after = _; id = refl; sized = record { mid = _; count = short (length contents) _ h; items = refl } }

abbrev type_contents : List ℕ
type_contents = 0x01 ∷ 0x60 ∷ 0x02 ∷ 0x7F ∷ 0x7F ∷ 0x01 ∷ 0x7F ∷ []

abbrev function_contents : List ℕ
function_contents = 0x01 ∷ 0x00 ∷ []

abbrev export_contents : List ℕ
export_contents = 0x01 ∷ 0x03 ∷ 0x61 ∷ 0x64 ∷ 0x64 ∷ 0x00 ∷ 0x00 ∷ []

abbrev body_contents : List ℕ
body_contents = 0x00 ∷ 0x20 ∷ 0x00 ∷ 0x20 ∷ 0x01 ∷ 0x6A ∷ 0x0B ∷ []

abbrev code_contents : List ℕ
code_contents = 0x01 ∷ 0x07 ∷ body_contents

-- what follows the header, and each section
abbrev after_exports : List ℕ
after_exports = 0x0A ∷ 0x09 ∷ code_contents

abbrev after_functions : List ℕ
after_functions = 0x07 ∷ 0x07 ∷ export_contents ++ after_exports

abbrev after_types : List ℕ
after_types = 0x03 ∷ 0x02 ∷ function_contents ++ after_functions

abbrev after_header : List ℕ
after_header = 0x01 ∷ 0x07 ∷ type_contents ++ after_types

abbrev sections : List Section
sections =
    record { id = 1; contents = type_contents } ∷ record { id = 3; contents = function_contents }
    ∷ record { id = 7; contents = export_contents } ∷ record { id = 10; contents = code_contents } ∷ []

sections_follow : TakesEach TakesSection sections after_header []
sections_follow = (
  after_types,
  section_is 1 type_contents after_types (omega arith),
  (
    after_functions,
    section_is 3 function_contents after_functions (omega arith),
    (
      after_exports,
      section_is 7 export_contents after_exports (omega arith),
      (
        [],
        section_is 10 code_contents [] (omega arith),
        refl,
      ),
    ),
  ),
)

sections_rise : IsOrderedAbove One 0 sections
sections_rise = inr (omega arith, omega arith, inr (omega arith, omega arith, inr (omega arith, omega arith, inr (omega arith, omega arith, tt))))

type_spelled : TakesVec TakesFuncType add.types type_contents []
type_spelled = record {
  mid = _;
  count = short 1 _ (omega arith);
  items = (
    [],
    record {
      after = _;
      mid = _;
      tag = refl;
      params = record { mid = _; count = short 2 _ (omega arith); items = (_, refl, (_, refl, refl)) };
      results = record { mid = _; count = short 1 _ (omega arith); items = (_, refl, refl) };
    },
    refl,
  );
}

index_spelled : TakesVec (TakesUnsigned 32) (0 ∷ []) function_contents []
index_spelled = record { mid = _; count = short 1 _ (omega arith); items = ([], short 0 [] (omega arith), refl) }

export_spelled : TakesVec TakesExport add.exports export_contents []
unfolding lib.Utf8.encode
export_spelled = record {
  mid = _;
  count = short 1 _ (omega arith);
  items = (
    [],
    record {
      mid = 0x00 ∷ 0x00 ∷ [];
      name = record { spelled = record { mid = _; count = short 3 _ (omega arith); items = refl }; utf8 = (97 ∷ 100 ∷ 100 ∷ [], (refl, refl)) };
      desc = (_, refl, short 0 [] (omega arith));
    },
    refl,
  );
}

code_spelled : TakesExpr One sum_of_both (0x20 ∷ 0x00 ∷ 0x20 ∷ 0x01 ∷ 0x6A ∷ 0x0B ∷ []) []
unfolding shape
code_spelled = (
  _,
  record { opcode = 0x20; after = _; leads = refl; follows = (0, refl, short 0 _ (omega arith)) },
  (
    _,
    record { opcode = 0x20; after = _; leads = refl; follows = (1, refl, short 1 _ (omega arith)) },
    (
      _,
      record { opcode = 0x6A; after = _; leads = refl; follows = (refl, refl) },
      refl,
    ),
  ),
)

body_spelled : TakesVec (TakesSizedBody One) (map body_of add.functions) code_contents []
body_spelled = record {
  mid = _;
  count = short 1 _ (omega arith);
  items = (
    [],
    record {
      contents = body_contents;
      sized = record { mid = _; count = short 7 _ (omega arith); items = refl };
      body = record {
        runs = [];
        mid = _;
        spelled = record { mid = _; count = short 0 _ (omega arith); items = refl };
        locals = refl;
        few = omega arith;
        code = code_spelled;
      };
    },
    refl,
  );
}

-- 41 bytes
abbrev pub add_bytes : List ℕ
add_bytes = 0x00 ∷ 0x61 ∷ 0x73 ∷ 0x6D ∷ 0x01 ∷ 0x00 ∷ 0x00 ∷ 0x00 ∷ after_header

pub add_spelled : Spells One add_bytes add
add_spelled = record {
  after = after_header;
  sections = sections;
  header = refl;
  whole = sections_follow;
  ordered = sections_rise;
  fields = record {
    types = type_spelled;
    imports = refl;
    function_types = index_spelled;
    tables = refl;
    memories = refl;
    globals = refl;
    exports = export_spelled;
    start = refl;
    element_segments = refl;
    bodies = body_spelled;
    data_segments = refl;
    data_count = tt;
  };
}

-- ---- it is valid

add_typed : IsTypedFunction add add_function
add_typed = (refl, (I32 ∷ [], ([], refl, refl), (I32 ∷ I32 ∷ [], (I32 ∷ [], refl, refl), (I32 ∷ [], ([], refl, refl), refl))))

pub one_pair : {X : Type 0} (R : X → X → Type 0) (x : X) → AllPairs R (x ∷ [])
one_pair R x i j d lt le = absurd (omega arith)

pub all_one : {X : Type 0} (P : X → Type 0) (x : X) → P x → All P (x ∷ [])
all_one P x p = All-cons P x [] p (All-nil P)

pub add_valid : IsValid add
add_valid = record {
  function_types = all_one (λ (t : FuncType). length t.results ≤ 1) add_type (omega arith);
  imports = All-nil _;
  functions = all_one (IsTypedFunction add) add_function add_typed;
  one_table = omega arith;
  table_types = All-nil _;
  one_memory = omega arith;
  memory_types = All-nil _;
  globals = All-nil _;
  element_segments = All-nil _;
  data_segments = All-nil _;
  start = tt;
  exports = all_one (λ (e : Export). IsDefined add e.desc) add_export refl;
  names_differ = one_pair (λ (a b : Export). a.name ≢ b.name) add_export;
}

pub add_supported : IsSupported One add
add_supported = record { imports = refl; no_float = refl }

abbrev pub add_limits : LoadLimits
add_limits = record { pages = 1; elements = 0; frame = 8 }

pub add_loads : Loads One add_bytes add_limits (Ok add)
add_loads = record { tree = add; spells = add_spelled; answers = (record { runs = add_supported; valid = add_valid; late_is = refl }, refl) }
