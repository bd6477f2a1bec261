-- The types of instructions: WebAssembly Core Specification 1.0, section 3.3.
--
-- Lists of operands have the top first, and are those of the innermost block alone.
use Rattle.std.specs.Prelude.{◌≡◌, ℕ, ◌^◌, List, [], ◌∷◌, ◌++◌, Bool, false, Option, Some, None, slice_get, reverse, nat_le, if◌then◌else◌, option_map, option_to_list, IsSome, unwrap_or}
use Rattle.std.specs.Option.{option_map_or}
use Rattle.std.specs.List.{list_all}
use Rattle.std.specs.Int.{byte_len}
use Rattle.wasm_types.specs.declared.types.ValType.{ValType}
use Rattle.wasm_types.specs.declared.types.ValType.TheVariants.{I32, I64}
use Rattle.wasm_types.specs.declared.types.FuncType.{FuncType}
use Rattle.wasm_types.specs.declared.types.Limits.{Limits}
use Rattle.wasm_types.specs.declared.types.GlobalType.{GlobalType}
use Rattle.wasm_values.specs.declared.outcome.Val.{Val}
use Rattle.wasm_values.specs.declared.outcome.Val.TheVariants as val
use Rattle.wasm_types.specs.declared.instr.Width.{Width}
use Rattle.wasm_types.specs.declared.instr.Width.TheVariants.{W32, W64}
use Rattle.wasm_types.specs.declared.instr.MemArg.{MemArg}
use Rattle.wasm_types.specs.declared.instr.Instr.{Instr}
use Rattle.wasm_types.specs.declared.instr.Instr.TheVariants as instr
use Rattle.wasm_types.specs.SameTypes.{all_same}
use Rattle.wasm_types.specs.Tree.{Code, End, Plain, Block, Loop, If, Call, CallIndirect, FunctionTree, ModuleTree}
use Rattle.wasm_spec.specs.Operators.{int_width, pack_width}
use Rattle.wasm_spec.specs.Functions.{function_type}

-- section 2.3.2: a block has one result or none
abbrev pub result_types : Option ValType → List ValType
result_types t = option_to_list t

abbrev pub type_of : Val → ValType
type_of (val.I32 n) = I32
type_of (val.I64 n) = I64

-- the number of a value of an integer type, if it has that type
abbrev pub number : Width → Val → Option ℕ
number W32 (val.I32 n) = Some n
number W64 (val.I64 n) = Some n
number _ _ = None

abbrev pub integer_type : Width → ValType
integer_type W32 = I32
integer_type W64 = I64

abbrev pub global_type : ModuleTree → ℕ → Option GlobalType
global_type m x = option_map (λ g. g.global_type) (slice_get m.globals x)

-- section 3.1.1: what code may name. The innermost label stands first.
pub record Context : Type 0 where
  pub defined : ModuleTree
  pub locals : List ValType
  pub labels : List (List ValType)
  pub results : List ValType

-- the context of a block's inner code, with this label
abbrev pub under : List ValType → Context → Context
under label C = record { defined = C.defined; locals = C.locals; labels = label ∷ C.labels; results = C.results }

-- what an instruction does to the operands
pub data Rule : Type 0 where
  -- takes these operands, and gives these results
  Fixed : (takes gives : List ValType) → Rule
  -- takes these operands, and any others, and gives any results: nothing behind it is reached
  Diverges : (takes : List ValType) → Rule
  -- takes one operand of any type
  Drops : Rule
  -- takes a condition and two operands of one type, and gives one of that type
  Selects : Rule
  -- has no type here
  Wrong : Rule

-- what a number names is there, and the rule is that of what it names
abbrev pub named : {A : Type 0} → Option A → (A → Rule) → Rule
named o r = option_map_or r o Wrong

-- memory 0 or table 0 is there
abbrev pub needs_one : List Limits → Rule → Rule
needs_one [] r = Wrong
needs_one (_ ∷ _) r = r

-- section 3.3.4: an access of so many bytes to memory, whose alignment is at most these
abbrev pub access : List Limits → MemArg → ℕ → Rule → Rule
access memories arg bytes r = needs_one memories (if nat_le (2 ^ arg.align) bytes then r else Wrong)

-- section 3.3.5: whether this label is there, and of this type
abbrev pub is_label : List ValType → Option (List ValType) → Bool
is_label label o = option_map_or (λ other. all_same label other) o false

-- An instruction that holds no other and calls none. All labels of a table have the type of its last one, and only a variable
-- is set. Float instructions get no type: a module that has one is refused before it is typed.
abbrev pub rule : Context → Instr → Rule
rule C instr.Unreachable = Diverges []
rule C instr.Nop = Fixed [] []
rule C (instr.Br l) = named (slice_get C.labels l) (λ label. Diverges label)
rule C (instr.BrIf l) = named (slice_get C.labels l) (λ label. Fixed (I32 ∷ label) label)
rule C (instr.BrTable ls l) =
    named (slice_get C.labels l) (λ label. if list_all (λ x. is_label label (slice_get C.labels x)) ls then Diverges (I32 ∷ label) else Wrong)
rule C instr.Return = Diverges C.results
rule C instr.Drop = Drops
rule C instr.Select = Selects
rule C (instr.LocalGet x) = named (slice_get C.locals x) (λ t. Fixed [] (t ∷ []))
rule C (instr.LocalSet x) = named (slice_get C.locals x) (λ t. Fixed (t ∷ []) [])
rule C (instr.LocalTee x) = named (slice_get C.locals x) (λ t. Fixed (t ∷ []) (t ∷ []))
rule C (instr.GlobalGet x) = named (global_type C.defined x) (λ g. Fixed [] (g.value ∷ []))
rule C (instr.GlobalSet x) = named (global_type C.defined x) (λ g. if g.mutable then Fixed (g.value ∷ []) [] else Wrong)
rule C (instr.Load w arg) = access C.defined.memories arg (byte_len (int_width w)) (Fixed (I32 ∷ []) (integer_type w ∷ []))
rule C (instr.LoadPacked w p s arg) = access C.defined.memories arg (byte_len (pack_width p)) (Fixed (I32 ∷ []) (integer_type w ∷ []))
rule C (instr.Store w arg) = access C.defined.memories arg (byte_len (int_width w)) (Fixed (integer_type w ∷ I32 ∷ []) [])
rule C (instr.StorePacked w p arg) = access C.defined.memories arg (byte_len (pack_width p)) (Fixed (integer_type w ∷ I32 ∷ []) [])
rule C instr.MemorySize = needs_one C.defined.memories (Fixed [] (I32 ∷ []))
rule C instr.MemoryGrow = needs_one C.defined.memories (Fixed (I32 ∷ []) (I32 ∷ []))
rule C instr.MemoryCopy = needs_one C.defined.memories (Fixed (I32 ∷ I32 ∷ I32 ∷ []) [])
rule C instr.MemoryFill = needs_one C.defined.memories (Fixed (I32 ∷ I32 ∷ I32 ∷ []) [])
rule C (instr.Const v) = Fixed [] (type_of v ∷ [])
rule C (instr.Eqz w) = Fixed (integer_type w ∷ []) (I32 ∷ [])
rule C (instr.Compare w op) = Fixed (integer_type w ∷ integer_type w ∷ []) (I32 ∷ [])
rule C (instr.Unary w op) = Fixed (integer_type w ∷ []) (integer_type w ∷ [])
rule C (instr.Binary w op) = Fixed (integer_type w ∷ integer_type w ∷ []) (integer_type w ∷ [])
rule C instr.Wrap = Fixed (I64 ∷ []) (I32 ∷ [])
rule C (instr.Extend s) = Fixed (I32 ∷ []) (I64 ∷ [])
rule C instr.Float = Wrong

-- A function takes its arguments, the last one on the top. It has one result at most, so results are not turned round.
abbrev pub call_rule : Context → ℕ → Rule
call_rule C x = named (function_type C.defined x) (λ t. Fixed (reverse t.params) t.results)

abbrev pub call_indirect_rule : Context → ℕ → Rule
call_indirect_rule C x = needs_one C.defined.tables (named (slice_get C.defined.types x) (λ t. Fixed (I32 ∷ reverse t.params) t.results))

-- a rule takes these operands to those
abbrev pub Takes : Rule → List ValType → List ValType → Type 0
Takes (Fixed takes gives) before after = (below : List ValType) × (before ≡ takes ++ below) × (after ≡ gives ++ below)
Takes (Diverges takes) before after = (below : List ValType) × (before ≡ takes ++ below)
Takes Drops before after = (t : ValType) × (before ≡ t ∷ after)
Takes Selects before after = (t : ValType) × (below : List ValType) × (before ≡ I32 ∷ t ∷ t ∷ below) × (after ≡ t ∷ below)
Takes Wrong before after = ⊥

-- section 3.3.6: a sequence takes these operands to those. Inner code begins with none, and ends with exactly its block's results.
abbrev pub Typed : Context → Code → List ValType → List ValType → Type 0
Typed C End before after = before ≡ after
Typed C (Plain i rest) before after = (middle : List ValType) × Takes (rule C i) before middle × Typed C rest middle after
Typed C (Block t body rest) before after =
    Typed (under (result_types t) C) body [] (result_types t) × Typed C rest (result_types t ++ before) after
Typed C (Loop t body rest) before after =
    Typed (under [] C) body [] (result_types t) × Typed C rest (result_types t ++ before) after
Typed C (If t first second rest) before after =
    (below : List ValType) × (before ≡ I32 ∷ below) × Typed (under (result_types t) C) first [] (result_types t) × Typed (under (result_types t) C) second [] (result_types t)
    × Typed C rest (result_types t ++ below) after
Typed C (Call x rest) before after = (middle : List ValType) × Takes (call_rule C x) before middle × Typed C rest middle after
Typed C (CallIndirect x rest) before after = (middle : List ValType) × Takes (call_indirect_rule C x) before middle × Typed C rest middle after

-- section 3.4.1: functions. One whose type is not there is taken as one without parameters and results.
abbrev pub type_or_empty : Option FuncType → FuncType
type_or_empty o = unwrap_or o (record { params = []; results = [] })

abbrev pub own_type : ModuleTree → FunctionTree → FuncType
own_type m f = type_or_empty (slice_get m.types f.type_index)

-- Parameters and declared locals are numbered together. A body's own label is the outermost one.
abbrev pub body_context : ModuleTree → FunctionTree → Context
body_context m f = let t = own_type m f in record { defined = m; locals = t.params ++ f.locals; labels = t.results ∷ []; results = t.results }

-- its type is there, and its body takes nothing to its results
abbrev pub IsTypedFunction : ModuleTree → FunctionTree → Type 0
IsTypedFunction m f = IsSome (slice_get m.types f.type_index) × Typed (body_context m f) f.body [] (own_type m f).results
