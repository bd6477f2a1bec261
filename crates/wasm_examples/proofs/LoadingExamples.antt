-- Worked examples of floats, limits and segments.
use Rattle.std.proofs.Common.{ap, arith}
use Rattle.std.specs.Prelude.{◌≡◌, ℕ, [], ◌∷◌, Some, None, Ok, Err, true, false, replicate, codes, refl}
use Rattle.wasm_types.specs.declared.types.ValType.TheVariants as type
use Rattle.wasm_values.specs.declared.outcome.Val.TheVariants.{I64}
use Rattle.wasm_types.specs.declared.instr.Instr.TheVariants as instr
use Rattle.wasm_types.specs.Tree.{End, Block, Loop, If, Call, CallIndirect, ModuleTree}
use Rattle.wasm_types.specs.declared.module.ImportDesc.TheVariants as import
use Rattle.wasm_spec.specs.Validity.{IsSupported, uses_floats, offset_value}
use Rattle.wasm_spec.specs.Store.{Element, Data, first_misfit}
use Rattle.wasm_types.specs.declared.limits.LoadLimits.{LoadLimits}
use Rattle.wasm_values.specs.declared.profile.Profile.TheVariants.{One}
use Rattle.wasm_spec.specs.Loading.{Malformed, Unsupported, Invalid, Answers, Loads, OverLimit, Segment, Pages, Elements, Globals, Frame, late_refusal}
use Rattle.wasm_spec.proofs.AddModule.{add, add_bytes, add_spelled, add_valid, add_supported}
use Rattle.wasm_examples.proofs.GrammarExamples.{header_cut_off}
use Rattle.wasm_examples.proofs.Modules.{straight, i32_const, function_type, function_of, at_least, bare, empty_type}

abbrev usual : LoadLimits
usual = record { pages = 32; elements = 1024; frame = 1024 }

abbrev global_of : ℕ → ModuleTree
global_of n = record (bare [] [] []) { globals = replicate n (record { global_type = record { value = type.I32; mutable = false }; init = straight (i32_const 7 ∷ []) End }) }

-- the pages come before the elements, those before the segments
abbrev all_over : ModuleTree
all_over = record (global_of 1025) {
  memories = at_least 33 ∷ [];
  tables = at_least 1025 ∷ [];
  element_segments = record { table = 0; offset = straight (i32_const 1025 ∷ []) End; functions = [] } ∷ [];
}

pages_first : late_refusal usual all_over ≡ Some (OverLimit (record { which = Pages; value = 33; limit = 32 }))
pages_first = refl

elements_next : late_refusal usual (record all_over { memories = [] }) ≡ Some (OverLimit (record { which = Elements; value = 1025; limit = 1024 }))
elements_next = refl

globals_next : late_refusal usual (record all_over { memories = []; tables = [] }) ≡ Some (OverLimit (record { which = Globals; value = 1025; limit = 1024 }))
globals_next = refl

-- what is just within each limit is taken
at_the_limits : late_refusal usual (record (global_of 1024) { memories = at_least 32 ∷ []; tables = at_least 1024 ∷ [] }) ≡ None
at_the_limits = refl

-- a declared maximum above the limit isn't refused
maximum_above_the_limit : late_refusal usual (record (bare [] [] []) { memories = record { min = 1; max = Some 65536 } ∷ []; tables = record { min = 1; max = Some 4294967295 } ∷ [] }) ≡ None
maximum_above_the_limit = refl

-- frames of 2, 1 and 3
abbrev framed : ModuleTree
framed = record (bare (empty_type ∷ []) (function_of 0 (straight (i32_const 1 ∷ instr.Drop ∷ []) End) ∷ function_of 0 End ∷ function_of 0 (straight (i32_const 1 ∷ i32_const 1 ∷ instr.Drop ∷ instr.Drop ∷ []) End) ∷ []) []) {
  data_segments = record { memory = 0; offset = straight (i32_const 0 ∷ []) End; bytes = codes "a" } ∷ [];
}

frame_of_the_last : late_refusal (record { pages = 32; elements = 1024; frame = 2 }) framed ≡ Some (OverLimit (record { which = Frame 2; value = 3; limit = 2 }))
frame_of_the_last = refl

frame_of_the_first : late_refusal (record { pages = 32; elements = 1024; frame = 1 }) framed ≡ Some (OverLimit (record { which = Frame 0; value = 2; limit = 1 }))
frame_of_the_first = refl

-- imports have the first numbers, and need no frame
frame_behind_two_imports : late_refusal (record { pages = 32; elements = 1024; frame = 2 }) (record framed { imports = record { module_name = []; item_name = []; desc = import.Func 0 } ∷ record { module_name = []; item_name = []; desc = import.Func 0 } ∷ [] }) ≡ Some (OverLimit (record { which = Frame 4; value = 3; limit = 2 }))
frame_behind_two_imports = refl

frames_before_segments : late_refusal (record { pages = 32; elements = 1024; frame = 3 }) framed ≡ Some (Segment (record { which = Data 0; end = 1; size = 0 }))
frames_before_segments = refl

-- element segments before data segments, also where they are empty; an offset is read as an unsigned number
abbrev segments : ModuleTree
segments = record (bare [] [] []) {
  tables = at_least 3 ∷ [];
  memories = at_least 1 ∷ [];
  element_segments = record { table = 0; offset = straight (i32_const 3 ∷ []) End; functions = [] } ∷ record { table = 0; offset = straight (i32_const 4 ∷ []) End; functions = [] } ∷ [];
  data_segments = record { memory = 0; offset = straight (i32_const 4294967295 ∷ []) End; bytes = [] } ∷ [];
}

elements_before_data : first_misfit segments ≡ Some (record { which = Element 1; end = 4; size = 3 })
elements_before_data = refl

offset_unsigned : first_misfit (record segments { element_segments = [] }) ≡ Some (record { which = Data 0; end = 4294967295; size = 65536 })
offset_unsigned = refl

-- a segment may end exactly at the end
abbrev at_the_end : ModuleTree
at_the_end = record (bare [] [] []) {
  tables = at_least 3 ∷ [];
  memories = at_least 1 ∷ [];
  element_segments = record { table = 0; offset = straight (i32_const 2 ∷ []) End; functions = 0 ∷ [] } ∷ [];
  data_segments = record { memory = 0; offset = straight (i32_const 65534 ∷ []) End; bytes = codes "ab" } ∷ [];
}

segments_end_at_the_end : first_misfit at_the_end ≡ None
segments_end_at_the_end = refl

-- one element or one byte more
element_past_the_end : first_misfit (record at_the_end { tables = at_least 2 ∷ [] }) ≡ Some (record { which = Element 0; end = 3; size = 2 })
element_past_the_end = refl

byte_past_the_end : first_misfit (record at_the_end { data_segments = record { memory = 0; offset = straight (i32_const 65535 ∷ []) End; bytes = codes "ab" } ∷ [] }) ≡ Some (record { which = Data 0; end = 65537; size = 65536 })
byte_past_the_end = refl

-- of two misfits of one kind the first is named
first_of_two : first_misfit (record at_the_end { tables = []; data_segments = record { memory = 0; offset = straight (i32_const 65535 ∷ []) End; bytes = codes "ab" } ∷ [] }) ≡ Some (record { which = Element 0; end = 3; size = 0 })
first_of_two = refl

second_data_segment : first_misfit (record at_the_end { data_segments = record { memory = 0; offset = straight (i32_const 0 ∷ []) End; bytes = codes "ab" } ∷ record { memory = 0; offset = straight (i32_const 65536 ∷ []) End; bytes = codes "a" } ∷ [] }) ≡ Some (record { which = Data 1; end = 65537; size = 65536 })
second_data_segment = refl

-- offsets
offset_of_a_global : offset_value (global_of 1) (straight (instr.GlobalGet 0 ∷ []) End) ≡ Some 7
offset_of_a_global = refl

offset_past_the_globals : offset_value (global_of 1) (straight (instr.GlobalGet 1 ∷ []) End) ≡ None
offset_past_the_globals = refl

offset_of_64 : offset_value (global_of 1) (straight (instr.Const (I64 1) ∷ []) End) ≡ None
offset_of_64 = refl

offset_of_a_global_of_64 : offset_value (record (bare [] [] []) { globals = record { global_type = record { value = type.I64; mutable = false }; init = straight (instr.Const (I64 7) ∷ []) End } ∷ [] }) (straight (instr.GlobalGet 0 ∷ []) End) ≡ None
offset_of_a_global_of_64 = refl

offset_of_two : offset_value (global_of 1) (straight (i32_const 1 ∷ instr.Nop ∷ []) End) ≡ None
offset_of_two = refl

-- floats, wherever they stand
float_result : uses_floats (bare (function_type [] (type.F64 ∷ []) ∷ []) [] []) ≡ true
float_result = refl

float_block : uses_floats (bare [] (function_of 0 (Loop None (Block (Some type.F32) (straight (instr.Unreachable ∷ []) End) End) End) ∷ []) []) ≡ true
float_block = refl

float_arm : uses_floats (bare [] (function_of 0 (If None End (straight (instr.Float ∷ []) End) End) ∷ []) []) ≡ true
float_arm = refl

float_local : uses_floats (bare [] (record { type_index = 0; locals = type.I32 ∷ type.F64 ∷ []; body = End } ∷ []) []) ≡ true
float_local = refl

float_global : uses_floats (record (bare [] [] []) { globals = record { global_type = record { value = type.F64; mutable = false }; init = straight (instr.Float ∷ []) End } ∷ [] }) ≡ true
float_global = refl

float_offset : uses_floats (record (bare [] [] []) { data_segments = record { memory = 0; offset = straight (instr.Float ∷ []) End; bytes = [] } ∷ [] }) ≡ true
float_offset = refl

no_float : uses_floats all_over ≡ false
no_float = refl

float_parameter : uses_floats (bare (function_type (type.F32 ∷ []) [] ∷ []) [] []) ≡ true
float_parameter = refl

float_instruction : uses_floats (bare [] (function_of 0 (straight (instr.Float ∷ instr.Drop ∷ []) End) ∷ []) []) ≡ true
float_instruction = refl

float_loop_type : uses_floats (bare [] (function_of 0 (Loop (Some type.F64) (straight (instr.Unreachable ∷ []) End) End) ∷ []) []) ≡ true
float_loop_type = refl

float_if_type : uses_floats (bare [] (function_of 0 (If (Some type.F64) End End End) ∷ []) []) ≡ true
float_if_type = refl

float_first_arm : uses_floats (bare [] (function_of 0 (If None (straight (instr.Float ∷ []) End) End End) ∷ []) []) ≡ true
float_first_arm = refl

float_behind_a_call : uses_floats (bare [] (function_of 0 (Call 0 (CallIndirect 0 (straight (instr.Float ∷ []) End))) ∷ []) []) ≡ true
float_behind_a_call = refl

float_type_of_a_global : uses_floats (record (bare [] [] []) { globals = record { global_type = record { value = type.F32; mutable = false }; init = straight (i32_const 0 ∷ []) End } ∷ [] }) ≡ true
float_type_of_a_global = refl

float_init_of_a_global : uses_floats (record (bare [] [] []) { globals = record { global_type = record { value = type.I32; mutable = false }; init = straight (instr.Float ∷ []) End } ∷ [] }) ≡ true
float_init_of_a_global = refl

float_offset_of_elements : uses_floats (record (bare [] [] []) { element_segments = record { table = 0; offset = straight (instr.Float ∷ []) End; functions = [] } ∷ [] }) ≡ true
float_offset_of_elements = refl

float_behind_an_instruction : uses_floats (bare [] (function_of 0 (straight (instr.Nop ∷ instr.Float ∷ []) End) ∷ []) []) ≡ true
float_behind_an_instruction = refl

float_in_a_block : uses_floats (bare [] (function_of 0 (Block None (straight (instr.Float ∷ []) End) End) ∷ []) []) ≡ true
float_in_a_block = refl

float_behind_a_block : uses_floats (bare [] (function_of 0 (Block None End (straight (instr.Float ∷ []) End)) ∷ []) []) ≡ true
float_behind_a_block = refl

float_behind_a_loop : uses_floats (bare [] (function_of 0 (Loop None End (straight (instr.Float ∷ []) End)) ∷ []) []) ≡ true
float_behind_a_loop = refl

float_behind_an_if : uses_floats (bare [] (function_of 0 (If None End End (straight (instr.Float ∷ []) End)) ∷ []) []) ≡ true
float_behind_an_if = refl

no_float_of_64_bits : uses_floats (bare (function_type (type.I64 ∷ []) (type.I64 ∷ []) ∷ []) [] []) ≡ false
no_float_of_64_bits = refl

-- ---- what loading answers

add_is_loaded : Loads One add_bytes usual (Ok add)
add_is_loaded = record { tree = add; spells = add_spelled; answers = (record { runs = add_supported; valid = add_valid; late_is = refl }, refl) }

abbrev narrow : LoadLimits
narrow = record { pages = 32; elements = 1024; frame = 4 }

add_is_over_its_frame : Loads One add_bytes narrow (Err (OverLimit (record { which = Frame 0; value = 5; limit = 4 })))
add_is_over_its_frame = record { tree = add; spells = add_spelled; answers = record { runs = add_supported; valid = add_valid; late_is = refl } }

header_cut_off_is_malformed : Loads One (0x00 ∷ 0x61 ∷ 0x73 ∷ 0x6D ∷ 0x01 ∷ 0x00 ∷ 0x00 ∷ []) usual (Err Malformed)
header_cut_off_is_malformed = header_cut_off

-- it imports, has two memories, and asks for too many pages
abbrev bad_in_three_ways : ModuleTree
bad_in_three_ways = record (bare [] [] []) {
  imports = record { module_name = []; item_name = []; desc = import.Func 0 } ∷ [];
  memories = at_least 33 ∷ at_least 33 ∷ [];
}

unsupported_comes_first : Answers (IsSupported One) usual bad_in_three_ways (Err Unsupported)
unsupported_comes_first s = let e = s.imports in cc (e)

invalid_comes_next : Answers (IsSupported One) usual (record bad_in_three_ways { imports = [] }) (Err Invalid)
invalid_comes_next = (record { imports = refl; no_float = refl }, λ v. let few = v.one_memory in omega (arith, few))

-- what is no answer: another module; a module over a limit, or an invalid one, as it is; a refusal of what is supported or spelled
another_module_is_no_answer : Answers (IsSupported One) usual add (Ok all_over) → ⊥
another_module_is_no_answer h = let e = ap (λ (m : ModuleTree). m.memories) h.1 in cc (e)

over_its_frame_is_not_taken : Answers (IsSupported One) narrow add (Ok add) → ⊥
over_its_frame_is_not_taken h = let e = h.0.late_is in cc (e)

invalid_is_not_taken : Answers (IsSupported One) usual (record bad_in_three_ways { imports = [] }) (Ok (record bad_in_three_ways { imports = [] })) → ⊥
invalid_is_not_taken h = let few = h.0.valid.one_memory in omega (arith, few)

unsupported_is_not_invalid : Answers (IsSupported One) usual bad_in_three_ways (Err Invalid) → ⊥
unsupported_is_not_invalid h = let e = h.0.imports in cc (e)

supported_is_not_unsupported : Answers (IsSupported One) usual add (Err Unsupported) → ⊥
supported_is_not_unsupported h = h add_supported

valid_is_not_invalid : Answers (IsSupported One) usual add (Err Invalid) → ⊥
valid_is_not_invalid h = h.1 add_valid
