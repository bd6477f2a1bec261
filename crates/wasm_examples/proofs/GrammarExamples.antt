-- Bytes that spell a module.
use Rattle.std.proofs.Common.{◌≡◌, ℕ, inl, inr, List, [], ◌∷◌, ◌++◌, length, map, false, refl, sym, ap, ◌∙◌, subst, arith}
use Rattle.std.specs.Prelude.{Option, Some, None, replicate, IsUtf8}
use Rattle.std.proofs.lemmas.List.{length-append}
use Rattle.std.specs.Str.{is_utf8, chars}
use Rattle.std.proofs.lemmas.Str.{is_utf8-from_IsUtf8}
use Rattle.wasm_values.specs.declared.profile.Profile.TheVariants.{One, Two, Three}
use Rattle.wasm_types.specs.declared.instr.Instr.{Instr}
use Rattle.wasm_types.specs.declared.instr.Instr.TheVariants as instr
use Rattle.wasm_types.specs.declared.module.LocalRun.{LocalRun}
use Rattle.wasm_types.specs.Tree.{Code, End, Plain, Block, Loop, If, Call, CallIndirect, ModuleTree}
use Rattle.wasm_spec.specs.Numbers.{TakesUnsigned, TakesEach, TakesVec, TakesBytes, TakesName}
use Rattle.wasm_spec.specs.InstrGrammar.{shape, PrefixedRow, TakesShape, TakesInstr, TakesPrefixed, TakesCode, ByEnd, prefixed_row}
use Rattle.wasm_spec.specs.Grammar.{Section, IsCustom, TakesSection, TakesLocalRun, Body, TakesBody, TakesSizedBody, SpellsVec, SpellsStart, SpellsCount, IsOrderedAbove, Spells}
use Rattle.wasm_spec.proofs.UnambiguousNumbers.{unsigned-unique, bytes-unique, vec-unique}

abbrev nothing : ModuleTree
nothing = record {
  types = [];
  imports = [];
  functions = [];
  tables = [];
  memories = [];
  globals = [];
  exports = [];
  start = None;
  element_segments = [];
  data_segments = [];
}

-- the header alone spells the module that has nothing
pub header_alone : Spells One (0x00 ∷ 0x61 ∷ 0x73 ∷ 0x6D ∷ 0x01 ∷ 0x00 ∷ 0x00 ∷ 0x00 ∷ []) nothing
header_alone = record {
  after = [];
  sections = [];
  header = refl;
  whole = refl;
  ordered = tt;
  fields = record {
    types = refl;
    imports = refl;
    function_types = refl;
    tables = refl;
    memories = refl;
    globals = refl;
    exports = refl;
    start = refl;
    element_segments = refl;
    bodies = refl;
    data_segments = refl;
    data_count = tt;
  };
}

-- ---- what is no module

pub header_cut_off : (m : ModuleTree) → Spells One (0x00 ∷ 0x61 ∷ 0x73 ∷ 0x6D ∷ 0x01 ∷ 0x00 ∷ 0x00 ∷ []) m → ⊥
header_cut_off m h = let e = h.header in cc (e)

other_version : (m : ModuleTree) → Spells One (0x00 ∷ 0x61 ∷ 0x73 ∷ 0x6D ∷ 0x02 ∷ 0x00 ∷ 0x00 ∷ 0x00 ∷ []) m → ⊥
other_version m h = let e = h.header in cc (e)

one_byte_is_no_section : (sections : List Section) → TakesEach TakesSection sections (5 ∷ []) [] → ⊥
one_byte_is_no_section [] h = cc (h)
one_byte_is_no_section (s ∷ sections) h =
    let first = h.1 in
    let after : first.after ≡ [] = let e = first.id in cc (e) in
    subst (λ (l : List ℕ). TakesUnsigned 32 (length s.contents) l first.sized.mid) after first.sized.count

byte_behind_the_last_section : (m : ModuleTree) → Spells One (0x00 ∷ 0x61 ∷ 0x73 ∷ 0x6D ∷ 0x01 ∷ 0x00 ∷ 0x00 ∷ 0x00 ∷ 5 ∷ []) m → ⊥
byte_behind_the_last_section m h =
    let after : h.after ≡ 5 ∷ [] = let e = h.header in cc (e) in
    one_byte_is_no_section h.sections (subst (λ (l : List ℕ). TakesEach TakesSection h.sections l []) after h.whole)

abbrev section_of : ℕ → Section
section_of id = record { id = id; contents = 0 ∷ [] }

-- in profile 1 no id above 11, none twice, none that falls; a custom section has a name
no_section_12 : IsOrderedAbove One 0 (section_of 12 ∷ []) → ⊥
no_section_12 (inl a) = absurd (omega (arith, a.0))
no_section_12 (inr a) = absurd (omega (arith, a.1))

no_section_twice : IsOrderedAbove One 0 (section_of 3 ∷ section_of 3 ∷ []) → ⊥
no_section_twice (inl a) = absurd (omega (arith, a.0))
no_section_twice (inr a) = elim (a.2) [ inl b ↦ absurd (omega (arith, b.0)) | inr b ↦ absurd (omega (arith, b.0)) ]

no_falling_section : IsOrderedAbove One 0 (section_of 11 ∷ section_of 10 ∷ []) → ⊥
no_falling_section (inl a) = absurd (omega (arith, a.0))
no_falling_section (inr a) = elim (a.2) [ inl b ↦ absurd (omega (arith, b.0)) | inr b ↦ absurd (omega (arith, b.0)) ]

-- a custom section between them leaves the order as it is
no_section_twice_around_a_custom_one : IsOrderedAbove One 0 (section_of 3 ∷ section_of 0 ∷ section_of 3 ∷ []) → ⊥
no_section_twice_around_a_custom_one (inl a) = absurd (omega (arith, a.0))
no_section_twice_around_a_custom_one (inr a) =
    elim (a.2) [ inl b ↦ elim (b.2) [ inl c ↦ absurd (omega (arith, c.0)) | inr c ↦ absurd (omega (arith, c.0)) ] | inr b ↦ absurd (omega (arith, b.0)) ]

no_custom_section_without_a_name : IsOrderedAbove One 0 (record { id = 0; contents = [] } ∷ []) → ⊥
no_custom_section_without_a_name (inl a) = a.1.spelled.spelled.count
no_custom_section_without_a_name (inr a) = absurd (omega (arith, a.0))

-- a custom section may have an empty name
no_name : (behind : List ℕ) → IsCustom (0 ∷ behind)
unfolding lib.Utf8.encode
no_name behind = record { name = []; after = behind; spelled = record { spelled = record { mid = behind; count = inl (omega arith, omega arith, refl, refl); items = refl }; utf8 = ([], (refl, refl)) } }

-- custom sections in a row leave the order as it is, and have what they like behind their names
custom_sections_in_a_row : IsOrderedAbove One 0 (section_of 0 ∷ section_of 1 ∷ section_of 0 ∷ section_of 0 ∷ section_of 0 ∷ section_of 2 ∷ record { id = 0; contents = 0 ∷ 5 ∷ [] } ∷ [])
custom_sections_in_a_row =
    inl (
      refl,
      no_name [],
      inr (
        omega arith,
        omega arith,
        inl (
          refl,
          no_name [],
          inl (
            refl,
            no_name [],
            inl (
              refl,
              no_name [],
              inr (omega arith, omega arith, inl (refl, no_name (5 ∷ []), tt)),
            ),
          ),
        ),
      ),
    )

-- without a section there are no items, and no start function
no_items_without_a_section : SpellsVec (TakesUnsigned 32) (5 ∷ []) None → ⊥
no_items_without_a_section h = cc (h)

no_start_without_a_section : SpellsStart (Some 5) None → ⊥
no_start_without_a_section h = cc (h)

-- in profile 2 the data count section stands between the sections 9 and 10
count_between_9_and_10 : IsOrderedAbove Two 0 (section_of 9 ∷ section_of 12 ∷ section_of 10 ∷ section_of 11 ∷ [])
count_between_9_and_10 = inr (omega arith, omega arith, inr (omega arith, omega arith, inr (omega arith, omega arith, inr (omega arith, omega arith, tt))))

no_count_before_9 : IsOrderedAbove Two 0 (section_of 12 ∷ section_of 9 ∷ []) → ⊥
no_count_before_9 (inl a) = absurd (omega (arith, a.0))
no_count_before_9 (inr a) = elim (a.2) [ inl b ↦ absurd (omega (arith, b.0)) | inr b ↦ absurd (omega (arith, b.0)) ]

no_count_behind_10 : IsOrderedAbove Two 0 (section_of 10 ∷ section_of 12 ∷ []) → ⊥
no_count_behind_10 (inl a) = absurd (omega (arith, a.0))
no_count_behind_10 (inr a) = elim (a.2) [ inl b ↦ absurd (omega (arith, b.0)) | inr b ↦ absurd (omega (arith, b.0)) ]

no_count_twice : IsOrderedAbove Two 0 (section_of 12 ∷ section_of 12 ∷ []) → ⊥
no_count_twice (inl a) = absurd (omega (arith, a.0))
no_count_twice (inr a) = elim (a.2) [ inl b ↦ absurd (omega (arith, b.0)) | inr b ↦ absurd (omega (arith, b.0)) ]

no_section_13 : IsOrderedAbove Two 0 (section_of 13 ∷ []) → ⊥
no_section_13 (inl a) = absurd (omega (arith, a.0))
no_section_13 (inr a) = absurd (omega (arith, a.1))

-- profile 3 has the same sections
count_in_profile_3 : IsOrderedAbove Three 0 (section_of 9 ∷ section_of 12 ∷ section_of 10 ∷ section_of 11 ∷ [])
count_in_profile_3 = inr (omega arith, omega arith, inr (omega arith, omega arith, inr (omega arith, omega arith, inr (omega arith, omega arith, tt))))

no_section_13_in_profile_3 : IsOrderedAbove Three 0 (section_of 13 ∷ []) → ⊥
no_section_13_in_profile_3 (inl a) = absurd (omega (arith, a.0))
no_section_13_in_profile_3 (inr a) = absurd (omega (arith, a.1))

-- it says how many data segments there are, in one number and nothing more
count_of_none : SpellsCount 0 (Some (section_of 12))
count_of_none = inl (omega arith, omega arith, refl, refl)

count_left_out : SpellsCount 1 None
count_left_out = tt

no_count_of_one : SpellsCount 1 (Some (section_of 12)) → ⊥
no_count_of_one h =
    let same = unsigned-unique 32 1 0 (0 ∷ []) [] [] h (inl (omega arith, omega arith, refl, refl)) in
    absurd (omega (arith, same.0))

no_count_with_a_byte_more : SpellsCount 0 (Some (record { id = 12; contents = 0 ∷ 0 ∷ [] })) → ⊥
no_count_with_a_byte_more h =
    let same = unsigned-unique 32 0 0 (0 ∷ 0 ∷ []) [] (0 ∷ []) h (inl (omega arith, omega arith, refl, refl)) in
    let e = same.1 in cc (e)

-- ---- the prefix

copy_is_spelled : TakesInstr Two instr.MemoryCopy (0xFC ∷ 0x0A ∷ 0x00 ∷ 0x00 ∷ 0x0B ∷ []) (0x0B ∷ [])
unfolding shape
copy_is_spelled = record {
  opcode = 0xFC;
  after = _;
  leads = refl;
  follows = record { number = 10; mid = _; row = record { number = 10; instr = instr.MemoryCopy; zeros = 2 }; spelled = inl (omega arith, omega arith, refl, refl); found = refl; is = refl; zeros = refl };
}

fill_is_spelled : TakesInstr Two instr.MemoryFill (0xFC ∷ 0x0B ∷ 0x00 ∷ []) []
unfolding shape
fill_is_spelled = record {
  opcode = 0xFC;
  after = _;
  leads = refl;
  follows = record { number = 11; mid = _; row = record { number = 11; instr = instr.MemoryFill; zeros = 1 }; spelled = inl (omega arith, omega arith, refl, refl); found = refl; is = refl; zeros = refl };
}

-- its number may be padded
padded_fill_is_spelled : TakesInstr Two instr.MemoryFill (0xFC ∷ 0x8B ∷ 0x00 ∷ 0x00 ∷ []) []
unfolding shape
padded_fill_is_spelled = record {
  opcode = 0xFC;
  after = _;
  leads = refl;
  follows = record { number = 11; mid = _; row = record { number = 11; instr = instr.MemoryFill; zeros = 1 }; spelled = inr (omega arith, omega arith, 0, inl (omega arith, omega arith, refl, refl), refl); found = refl; is = refl; zeros = refl };
}

no_copy_with_one_zero : (i : Instr) (rest : List ℕ) → TakesPrefixed i (0x0A ∷ 0x00 ∷ []) rest → ⊥
no_copy_with_one_zero i rest t =
    let same = unsigned-unique 32 t.number 10 (0x0A ∷ 0x00 ∷ []) t.mid (0x00 ∷ []) t.spelled (inl (omega arith, omega arith, refl, refl)) in
    let found : Some (record { number = 10; instr = instr.MemoryCopy; zeros = 2 }) ≡ Some t.row = ap prefixed_row (sym same.0) ∙ t.found in
    let row : record { number = 10; instr = instr.MemoryCopy; zeros = 2 } ≡ t.row = cc in
    let zeros : (0x00 ∷ []) ≡ replicate t.row.zeros 0 ++ rest = sym same.1 ∙ t.zeros in
    let two : (0x00 ∷ []) ≡ 0 ∷ 0 ∷ rest = zeros ∙ ap (λ (r : PrefixedRow). replicate r.zeros 0 ++ rest) (sym row) in
    cc (two)

-- no other number behind the prefix is one of an instruction
no_other_numbers : map prefixed_row (0 ∷ 1 ∷ 2 ∷ 3 ∷ 4 ∷ 5 ∷ 6 ∷ 7 ∷ 8 ∷ 9 ∷ 12 ∷ 13 ∷ 14 ∷ 15 ∷ 16 ∷ 17 ∷ []) ≡ replicate 16 None
no_other_numbers = refl

no_number_9 : (i : Instr) (rest : List ℕ) → TakesPrefixed i (0x09 ∷ 0x00 ∷ []) rest → ⊥
no_number_9 i rest t =
    let same = unsigned-unique 32 t.number 9 (0x09 ∷ 0x00 ∷ []) t.mid (0x00 ∷ []) t.spelled (inl (omega arith, omega arith, refl, refl)) in
    let found : None ≡ Some t.row = ap prefixed_row (sym same.0) ∙ t.found in
    cc (found)

-- ---- names, sizes and zeros

-- an f32.const of three bytes
float_cut_off : (i : Instr) (rest : List ℕ) → TakesShape (shape One 0x43) i (1 ∷ 2 ∷ 3 ∷ []) rest → ⊥
unfolding shape
float_cut_off i rest h = absurd (omega (arith, h.1))

-- the byte begins no character
no_text : IsUtf8 (0xFF ∷ []) → ⊥
unfolding is_utf8 chars
no_text utf8 = let e = is_utf8-from_IsUtf8 (0xFF ∷ []) utf8 in let no : is_utf8 (0xFF ∷ []) ≡ false = refl in cc (e, no)

name_that_is_no_text : (name rest : List ℕ) → TakesName name (1 ∷ 0xFF ∷ []) rest → ⊥
name_that_is_no_text name rest h =
    let spelled : TakesBytes (0xFF ∷ []) (1 ∷ 0xFF ∷ []) [] = record { mid = 0xFF ∷ []; count = inl (omega arith, omega arith, refl, refl); items = refl } in
    let same = bytes-unique name (0xFF ∷ []) (1 ∷ 0xFF ∷ []) rest [] h.spelled spelled in
    no_text (subst IsUtf8 same.0 h.utf8)

-- a byte behind the one index of a section, and behind the start function
more_in_a_section : (xs : List ℕ) → SpellsVec (TakesUnsigned 32) xs (Some (record { id = 3; contents = 1 ∷ 5 ∷ 6 ∷ [] })) → ⊥
more_in_a_section xs h =
    let five : TakesVec (TakesUnsigned 32) (5 ∷ []) (1 ∷ 5 ∷ 6 ∷ []) (6 ∷ []) = record { mid = 5 ∷ 6 ∷ []; count = inl (omega arith, omega arith, refl, refl); items = (6 ∷ [], inl (omega arith, omega arith, refl, refl), refl) } in
    let e = (vec-unique (TakesUnsigned 32) (unsigned-unique 32) xs (5 ∷ []) (1 ∷ 5 ∷ 6 ∷ []) [] (6 ∷ []) h five).1 in cc (e)

more_in_the_start_section : (start : Option ℕ) → SpellsStart start (Some (record { id = 8; contents = 5 ∷ 6 ∷ [] })) → ⊥
more_in_the_start_section start h =
    let e = (unsigned-unique 32 h.0 5 (5 ∷ 6 ∷ []) [] (6 ∷ []) h.2 (inl (omega arith, omega arith, refl, refl))).1 in cc (e)

-- a size of two, and one byte
section_cut_off : (s : Section) (rest : List ℕ) → TakesSection s (1 ∷ 2 ∷ 0 ∷ []) rest → ⊥
section_cut_off s rest h =
    let after : h.after ≡ 2 ∷ 0 ∷ [] = let e = h.id in cc (e) in
    let sized = subst (λ (l : List ℕ). TakesBytes s.contents l rest) after h.sized in
    let two = unsigned-unique 32 (length s.contents) 2 (2 ∷ 0 ∷ []) sized.mid (0 ∷ []) sized.count (inl (omega arith, omega arith, refl, refl)) in
    let one = ap length sized.items in
    let left = ap length two.1 in
    omega (arith, two.0, one, left, length-append s.contents rest)

-- no runs of locals, and what stands behind their count
pub no_runs : (runs : List LocalRun) (bytes mid : List ℕ) → TakesVec TakesLocalRun runs (0 ∷ bytes) mid → mid ≡ bytes
no_runs [] bytes mid v =
    let none = unsigned-unique 32 0 0 (0 ∷ bytes) v.mid bytes v.count (inl (omega arith, omega arith, refl, refl)) in
    v.items ∙ none.1
no_runs (run ∷ runs) bytes mid v =
    let none = unsigned-unique 32 (length (run ∷ runs)) 0 (0 ∷ bytes) v.mid bytes v.count (inl (omega arith, omega arith, refl, refl)) in
    absurd (omega (arith, none.0))

-- no opcode is that of an end
no_instruction : (i : Instr) (after rest : List ℕ) → TakesInstr One i (0x0B ∷ after) rest → ⊥
unfolding shape
no_instruction i after rest h =
    let is : h.opcode ≡ 0x0B = let e = h.leads in cc (e) in
    subst (λ (opcode : ℕ). TakesShape (shape One opcode) i h.after rest) is h.follows

-- code ends at its first end
ends_once : (c : Code) → TakesCode One ByEnd c (0x0B ∷ 0x0B ∷ []) [] → ⊥
ends_once End h = cc (h)
ends_once (Plain i more) h = no_instruction i (0x0B ∷ []) h.0 h.1
ends_once (Block t body more) h = let e = h.1 in cc (e)
ends_once (Loop t body more) h = let e = h.1 in cc (e)
ends_once (If t first second more) h = let e = h.1 in cc (e)
ends_once (Call x more) h = let e = h.1 in cc (e)
ends_once (CallIndirect x more) h = let e = h.1 in cc (e)

-- a byte behind the end of a body, within its size
more_in_a_body : (b : Body) (rest : List ℕ) → TakesSizedBody One b (3 ∷ 0 ∷ 0x0B ∷ 0x0B ∷ []) rest → ⊥
more_in_a_body b rest h =
    let three : TakesBytes (0 ∷ 0x0B ∷ 0x0B ∷ []) (3 ∷ 0 ∷ 0x0B ∷ 0x0B ∷ []) [] = record { mid = 0 ∷ 0x0B ∷ 0x0B ∷ []; count = inl (omega arith, omega arith, refl, refl); items = refl } in
    let contents = bytes-unique h.contents (0 ∷ 0x0B ∷ 0x0B ∷ []) (3 ∷ 0 ∷ 0x0B ∷ 0x0B ∷ []) rest [] h.sized three in
    let body = subst (λ (l : List ℕ). TakesBody One b l []) contents.0 h.body in
    ends_once b.code (subst (λ (l : List ℕ). TakesCode One ByEnd b.code l []) (no_runs body.runs (0x0B ∷ 0x0B ∷ []) body.mid body.spelled) body.code)

-- no code is spelled by no bytes
no_code : (c : Code) (rest : List ℕ) → TakesCode One ByEnd c [] rest → ⊥
no_code End rest h = cc (h)
no_code (Plain i more) rest h = let e = h.1.leads in cc (e)
no_code (Block t body more) rest h = let e = h.1 in cc (e)
no_code (Loop t body more) rest h = let e = h.1 in cc (e)
no_code (If t first second more) rest h = let e = h.1 in cc (e)
no_code (Call x more) rest h = let e = h.1 in cc (e)
no_code (CallIndirect x more) rest h = let e = h.1 in cc (e)

-- a size of one, and the body ends behind it
body_cut_off : (b : Body) (rest : List ℕ) → TakesSizedBody One b (1 ∷ 0 ∷ 0x0B ∷ []) rest → ⊥
body_cut_off b rest h =
    let one : TakesBytes (0 ∷ []) (1 ∷ 0 ∷ 0x0B ∷ []) (0x0B ∷ []) = record { mid = 0 ∷ 0x0B ∷ []; count = inl (omega arith, omega arith, refl, refl); items = refl } in
    let contents = bytes-unique h.contents (0 ∷ []) (1 ∷ 0 ∷ 0x0B ∷ []) rest (0x0B ∷ []) h.sized one in
    let body = subst (λ (l : List ℕ). TakesBody One b l []) contents.0 h.body in
    no_code b.code [] (subst (λ (l : List ℕ). TakesCode One ByEnd b.code l []) (no_runs body.runs [] body.mid body.spelled) body.code)

abbrev first_of_bytes : List ℕ → ℕ
first_of_bytes [] = 0
first_of_bytes (b ∷ bytes) = b

-- the zeros behind memory.size, memory.grow and call_indirect are a byte each, and no numbers
padded_zero_behind_memory_size : (i : Instr) (rest : List ℕ) → TakesShape (shape One 0x3F) i (0x80 ∷ 0x00 ∷ []) rest → ⊥
unfolding shape
padded_zero_behind_memory_size i rest h = let e = h.1 in absurd (omega (arith, ap (λ (l : List ℕ). first_of_bytes l) e))

padded_zero_behind_memory_grow : (i : Instr) (rest : List ℕ) → TakesShape (shape One 0x40) i (0x80 ∷ 0x00 ∷ []) rest → ⊥
unfolding shape
padded_zero_behind_memory_grow i rest h = let e = h.1 in absurd (omega (arith, ap (λ (l : List ℕ). first_of_bytes l) e))

padded_zero_behind_call_indirect : (x : ℕ) (rest : List ℕ) → TakesCode One ByEnd (CallIndirect x End) (0x11 ∷ 5 ∷ 0x80 ∷ 0x00 ∷ 0x0B ∷ []) rest → ⊥
padded_zero_behind_call_indirect x rest h =
    let after : h.0 ≡ 5 ∷ 0x80 ∷ 0x00 ∷ 0x0B ∷ [] = let e = h.1 in cc (e) in
    let taken = subst (λ (l : List ℕ). TakesUnsigned 32 x l (0 ∷ h.2)) after h.3 in
    let e = (unsigned-unique 32 x 5 (5 ∷ 0x80 ∷ 0x00 ∷ 0x0B ∷ []) (0 ∷ h.2) (0x80 ∷ 0x00 ∷ 0x0B ∷ []) taken (inl (omega arith, omega arith, refl, refl))).1 in
    absurd (omega (arith, ap (λ (l : List ℕ). first_of_bytes l) e))
