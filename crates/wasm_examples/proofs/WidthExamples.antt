-- No number of more than 32 bits, wherever the binary format asks for one of 32, and no constant that is too wide.
use Rattle.std.proofs.Common.{◌≡◌, ℕ, suc, length, List, [], ◌∷◌, map, Option, Some, None, inl, inr, subst, sym, arith}
use Rattle.wasm_values.specs.declared.profile.Profile.TheVariants.{One}
use Rattle.wasm_types.specs.declared.instr.Instr.{Instr}
use Rattle.wasm_types.specs.declared.module.LocalRun.{LocalRun}
use Rattle.wasm_types.specs.declared.module.ImportDesc.TheVariants as import
use Rattle.wasm_types.specs.declared.module.ExportDesc.TheVariants as export
use Rattle.wasm_types.specs.Tree.{End, Call, CallIndirect, FunctionTree, ElementTree, DataTree}
use Rattle.wasm_spec.specs.Numbers.{TakesUnsigned, TakesVec, TakesBytes}
use Rattle.wasm_spec.specs.TypeGrammar.{TakesRange}
use Rattle.wasm_spec.specs.InstrGrammar.{shape, TakesShape, TakesPrefixed, TakesCode, ByEnd}
use Rattle.wasm_spec.specs.Grammar.{TakesImportDesc, TakesExportDesc, TakesElement, TakesData, TakesLocalRun, SpellsStart, SpellsCount, SpellsFields}
use Rattle.wasm_examples.proofs.Modules.{bare}
use Rattle.wasm_examples.proofs.NumberExamples.{unused_bits_are_not_zero, goes_on_behind_five, sign_is_not_copied, sign_of_64_is_not_copied}

-- 2^32, in five bytes, and what stands behind it
abbrev too_great : List ℕ → List ℕ
too_great behind = 0x80 ∷ 0x80 ∷ 0x80 ∷ 0x80 ∷ 0x10 ∷ behind

-- bytes that are equal to these spell no number of 32 bits
refuted : (x : ℕ) (behind bytes rest : List ℕ) → bytes ≡ too_great behind → TakesUnsigned 32 x bytes rest → ⊥
refuted x behind bytes rest e h = unused_bits_are_not_zero x behind rest (subst (λ (l : List ℕ). TakesUnsigned 32 x l rest) e h)

-- a byte 0 spells no other number
more_than_none : (n : ℕ) (bytes rest : List ℕ) → TakesUnsigned 32 (suc n) (0 ∷ bytes) rest → ⊥
more_than_none n bytes rest (inl a) = let e = a.2 in absurd (omega (arith, e))
more_than_none n bytes rest (inr a) = absurd (omega (arith, a.0))

-- a byte 0 spells 0, and the number behind it is too great
behind_zero : (x y : ℕ) (behind mid rest : List ℕ) → TakesUnsigned 32 x (0 ∷ too_great behind) mid → TakesUnsigned 32 y mid rest → ⊥
behind_zero x y behind mid rest (inl a) h = refuted y behind mid rest a.3 h
behind_zero x y behind mid rest (inr a) h = absurd (omega (arith, a.0))

-- a byte 1 spells 1
no_fewer_than_one : (bytes rest : List ℕ) → TakesUnsigned 32 0 (1 ∷ bytes) rest → ⊥
no_fewer_than_one bytes rest (inl a) = let e = a.2 in absurd (omega (arith, e))
no_fewer_than_one bytes rest (inr a) = absurd (omega (arith, a.0))

behind_one_byte : (n : ℕ) (bytes rest : List ℕ) → TakesUnsigned 32 n (1 ∷ bytes) rest → rest ≡ bytes
behind_one_byte n bytes rest (inl a) = a.3
behind_one_byte n bytes rest (inr a) = absurd (omega (arith, a.0))

no_labels : (labels : List ℕ) (l : ℕ) (behind mid rest : List ℕ) → TakesVec (TakesUnsigned 32) labels (0 ∷ too_great behind) mid → TakesUnsigned 32 l mid rest → ⊥
no_labels [] l behind mid rest v h = behind_zero 0 l behind mid rest (subst (λ (k : List ℕ). TakesUnsigned 32 0 (0 ∷ too_great behind) k) (sym v.items) v.count) h
no_labels (x ∷ labels) l behind mid rest v h = more_than_none (length labels) (too_great behind) v.mid v.count

-- ---- whatever stands behind the number

count_of_a_vector : (xs behind rest : List ℕ) → TakesVec (TakesUnsigned 32) xs (too_great behind) rest → ⊥
count_of_a_vector xs behind rest h = unused_bits_are_not_zero _ behind h.mid h.count

count_of_bytes : (xs behind rest : List ℕ) → TakesBytes xs (too_great behind) rest → ⊥
count_of_bytes xs behind rest h = unused_bits_are_not_zero _ behind h.mid h.count

-- the one number of a vector
number_of_a_vector : (xs behind rest : List ℕ) → TakesVec (TakesUnsigned 32) xs (1 ∷ too_great behind) rest → ⊥
number_of_a_vector [] behind rest v = no_fewer_than_one (too_great behind) v.mid v.count
number_of_a_vector (x ∷ xs) behind rest v =
    refuted x behind v.mid v.items.0 (behind_one_byte (length (x ∷ xs)) (too_great behind) v.mid v.count) v.items.1

least_size : (low : ℕ) (behind rest : List ℕ) → TakesRange low None (0 ∷ too_great behind) rest → ⊥
least_size low behind rest h = refuted low behind h.0 rest (cc (h.1)) h.2

least_size_below_a_greatest : (low high : ℕ) (behind rest : List ℕ) → TakesRange low (Some high) (1 ∷ too_great behind) rest → ⊥
least_size_below_a_greatest low high behind rest h = refuted low behind h.0 h.2.0 (cc (h.1)) h.2.1

greatest_size : (low high : ℕ) (behind rest : List ℕ) → TakesRange low (Some high) (1 ∷ 0 ∷ too_great behind) rest → ⊥
greatest_size low high behind rest h =
    let after : h.0 ≡ 0 ∷ too_great behind = let e = h.1 in cc (e) in
    behind_zero low high behind h.2.0 rest (subst (λ (l : List ℕ). TakesUnsigned 32 low l h.2.0) after h.2.1) h.2.2

count_of_locals : (run : LocalRun) (behind rest : List ℕ) → TakesLocalRun run (too_great behind) rest → ⊥
count_of_locals run behind rest h = unused_bits_are_not_zero run.count behind h.mid h.count

start_function : (start : Option ℕ) → SpellsStart start (Some (record { id = 8; contents = too_great [] })) → ⊥
start_function start h = unused_bits_are_not_zero h.0 [] [] h.2

imported_function : (x : ℕ) (behind rest : List ℕ) → TakesImportDesc (import.Func x) (0 ∷ too_great behind) rest → ⊥
imported_function x behind rest h = refuted x behind h.0 rest (cc (h.1)) h.2

exported_function : (x : ℕ) (behind rest : List ℕ) → TakesExportDesc (export.Func x) (0 ∷ too_great behind) rest → ⊥
exported_function x behind rest h = refuted x behind h.0 rest (cc (h.1)) h.2

exported_table : (x : ℕ) (behind rest : List ℕ) → TakesExportDesc (export.Table x) (1 ∷ too_great behind) rest → ⊥
exported_table x behind rest h = refuted x behind h.0 rest (cc (h.1)) h.2

exported_memory : (x : ℕ) (behind rest : List ℕ) → TakesExportDesc (export.Memory x) (2 ∷ too_great behind) rest → ⊥
exported_memory x behind rest h = refuted x behind h.0 rest (cc (h.1)) h.2

exported_global : (x : ℕ) (behind rest : List ℕ) → TakesExportDesc (export.Global x) (3 ∷ too_great behind) rest → ⊥
exported_global x behind rest h = refuted x behind h.0 rest (cc (h.1)) h.2

table_of_a_segment : (s : ElementTree) (behind rest : List ℕ) → TakesElement One s (too_great behind) rest → ⊥
table_of_a_segment s behind rest h = unused_bits_are_not_zero s.table behind h.after_table h.table

-- a segment of one function, of which table and offset are spelled before
function_of_a_segment : (s : ElementTree) (bytes behind rest : List ℕ) → (h : TakesElement One s bytes rest) → h.after_offset ≡ 1 ∷ too_great behind → ⊥
function_of_a_segment s bytes behind rest h e = number_of_a_vector s.functions behind rest (subst (λ (l : List ℕ). TakesVec (TakesUnsigned 32) s.functions l rest) e h.functions)

-- of one function, whatever its body is
type_of_a_function : (xs : List FunctionTree) (bodies : List ℕ)
    → SpellsFields One (record { id = 3; contents = 1 ∷ too_great [] } ∷ record { id = 10; contents = bodies } ∷ []) (record (bare [] [] []) { functions = xs }) → ⊥
type_of_a_function xs bodies h = number_of_a_vector (map (λ (f : FunctionTree). f.type_index) xs) [] [] h.function_types

memory_of_a_segment : (s : DataTree) (behind rest : List ℕ) → TakesData One s (too_great behind) rest → ⊥
memory_of_a_segment s behind rest h = unused_bits_are_not_zero s.memory behind h.after_memory h.memory

index_of_a_local : (i : Instr) (behind rest : List ℕ) → TakesShape (shape One 0x20) i (too_great behind) rest → ⊥
unfolding shape
index_of_a_local i behind rest h = unused_bits_are_not_zero h.0 behind rest h.2

labels_of_a_table : (i : Instr) (behind rest : List ℕ) → TakesShape (shape One 0x0E) i (too_great behind) rest → ⊥
unfolding shape
labels_of_a_table i behind rest h = count_of_a_vector h.0 behind h.2 h.4

label_in_a_table : (i : Instr) (behind rest : List ℕ) → TakesShape (shape One 0x0E) i (1 ∷ too_great behind) rest → ⊥
unfolding shape
label_in_a_table i behind rest h = number_of_a_vector h.0 behind h.2 h.4

last_label_of_a_table : (i : Instr) (behind rest : List ℕ) → TakesShape (shape One 0x0E) i (0 ∷ too_great behind) rest → ⊥
unfolding shape
last_label_of_a_table i behind rest h = no_labels h.0 h.1 behind h.2 rest h.4 h.5

alignment : (i : Instr) (behind rest : List ℕ) → TakesShape (shape One 0x28) i (too_great behind) rest → ⊥
unfolding shape
alignment i behind rest h = unused_bits_are_not_zero h.0.align behind h.1 h.3

offset : (i : Instr) (behind rest : List ℕ) → TakesShape (shape One 0x28) i (0 ∷ too_great behind) rest → ⊥
unfolding shape
offset i behind rest h = behind_zero h.0.align h.0.offset behind h.1 rest h.3 h.4

called_function : (x : ℕ) (behind rest : List ℕ) → TakesCode One ByEnd (Call x End) (0x10 ∷ too_great behind) rest → ⊥
called_function x behind rest h = refuted x behind h.0 h.2 (cc (h.1)) h.3

type_of_a_call : (x : ℕ) (behind rest : List ℕ) → TakesCode One ByEnd (CallIndirect x End) (0x11 ∷ too_great behind) rest → ⊥
type_of_a_call x behind rest h = refuted x behind h.0 (0 ∷ h.2) (cc (h.1)) h.3

constant_of_33_bits : (i : Instr) (rest : List ℕ) → TakesShape (shape One 0x41) i (0x80 ∷ 0x80 ∷ 0x80 ∷ 0x80 ∷ 0x08 ∷ []) rest → ⊥
unfolding shape
constant_of_33_bits i rest h = sign_is_not_copied h.0 rest h.2

constant_of_65_bits : (i : Instr) (rest : List ℕ) → TakesShape (shape One 0x42) i (0x80 ∷ 0x80 ∷ 0x80 ∷ 0x80 ∷ 0x80 ∷ 0x80 ∷ 0x80 ∷ 0x80 ∷ 0x80 ∷ 0x01 ∷ []) rest → ⊥
unfolding shape
constant_of_65_bits i rest h = sign_of_64_is_not_copied h.0 rest h.2

number_behind_the_prefix : (i : Instr) (behind rest : List ℕ) → TakesPrefixed i (too_great behind) rest → ⊥
number_behind_the_prefix i behind rest h = unused_bits_are_not_zero h.number behind h.mid h.spelled

-- the number of a copy, padded to six bytes
padded_number_behind_the_prefix : (i : Instr) (behind rest : List ℕ) → TakesPrefixed i (0x8A ∷ 0x80 ∷ 0x80 ∷ 0x80 ∷ 0x80 ∷ behind) rest → ⊥
padded_number_behind_the_prefix i behind rest h = goes_on_behind_five 0x8A h.number behind h.mid (omega arith) h.spelled

count_of_data_segments : (n : ℕ) (behind : List ℕ) → SpellsCount n (Some (record { id = 12; contents = too_great behind })) → ⊥
count_of_data_segments n behind h = unused_bits_are_not_zero n behind [] h
