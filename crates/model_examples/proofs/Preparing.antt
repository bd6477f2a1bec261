-- What preparing, restoring, clearing and a turn make of contents, and what a call is shown_store of them.
use Rattle.std.proofs.Common.{◌≡◌, ℕ, Bool, true, false, List, [], ◌∷◌, ◌++◌, length, refl}
use Rattle.std.specs.Prelude.{Some, None, replicate, take}
use Rattle.wasm_types.specs.declared.types.ValType.TheVariants as type
use Rattle.wasm_values.specs.declared.outcome.Val.{Val}
use Rattle.wasm_values.specs.declared.outcome.Val.TheVariants.{I32, I64}
use Rattle.wasm_types.specs.declared.instr.Instr.TheVariants as instr
use Rattle.wasm_types.specs.Tree.{End, Plain, GlobalTree, ModuleTree}
use Rattle.wasm_spec.specs.Store.{Store}
use Rattle.wasm_spec.proofs.AddModule.{add}
use Rattle.pool_model.specs.Contents.{Named, MemoryContents, TableContents, Contents, owner, filled, memory_image, table_image, prepared, restored, replaced, needs, shown_store, turned}
use Rattle.pool_model.specs.declared.kinds.Kind.{Kind}
use Rattle.pool_model.specs.declared.kinds.Kind.TheVariants.{Instance, Memory, Table}
use Rattle.model_examples.proofs.NoCode.{no_code}
use Rattle.model_examples.proofs.Keeper.{keeper}

abbrev a_global : Val → GlobalTree
a_global v = record { global_type = record { value = type.I32; mutable = true }; init = Plain (instr.Const v) End }

-- the module with a memory of one page, a table of one element, and two globals
abbrev with_globals : ModuleTree
with_globals = record keeper { globals = a_global (I32 1) ∷ a_global (I64 2) ∷ [] }

abbrev numbered : (number tag : ℕ) → Named
numbered number tag = record { number = number; tag = tag; tree = with_globals; code = no_code }

-- two bytes of a memory of three pages that this module left so, with these marks
abbrev left_by : Named → List Bool → MemoryContents
left_by m marks = record { bytes = 9 ∷ 8 ∷ []; pages = 3; marks = marks; holds = Some m }

-- ---- preparing

-- its own memory has the marked bytes written anew, and no others; it has the least size again, and no marks
marked_bytes_are_written : prepared 1 (numbered 4 6) Memory (left_by (numbered 4 6) (true ∷ [])) ≡ record { bytes = 0 ∷ 0 ∷ []; pages = 1; marks = false ∷ []; holds = Some (numbered 4 6) }
marked_bytes_are_written = refl

other_bytes_stay : prepared 1 (numbered 4 6) Memory (left_by (numbered 4 6) (false ∷ true ∷ [])) ≡ record { bytes = 9 ∷ 8 ∷ []; pages = 1; marks = false ∷ false ∷ []; holds = Some (numbered 4 6) }
other_bytes_stay = refl

-- a module whose memory begins with two bytes
abbrev with_data : Named
with_data = record (numbered 4 6) {
  tree = record with_globals { data_segments = record { memory = 0; offset = Plain (instr.Const (I32 0)) End; bytes = 5 ∷ 6 ∷ [] } ∷ [] };
}

each_marked_byte_is_its_own : prepared 1 with_data Memory (left_by with_data (true ∷ [])) ≡ record { bytes = 5 ∷ 6 ∷ []; pages = 1; marks = false ∷ []; holds = Some with_data }
each_marked_byte_is_its_own = refl

-- the number tells whose it is, and the tag does not
anothers_is_written_whole : prepared 1 (numbered 4 6) Memory (left_by (numbered 5 6) (false ∷ [])) ≡ record { bytes = memory_image 1 (Some (numbered 4 6)); pages = 1; marks = false ∷ []; holds = Some (numbered 4 6) }
anothers_is_written_whole = refl

nobodys_is_written_whole : prepared 1 (numbered 4 6) Memory (record (left_by (numbered 4 6) (false ∷ [])) { holds = None }) ≡ record { bytes = memory_image 1 (Some (numbered 4 6)); pages = 1; marks = false ∷ []; holds = Some (numbered 4 6) }
nobodys_is_written_whole = refl

-- an image is filled up to the configured pages
image_of_two_pages : length (memory_image 2 (Some (numbered 4 6))) ≡ 131072
image_of_two_pages = refl

filled_bytes_come_first : take 3 (filled 1 (5 ∷ [])) ≡ 5 ∷ 0 ∷ 0 ∷ []
filled_bytes_come_first = refl

no_table_is_empty : table_image None ≡ []
no_table_is_empty = refl

own_table_stays : prepared 1 (numbered 4 6) Table (record { entries = None ∷ None ∷ []; holds = Some (numbered 4 6) }) ≡ record { entries = None ∷ None ∷ []; holds = Some (numbered 4 6) }
own_table_stays = refl

anothers_table_is_written : prepared 1 (numbered 4 6) Table (record { entries = None ∷ None ∷ []; holds = Some (numbered 5 6) }) ≡ record { entries = Some 0 ∷ []; holds = Some (numbered 4 6) }
anothers_table_is_written = refl

-- of a ticket the module's own globals are written
globals_are_written : prepared 1 (numbered 4 6) Instance (I32 7 ∷ I32 8 ∷ I32 9 ∷ []) ≡ I32 1 ∷ I64 2 ∷ I32 9 ∷ []
globals_are_written = refl

-- ---- restoring and clearing

restored_for_its_own : restored 1 Memory (left_by (numbered 4 6) (true ∷ [])) ≡ record { bytes = 0 ∷ 0 ∷ []; pages = 1; marks = false ∷ []; holds = Some (numbered 4 6) }
restored_for_its_own = refl

nobodys_is_not_restored : restored 1 Memory (record (left_by (numbered 4 6) (true ∷ [])) { holds = None }) ≡ record { bytes = 9 ∷ 8 ∷ []; pages = 3; marks = true ∷ []; holds = None }
nobodys_is_not_restored = refl

a_ticket_is_not_restored : restored 1 Instance (I32 7 ∷ []) ≡ I32 7 ∷ []
a_ticket_is_not_restored = refl

abbrev no_table : TableContents
no_table = record { entries = []; holds = None }

a_table_in_its_place : replaced Table no_table Table (record { entries = None ∷ []; holds = None }) ≡ no_table
a_table_in_its_place = refl

a_memory_in_its_place : replaced Memory (left_by (numbered 4 6) []) Memory (left_by (numbered 5 6) (true ∷ [])) ≡ left_by (numbered 4 6) []
a_memory_in_its_place = refl

a_ticket_in_its_place : replaced Instance (I32 7 ∷ []) Instance (I32 8 ∷ []) ≡ I32 7 ∷ []
a_ticket_in_its_place = refl

and_no_ticket : replaced Table no_table Instance (I32 7 ∷ []) ≡ I32 7 ∷ []
and_no_ticket = refl

-- ---- what a call has

its_kinds : needs Instance add ∷ needs Memory add ∷ needs Table add ∷ needs Memory keeper ∷ needs Table keeper ∷ [] ≡ true ∷ false ∷ false ∷ true ∷ true ∷ []
its_kinds = refl

-- slots of which the memory goes on past its one page, and the ticket past two globals
abbrev slots : ℕ → (k : Kind) → Contents k
slots pages Instance = I32 7 ∷ I32 8 ∷ I32 9 ∷ []
slots pages Memory = record { bytes = replicate 65536 3 ++ 5 ∷ []; pages = pages; marks = []; holds = None }
slots pages Table = record { entries = Some 3 ∷ []; holds = None }

shown_to_its_size : shown_store with_globals (slots 1) ≡ record { memory = replicate 65536 3; table = Some 3 ∷ []; globals = I32 7 ∷ I32 8 ∷ []; answer = [] }
shown_to_its_size = refl

shown_without_pages : shown_store with_globals (slots 0) ≡ record { memory = []; table = Some 3 ∷ []; globals = I32 7 ∷ I32 8 ∷ []; answer = [] }
shown_without_pages = refl

shown_of_no_memory_and_no_table : shown_store add (slots 1) ≡ record { memory = []; table = []; globals = []; answer = [] }
shown_of_no_memory_and_no_table = refl

-- ---- a turn

abbrev left : Store
left = record { memory = replicate 131072 0; table = None ∷ []; globals = I32 4 ∷ []; answer = [] }

turned_memory : turned 3 left (true ∷ []) Memory (left_by (numbered 4 6) []) ≡ record { bytes = filled 3 (replicate 131072 0); pages = 2; marks = true ∷ []; holds = Some (numbered 4 6) }
turned_memory = refl

turned_table : turned 3 left (true ∷ []) Table (record { entries = []; holds = Some (numbered 4 6) }) ≡ record { entries = None ∷ []; holds = Some (numbered 4 6) }
turned_table = refl

turned_ticket : turned 3 left (true ∷ []) Instance (I32 7 ∷ I32 8 ∷ []) ≡ I32 4 ∷ I32 8 ∷ []
turned_ticket = refl

-- ---- owners

owners : owner Instance (I32 7 ∷ []) ∷ owner Memory (left_by (numbered 4 6) []) ∷ owner Table (record no_table { holds = Some (numbered 5 6) }) ∷ [] ≡ None ∷ Some (numbered 4 6) ∷ Some (numbered 5 6) ∷ []
owners = refl
