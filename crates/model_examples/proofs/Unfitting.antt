-- What does not fit a word.
use Rattle.std.proofs.Common.{◌≡◌, ℕ, true, false, true≢false, List, [], ◌∷◌, ◌++◌, refl, sym, ap, ◌∙◌, arith}
use Rattle.std.specs.Prelude.{Option, Some, None, replicate, slice_index}
use Rattle.wasm_values.specs.declared.outcome.Val.TheVariants.{I32}
use Rattle.wasm_spec.specs.Store.{minimum_of}
use Rattle.pool_core.specs.declared.words.State.TheVariants.{Cold, Warm, Awaiting}
use Rattle.memory_blocks.specs.Blocks.{is_marked}
use Rattle.pool_model.specs.Contents.{Named, MemoryContents, TableContents, memory_image, table_image, Matches}
use Rattle.pool_model.specs.declared.kinds.Kind.TheVariants.{Instance, Memory, Table}
use Rattle.model_examples.proofs.Scenes.{first, cold, unmarked}

-- ---- memories

-- a fresh memory of the first module, and ones that differ from it
abbrev pub fresh : MemoryContents
fresh = record { bytes = memory_image 1 (Some first); pages = 1; marks = false ∷ []; holds = Some first }

same_module : (m n : Named) → ◌≡◌ {A = Option Named} (Some m) (Some n) → m ≡ n
same_module m n e = cc

pub differ : ◌≡◌ {A = ℕ} 0 1 → ⊥
differ e = omega arith

abbrev image_at : ℕ → Named → ℕ
image_at i m = slice_index (memory_image 1 (Some m)) i

fresh_fits_warm : Matches 1 Memory Warm 0 fresh
fresh_fits_warm = (first, record { holds = refl; size = refl; bytes = refl; clean = unmarked }, refl)

-- a warm memory is clean
marked_is_not_warm : Matches 1 Memory Warm 0 (record fresh { marks = true ∷ [] }) → ⊥
marked_is_not_warm (m, f, tag) = true≢false (f.clean 0)

-- and has its module's bytes, size and tag
other_byte_is_not_warm : Matches 1 Memory Warm 0 (record fresh { bytes = 7 ∷ [] }) → ⊥
other_byte_is_not_warm (m, f, tag) = let is = same_module first m f.holds in
    let seven : 7 ≡ 0 = ap (λ (bytes : List ℕ). slice_index bytes 0) f.bytes ∙ ap (image_at 0) (sym is) in omega (arith, seven)

grown_is_not_warm : Matches 1 Memory Warm 0 (record fresh { pages = 0 }) → ⊥
grown_is_not_warm (m, f, tag) = let is = same_module first m f.holds in
    differ (f.size ∙ ap (λ (n : Named). minimum_of n.tree.memories) (sym is))

other_tag_is_not_warm : Matches 1 Memory Warm 1 fresh → ⊥
other_tag_is_not_warm (m, f, tag) = differ (ap (λ (n : Named). n.tag) (same_module first m f.holds) ∙ tag)

nobodys_is_not_warm : Matches 1 Memory Warm 0 (record fresh { holds = None }) → ⊥
nobodys_is_not_warm (m, f, tag) = let e = f.holds in cc

-- a block has 4,096 bytes
last_of_a_block : is_marked (true ∷ []) 4095 ≡ true
last_of_a_block = refl

first_of_the_next : is_marked (true ∷ []) 4096 ≡ false
first_of_the_next = refl

-- a memory that awaits a restore has its module's bytes outside the marked blocks, and its tag
abbrev touched : ℕ → MemoryContents
touched place = record fresh { bytes = replicate place 0 ++ 7 ∷ []; marks = true ∷ [] }

byte_outside_does_not_await : Matches 1 Memory Awaiting 0 (touched 4096) → ⊥
byte_outside_does_not_await (m, u, tag) = let is = same_module first m u.holds in
    let seven : 7 ≡ 0 = u.outside 4096 refl ∙ ap (image_at 4096) (sym is) in omega (arith, seven)

other_tag_does_not_await : Matches 1 Memory Awaiting 1 fresh → ⊥
other_tag_does_not_await (m, u, tag) = differ (ap (λ (n : Named). n.tag) (same_module first m u.holds) ∙ tag)

-- a cold memory has no module, no pages, no marks and no bytes but zeros
owned_is_not_cold : Matches 1 Memory Cold 0 (record (cold Memory) { holds = Some first }) → ⊥
owned_is_not_cold c = let e = c.holds in cc

sized_is_not_cold : Matches 1 Memory Cold 0 (record (cold Memory) { pages = 1 }) → ⊥
sized_is_not_cold c = differ (sym c.size)

marked_is_not_cold : Matches 1 Memory Cold 0 (record (cold Memory) { marks = true ∷ [] }) → ⊥
marked_is_not_cold c = true≢false (c.clean 0)

written_is_not_cold : Matches 1 Memory Cold 0 (record (cold Memory) { bytes = 1 ∷ [] }) → ⊥
written_is_not_cold c = differ (sym (ap (λ (bytes : List ℕ). slice_index bytes 0) c.bytes))

-- ---- tables and tickets

-- the elements are those of the module that it belongs to
abbrev pub table_with : List (Option ℕ) → TableContents
table_with entries = record { entries = entries; holds = Some first }

its_table_fits : Matches 1 Table Warm 0 (table_with (Some 0 ∷ [])) × Matches 1 Table Awaiting 0 (table_with (Some 0 ∷ []))
its_table_fits = ((first, (refl, refl), refl), (first, (refl, refl), refl))

empty_element : ◌≡◌ {A = List (Option ℕ)} (None ∷ []) (Some 0 ∷ []) → ⊥
empty_element e = cc

others_table_is_not_warm : Matches 1 Table Warm 0 (table_with (None ∷ [])) → ⊥
others_table_is_not_warm (m, t, tag) = empty_element (t.1 ∙ ap (λ (n : Named). table_image (Some n)) (sym (same_module first m t.0)))

others_table_does_not_await : Matches 1 Table Awaiting 0 (table_with (None ∷ [])) → ⊥
others_table_does_not_await (m, t, tag) = empty_element (t.1 ∙ ap (λ (n : Named). table_image (Some n)) (sym (same_module first m t.0)))

other_tags_table_is_not_warm : Matches 1 Table Warm 1 (table_with (Some 0 ∷ [])) → ⊥
other_tags_table_is_not_warm (m, t, tag) = differ (ap (λ (n : Named). n.tag) (same_module first m t.0) ∙ tag)

other_tags_table_does_not_await : Matches 1 Table Awaiting 1 (table_with (Some 0 ∷ [])) → ⊥
other_tags_table_does_not_await (m, t, tag) = differ (ap (λ (n : Named). n.tag) (same_module first m t.0) ∙ tag)

owned_table_is_not_cold : Matches 1 Table Cold 0 (record { entries = []; holds = Some first }) → ⊥
owned_table_is_not_cold c = let e = c.0 in cc

filled_table_is_not_cold : Matches 1 Table Cold 0 (record { entries = None ∷ []; holds = None }) → ⊥
filled_table_is_not_cold c = let e = c.1 in cc

-- a ticket is cold, and never anything else
ticket_is_cold : Matches 1 Instance Cold 0 (I32 7 ∷ [])
ticket_is_cold = tt

ticket_is_not_warm : Matches 1 Instance Warm 0 [] → ⊥
ticket_is_not_warm h = h

ticket_does_not_await : Matches 1 Instance Awaiting 0 [] → ⊥
ticket_does_not_await h = h
