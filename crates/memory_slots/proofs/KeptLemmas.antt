-- What a memory keeps as it is made ready.
use Rattle.std.proofs.Common.{◌≡◌, ℕ, ◌-◌, ◌*◌, ◌/◌, ◌<◌, ◌≤◌, ⊎_elim, Bool, true, false, cond, List, [], ◌∷◌, length, take, refl, sym, ap, ◌∙◌, subst, arith}
use Rattle.std.specs.Prelude.{IfSome, Option, Some, None, map, replicate, slice_index, slice_index_or}
use Rattle.std.proofs.lemmas.Bool.{cases_lt, cond-false, false≢true}
use Rattle.std.proofs.lemmas.List.{get_or_past, get_or-replicate, length-map, length-replicate, take_at}
use Rattle.wasm_types.specs.declared.types.Limits.{Limits}
use Rattle.wasm_spec.specs.Store.{fresh_store, minimum_of, page_size}
use Rattle.wasm_spec.specs.Instances.{room_for}
use Rattle.wasm_spec.proofs.ResultLaws.{length-fresh_memory}
use Rattle.linear_memory.specs.declared.memory.Memory.{Memory}
use Rattle.linear_memory.specs.Bytes.{IsMemory, IsZeroed}
use Rattle.memory_blocks.specs.Blocks.{block_size}
use Rattle.pool_model.specs.declared.kinds.Kind.TheVariants as kind
use Rattle.pool_model.specs.Contents.{Named, MemoryContents, belongs_to, memory_image, rewritten_from, prepared, restored, restored_for, HasImageOutside, IsColdMemory, IsFreshMemory}
use Rattle.pool_model.proofs.Parts.{rewritten-is, filled-past}
use Rattle.pool_model.proofs.Images.{clean_is}
use Rattle.pool_limits.specs.declared.numbers.Numbers.{Numbers}
use Rattle.pool_limits.specs.Limits.{load_limits}
use Rattle.wasm_spec.specs.Within.{IsWithin}
use Rattle.memory_slots.specs.Kept.{IsInSlot, IsKeptMemory, contents_of}
use Rattle.memory_slots.specs.Lent.{IsReady}

-- bytes for as many pages, and as many marks
pub record HasRoomOf (x new : MemoryContents) : Type 0 where
  pub bytes : length new.bytes ≡ length x.bytes
  pub marks : length new.marks ≡ length x.marks

pub prepared_is : (config : Numbers) (m : Named) (x new : MemoryContents) → IsKeptMemory config x → IsFreshMemory config.pages new m → HasRoomOf x new
    → (belongs_to m x.holds ≡ true → x.holds ≡ Some m) → new ≡ prepared config.pages m kind.Memory x
prepared_is config m x new kept fresh room own =
    let image : List ℕ = memory_image config.pages (Some m) in
    let split : (b : Bool) → belongs_to m x.holds ≡ b → new.bytes ≡ cond b (rewritten_from 0 x.marks image x.bytes) image = elim [
      | true ↦ λ q. fresh.bytes
          ∙ sym (rewritten-is x.marks image x.bytes (sym room.bytes ∙ ap length fresh.bytes)
          (subst (λ (o : Option Named). HasImageOutside (memory_image config.pages o) x.bytes x.marks) (own q) kept.outside))
      | false ↦ λ q. fresh.bytes
    ] in
    let bytes = split (belongs_to m x.holds) refl in
    let pages = fresh.size in
    let marks = clean_is x.marks new.marks room.marks fresh.clean in
    let holds = fresh.holds in
    λ i. record { bytes = bytes i; pages = pages i; marks = marks i; holds = holds i }

-- all its bytes are its image's
pub whole_kept : (config : Numbers) (x new : MemoryContents) → IsKeptMemory config x → HasRoomOf x new → new.pages ≤ config.pages
    → new.bytes ≡ memory_image config.pages new.holds → IsKeptMemory config new
whole_kept config x new kept room le bytes = record {
  room = room.bytes ∙ kept.room;
  marked = room.bytes ∙ kept.marked ∙ ap (λ (n : ℕ). 4096 * n) (sym room.marks);
  few = kept.few;
  size = le;
  outside = λ i q. ap (λ (l : List ℕ). slice_index l i) bytes;
}

pub fresh_kept : (config : Numbers) (m : Named) (x new : MemoryContents) → IsKeptMemory config x → IsFreshMemory config.pages new m → HasRoomOf x new
    → minimum_of m.tree.memories ≤ config.pages → IsKeptMemory config new
fresh_kept config m x new kept fresh room le =
    whole_kept config x new kept room (subst (λ (n : ℕ). n ≤ config.pages) (sym fresh.size) le) (fresh.bytes ∙ ap (memory_image config.pages) (sym fresh.holds))

-- ---- fresh memories

-- the least size is within the room that there is
least_within : (ms : List Limits) (pages n : ℕ) → n ≡ minimum_of ms → minimum_of ms ≤ pages → n ≤ room_for ms pages
least_within [] pages n e le = omega arith
least_within (l ∷ ms) pages n e le = omega arith

module _ (config : Numbers) (m : Named) (x : MemoryContents) (within : IsWithin (load_limits config) m.tree) (fresh : IsFreshMemory config.pages x m) where
  pub fresh_shown : take (x.pages * page_size) x.bytes ≡ (fresh_store m.tree).memory
  fresh_shown =
      ap (λ (n : ℕ). take (n * page_size) x.bytes) fresh.size
      ∙ ap (take (minimum_of m.tree.memories * page_size)) fresh.bytes
      ∙ take_at (fresh_store m.tree).memory (replicate (config.pages * page_size - length (fresh_store m.tree).memory) 0) (minimum_of m.tree.memories * page_size) (length-fresh_memory m.tree within.segments)

  past : (i : ℕ) → x.pages * page_size ≤ i → length (fresh_store m.tree).memory ≤ i
  past i le = let long = length-fresh_memory m.tree within.segments in let size = fresh.size in past_least (length (fresh_store m.tree).memory) x.pages (minimum_of m.tree.memories) i long size le where
    past_least : (n pages least i : ℕ) → n ≡ least * page_size → pages ≡ least → pages * page_size ≤ i → n ≤ i
    past_least n pages least i e f le = omega arith

  pub fresh_ready : IsReady (room_for m.tree.memories config.pages) x
  fresh_ready = record {
    size = least_within m.tree.memories config.pages x.pages fresh.size within.pages;
    zeros = λ i le. ap (λ (l : List ℕ). slice_index l i) fresh.bytes ∙ filled-past config.pages (fresh_store m.tree).memory i (past i le);
  }

-- what was made fresh for its own module is restored
pub restored_is : (config : Numbers) (m : Named) (holds : Option Named) (old new : Memory) → holds ≡ Some m → IsKeptMemory config (contents_of old holds)
    → IsFreshMemory config.pages (contents_of new (Some m)) m → IsKeptMemory config (contents_of new (Some m)) → new.marks.items ≡ map (λ (marked : Bool). false) old.marks.items
    → contents_of new holds ≡ restored config.pages kind.Memory (contents_of old holds)
restored_is config m holds old new is kept fresh after marks =
    let Q : Option Named → Type 0 = λ h. IsKeptMemory config (contents_of old h) → contents_of new h ≡ restored config.pages kind.Memory (contents_of old h) in
    subst Q (sym is) (λ k. prepared_is config m (contents_of old (Some m)) (contents_of new (Some m)) k fresh
    (record { bytes = after.room ∙ sym k.room; marks = ap length marks ∙ length-map old.marks.items (λ (marked : Bool). false) }) (λ b. refl)) kept

-- ---- its own module or another

-- what was restored for its own module was prepared for it
pub own_prepared : (pages : ℕ) (m : Named) (x new : MemoryContents) → x.holds ≡ Some m → new ≡ restored pages kind.Memory x → new ≡ prepared pages m kind.Memory x
own_prepared pages m x new own is = is ∙ ap (λ (o : Option Named). restored_for pages o kind.Memory x) own

pub own_fresh : (pages : ℕ) (m : Named) (x new : MemoryContents) → x.holds ≡ Some m → IfSome x.holds (IsFreshMemory pages new) → IsFreshMemory pages new m
own_fresh pages m x new own fresh = subst (λ (o : Option Named). IfSome o (IsFreshMemory pages new)) own fresh

-- what was written over another module's memory was prepared
pub other_prepared : (pages : ℕ) (m : Named) (x new : MemoryContents) → belongs_to m x.holds ≡ false → IsFreshMemory pages new m → new.marks ≡ map (λ (marked : Bool). false) x.marks
    → new ≡ prepared pages m kind.Memory x
other_prepared pages m x new other fresh marks =
    let bytes = fresh.bytes ∙ sym (cond-false (belongs_to m x.holds) (rewritten_from 0 x.marks (memory_image pages (Some m)) x.bytes) (memory_image pages (Some m)) other) in
    let size = fresh.size in
    let holds = fresh.holds in
    λ i. record { bytes = bytes i; pages = size i; marks = marks i; holds = holds i }

-- ---- cold memories

all_false : (n k : ℕ) → slice_index_or (replicate n false) k false ≡ false
all_false n k = ⊎_elim (λ (lt : k < n). get_or-replicate n k false false lt)
    (λ (le : n ≤ k). get_or_past (replicate n false) k false (let long = length-replicate n false in omega arith)) (cases_lt k n)

zeroed_bytes : (pages : ℕ) (memory : Memory) → IsZeroed pages memory → memory.bytes.items ≡ memory_image pages None
zeroed_bytes pages memory zeroed =
    let whole : pages * page_size ≡ pages * page_size - 0 = omega arith in
    zeroed.bytes ∙ ap (λ (n : ℕ). replicate n 0) whole

-- a memory of zeros is cold
pub zeroed_cold : (pages : ℕ) (memory : Memory) → IsZeroed pages memory → IsColdMemory pages (contents_of memory None)
zeroed_cold pages memory zeroed = record {
  holds = refl;
  size = zeroed.size;
  bytes = zeroed_bytes pages memory zeroed;
  clean = λ k. ap (λ (l : List Bool). slice_index_or l k false) zeroed.marks ∙ all_false (pages * page_size / block_size) k;
}

-- it may lie in a slot, where no block of it was written
pub zeroed_in_slot : (config : Numbers) (memory : Memory) (written : List Bool) → config.pages ≤ 256 → IsZeroed config.pages memory → IsMemory config.pages memory
    → written ≡ replicate (length memory.marks.items) false → IsInSlot config written memory None
zeroed_in_slot config memory written few zeroed is none =
    let room = ap length zeroed.bytes ∙ length-replicate (config.pages * page_size) 0 in
    let marked = ap length zeroed.marks ∙ length-replicate (config.pages * page_size / block_size) false in
    let size = zeroed.size in
    record {
      image = record {
        kept = record {
          room = room;
          marked = omega arith;
          few = few;
          size = omega arith;
          outside = λ i q. ap (λ (l : List ℕ). slice_index l i) (zeroed_bytes config.pages memory zeroed);
        };
        blocks = ap length none ∙ length-replicate (length memory.marks.items) false;
        zeros = λ i lt free. filled-past config.pages [] i (omega arith);
        least = λ k is. absurd (false≢true (sym (ap (λ (l : List Bool). slice_index_or l k false) none ∙ all_false (length memory.marks.items) k) ∙ is));
      };
      accessible = is.accessible;
    }
