-- A memory that was lent to a run.
use Rattle.std.proofs.Common.{◌≡◌, ℕ, ◌+◌, ◌-◌, ◌*◌, ◌/◌, ◌<◌, ◌≤◌, ⊎_elim, Bool, true, List, [], ◌∷◌, ◌++◌, length, take, drop, get_or, sym, ap, ◌∙◌, arith}
use Rattle.std.specs.Prelude.{Option, replicate, slice_index}
use Rattle.std.proofs.lemmas.Bool.{cases_lt}
use Rattle.std.proofs.lemmas.List.{ext_get_or, get_or-drop, get_or_past, get_or-replicate, length-drop, length-take, length-take-le, length-map, length-replicate, take-append-drop}
use Rattle.wasm_values.specs.declared.outcome.Val.{Val}
use Rattle.wasm_types.specs.declared.module.Module.{Module}
use Rattle.wasm_types.specs.Tree.{ModuleTree, global_tree, module_tree}
use Rattle.wasm_spec.specs.Store.{Store, page_size}
use Rattle.wasm_spec.specs.Typing.{type_of}
use Rattle.wasm_spec.specs.Instances.{room_for}
use Rattle.wasm_types.specs.declared.types.Limits.{Limits}
use Rattle.wasm_spec.proofs.StoreSizes.{whole_pages}
use Rattle.linear_memory.specs.declared.memory.Memory.{Memory}
use Rattle.linear_memory.specs.Bytes.{IsMemory, shown, size_of}
use Rattle.memory_blocks.specs.Blocks.{KeepsUnmarked}
use Rattle.linear_memory.specs.Marks.{HasSameRoom}
use Rattle.wasm_machine.specs.Lent.{own}
use Rattle.wasm_machine.specs.TypedConfiguration.{IsTypedStore}
use Rattle.pool_model.specs.declared.kinds.Kind.TheVariants as kind
use Rattle.pool_model.specs.Contents.{Named, MemoryContents, filled, needs, turned}
use Rattle.pool_model.specs.declared.kinds.Kind.{Kind}
use Rattle.pool_model.specs.declared.kinds.Kind.TheVariants.{Instance, Table}
use Rattle.pool_model.specs.Worlds.{IsZeroPast}
use Rattle.pool_model.proofs.Images.{filled-at}
use Rattle.pool_limits.specs.declared.numbers.Numbers.{Numbers}
use Rattle.memory_slots.specs.Kept.{IsKeptMemory, contents_of}
use Rattle.memory_slots.specs.Lent.{IsReady, parts}

-- ---- zeros past a place

zeros_from : (n : ℕ) (xs : List ℕ) → ((i : ℕ) → n ≤ i → slice_index xs i ≡ 0) → drop n xs ≡ replicate (length xs - n) 0
zeros_from n xs past = ext_get_or 0 (drop n xs) (replicate (length xs - n) 0) (length-drop n xs ∙ sym (length-replicate (length xs - n) 0)) (λ i lt.
    get_or-drop n xs i 0 ∙ past (n + i) (omega arith) ∙ sym (get_or-replicate (length xs - n) i 0 0 (let l = length-drop n xs in omega arith)))

zeros_past : (n : ℕ) (xs : List ℕ) → drop n xs ≡ replicate (length xs - n) 0 → (i : ℕ) → n ≤ i → slice_index xs i ≡ 0
zeros_past n xs is i le =
    let inside : i < length xs → get_or xs i 0 ≡ 0 = λ (lt : i < length xs).
    ap (λ (k : ℕ). get_or xs k 0) (omega arith) ∙ sym (get_or-drop n xs (i - n) 0)
    ∙ ap (λ (l : List ℕ). get_or l (i - n) 0) is ∙ get_or-replicate (length xs - n) (i - n) 0 0 (omega arith) in
    ⊎_elim inside (λ (past : length xs ≤ i). get_or_past xs i 0 past) (cases_lt i (length xs))

-- ---- before the run

pub room_within : (ms : List Limits) (pages most : ℕ) → pages ≤ most → room_for ms pages ≤ most
room_within [] pages most le = omega arith
room_within (l ∷ ms) pages most le = le

pub is_memory : (config : Numbers) (most : ℕ) (memory : Memory) (holds : Option Named) → IsKeptMemory config (contents_of memory holds) → most ≤ config.pages
    → IsReady most (contents_of memory holds) → size_of memory ≤ memory.bytes.accessible → IsMemory most memory
is_memory config most memory holds kept le ready there =
    let room = kept.room in let marked = kept.marked in let size = ready.size in record {
      bytes = omega arith;
      marks = omega arith;
      size = ready.size;
      zeros = zeros_from (size_of memory) memory.bytes.items ready.zeros;
      accessible = there;
    }

-- ---- after it

module _ (config : Numbers) (most : ℕ) (old new : Memory) (holds : Option Named) (kept : IsKeptMemory config (contents_of old holds)) (after : IsMemory most new) (room : HasSameRoom old new) where
  length-new : length new.bytes.items ≡ config.pages * page_size
  length-new = room.bytes ∙ kept.room

  pub zero_past : IsZeroPast (contents_of new holds)
  zero_past = zeros_past (size_of new) new.bytes.items after.zeros

  pub is_ready : IsReady most (contents_of new holds)
  is_ready = record { size = after.size; zeros = zero_past }

  within : size_of new ≤ length new.bytes.items
  within = let b = after.bytes in let s = after.size in omega arith

  length-shown : length (shown new) ≡ size_of new
  length-shown = length-take-le (size_of new) new.bytes.items within

  -- what is shown and zeros after it are all bytes
  pub filled_is : new.bytes.items ≡ filled config.pages (shown new)
  filled_is =
      sym (take-append-drop (size_of new) new.bytes.items)
      ∙ ap (λ (l : List ℕ). shown new ++ l) (after.zeros ∙ ap (λ (n : ℕ). replicate n 0) (let l = length-new in let s = length-shown in omega arith))

  shown_byte : (i : ℕ) → slice_index new.bytes.items i ≡ slice_index (shown new) i
  shown_byte i = ap (λ (l : List ℕ). slice_index l i) filled_is ∙ filled-at config.pages (shown new) i

  pub is_kept : most ≤ config.pages → KeepsUnmarked old.bytes.items (shown new) old.marks.items new.marks.items → IsKeptMemory config (contents_of new holds)
  is_kept le unmarked = record {
    room = length-new;
    marked = room.bytes ∙ kept.marked ∙ ap (λ (n : ℕ). 4096 * n) (sym room.marks);
    few = kept.few;
    size = let s = after.size in omega arith;
    outside = λ i q. shown_byte i ∙ unmarked.bytes i q ∙ kept.outside i (unmarked.marks i q);
  }

  pages_are : new.pages ≡ length (shown new) / page_size
  pages_are = sym (ap (λ (n : ℕ). n / page_size) length-shown ∙ whole_pages new.pages)

  pub memory_left : (s : Store) → s.memory ≡ shown new → contents_of new holds ≡ turned config.pages s new.marks.items kind.Memory (contents_of old holds)
  memory_left s is =
      let bytes = filled_is ∙ ap (filled config.pages) (sym is) in
      let pages = pages_are ∙ ap (λ (l : List ℕ). length l / page_size) (sym is) in
      λ i. record { bytes = bytes i; pages = pages i; marks = new.marks.items; holds = holds }

-- ---- the globals

pub globals_left : (n : ℕ) (old new : List Val) → n ≤ length old → length new ≡ length old → drop n new ≡ drop n old → new ≡ take n new ++ drop (length (take n new)) old
globals_left n old new le long rest =
    sym (take-append-drop n new)
    ∙ ap (λ (l : List Val). take n new ++ l) (rest ∙ ap (λ (k : ℕ). drop k old) (sym (length-take-le n new (omega arith))))

-- the globals that are lent are at least as many as the module has
pub globals_there : (m : Module) (s : Store) (globals : List Val) → s.globals ≡ own m globals → IsTypedStore m s → length m.globals ≤ length globals
globals_there m s globals is typed =
    let n : ℕ = length m.globals in
    let all : length (take n globals) ≡ n =
    ap length (sym is) ∙ sym (length-map s.globals type_of) ∙ ap length typed.globals ∙ length-map (module_tree m).globals _ ∙ length-map m.globals global_tree in
    let least = length-take n globals in omega arith

-- ---- all parts

-- the parts after a run are those before it as its store leaves them
pub parts_left : (pages : ℕ) (m : ModuleTree) (s : Store) (x y : MemoryContents) (owner : Option Named) (table : List (Option ℕ)) (globals new : List Val)
    → y ≡ turned pages s y.marks kind.Memory x → s.table ≡ table → new ≡ s.globals ++ drop (length s.globals) globals
    → (k : Kind) → needs k m ≡ true → parts y owner table new k ≡ turned pages s y.marks k (parts x owner table globals k)
parts_left pages m s x y owner table globals new memory entries values Instance needed = values
parts_left pages m s x y owner table globals new memory entries values kind.Memory needed = memory
parts_left pages m s x y owner table globals new memory entries values Table needed = λ i. record { entries = sym entries i; holds = owner }

-- what a run left unmarked, in the words of pools
pub marks_are : (pages : ℕ) (old shown : List ℕ) (before after : List Bool) → KeepsUnmarked old shown before after → KeepsUnmarked old (filled pages shown) before after
marks_are pages old shown before after keeps = record { bytes = λ i q. filled-at pages shown i ∙ keeps.bytes i q; marks = keeps.marks }
