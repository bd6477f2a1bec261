-- What every slot keeps, and what preparing, clearing and a turn make of it.
use Rattle.std.proofs.Common.{◌≡◌, ℕ, ◌-◌, ◌*◌, ◌/◌, ◌≤◌, Bool, true, false, cond, List, [], ◌∷◌, ◌++◌, length, take, drop, refl, sym, ap, ◌∙◌, subst, arith, true≢false}
use Rattle.std.specs.Prelude.{Option, Some, None, ltb, map, replicate, slice_index}
use Rattle.std.proofs.lemmas.List.{length-map, length-take-le, take-append-drop, drop_at, take_at, nil_from_length}
use Rattle.std.proofs.lemmas.Bool.{ltb-false, eqb-true, ne_eqb}
use Rattle.wasm_values.specs.declared.outcome.Val.{Val}
use Rattle.wasm_types.specs.declared.types.Limits.{Limits}
use Rattle.wasm_types.specs.Tree.{ModuleTree}
use Rattle.wasm_spec.specs.Store.{Store, fresh_store, minimum_of, page_size, first_misfit}
use Rattle.wasm_spec.specs.Loading.{first_over}
use Rattle.wasm_spec.specs.Instances.{IsInstance, room_for}
use Rattle.wasm_spec.proofs.StoreSizes.{whole_pages, pages_within, minimum_within}
use Rattle.wasm_spec.proofs.Loading.{no_refusal, first_keeps}
use Rattle.wasm_spec.proofs.ResultLaws.{length-fresh_memory, length-fresh_table, fresh-instance}
use Rattle.memory_blocks.specs.Blocks.{KeepsUnmarked}
use Rattle.pool_model.specs.Contents.{Named, MemoryContents, TableContents, Contents, owner, belongs_to, filled, memory_image, table_image, rewritten_from, prepared, restored_for, restored, replaced, needs, shown_memory, shown_table, shown_store, turned, IsCold, HasImageOutside}
use Rattle.pool_model.specs.declared.kinds.Kind.{Kind}
use Rattle.pool_model.specs.declared.kinds.Kind.TheVariants.{Instance, Memory, Table}
use Rattle.pool_model.specs.PoolMachine.{World, IsModule, load_limits}
use Rattle.pool_model.specs.Worlds.{IsZeroPast, in_slots}
use Rattle.pool_model.proofs.Bytes.{filled-is}
pub use Rattle.pool_model.proofs.Bytes.{length-filled, filled-past, rewritten-is}

-- ---- whose contents they are

-- they belong to no module of this number
pub belongs_not : (m : Named) (holds : Option Named) → ((own : Named) → holds ≡ Some own → own.number ≡ m.number → ⊥) → belongs_to m holds ≡ false
belongs_not m None other = refl
belongs_not m (Some own) other = ne_eqb own.number m.number (other own refl)

-- ---- modules that were loaded

-- what loading says of a module's sizes
pub record Fits (pages : ℕ) (m : ModuleTree) : Type 0 where
  pub misfit : first_misfit m ≡ None
  pub size : minimum_of m.memories ≤ pages

pub fits : (w : World) (m : Named) → IsModule w m → Fits w.limits.pages m.tree
fits w m is = let l = is.loads in let tree : ModuleTree = l.tree in
    let same : m.tree ≡ tree = l.answers.1 in
    let n = no_refusal (first_over (load_limits w.limits) tree) (first_misfit tree) l.answers.0.late_is in
    let le : minimum_of tree.memories ≤ w.limits.pages = (first_keeps w.limits.pages (minimum_of tree.memories) _ _ n.0).0 in
    subst (Fits w.limits.pages) (sym same) (record { misfit = n.1; size = le })

-- ---- what every slot keeps

abbrev pub IsOwned : World → Option Named → Type 0
IsOwned w None = Unit {0}
IsOwned w (Some m) = IsModule w m

pub record IsKeptMemory (w : World) (x : MemoryContents) : Type 0 where
  pub room : length x.bytes ≡ w.limits.pages * page_size
  pub size : x.pages ≤ w.limits.pages
  pub outside : HasImageOutside (memory_image w.limits.pages x.holds) x.bytes x.marks
  pub owned : IsOwned w x.holds

abbrev pub IsKept : World → (k : Kind) → Contents k → Type 0
IsKept w Instance x = Unit {0}
IsKept w Memory x = IsKeptMemory w x
IsKept w Table x = IsOwned w x.holds × (x.entries ≡ table_image x.holds)

-- the image of a loaded module fills the memory
length-image : (w : World) (m : Named) → IsModule w m → length (memory_image w.limits.pages (Some m)) ≡ w.limits.pages * page_size
length-image w m is = let f = fits w m is in let long = length-fresh_memory m.tree f.misfit in let le = f.size in
    length-filled w.limits.pages (fresh_store m.tree).memory (minimum_within m.tree.memories w.limits.pages (length (fresh_store m.tree).memory) long le)

-- contents that belong to the module of this number belong to this module
own-is : (w : World) (m : Named) (own : Option Named) → IsModule w m → IsOwned w own → belongs_to m own ≡ true → own ≡ Some m
own-is w m None is owned h = absurd (true≢false (sym h))
own-is w m (Some o) is owned h = ap (λ (n : Named). Some n) (sym owned.on_shelf ∙ ap w.shelf (eqb-true o.number m.number h) ∙ is.on_shelf)

pub prepared-bytes : (w : World) (m : Named) (x : MemoryContents) → IsModule w m → IsKeptMemory w x → (prepared w.limits.pages m Memory x).bytes ≡ memory_image w.limits.pages (Some m)
prepared-bytes w m x is kept = let image : List ℕ = memory_image w.limits.pages (Some m) in
    let split : (b : Bool) → belongs_to m x.holds ≡ b → cond b (rewritten_from 0 x.marks image x.bytes) image ≡ image = elim [
      | true ↦ λ q. rewritten-is x.marks image x.bytes (kept.room ∙ sym (length-image w m is))
          (subst (λ (o : Option Named). HasImageOutside (memory_image w.limits.pages o) x.bytes x.marks) (own-is w m x.holds is kept.owned q) kept.outside)
      | false ↦ λ q. refl
    ] in split (belongs_to m x.holds) refl

pub prepared-entries : (w : World) (m : Named) (x : TableContents) → IsModule w m → IsKept w Table x → (prepared w.limits.pages m Table x).entries ≡ table_image (Some m)
prepared-entries w m x is kept =
    let split : (b : Bool) → belongs_to m x.holds ≡ b → cond b x.entries (table_image (Some m)) ≡ table_image (Some m) = elim [
      | true ↦ λ q. kept.1 ∙ ap table_image (own-is w m x.holds is kept.0 q)
      | false ↦ λ q. refl
    ] in split (belongs_to m x.holds) refl

pub prepared-kept : (w : World) (m : Named) → IsModule w m → (k : Kind) (x : Contents k) → IsKept w k x → IsKept w k (prepared w.limits.pages m k x)
prepared-kept w m is Instance x kept = tt
prepared-kept w m is Memory x kept = record {
  room = ap length (prepared-bytes w m x is kept) ∙ length-image w m is;
  size = (fits w m is).size;
  outside = λ i q. ap (λ (bytes : List ℕ). slice_index bytes i) (prepared-bytes w m x is kept);
  owned = is;
}
prepared-kept w m is Table x kept = (is, prepared-entries w m x is kept)

restored_for-kept : (w : World) (own : Option Named) → IsOwned w own → (k : Kind) (x : Contents k) → IsKept w k x → IsKept w k (restored_for w.limits.pages own k x)
restored_for-kept w None owned k x kept = kept
restored_for-kept w (Some m) owned k x kept = prepared-kept w m owned k x kept

pub restored-kept : (w : World) (k : Kind) (x : Contents k) → IsKept w k x → IsKept w k (restored w.limits.pages k x)
restored-kept w Instance x kept = tt
restored-kept w Memory x kept = restored_for-kept w x.holds kept.owned Memory x kept
restored-kept w Table x kept = restored_for-kept w x.holds kept.0 Table x kept

pub cold-kept : (w : World) (k : Kind) (x : Contents k) → IsCold w.limits.pages k x → IsKept w k x
cold-kept w Instance x cold = tt
cold-kept w Memory x cold = record {
  room = ap length cold.bytes ∙ length-filled w.limits.pages [] (omega arith);
  size = let none = cold.size in omega arith;
  outside = λ i q. ap (λ (bytes : List ℕ). slice_index bytes i) cold.bytes ∙ ap (λ (o : Option Named). slice_index (memory_image w.limits.pages o) i) (sym cold.holds);
  owned = subst (IsOwned w) (sym cold.holds) tt;
}
cold-kept w Table x cold = (subst (IsOwned w) (sym cold.0) tt, cold.1 ∙ ap table_image (sym cold.0))

pub replaced-kept : (w : World) (k : Kind) (x : Contents k) → IsCold w.limits.pages k x → (j : Kind) (y : Contents j) → IsKept w j y → IsKept w j (replaced k x j y)
replaced-kept w Instance x cold Instance y kept = tt
replaced-kept w Instance x cold Memory y kept = kept
replaced-kept w Instance x cold Table y kept = kept
replaced-kept w Memory x cold Instance y kept = tt
replaced-kept w Memory x cold Memory y kept = cold-kept w Memory x cold
replaced-kept w Memory x cold Table y kept = kept
replaced-kept w Table x cold Instance y kept = tt
replaced-kept w Table x cold Memory y kept = kept
replaced-kept w Table x cold Table y kept = cold-kept w Table x cold

-- ---- the store that a call has

-- only what the module needs counts
pub shown-same : (m : ModuleTree) (x y : (k : Kind) → Contents k) → ((k : Kind) → needs k m ≡ true → x k ≡ y k) → shown_store m x ≡ shown_store m y
shown-same m x y h =
    let memories : (b : Bool) → needs Memory m ≡ b → shown_memory b (x Memory) ≡ shown_memory b (y Memory) = elim [
      | true ↦ λ q. ap (shown_memory true) (h Memory q)
      | false ↦ λ q. refl
    ] in
    let tables : (b : Bool) → needs Table m ≡ b → shown_table b (x Table) ≡ shown_table b (y Table) = elim [
      | true ↦ λ q. ap (shown_table true) (h Table q)
      | false ↦ λ q. refl
    ] in
    let memory = memories (needs Memory m) refl in let table = tables (needs Table m) refl in let globals = h Instance refl in
    λ i. record { memory = memory i; table = table i; globals = take (length m.globals) (globals i); answer = [] }

none-needed : {A : Type 0} (xs : List A) → ltb 0 (length xs) ≡ false → xs ≡ []
none-needed xs h = let n = ltb-false 0 (length xs) h in nil_from_length xs (omega arith)

no-bytes : (ms : List Limits) (n size pages : ℕ) → ltb 0 (length ms) ≡ false → n ≡ size * page_size → size ≤ room_for ms pages → n ≡ 0
no-bytes ms n size pages h e le = let none : room_for ms pages ≡ 0 = ap (λ (l : List Limits). room_for l pages) (none-needed ms h) in omega arith

no-entries : (ts : List Limits) (n : ℕ) → ltb 0 (length ts) ≡ false → n ≡ minimum_of ts → n ≡ 0
no-entries ts n h e = e ∙ ap minimum_of (none-needed ts h)

pub fresh-table : (m : ModuleTree) → first_misfit m ≡ None → needs Table m ≡ false → (fresh_store m).table ≡ []
fresh-table m misfit h = nil_from_length (fresh_store m).table (no-entries m.tables (length (fresh_store m).table) h (length-fresh_table m misfit))

-- what shows a store of an instance: the memory up to its size, the table, and the first globals
pub shows-store : (w : World) (m : ModuleTree) (s : Store) (marks : List Bool) (x : (k : Kind) → Contents k) → first_misfit m ≡ None → IsInstance m w.limits.pages (fresh_store m).table s
    → shown_store m (λ k. turned w.limits.pages s marks k (x k)) ≡ in_slots s
shows-store w m s marks x misfit is =
    let pages : ℕ = w.limits.pages in
    let whole : length s.memory / page_size * page_size ≡ length s.memory = whole_size (length s.memory) is.size is.whole in
    let memories : (b : Bool) → needs Memory m ≡ b → shown_memory b (turned pages s marks Memory (x Memory)) ≡ s.memory = elim [
      | true ↦ λ q. take_at s.memory (replicate (pages * page_size - length s.memory) 0) (length s.memory / page_size * page_size) (sym whole)
      | false ↦ λ q. sym (nil_from_length s.memory (no-bytes m.memories (length s.memory) is.size pages q is.whole is.within))
    ] in
    let tables : (b : Bool) → needs Table m ≡ b → shown_table b (turned pages s marks Table (x Table)) ≡ s.table = elim [
      | true ↦ λ q. refl
      | false ↦ λ q. sym (is.table_is ∙ fresh-table m misfit q)
    ] in
    let memory = memories (needs Memory m) refl in let table = tables (needs Table m) refl in
    let globals = take_at s.globals (drop (length s.globals) (x Instance)) (length m.globals) is.globals_are in
    λ i. record { memory = memory i; table = table i; globals = globals i; answer = [] } where
      whole_size : (n size : ℕ) → n ≡ size * page_size → n / page_size * page_size ≡ n
      whole_size n size e = ap (λ (k : ℕ). k / page_size * page_size) e ∙ ap (λ (k : ℕ). k * page_size) (whole_pages size) ∙ sym e

-- prepared for a module, they show its fresh store
pub shows-fresh : (w : World) (m : Named) (x : (k : Kind) → Contents k) → IsModule w m → ((k : Kind) → IsKept w k (x k))
    → shown_store m.tree (λ k. prepared w.limits.pages m k (x k)) ≡ fresh_store m.tree
shows-fresh w m x is kept =
    let pages : ℕ = w.limits.pages in let fresh : Store = fresh_store m.tree in let f = fits w m is in
    let memories : (b : Bool) → needs Memory m.tree ≡ b → shown_memory b (prepared pages m Memory (x Memory)) ≡ fresh.memory = elim [
      | true ↦ λ q. ap (take (minimum_of m.tree.memories * page_size)) (prepared-bytes w m (x Memory) is (kept Memory))
          ∙ take_at fresh.memory (replicate (pages * page_size - length fresh.memory) 0) (minimum_of m.tree.memories * page_size) (length-fresh_memory m.tree f.misfit)
      | false ↦ λ q. sym (nil_from_length fresh.memory (let i = fresh-instance m.tree f.misfit pages f.size in no-bytes m.tree.memories (length fresh.memory) i.size pages q i.whole i.within))
    ] in
    let tables : (b : Bool) → needs Table m.tree ≡ b → shown_table b (prepared pages m Table (x Table)) ≡ fresh.table = elim [
      | true ↦ λ q. prepared-entries w m (x Table) is (kept Table)
      | false ↦ λ q. sym (fresh-table m.tree f.misfit q)
    ] in
    let memory = memories (needs Memory m.tree) refl in let table = tables (needs Table m.tree) refl in
    let globals = take_at fresh.globals (drop (length fresh.globals) (x Instance)) (length m.tree.globals) (length-map m.tree.globals _) in
    λ i. record { memory = memory i; table = table i; globals = globals i; answer = [] }

pub prepared-past : (w : World) (m : Named) (x : MemoryContents) → IsModule w m → IsKeptMemory w x → IsZeroPast (prepared w.limits.pages m Memory x)
prepared-past w m x is kept i le = let f = fits w m is in let long = length-fresh_memory m.tree f.misfit in
    ap (λ (bytes : List ℕ). slice_index bytes i) (prepared-bytes w m x is kept) ∙ filled-past w.limits.pages (fresh_store m.tree).memory i (subst (λ (n : ℕ). n ≤ i) (sym long) le)

pub turned-past : (pages : ℕ) (s : Store) (marks : List Bool) (x : MemoryContents) (size : ℕ) → length s.memory ≡ size * page_size → IsZeroPast (turned pages s marks Memory x)
turned-past pages s marks x size whole i le = filled-past pages s.memory i (past (length s.memory) size i whole le) where
  past : (n size i : ℕ) → n ≡ size * page_size → n / page_size * page_size ≤ i → n ≤ i
  past n size i e le = omega arith

room-le : (ms : List Limits) (pages n size : ℕ) → n ≡ size * page_size → size ≤ room_for ms pages → n ≤ pages * page_size
room-le [] pages n size e le = omega arith
room-le (l ∷ ms) pages n size e le = omega arith

size-le : (ms : List Limits) (pages n size : ℕ) → n ≡ size * page_size → size ≤ room_for ms pages → n / page_size ≤ pages
size-le [] pages n size e le = omega arith
size-le (l ∷ ms) pages n size e le = omega arith

-- a turn keeps what its slots keep
pub turned-kept : (w : World) (m : Named) (s : Store) (marks : List Bool) (x : (k : Kind) → Contents k) → IsInstance m.tree w.limits.pages (fresh_store m.tree).table s
    → (needs Memory m.tree ≡ true → KeepsUnmarked (x Memory).bytes (turned w.limits.pages s marks Memory (x Memory)).bytes (x Memory).marks marks)
    → (needs Table m.tree ≡ true → (x Table).holds ≡ Some m)
    → (k : Kind) → needs k m.tree ≡ true → IsKept w k (x k) → IsKept w k (turned w.limits.pages s marks k (x k))
turned-kept w m s marks x is marked owner Instance needed kept = tt
turned-kept w m s marks x is marked owner Memory needed kept = record {
  room = length-filled w.limits.pages s.memory (room-le m.tree.memories w.limits.pages (length s.memory) is.size is.whole is.within);
  size = size-le m.tree.memories w.limits.pages (length s.memory) is.size is.whole is.within;
  outside = λ i q. (marked needed).bytes i q ∙ kept.outside i ((marked needed).marks i q);
  owned = kept.owned;
}
turned-kept w m s marks x is marked owner Table needed kept = (kept.0, is.table_is ∙ ap table_image (sym (owner needed)))

-- ---- contents that do not change

size-is : (pages : ℕ) (bytes memory : List ℕ) → pages * page_size ≤ length bytes → take (pages * page_size) bytes ≡ memory → length memory / page_size ≡ pages
size-is pages bytes memory le is = let long : length memory ≡ pages * page_size = ap length (sym is) ∙ length-take-le (pages * page_size) bytes le in ap (λ (n : ℕ). n / page_size) long ∙ whole_pages pages

-- the size of a memory that shows these bytes
pub size-shown : (w : World) (m : ModuleTree) (x : (k : Kind) → Contents k) (s : Store) → needs Memory m ≡ true → IsKept w Memory (x Memory) → shown_store m x ≡ s → (x Memory).pages ≡ length s.memory / page_size
size-shown w m x s need kept shows =
    let is : take ((x Memory).pages * page_size) (x Memory).bytes ≡ s.memory = ap (λ (b : Bool). shown_memory b (x Memory)) (sym need) ∙ ap (λ (t : Store). t.memory) shows in
    sym (size-is (x Memory).pages (x Memory).bytes s.memory (pages_within (x Memory).pages w.limits.pages (length (x Memory).bytes) kept.room kept.size) is)

-- contents that show a store are those after a turn that left it and marked nothing
pub turned-still : (w : World) (m : ModuleTree) (s : Store) (marks : List Bool) (x : (k : Kind) → Contents k) → shown_store m x ≡ in_slots s → ((k : Kind) → IsKept w k (x k)) → length s.globals ≡ length m.globals
    → (needs Memory m ≡ true → IsZeroPast (x Memory)) → (needs Memory m ≡ true → marks ≡ (x Memory).marks) → (k : Kind) → needs k m ≡ true → turned w.limits.pages s marks k (x k) ≡ x k
turned-still w m s marks x shows kept globals past still Instance need =
    let is : take (length m.globals) (x Instance) ≡ s.globals = ap (λ (t : Store). t.globals) shows in
    ap (λ (n : ℕ). s.globals ++ drop n (x Instance)) globals ∙ ap (λ (g : List Val). g ++ drop (length m.globals) (x Instance)) (sym is) ∙ take-append-drop (length m.globals) (x Instance)
turned-still w m s marks x shows kept globals past still Memory need =
    let y : MemoryContents = x Memory in let k = kept Memory in
    let is : take (y.pages * page_size) y.bytes ≡ s.memory = ap (λ (b : Bool). shown_memory b y) (sym need) ∙ ap (λ (t : Store). t.memory) shows in
    let le : y.pages * page_size ≤ length y.bytes = let room = k.room in let size = k.size in pages_within y.pages w.limits.pages (length y.bytes) room size in
    let bytes : y.bytes ≡ filled w.limits.pages s.memory = filled-is w.limits.pages (y.pages * page_size) y.bytes s.memory k.room le is (past need) in
    let size = size-is y.pages y.bytes s.memory le is in
    let same = still need in
    λ i. record { bytes = sym bytes i; pages = size i; marks = same i; holds = y.holds }
turned-still w m s marks x shows kept globals past still Table need =
    let is : (x Table).entries ≡ s.table = ap (λ (b : Bool). shown_table b (x Table)) (sym need) ∙ ap (λ (t : Store). t.table) shows in
    λ i. record { entries = sym is i; holds = (x Table).holds }

-- of two turns the second says what is left
pub turned-twice : (pages : ℕ) (s t : Store) (between marks : List Bool) (k : Kind) (x : Contents k) → length s.globals ≡ length t.globals → turned pages t marks k (turned pages s between k x) ≡ turned pages t marks k x
turned-twice pages s t between marks Instance x e = ap (λ (rest : List Val). t.globals ++ rest) (drop_at s.globals (drop (length s.globals) x) (length t.globals) e ∙ ap (λ (n : ℕ). drop n x) e)
turned-twice pages s t between marks Memory x e = refl
turned-twice pages s t between marks Table x e = refl

-- ---- preparing twice

clean-clean : (marks : List Bool) → map (λ (b : Bool). false) (map (λ (b : Bool). false) marks) ≡ map (λ (b : Bool). false) marks
clean-clean [] = refl
clean-clean (b ∷ bs) = ap (λ (l : List Bool). false ∷ l) (clean-clean bs)

pub prepared-twice : (w : World) (m : Named) → IsModule w m → (k : Kind) (x : Contents k) → IsKept w k x → prepared w.limits.pages m k (prepared w.limits.pages m k x) ≡ prepared w.limits.pages m k x
prepared-twice w m is Instance x kept = let globals : List Val = (fresh_store m.tree).globals in
    ap (λ (rest : List Val). globals ++ rest) (drop_at globals (drop (length globals) x) (length globals) refl)
prepared-twice w m is Memory x kept = let once : MemoryContents = prepared w.limits.pages m Memory x in
    let bytes = prepared-bytes w m once is (prepared-kept w m is Memory x kept) ∙ sym (prepared-bytes w m x is kept) in
    let marks = clean-clean x.marks in
    λ i. record { bytes = bytes i; pages = minimum_of m.tree.memories; marks = marks i; holds = Some m }
prepared-twice w m is Table x kept = let once : TableContents = prepared w.limits.pages m Table x in
    let entries = prepared-entries w m once is (prepared-kept w m is Table x kept) ∙ sym (prepared-entries w m x is kept) in
    λ i. record { entries = entries i; holds = Some m }
