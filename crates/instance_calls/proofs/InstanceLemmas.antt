-- The store that the slots of an instance show.
use Rattle.std.proofs.Common.{◌≡◌, ◌≢◌, ℕ, ◌*◌, List, [], ◌∷◌, ◌++◌, Option, Some, None, Bool, true, false, length, take, drop, nat_lt, refl, sym, ap, ◌∙◌, subst, arith}
use Rattle.std.specs.Prelude.{is_some}
use Rattle.std.proofs.Math.Seq.{take-append_seam}
use Rattle.std.proofs.lemmas.Bool.{lt-ltb}
use Rattle.std.proofs.lemmas.List.{length-map, length-take, nil_from_length}
use Rattle.wasm_values.specs.declared.outcome.Val.{Val}
use Rattle.wasm_types.specs.declared.module.Module.{Module}
use Rattle.wasm_types.specs.Tree.{ModuleTree, global_tree, module_tree}
use Rattle.wasm_spec.specs.Store.{Store, fresh_store, memory_size, minimum_of, page_size, table_size}
use Rattle.machine_steps.specs.Lent.{answer_set}
use Rattle.wasm_spec.specs.Result.{CallResult}
use Rattle.linear_memory.specs.declared.memory.Memory.{Memory as LinearMemory}
use Rattle.wasm_machine.specs.Lent.{lent_store, own, others}
use Rattle.wasm_machine.specs.TypedConfiguration.{IsTypedStore}
use Rattle.slot_words.specs.declared.leases.Lease.{Lease}
use Rattle.pool_limits.specs.declared.numbers.Numbers.{Numbers}
use Rattle.pool_model.specs.declared.kinds.Kind.TheVariants as kind
use Rattle.pool_model.specs.Contents.{Contents, MemoryContents, Named, TableContents, needs, shown_store, shown_memory, shown_table, turned}
use Rattle.pool_model.specs.declared.kinds.Kind.{Kind}
use Rattle.pool_model.specs.declared.kinds.Kind.TheVariants.{Memory, Table, Instance}
use Rattle.pool_model.specs.Runs.{LeavesFrom}
use Rattle.memory_slots.specs.Lent.{parts, store_in}
use Rattle.memory_slots.proofs.LentLemmas.{globals_left, globals_there}
use Rattle.instance_calls.specs.Instances.{HasFreshMemory, IsFreshTable, bare_store}
use Rattle.instance_calls.specs.Parts.{memory_in, table_in}

pub has_some : {A : Type 0} (xs : List A) → xs ≢ [] → nat_lt 0 (length xs) ≡ true
has_some [] some = absurd (some refl)
has_some (x ∷ xs) some = lt-ltb 0 (length (x ∷ xs)) (omega arith)

pub has_none : {A : Type 0} (xs : List A) → xs ≡ [] → nat_lt 0 (length xs) ≡ false
has_none {A = A} xs none = ap (λ (ys : List A). nat_lt 0 (length ys)) none

-- ---- the store

abbrev store : List ℕ → List (Option ℕ) → List Val → List ℕ → Store
store memory table globals answer = record { memory = memory; table = table; globals = globals; answer = answer }

pub same_store : (a b : List ℕ) (c d : List (Option ℕ)) (e f : List Val) (answer : List ℕ) → a ≡ b → c ≡ d → e ≡ f → store a c e answer ≡ store b d f answer
same_store a b c d e f answer p q r = λ i. store (p i) (q i) (r i) answer

-- a module's globals are as many in its tree
own_is : (m : Module) (globals : List Val) → take (length (module_tree m).globals) globals ≡ own m globals
own_is m globals = ap (λ (n : ℕ). take n globals) (length-map m.globals global_tree)

-- a table that is there exactly where it is needed shows its entries
pub table_shown : (needed : Bool) (t : Option (Lease TableContents)) → is_some t ≡ needed → shown_table needed (table_in t) ≡ (table_in t).entries
table_shown true t had = refl
table_shown false None had = refl
table_shown false (Some l) had = cc

module _ (m : Module) (globals : List Val) (memory : MemoryContents) (table : Option (Lease TableContents)) (had : is_some table ≡ needs Table (module_tree m)) where
  abbrev lent : (k : Kind) → Contents k
  lent = parts memory (table_in table).holds (table_in table).entries globals

  pub with_memory : (answer : List ℕ) → needs Memory (module_tree m) ≡ true → answer_set answer (shown_store (module_tree m) lent) ≡ store_in m memory (table_in table).entries globals answer
  with_memory answer some =
      same_store _ _ _ _ _ _ _ (ap (λ (b : Bool). shown_memory b memory) some) (table_shown (needs Table (module_tree m)) table had) (own_is m globals)

  pub without_memory : (answer : List ℕ) → needs Memory (module_tree m) ≡ false → answer_set answer (shown_store (module_tree m) lent) ≡ bare_store m (table_in table).entries globals answer
  without_memory answer none =
      same_store _ _ _ _ _ _ _ (ap (λ (b : Bool). shown_memory b memory) none) (table_shown (needs Table (module_tree m)) table had) (own_is m globals)

-- values that were written back into a list as long
pub written_back : (n : ℕ) (xs ys : List Val) → length xs ≡ n → xs ≡ take n (xs ++ ys)
written_back n xs ys long = sym (ap (λ (k : ℕ). take k (xs ++ ys)) (sym long) ∙ take-append_seam xs ys)

-- ---- a run without a memory

no_shown : (n : ℕ) (bytes : List ℕ) → length bytes ≡ 0 → take n bytes ≡ []
no_shown n bytes none = nil_from_length (take n bytes) (let long = length-take n bytes in omega arith)

pub bare_is : (m : Module) (memory : LinearMemory) (table : List (Option ℕ)) (globals : List Val) (answer : List ℕ) → length memory.bytes.items ≡ 0 → lent_store m memory table globals answer ≡ bare_store m table globals answer
bare_is m memory table globals answer none = same_store _ _ _ _ _ _ _ (no_shown (memory.pages * page_size) memory.bytes.items none) refl refl

module _ (pages : ℕ) (m : Module) (x : MemoryContents) (owner : Option Named) (table : List (Option ℕ)) (old new : List Val) (none : m.memories ≡ []) where
  unneeded : needs Memory (module_tree m) ≡ true → ⊥
  unneeded needed = let no = has_none m.memories none in cc

  parts_left : (s : Store) → s.table ≡ table → new ≡ s.globals ++ drop (length s.globals) old → (k : Kind) → needs k (module_tree m) ≡ true
      → parts x owner table new k ≡ turned pages s x.marks k (parts x owner table old k)
  parts_left s entries values Instance needed = values
  parts_left s entries values kind.Memory needed = absurd (unneeded needed)
  parts_left s entries values Table needed = λ i. record { entries = sym entries i; holds = owner }

  -- what a slice leaves
  pub leaves_bare_from : (result : ℕ → Option CallResult) (from to : ℕ) (r : CallResult) (said says : List ℕ)
      → IsTypedStore m (bare_store m table old said) → length new ≡ length old → others m new ≡ others m old
      → result to ≡ Some r → r.store ≡ bare_store m table new says
      → LeavesFrom pages (module_tree m) result from to (parts x owner table old) (parts x owner table new) x.marks r
  leaves_bare_from result from to r said says typed long rest gives is = record {
    gives = gives;
    left = subst (λ (s : Store). (k : Kind) → needs k (module_tree m) ≡ true → parts x owner table new k ≡ turned pages s x.marks k (parts x owner table old k)) (sym is)
        (parts_left (bare_store m table new says) refl (globals_left (length m.globals) old new (globals_there m (bare_store m table old said) old refl typed) long rest));
    marked = λ needed. absurd (unneeded needed);
    still = λ needed. absurd (unneeded needed);
  }

-- ---- a fresh instance

pub fresh_is : (m : ModuleTree) (globals : List Val) (memory : Option (Lease MemoryContents)) (table : Option (Lease TableContents)) (config : Numbers)
    → take (length m.globals) globals ≡ (fresh_store m).globals → HasFreshMemory config m memory → IsFreshTable m table
    → shown_store m (parts (memory_in memory) (table_in table).holds (table_in table).entries globals) ≡ fresh_store m
fresh_is m globals memory table config same_globals same_memory same_table = same_store _ _ _ _ _ _ _ same_memory.shown same_table.shown same_globals

pub bare_memory : (config : Numbers) (m : ModuleTree) → m.memories ≡ [] → length (fresh_store m).memory ≡ memory_size m → HasFreshMemory config m None
bare_memory config m none size =
    let no = has_none m.memories none in
    let zero : minimum_of m.memories ≡ 0 = ap minimum_of none in
    record {
      had = sym no;
      shown = ap (λ (b : Bool). shown_memory b (memory_in None)) no ∙ sym (nil_from_length (fresh_store m).memory (size ∙ ap (λ (n : ℕ). n * page_size) zero));
      ready = λ some. absurd (some none);
    }

pub bare_table : (m : ModuleTree) → m.tables ≡ [] → length (fresh_store m).table ≡ table_size m → IsFreshTable m None
bare_table m none size =
    let no = has_none m.tables none in record {
      had = sym no;
      shown = ap (λ (b : Bool). shown_table b (table_in None)) no ∙ sym (nil_from_length (fresh_store m).table (size ∙ ap minimum_of none));
    }
