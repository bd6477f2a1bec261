-- Slices of a call that writes its memory in its fourth turn, and ends with its fifth: which turns they are, and which not.
use Rattle.std.proofs.Common.{◌≡◌, ℕ, zero, suc, ◌+◌, ◌≤◌, Bool, true, false, true≢false, List, [], ◌∷◌, refl, sym, ap, ◌∙◌, subst, arith, ◌⊎◌, inl, inr}
use Rattle.std.specs.Prelude.{◌/◌, Option, Some, None, codes, replicate, slice_index}
use Rattle.wasm_values.specs.declared.outcome.Val.{Val}
use Rattle.wasm_values.specs.declared.outcome.Val.TheVariants.{I32}
use Rattle.wasm_values.specs.declared.outcome.Outcome.{Outcome}
use Rattle.wasm_values.specs.declared.outcome.Outcome.TheVariants as outcome
use Rattle.wasm_types.specs.declared.instr.Instr.TheVariants as instr
use Rattle.wasm_types.specs.Tree.{End, Plain, Call, FunctionTree, ModuleTree}
use Rattle.wasm_spec.specs.Store.{Store, fresh_store}
use Rattle.wasm_spec.specs.Result.{CallResult}
use Rattle.wasm_spec.specs.Execution.{exec}
use Rattle.pool_core.specs.declared.events.Event.TheVariants.{Claim, Out}
use Rattle.memory_blocks.specs.Blocks.{KeepsUnmarked, is_marked}
use Rattle.pool_model.specs.Contents.{MemoryContents, Contents, filled, turned}
use Rattle.pool_model.specs.declared.kinds.Kind.{Kind}
use Rattle.pool_model.specs.declared.kinds.Kind.TheVariants.{Instance, Memory, Table}
use Rattle.pool_model.specs.PoolMachine.{World, Request, Running, Machine, WorldEvent, Step, Begin, Turn, End as Ends, caller_contents, result, store_or, IsFuelEnd, after_all, AllMayHappen, CanTurn, MayHappen, MarksStore, store_after}
use Rattle.pool_model.specs.Runs.{LeavesFrom, HostResumes, AreTurnsTo}
use Rattle.pool_model.specs.Worlds.{Calls, IsPaused, AreTurnsOf, SlicesAreTurns}
use Rattle.model_examples.proofs.ShortCalls.{opened, world_of}
use Rattle.model_examples.proofs.ImportCalls.{hosted}
use Rattle.model_examples.proofs.Scenes.{unmarked, beyond_four, call_is_there, done, same_call}

-- reads a byte of the request to address 0, and drops how many were read
abbrev reading : FunctionTree
reading = record { type_index = 0; locals = []; body = Plain (instr.Const (I32 0)) (Plain (instr.Const (I32 0)) (Plain (instr.Const (I32 1)) (Call 0 (Plain instr.Drop End)))) }

abbrev reader : ModuleTree
reader = record hosted { functions = reading ∷ [] }

abbrev world : World
world = world_of reader

abbrev request : Request
request = record { named = world.shelf 0; function = 2; arguments = []; sent = 7 ∷ []; fuel = 5 }

abbrev running : ℕ → Running
running turns = record { request = request; begun = fresh_store reader; turns = turns }

-- the host's own function, called from outside: it makes no turn
abbrev import_running : Running
import_running = record (running 0) { request = record request { function = 0; arguments = I32 0 ∷ I32 0 ∷ I32 1 ∷ []; fuel = 3 } }

abbrev zeros : List ℕ
zeros = replicate 65532 0

-- its memory before the fourth turn and after it
abbrev before : List ℕ
before = 97 ∷ 98 ∷ 0 ∷ 0 ∷ zeros

abbrev written : List ℕ
written = 7 ∷ 98 ∷ 0 ∷ 0 ∷ zeros

abbrev memory_of : List ℕ → List Bool → MemoryContents
memory_of bytes marks = record { bytes = filled 1 bytes; pages = 1; marks = marks; holds = Some (world.shelf 0) }

abbrev slots : List ℕ → List Bool → (k : Kind) → Contents k
slots bytes marks Instance = I32 1 ∷ []
slots bytes marks Memory = memory_of bytes marks
slots bytes marks Table = record { entries = []; holds = None }

abbrev unmarked_block : List Bool
unmarked_block = false ∷ []

abbrev marked_block : List Bool
marked_block = true ∷ []

abbrev begun : Machine
begun = after_all world opened (Step Instance (Claim 0 0) ∷ Step Instance (Out 0 0) ∷ Step Memory (Claim 0 0) ∷ Step Memory (Out 0 0) ∷ Begin 0 request ∷ [])

-- it waits for its fourth turn, and for its fifth
abbrev at_three : Machine
at_three = after_all world begun (replicate 3 (Turn 0 unmarked_block))

abbrev at_four : Machine
at_four = after_all world at_three (replicate 1 (Turn 0 marked_block))

lies_at_three : (k : Kind) → caller_contents world at_three 0 k ≡ slots before unmarked_block k
unfolding exec
lies_at_three Instance = refl
lies_at_three Memory = refl
lies_at_three Table = refl

lies_at_four : (k : Kind) → caller_contents world at_four 0 k ≡ slots written marked_block k
unfolding exec
lies_at_four Instance = refl
lies_at_four Memory = refl
lies_at_four Table = refl

-- ---- what a slice leaves

-- what the call comes to where it ends for want of fuel, and where it ends
abbrev waits_with : List ℕ → CallResult
waits_with bytes = record { outcome = outcome.Fuel; store = record { memory = bytes; table = []; globals = I32 1 ∷ []; answer = [] }; fuel = 0 }

abbrev ends_with : Option Val → CallResult
ends_with v = record (waits_with written) { outcome = outcome.Done v }

stored : (r : Running) (turns n : ℕ) (x : CallResult) → turns ≡ n → result world r turns ≡ Some x → store_or (fresh_store reader) (result world r n) ≡ x.store
stored r turns n x is e = ap (λ (k : ℕ). store_or (fresh_store reader) (result world r k)) (sym is) ∙ ap (store_or (fresh_store reader)) e

seven_is_not_a : ◌≡◌ {A = ℕ} 7 97 → ⊥
seven_is_not_a e = omega (arith, e)

none_marked : (i : ℕ) → is_marked unmarked_block i ≡ false
none_marked i = unmarked (i / 4096)

abbrev MarksOf : List ℕ → List Bool → List Bool → Store → Type 0
MarksOf old marks new s = KeepsUnmarked (filled 1 old) (filled 1 s.memory) marks new

first_is_marked : (turns : ℕ) (x : CallResult) → 3 ≤ turns → turns ≤ 4 → result world (running 3) turns ≡ Some x → MarksOf before unmarked_block marked_block x.store
unfolding exec
first_is_marked turns x late le e = elim (three_or_four turns late le) [
  | inl is ↦ subst (MarksOf before unmarked_block marked_block) (stored (running 3) turns 3 x is e) (record { bytes = λ i h. refl; marks = λ i h. none_marked i })
  | inr is ↦ subst (MarksOf before unmarked_block marked_block) (stored (running 3) turns 4 x is e) (record { bytes = beyond_four 7 98 0 0 97 98 0 0 zeros; marks = λ i h. none_marked i })
] where
  three_or_four : (n : ℕ) → 3 ≤ n → n ≤ 4 → (n ≡ 3) ⊎ (n ≡ 4)
  three_or_four n late le = grind arith

-- its fourth turn
the_fourth : LeavesFrom 1 reader (result world (running 3)) 3 4 (slots before unmarked_block) (slots written marked_block) marked_block (waits_with written)
unfolding exec
the_fourth = record {
  gives = refl;
  left = λ k needed. left_there k;
  marked = λ needed. first_is_marked;
  still = λ needed out same. absurd (omega (arith, same));
} where
  left_there : (k : Kind) → slots written marked_block k ≡ turned 1 (waits_with written).store marked_block k (slots before unmarked_block k)
  left_there Instance = refl
  left_there Memory = refl
  left_there Table = refl

-- which its host marks
no_fourth_without_its_mark : LeavesFrom 1 reader (result world (running 3)) 3 4 (slots before unmarked_block) (slots written unmarked_block) unmarked_block (waits_with written) → ⊥
no_fourth_without_its_mark leaves = seven_is_not_a ((leaves.marked refl 4 (waits_with written) (omega arith) (omega arith) leaves.gives).bytes 0 refl)

-- and which leaves the memory to its module
abbrev of_nobody : (k : Kind) → Contents k
of_nobody Instance = I32 1 ∷ []
of_nobody Memory = record (memory_of written marked_block) { holds = None }
of_nobody Table = record { entries = []; holds = None }

no_fourth_for_nobody : LeavesFrom 1 reader (result world (running 3)) 3 4 (slots before unmarked_block) of_nobody marked_block (waits_with written) → ⊥
no_fourth_for_nobody leaves = let e = ap (λ (x : MemoryContents). x.holds) (leaves.left Memory refl) in cc (e)

-- of no turn: a call that goes on marks nothing, whatever later turns will
none_at_three : (turns : ℕ) (x : CallResult) → 3 ≤ turns → turns ≤ 3 → result world (running 3) turns ≡ Some x → MarksOf before unmarked_block unmarked_block x.store
unfolding exec
none_at_three turns x late le e = let is : turns ≡ 3 = omega arith in
    subst (MarksOf before unmarked_block unmarked_block) (stored (running 3) turns 3 x is e) (record { bytes = λ i h. refl; marks = λ i h. h })

of_no_turn : LeavesFrom 1 reader (result world (running 3)) 3 3 (slots before unmarked_block) (slots before unmarked_block) unmarked_block (waits_with before)
unfolding exec
of_no_turn = record {
  gives = refl;
  left = λ k needed. left_there k;
  marked = λ needed. none_at_three;
  still = λ needed out same. refl;
} where
  left_there : (k : Kind) → slots before unmarked_block k ≡ turned 1 (waits_with before).store unmarked_block k (slots before unmarked_block k)
  left_there Instance = refl
  left_there Memory = refl
  left_there Table = refl

no_mark_of_no_turn : LeavesFrom 1 reader (result world (running 3)) 3 3 (slots before unmarked_block) (slots before marked_block) marked_block (waits_with before) → ⊥
no_mark_of_no_turn leaves = let e = leaves.still refl refl refl in cc (e)

-- but one that ends so may: the host's own function does
marked_at_its_end : (turns : ℕ) (x : CallResult) → 0 ≤ turns → turns ≤ 0 → result world import_running turns ≡ Some x → MarksOf before unmarked_block marked_block x.store
unfolding exec
marked_at_its_end turns x late le e = let is : turns ≡ 0 = omega arith in
    subst (MarksOf before unmarked_block marked_block) (stored import_running turns 0 x is e) (record { bytes = beyond_four 7 98 0 0 97 98 0 0 zeros; marks = λ i h. none_marked i })

of_an_import : LeavesFrom 1 reader (result world import_running) 0 0 (slots before unmarked_block) (slots written marked_block) marked_block (record (ends_with (Some (I32 1))) { fuel = 0 })
unfolding exec
of_an_import = record {
  gives = refl;
  left = λ k needed. left_there k;
  marked = λ needed. marked_at_its_end;
  still = λ needed out same. absurd (true≢false (sym out));
} where
  left_there : (k : Kind) → slots written marked_block k ≡ turned 1 (ends_with (Some (I32 1))).store marked_block k (slots before unmarked_block k)
  left_there Instance = refl
  left_there Memory = refl
  left_there Table = refl

-- the fifth turn changes nothing, so it marks nothing, whatever was marked before
none_later : (marks : List Bool) (turns : ℕ) (x : CallResult) → 4 ≤ turns → turns ≤ 5 → result world (running 4) turns ≡ Some x → MarksOf written marks marks x.store
unfolding exec
none_later marks turns x late le e = elim (four_or_five turns late le) [
  | inl is ↦ subst (MarksOf written marks marks) (stored (running 4) turns 4 x is e) (record { bytes = λ i h. refl; marks = λ i h. h })
  | inr is ↦ subst (MarksOf written marks marks) (stored (running 4) turns 5 x is e) (record { bytes = λ i h. refl; marks = λ i h. h })
] where
  four_or_five : (n : ℕ) → 4 ≤ n → n ≤ 5 → (n ≡ 4) ⊎ (n ≡ 5)
  four_or_five n late le = grind arith

the_fifth : (marks : List Bool) → LeavesFrom 1 reader (result world (running 4)) 4 5 (slots written marks) (slots written marks) marks (ends_with None)
unfolding exec
the_fifth marks = record {
  gives = refl;
  left = λ k needed. left_there k;
  marked = λ needed. none_later marks;
  still = λ needed out same. absurd (omega (arith, same));
} where
  left_there : (k : Kind) → slots written marks k ≡ turned 1 (ends_with None).store marks k (slots written marks k)
  left_there Instance = refl
  left_there Memory = refl
  left_there Table = refl

-- ---- which turns a slice is

none_at_all : AreTurnsTo world opened 0 (running 3) 3 (caller_contents world opened 0) unmarked_block → ⊥
none_at_all are = by are.count are.reach are.calls where
  by : (n : ℕ) → 3 + n ≡ 3 → (after_all world opened (replicate n (Turn 0 unmarked_block))).calls 0 ≡ Some (running 3) → ⊥
  by zero reach calls = call_is_there (sym calls)
  by (suc n) reach calls = omega (arith, reach)

may_make_its_fourth : AllMayHappen world at_three (replicate 1 (Turn 0 marked_block))
unfolding exec
may_make_its_fourth = ((running 3, refl, record { fuel = omega arith; unfinished = refl }, λ h. record { bytes = beyond_four 7 98 0 0 97 98 0 0 zeros; marks = λ i m. none_marked i }), tt)

one_turn : AreTurnsTo world at_three 0 (running 3) 4 (slots written marked_block) marked_block
one_turn = record { count = 1; reach = refl; happen = may_make_its_fourth; calls = refl; contents = λ k needed. lies_at_four k }

-- a turn that marks nothing may not come
fourth_needs_its_mark : MarksStore world at_three 0 (running 3) (store_after world (running 3) ((running 3).turns + 1)) unmarked_block → ⊥
unfolding exec
fourth_needs_its_mark marks = seven_is_not_a ((marks refl).bytes 0 refl)

no_fourth_unmarked : MayHappen world at_three (Turn 0 unmarked_block) → ⊥
no_fourth_unmarked (r, calls, can, marks) = fourth_needs_its_mark (subst (λ (x : Running). MarksStore world at_three 0 x (store_after world x (x.turns + 1)) unmarked_block) (sym (same_call calls)) marks)

no_turn_without_its_mark : AreTurnsTo world at_three 0 (running 3) 4 (slots written unmarked_block) unmarked_block → ⊥
no_turn_without_its_mark are = by are.count are.reach are.happen where
  by : (n : ℕ) → 3 + n ≡ 4 → AllMayHappen world at_three (replicate n (Turn 0 unmarked_block)) → ⊥
  by zero reach happen = omega (arith, reach)
  by (suc n) reach happen = no_fourth_unmarked happen.0

-- and leaves the slots with what was written
no_turn_that_writes_nothing : AreTurnsTo world at_three 0 (running 3) 4 (slots before marked_block) marked_block → ⊥
unfolding exec
no_turn_that_writes_nothing are = by are.count are.reach (are.contents Memory refl) where
  by : (n : ℕ) → 3 + n ≡ 4 → caller_contents world (after_all world at_three (replicate n (Turn 0 marked_block))) 0 Memory ≡ memory_of before marked_block → ⊥
  by n reach is = let one : n ≡ 1 = omega (arith, reach) in
      seven_is_not_a (ap (λ (x : MemoryContents). slice_index x.bytes 0) (ap (λ (c : ℕ). caller_contents world (after_all world at_three (replicate c (Turn 0 marked_block))) 0 Memory) (sym one) ∙ is))

-- ---- a paused call

an_import_before_its_end : IsPaused world import_running
an_import_before_its_end = inl refl

before_its_fifth_turn : IsPaused world (running 4)
unfolding exec
before_its_fifth_turn = inr refl

not_after_its_fifth : IsPaused world (running 5) → ⊥
unfolding exec
not_after_its_fifth (inl none) = omega (arith, none)
not_after_its_fifth (inr waits) = done None waits

-- ---- a slice that goes on, and one that ends

fifth_may_come : CanTurn world (running 4)
unfolding exec
fifth_may_come = record { fuel = omega arith; unfinished = refl }

sixth_may_not : CanTurn world (running 5) → ⊥
unfolding exec
sixth_may_not can = done None can.unfinished

no_slice_that_writes_nothing : AreTurnsOf world at_three 0 (running 3) 4 (slots before marked_block) marked_block (waits_with written) → ⊥
no_slice_that_writes_nothing are = no_turn_that_writes_nothing (are.goes_on fifth_may_come)

outcome_told : Option (Outcome × List ℕ) → Option Outcome
outcome_told None = None
outcome_told (Some t) = Some t.0

no_other_answer : AreTurnsOf world at_four 0 (running 4) 5 (slots written marked_block) marked_block (waits_with written) → ⊥
unfolding outcome_told exec
no_other_answer are = done None (ap outcome_told (are.ends sixth_may_not).1)

no_end_of_what_does_not_run : AreTurnsOf world opened 0 (running 4) 5 (caller_contents world opened 0) marked_block (ends_with None) → ⊥
no_end_of_what_does_not_run are = let its = (are.ends sixth_may_not).0 in by its.count its.happen its.ends where
  by : (n : ℕ) → AllMayHappen world opened (replicate n (Turn 0 marked_block)) → MayHappen world (after_all world opened (replicate n (Turn 0 marked_block))) (Ends 0 marked_block) → ⊥
  by zero happen (r, calls, stuck, marks) = call_is_there (sym calls)
  by (suc n) ((r, calls, can, marks), rest) ends = call_is_there (sym calls)

-- ---- what the law covers: a slice of no turn, and one to the end of the fuel

from_its_slots : (p : Machine) (turns to : ℕ) (old new : (k : Kind) → Contents k) (marks : List Bool) (r : CallResult) → ((k : Kind) → caller_contents world p 0 k ≡ old k)
    → LeavesFrom 1 reader (result world (running turns)) turns to old new marks r → HostResumes world (running turns) to (caller_contents world p 0) new marks r
from_its_slots p turns to old new marks r lies leaves = subst (λ (o : (k : Kind) → Contents k). LeavesFrom 1 reader (result world (running turns)) turns to o new marks r) (λ i k. sym (lies k) i) leaves

a_slice_of_no_turn : SlicesAreTurns → Calls world at_three 0 (running 3) → AreTurnsOf world at_three 0 (running 3) 3 (slots before unmarked_block) unmarked_block (waits_with before)
unfolding exec
a_slice_of_no_turn law calls = law world at_three 0 (running 3) 3 (slots before unmarked_block) unmarked_block (waits_with before) calls (inr refl) (omega arith) (omega arith)
    (from_its_slots at_three 3 3 (slots before unmarked_block) (slots before unmarked_block) unmarked_block (waits_with before) lies_at_three of_no_turn)

a_slice_of_all_its_fuel : SlicesAreTurns → Calls world at_four 0 (running 4) → AreTurnsOf world at_four 0 (running 4) 5 (slots written marked_block) marked_block (ends_with None)
unfolding exec
a_slice_of_all_its_fuel law calls = law world at_four 0 (running 4) 5 (slots written marked_block) marked_block (ends_with None) calls (inr refl) (omega arith) (omega arith)
    (from_its_slots at_four 4 5 (slots written marked_block) (slots written marked_block) marked_block (ends_with None) lies_at_four (the_fifth marked_block))
