-- A pool in use: its slots, its callers' running calls, and the events that change them.
use Rattle.wasm_spec.specs.Execution.{Terms}
use Rattle.wasm_values.specs.declared.profile.Profile.{Profile}
use Rattle.wasm_types.specs.declared.limits.LoadLimits.{LoadLimits}
use Rattle.std.specs.Prelude.{◌≡◌, ℕ, ◌+◌, ◌<◌, ◌==◌, ◌&&◌, Bool, true, false, if◌then◌else◌, List, [], ◌∷◌, Option, Some, None, is_some, unwrap_or, map}
use Rattle.wasm_types.specs.declared.types.FuncType.{FuncType}
use Rattle.wasm_values.specs.declared.outcome.Val.{Val}
use Rattle.wasm_values.specs.declared.outcome.Outcome.{Outcome}
use Rattle.wasm_values.specs.declared.outcome.Outcome.TheVariants as outcome
use Rattle.wasm_types.specs.Tree.{ModuleTree}
use Rattle.wasm_spec.specs.Functions.{function_type}
use Rattle.wasm_spec.specs.Typing.{type_of}
use Rattle.wasm_spec.specs.Validity.{Exports}
use Rattle.wasm_spec.specs.Store.{Store}
use Rattle.wasm_spec.specs.Loading.{Loads}
use Rattle.std.specs.Prelude.{Ok}
use Rattle.wasm_spec.specs.Result.{CallResult, answer_of, result_from}
use Rattle.pool_core.specs.declared.events.Event.{Event}
use Rattle.pool_core.specs.PoolCore.{PoolCore, seat_at, opening_core}
use Rattle.pool_core.specs.EventEffects.{core_after}
use Rattle.pool_core.specs.RefusalRules.{refusal_of, seat_of}
use Rattle.memory_blocks.specs.Blocks.{KeepsUnmarked}
use Rattle.pool_model.specs.Contents.{Named, MemoryContents, Contents, owner, prepared, restored, replaced, needs, shown_store, turned, IsCold}
use Rattle.pool_model.specs.declared.kinds.Kind.{Kind}
use Rattle.pool_model.specs.declared.kinds.Kind.TheVariants.{Instance, Memory, Table}

pub record InstanceLimits : Type 0 where
  pub pages : ℕ
  pub elements : ℕ
  pub frame : ℕ
  pub depth : ℕ

abbrev pub load_limits : InstanceLimits → LoadLimits
load_limits l = record { pages = l.pages; elements = l.elements; frame = l.frame }

-- the terms of a run that is sent these bytes
abbrev pub terms_of : InstanceLimits → List ℕ → Terms
terms_of l sent = record { pages = l.pages; depth = l.depth; request = sent }

-- What does not change: the limits, the modules by number, and each caller's seat of each kind. No two callers have one seat.
pub record World : Type 0 where
  pub limits : InstanceLimits
  pub shelf : ℕ → Named
  pub seats : Kind → ℕ → ℕ
  pub apart : (k : Kind) (i j : ℕ) → seats k i ≡ seats k j → i ≡ j

-- which export is called, with what, with which bytes and on how much fuel
pub record Request : Type 0 where
  pub named : Named
  pub function : ℕ
  pub arguments : List Val
  pub sent : List ℕ
  pub fuel : ℕ

-- a call that runs: the store that it had in its slots as it began, and its turns so far
pub record Running : Type 0 where
  pub request : Request
  pub begun : Store
  pub turns : ℕ

pub record Machine : Type 0 where
  pub core : Kind → PoolCore
  -- what lies in each slot, whoever holds it
  pub contents : (k : Kind) → ℕ → Contents k
  -- each caller's running call
  pub calls : ℕ → Option Running

pub data WorldEvent : Type 0 where
  -- one of the core's own
  Step : (k : Kind) (e : Event) → WorldEvent
  -- by the seat s, on the value that it has out
  Prepare : (k : Kind) (s : ℕ) (m : Named) → WorldEvent
  Restore : (k : Kind) (s : ℕ) → WorldEvent
  Clear : (k : Kind) (s : ℕ) (x : Contents k) → WorldEvent
  -- by the caller i: a call begins; it makes a turn, which leaves these marks; it ends, which leaves these marks too, and is
  -- answered; it is given up, without an answer
  Begin : (i : ℕ) (request : Request) → WorldEvent
  Turn : (i : ℕ) (marks : List Bool) → WorldEvent
  End : (i : ℕ) (marks : List Bool) → WorldEvent
  Cancel : (i : ℕ) → WorldEvent

-- ---- slots

-- the number that a seat holds
abbrev pub held_by : Machine → Kind → ℕ → ℕ
held_by p k s = unwrap_or (seat_at (p.core k) s).holds 0

-- the slot of each kind that a caller holds, and what lies in it
abbrev pub slot_of : World → Machine → ℕ → Kind → ℕ
slot_of w p i k = held_by p k (w.seats k i)

abbrev pub caller_contents : World → Machine → ℕ → (k : Kind) → Contents k
caller_contents w p i k = p.contents k (slot_of w p i k)

abbrev pub same_kind : Kind → Kind → Bool
same_kind Instance Instance = true
same_kind Memory Memory = true
same_kind Table Table = true
same_kind k j = false

-- the slot that a seat holds
abbrev pub is_slot_of_seat : Machine → Kind → ℕ → Kind → ℕ → Bool
is_slot_of_seat p k s j n = same_kind k j && n == held_by p k s

-- the slots that a call of the module by this caller has
abbrev pub is_slot_of_call : World → Machine → ℕ → ModuleTree → Kind → ℕ → Bool
is_slot_of_call w p i m k n = needs k m && n == slot_of w p i k

-- the contents of these slots become what `change` makes of them
abbrev pub with_contents : Machine → (Kind → ℕ → Bool) → ((k : Kind) → Contents k → Contents k) → Machine
with_contents p hits change = record p { contents = λ k n. if hits k n then change k (p.contents k n) else p.contents k n }

abbrev pub with_core : Machine → Kind → PoolCore → Machine
with_core p k c = record p { core = λ j. if same_kind k j then c else p.core j }

abbrev pub with_call : Machine → ℕ → Option Running → Machine
with_call p i call = record p { calls = λ j. if j == i then call else p.calls j }

-- ---- running

-- what the call comes to on this fuel, from the store that it began with
abbrev pub result : World → Running → ℕ → Option CallResult
result w r fuel = result_from r.request.named.tree (terms_of w.limits r.request.sent) r.request.function r.request.arguments r.begun fuel

abbrev pub store_or : Store → Option CallResult → Store
store_or other None = other
store_or other (Some r) = r.store

abbrev pub outcome_of : Option CallResult → Option Outcome
outcome_of None = None
outcome_of (Some r) = Some r.outcome

-- it ended for want of fuel
abbrev pub IsFuelEnd : Option CallResult → Type 0
IsFuelEnd r = outcome_of r ≡ Some outcome.Fuel

abbrev pub store_after : World → Running → ℕ → Store
store_after w r turns = store_or r.begun (result w r turns)

-- the store that the call ends with. Where its function is imported it may end so without a turn.
abbrev pub last_store : World → Running → Store
last_store w r = store_or r.begun (result w r r.request.fuel)

-- how a call ended, and the bytes that it answers
abbrev pub told : Option CallResult → Option (Outcome × List ℕ)
told None = None
told (Some r) = Some (r.outcome, answer_of r)

-- what the call is answered
abbrev pub answer : World → Running → Option (Outcome × List ℕ)
answer w r = told (result w r r.request.fuel)

-- it has fuel left, and on what it used so far ends for want of it
pub record CanTurn (w : World) (r : Running) : Type 0 where
  pub fuel : r.turns < r.request.fuel
  pub unfinished : IsFuelEnd (result w r r.turns)

-- ---- what each event changes

abbrev pub begun : World → Machine → ℕ → Request → Machine
begun w p i q =
    let ready : Machine = with_contents p (is_slot_of_call w p i q.named.tree) (prepared w.limits.pages q.named) in
    with_call ready i (Some (record { request = q; begun = shown_store q.named.tree (caller_contents w ready i); turns = 0 }))

abbrev pub after_turn : World → Machine → ℕ → List Bool → Option Running → Machine
after_turn w p i marks None = p
after_turn w p i marks (Some r) =
    with_call (with_contents p (is_slot_of_call w p i r.request.named.tree) (turned w.limits.pages (store_after w r (r.turns + 1)) marks))
    i (Some (record r { turns = r.turns + 1 }))

abbrev pub after_end : World → Machine → ℕ → List Bool → Option Running → Machine
after_end w p i marks None = p
after_end w p i marks (Some r) = with_call (with_contents p (is_slot_of_call w p i r.request.named.tree) (turned w.limits.pages (last_store w r) marks)) i None

abbrev pub after : World → Machine → WorldEvent → Machine
after w p (Step k e) = with_core p k (core_after (p.core k) e)
after w p (Prepare k s m) = with_contents p (is_slot_of_seat p k s) (prepared w.limits.pages m)
after w p (Restore k s) = with_contents p (is_slot_of_seat p k s) (restored w.limits.pages)
after w p (Clear k s x) = with_contents p (is_slot_of_seat p k s) (replaced k x)
after w p (Begin i q) = begun w p i q
after w p (Turn i marks) = after_turn w p i marks (p.calls i)
after w p (End i marks) = after_end w p i marks (p.calls i)
after w p (Cancel i) = with_call p i None

-- ---- when an event may come

-- the seat's caller, if it has one, has no running call
abbrev pub IsFree : World → Machine → Kind → ℕ → Type 0
IsFree w p k s = (i : ℕ) → w.seats k i ≡ s → p.calls i ≡ None

-- the seat holds a slot, with its value out
pub record HasOut (p : Machine) (k : Kind) (s : ℕ) : Type 0 where
  pub number : ℕ
  pub holds : (seat_at (p.core k) s).holds ≡ Some number
  pub out : (seat_at (p.core k) s).out ≡ true

-- it stands on the shelf, and loading gives it
pub record IsModule (w : World) (m : Named) : Type 0 where
  pub on_shelf : w.shelf m.number ≡ m
  pub profile : Profile
  pub bytes : List ℕ
  pub loads : Loads profile bytes (load_limits w.limits) (Ok m.tree)

-- the module exports the function, whose parameters have the arguments' types
pub record IsCallable (q : Request) : Type 0 where
  pub export : List ℕ
  pub exported : Exports q.named.tree.exports export q.function
  pub type : FuncType
  pub typed : function_type q.named.tree q.function ≡ Some type
  pub fitting : map type_of q.arguments ≡ type.params

-- the marks where a call's memory becomes that of a store
abbrev pub MarksStore : World → Machine → ℕ → Running → Store → List Bool → Type 0
MarksStore w p i r store marks = let old : MemoryContents = caller_contents w p i Memory in
    let new : MemoryContents = turned w.limits.pages store marks Memory old in
    needs Memory r.request.named.tree ≡ true → KeepsUnmarked old.bytes new.bytes old.marks marks

abbrev pub MayHappen : World → Machine → WorldEvent → Type 0
MayHappen w p (Step k e) = (refusal_of (p.core k) e ≡ 0) × IsFree w p k (seat_of e)
MayHappen w p (Prepare k s m) = HasOut p k s × IsFree w p k s × IsModule w m
MayHappen w p (Restore k s) = HasOut p k s × IsFree w p k s × (is_some (owner k (p.contents k (held_by p k s))) ≡ true)
MayHappen w p (Clear k s x) = HasOut p k s × IsFree w p k s × IsCold w.limits.pages k x
MayHappen w p (Begin i q) = (p.calls i ≡ None) × ((k : Kind) → needs k q.named.tree ≡ true → HasOut p k (w.seats k i)) × IsModule w q.named × IsCallable q
MayHappen w p (Turn i marks) = (r : Running) × (p.calls i ≡ Some r) × CanTurn w r × MarksStore w p i r (store_after w r (r.turns + 1)) marks
MayHappen w p (End i marks) = (r : Running) × (p.calls i ≡ Some r) × ¬ (CanTurn w r) × MarksStore w p i r (last_store w r) marks
MayHappen w p (Cancel i) = (r : Running) × (p.calls i ≡ Some r)

-- ---- lists of events

abbrev pub after_all : World → Machine → List WorldEvent → Machine
after_all w p [] = p
after_all w p (e ∷ es) = after_all w (after w p e) es

abbrev pub AllMayHappen : World → Machine → List WorldEvent → Type 0
AllMayHappen w p [] = Unit {0}
AllMayHappen w p (e ∷ es) = MayHappen w p e × AllMayHappen w (after w p e) es

-- each pool has just opened: all slots are cold and nothing runs
pub record IsOpening (w : World) (p : Machine) : Type 0 where
  pub slots : Kind → ℕ
  pub limit : Kind → ℕ
  pub passes : Kind → ℕ
  pub core : (k : Kind) → p.core k ≡ opening_core (slots k) (limit k) (passes k)
  pub cold : (k : Kind) (n : ℕ) → IsCold w.limits.pages k (p.contents k n)
  pub calls : (i : ℕ) → p.calls i ≡ None
