-- What callers can see of a pool: the same as of fresh instances, so the same in any two worlds.
use Rattle.std.specs.Prelude.{◌≡◌, ℕ, ◌*◌, ◌≤◌, ◌⊎◌, Bool, true, List, Option, Some, None, slice_index, ◌++◌, ◌==◌, if◌then◌else◌, slice_get, [], ◌∷◌}
use Rattle.wasm_values.specs.declared.outcome.Outcome.{Outcome}
use Rattle.wasm_spec.specs.Store.{Store, page_size}
use Rattle.wasm_spec.specs.Result.{CallResult, answer_of}
use Rattle.pool_model.specs.Contents.{Named, MemoryContents, Contents, prepared, needs, shown_store}
use Rattle.pool_model.specs.declared.kinds.Kind.{Kind}
use Rattle.pool_model.specs.declared.kinds.Kind.TheVariants.{Memory}
use Rattle.pool_model.specs.PoolMachine.{World, Request, Running, Machine, WorldEvent, caller_contents, answer, after_all, AllMayHappen, IsOpening, IsModule, End, after, result, IsFuelEnd, CanTurn}
use Rattle.pool_model.specs.Runs.{AreItsTurns, HostResumes, AreTurnsTo}
use Rattle.pool_model.specs.FreshMachine.{FreshCall, FreshMachine, fresh_answer, fresh_after_all, nothing_runs}

-- the bytes past the size are zero
abbrev pub IsZeroPast : MemoryContents → Type 0
IsZeroPast x = (i : ℕ) → x.pages * page_size ≤ i → slice_index x.bytes i ≡ 0

-- the part of a store that lies in slots
abbrev pub in_slots : Store → Store
in_slots s = record s { answer = [] }

-- a caller's call shows the store of the fresh call, its answer apart, and nothing past its memory
pub record Shadows (w : World) (p : Machine) (i : ℕ) (r : Running) (c : FreshCall) : Type 0 where
  pub request : r.request ≡ c.request
  pub turns : r.turns ≡ c.turns
  pub store : shown_store r.request.named.tree (caller_contents w p i) ≡ in_slots c.store
  pub past : needs Memory r.request.named.tree ≡ true → IsZeroPast (caller_contents w p i Memory)
  pub answer : answer w r ≡ fresh_answer w.limits c.request

-- it is so of both, or there is neither
abbrev pub OfBoth : {A B : Type 0} → (A → B → Type 0) → Option A → Option B → Type 0
OfBoth IsSo None None = Unit {0}
OfBoth IsSo (Some a) (Some b) = IsSo a b
OfBoth IsSo a b = ⊥

-- so does each caller's
abbrev pub Shadow : World → Machine → FreshMachine → Type 0
Shadow w p f = (i : ℕ) → OfBoth (Shadows w p i) (p.calls i) (f i)

-- Whatever events came, each running call shows a fresh instance.
abbrev pub AlwaysShadow : Type 0
AlwaysShadow = (w : World) (p : Machine) (es : List WorldEvent) → IsOpening w p → AllMayHappen w p es
    → Shadow w (after_all w p es) (fresh_after_all w.limits nothing_runs es)

-- one export of one module is called, with the same arguments, bytes and fuel; the module's number and tag may differ
pub record IsSameRequest (a b : Request) : Type 0 where
  pub tree : a.named.tree ≡ b.named.tree
  pub function : a.function ≡ b.function
  pub arguments : a.arguments ≡ b.arguments
  pub sent : a.sent ≡ b.sent
  pub fuel : a.fuel ≡ b.fuel

-- a world that events led to from its opening
pub record Reached (w : World) (q : Machine) : Type 0 where
  pub opening : Machine
  pub opens : IsOpening w opening
  pub events : List WorldEvent
  pub happen : AllMayHappen w opening events
  pub leads : q ≡ after_all w opening events

-- a caller's call that runs in a world
pub record Calls (w : World) (q : Machine) (i : ℕ) (r : Running) : Type 0 where
  pub reached : Reached w q
  pub calls : q.calls i ≡ Some r

-- Two calls of one request, in worlds with the same limits: whatever else runs there, after the same turns their memory, its
-- size, their table and their globals are the same, and so are their answers, the bytes among them.
pub record SameToCaller (w v : World) (p q : Machine) (i j : ℕ) (r c : Running) : Type 0 where
  pub stores : r.turns ≡ c.turns → shown_store r.request.named.tree (caller_contents w p i) ≡ shown_store c.request.named.tree (caller_contents v q j)
  pub sizes : r.turns ≡ c.turns → needs Memory r.request.named.tree ≡ true → (caller_contents w p i Memory).pages ≡ (caller_contents v q j Memory).pages
  pub answers : answer w r ≡ answer v c

abbrev pub TwoWorldsAgree : Type 0
TwoWorldsAgree = (w v : World) (p q : Machine) (i j : ℕ) (r c : Running) → w.limits ≡ v.limits → Calls w p i r → Calls v q j c
    → IsSameRequest r.request c.request → SameToCaller w v p q i j r c

-- what a caller is answered as this event comes, with the request
abbrev pub answered_by : World → Option Running → List (Request × Option (Outcome × List ℕ))
answered_by w None = []
answered_by w (Some r) = (r.request, answer w r) ∷ []

abbrev pub answered : World → Machine → WorldEvent → ℕ → List (Request × Option (Outcome × List ℕ))
answered w p (End j marks) i = if j == i then answered_by w (p.calls j) else []
answered w p e i = []

-- all that a caller is answered, in order
abbrev pub answers : World → Machine → List WorldEvent → ℕ → List (Request × Option (Outcome × List ℕ))
answers w p [] i = []
answers w p (e ∷ es) i = answered w p e i ++ answers w (after w p e) es i

-- One request has one answer, in whatever world, place and order it was made.
abbrev pub AnswersAgree : Type 0
AnswersAgree = (w v : World) (p q : Machine) (es ds : List WorldEvent) (i j n m : ℕ) (a b : Request × Option (Outcome × List ℕ)) → w.limits ≡ v.limits
    → IsOpening w p → AllMayHappen w p es → IsOpening v q → AllMayHappen v q ds
    → slice_get (answers w p es i) n ≡ Some a → slice_get (answers v q ds j) m ≡ Some b → IsSameRequest a.0 b.0 → a.1 ≡ b.1

-- a call that has made no turn, or waits for its next
abbrev pub IsPaused : World → Running → Type 0
IsPaused w c = (c.turns ≡ 0) ⊎ IsFuelEnd (result w c c.turns)

-- Turns of a call up to so many, after which it goes on; or turns up to its end, and its end, with its answer.
pub record AreTurnsOf (w : World) (p : Machine) (i : ℕ) (c : Running) (to : ℕ) (new : (k : Kind) → Contents k) (marks : List Bool) (r : CallResult) : Type 0 where
  pub goes_on : CanTurn w (record c { turns = to }) → AreTurnsTo w p i c to new marks
  pub ends : ¬ (CanTurn w (record c { turns = to })) → AreItsTurns w p i c new marks × (answer w c ≡ Some (r.outcome, answer_of r))

-- What a host does for a slice of a call is turns of it. A whole call is a slice from none to all its fuel.
abbrev pub SlicesAreTurns : Type 0
SlicesAreTurns = (w : World) (p : Machine) (i : ℕ) (c : Running) (to : ℕ) (new : (k : Kind) → Contents k) (marks : List Bool) (r : CallResult) → Calls w p i c → IsPaused w c
    → c.turns ≤ to → to ≤ c.request.fuel → HostResumes w c to (caller_contents w p i) new marks r → AreTurnsOf w p i c to new marks r

-- To prepare what is prepared for the same module changes nothing. So a pool's take may prepare before the call begins.
abbrev pub PreparingTwiceIsOnce : Type 0
PreparingTwiceIsOnce = (w : World) (p : Machine) (m : Named) (k : Kind) (n : ℕ) → Reached w p → IsModule w m
    → prepared w.limits.pages m k (prepared w.limits.pages m k (p.contents k n)) ≡ prepared w.limits.pages m k (p.contents k n)
