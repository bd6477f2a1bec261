-- A take and the give of its slot are a visit.
use Rattle.std.proofs.Common.{◌≡◌, ℕ, Bool, true, false, Option, Some, None, List, [], ◌++◌, refl, sym, ap, ◌∙◌, subst, append-nil}
use Rattle.std.specs.Prelude.{is_some, if◌then◌else◌}
use Rattle.slot_words.specs.declared.leases.Lease.{Lease}
use Rattle.slot_words.specs.declared.views.Operation.{Operation}
use Rattle.slot_words.specs.Parts.{Grew}
use Rattle.slot_words.proofs.Parts.{then_grew}
use Rattle.pool_model.specs.Contents.{MemoryContents, TableContents}
use Rattle.instance_calls.specs.Parts.{Slot, memory_slot, table_slot}
use Rattle.pool_host.specs.Leases.{Gave, Took}
use Rattle.pool_host.specs.Visits as visit
use Rattle.pool_host.specs.Visits.{Adds, Served, TurnedAway, Visit}

module _ (IsTake : ℕ → ℕ → List Operation → Type 0) (IsGive : ℕ → List Operation → Type 0) (IsFullTake : List Operation → Type 0) where
  abbrev AddsThere : Visit → List Operation → List Operation → Type 0
  AddsThere v t u = Grew (Adds IsTake IsGive IsFullTake v) t u

  abbrev nothing_at : Bool → Visit
  nothing_at needed = if needed then visit.None else visit.None

  pub served : (number read : ℕ) (t u v : List Operation) → Grew (IsTake number read) t u → Grew (IsGive number) u v → AddsThere Served t v
  served number read t u v take give =
      let both = then_grew (IsTake number read) (IsGive number) t u v take give in
      record { done = both.done; grown = both.grown; is = (number, read, both.is) }

  pub nothing : (t u : List Operation) → u ≡ t → AddsThere visit.None t u
  nothing t u same = record { done = []; grown = same ∙ sym (append-nil t); is = refl }

  -- nothing, whether or not the kind is needed
  pub nothing_if : (needed : Bool) (t u : List Operation) → u ≡ t → AddsThere (nothing_at needed) t u
  nothing_if true t u same = nothing t u same
  nothing_if false t u same = nothing t u same

  pub turned_away : (needed : Bool) (t u : List Operation) → needed ≡ true → Grew IsFullTake t u → AddsThere (if needed then TurnedAway else visit.None) t u
  turned_away needed t u is full = subst (λ (b : Bool). AddsThere (if b then TurnedAway else visit.None) t u) (sym is) full

  -- of a slot that is taken exactly where it is needed
  pub visited : (slot : Option Slot) (needed : Bool) (t u v : List Operation) → is_some slot ≡ needed → Grew (Took IsTake slot) t u → Grew (Gave IsGive slot) u v
      → AddsThere (if needed then Served else visit.None) t v
  visited (Some s) true t u v had took gave = served s.number s.word t u v took gave
  visited None false t u v had took gave = nothing t v
      (gave.grown ∙ ap (λ os. u ++ os) gave.is ∙ append-nil u ∙ took.grown ∙ ap (λ os. t ++ os) took.is ∙ append-nil t)
  visited (Some s) false t u v had took gave = cc
  visited None true t u v had took gave = cc

pub memory_slot_some : (o : Option (Lease MemoryContents)) (needed : Bool) → is_some o ≡ needed → is_some (memory_slot o) ≡ needed
memory_slot_some None needed had = had
memory_slot_some (Some l) needed had = had

pub table_slot_some : (o : Option (Lease TableContents)) (needed : Bool) → is_some o ≡ needed → is_some (table_slot o) ≡ needed
table_slot_some None needed had = had
table_slot_some (Some l) needed had = had

-- a trail that grew, where its ends are known by other names
pub grew_to : (P : List Operation → Type 0) (t u v : List Operation) → Grew P t u → v ≡ u → Grew P t v
grew_to P t u v grew same = record { done = grew.done; grown = same ∙ grew.grown; is = grew.is }

pub grew_from : (P : List Operation → Type 0) (s t u : List Operation) → Grew P t u → t ≡ s → Grew P s u
grew_from P s t u grew same = record { done = grew.done; grown = grew.grown ∙ ap (λ os. os ++ grew.done) same; is = grew.is }
