-- What became of the module lines of a request file.
use Rattle.wasm_values.specs.declared.outcome.NoMemory.{NoMemory}
use Rattle.std.specs.Prelude.{◌≡◌, ◌<◌, ◌≤◌, ℕ, ◌+◌, length, slice_get, Some, List, [], ◌∷◌, ◌++◌, Result, Ok, Err, IsErr, Bool, true, false}
use Rattle.module_store.specs.declared.desk.DeskCounts.{DeskCounts}
use Rattle.module_store.specs.declared.fault.LoadFault.{LoadFault}
use Rattle.module_store.specs.declared.fault.LoadFault.TheVariants as fault
use Rattle.wasm_spec.specs.Loading.{Loads, Refusal}
use Rattle.pool_model.specs.Contents.{Named}
use Rattle.request_text.specs.declared.request.Directive.{Directive}
use Rattle.request_text.specs.declared.request.Directive.TheVariants.{Module, Call, Retire}
use Rattle.run_books.specs.declared.books.Registry.{Registry}
use Rattle.run_books.specs.Lines.{Limits, loading_line}
use Rattle.report_text.specs.declared.report.ModuleLine.{ModuleLine}
use Rattle.report_text.specs.declared.report.ModuleLine.TheVariants as module_line

-- a module line
abbrev pub is_module : Directive → Bool
is_module (Module name bytes) = true
is_module (Call tenant place retired invocation) = false
is_module (Retire place name) = false

-- a module that may be called, or the line that tells why it is refused
abbrev pub Entry : Type 0
Entry = Result Named ModuleLine

-- what became of a module whose loading went so: memory is wanting exactly where loading wanted it
abbrev pub IsEntryOf : Result Named LoadFault → Result Entry NoMemory → Type 0
IsEntryOf (Ok named) entry = entry ≡ Ok (Ok named)
IsEntryOf (Err fault.TooMany) entry = ⊥
IsEntryOf (Err fault.Malformed) entry = entry ≡ Ok (Err module_line.Malformed)
IsEntryOf (Err fault.Unsupported) entry = entry ≡ Ok (Err module_line.Unsupported)
IsEntryOf (Err fault.Invalid) entry = entry ≡ Ok (Err module_line.Invalid)
IsEntryOf (Err (fault.OverLimit over)) entry = entry ≡ Ok (Err module_line.Limit)
IsEntryOf (Err (fault.Segment misfit)) entry = entry ≡ Ok (Err module_line.Segment)
IsEntryOf (Err fault.NoMemory) entry = IsErr entry

-- an entry for the module line of these bytes
abbrev pub IsEntry : Limits → List ℕ → Entry → Type 0
IsEntry limits bytes (Ok named) = Loads limits.profile bytes limits.load (Ok named.tree)
IsEntry limits bytes (Err line) = (why : Refusal) × Loads limits.profile bytes limits.load (Err why) × (line ≡ loading_line (Err why))

-- one for each of these modules, in their order
abbrev pub AreEntries : Limits → List (List ℕ) → List Entry → Type 0
AreEntries limits [] [] = Unit {0}
AreEntries limits (bytes ∷ modules) (entry ∷ entries) = IsEntry limits bytes entry × AreEntries limits modules entries
AreEntries limits _ _ = ⊥

-- the line that an entry shows
abbrev pub entry_line : Entry → ModuleLine
entry_line (Ok named) = module_line.Accepted
entry_line (Err line) = line

-- ---- the tags of accepted modules

-- the tag that an entry took at the desk: an accepted module has the next one
abbrev pub TakesTag : (before after : ℕ) → Entry → Type 0
TakesTag before after (Ok named) = (named.tag ≡ before) × (after ≡ before + 1)
TakesTag before after (Err line) = after ≡ before

-- each accepted module has a tag of its own, of those that the desk gave
pub record AreTagged (entries : List Entry) (desk : ℕ) : Type 0 where
  pub few : desk ≤ length entries
  pub given : (place : ℕ) (m : Named) → slice_get entries place ≡ Some (Ok m) → m.tag < desk
  pub own : (i j : ℕ) (m n : Named) → slice_get entries i ≡ Some (Ok m) → slice_get entries j ≡ Some (Ok n) → m.tag ≡ n.tag → i ≡ j

-- an entry more, for the module line of these bytes
pub record IsEntered (limits : Limits) (bytes : List ℕ) (before : List Entry) (desk : DeskCounts) (after : List Entry) (desk_after : DeskCounts) : Type 0 where
  pub entry : Entry
  pub is_entry : IsEntry limits bytes entry
  pub tag : TakesTag desk.registered desk_after.registered entry
  pub most : desk_after.most ≡ desk.most
  pub after_is : after ≡ before ++ entry ∷ []

-- a registry with an entry more than before, for the module line of these bytes
abbrev pub EntersModule : {N : Type 0} → Limits → List ℕ → (before after : Registry N) → Type 0
EntersModule limits bytes before after = IsEntered limits bytes before.entries.items before.desk after.entries.items after.desk

-- entries stay where they are
abbrev pub AreKept : (before after : List Entry) → Type 0
AreKept before after = (place : ℕ) (entry : Entry) → slice_get before place ≡ Some entry → slice_get after place ≡ Some entry
