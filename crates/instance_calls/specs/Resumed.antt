-- What a slice makes of a call that is paused on an instance.
use Rattle.std.specs.Prelude.{◌≡◌, ℕ, ◌+◌, List, [], Some}
use Rattle.wasm_values.specs.declared.outcome.Val.{Val}
use Rattle.pool_limits.specs.declared.numbers.Numbers.{Numbers}
use Rattle.pool_model.specs.Contents.{Named}
use Rattle.paused_call.specs.Fuel.{left_in}
use Rattle.paused_call.specs.Standing.{Waits, upto}
use Rattle.instance_calls.specs.declared.instance.Instance.{Instance}
use Rattle.instance_calls.specs.declared.paused_instance.Resumed.{Resumed}
use Rattle.instance_calls.specs.declared.paused_instance.Resumed.TheVariants.{Again, Done}
use Rattle.instance_calls.specs.CallWords.{EndsAs}
use Rattle.instance_calls.specs.Instances.{instance_contents}
use Rattle.instance_calls.specs.Parts.{BelongsTo, memory_slot, table_slot, ticket_slot}
use Rattle.instance_calls.specs.Paused.{WentOn}
use Rattle.instance_calls.specs.PausedInstances.{comes_to}
use Rattle.instance_calls.specs.PausedViews.{PausedView, contents_in}

-- it is this call, whatever turns it has made
pub record IsCallOf (m : Named) (function : ℕ) (args : List Val) (fuel : ℕ) (v : PausedView) : Type 0 where
  pub named_is : v.named ≡ m
  pub function_is : v.call.function ≡ function
  pub fuel_is : v.call.fuel ≡ fuel
  pub args_are : v.args ≡ args

-- it has made no turn of this call, and answered nothing
pub record IsBegun (m : Named) (function : ℕ) (args : List Val) (fuel : ℕ) (v : PausedView) : Type 0 where
  pub named_is : v.named ≡ m
  pub function_is : v.call.function ≡ function
  pub fuel_is : v.call.fuel ≡ fuel
  pub turns_are : v.call.turns ≡ 0
  pub args_are : v.args ≡ args
  pub no_answer : v.answer ≡ []

-- it is the same call of the same module in the same slots, after so many turns more
pub record GoesOnPaused (slice : ℕ) (v w : PausedView) : Type 0 where
  pub ticket : w.ticket ≡ v.ticket
  pub memory : w.memory ≡ v.memory
  pub table : w.table ≡ v.table
  pub named : w.named ≡ v.named
  pub function : w.call.function ≡ v.call.function
  pub fuel : w.call.fuel ≡ v.call.fuel
  pub args : w.args ≡ v.args
  pub turns : w.call.turns ≡ v.call.turns + slice

-- it goes on
pub record HasMore (config : Numbers) (v : PausedView) (slice : ℕ) (w : PausedView) : Type 0 where
  pub waits : Waits (comes_to config v) v.call.fuel (v.call.turns + slice)
  pub goes_on : GoesOnPaused slice v w
  pub went : WentOn config.pages v.named.tree (comes_to config v) v.call.turns (upto v.call slice) (contents_in v) (contents_in w)

-- the contents of its slots belong to its module
pub record SlotsBelong (v : PausedView) : Type 0 where
  pub memory : BelongsTo v.named v.memory
  pub table : BelongsTo v.named v.table

module _ {N : Type 0} where
  -- the slots of an instance
  pub record HasSlotsOf (x : Instance N) (v : PausedView) : Type 0 where
    pub ticket : v.ticket ≡ ticket_slot x.ticket
    pub memory : v.memory ≡ memory_slot x.memory
    pub table : v.table ≡ table_slot x.table

  -- it is over
  pub record IsOver (config : Numbers) (v : PausedView) (slice : ℕ) (x : Instance N) : Type 0 where
    pub over : ¬ (Waits (comes_to config v) v.call.fuel (v.call.turns + slice))
    pub slots : HasSlotsOf x v
    pub belongs : SlotsBelong v
    pub went : WentOn config.pages v.named.tree (comes_to config v) v.call.turns (upto v.call slice) (contents_in v) (instance_contents x)

  abbrev pub HasResumed : Numbers → PausedView → ℕ → Resumed N → Type 0
  HasResumed config v slice (Again w) = HasMore config v slice w
  HasResumed config v slice (Done end x answer) = IsOver config v slice x × EndsAs (comes_to config v) v.call.fuel end.outcome answer
      × (left_in (comes_to config v v.call.fuel) ≡ Some end.left)
