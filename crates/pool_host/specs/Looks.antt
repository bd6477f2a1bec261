-- What calls and retirements do at the retired tags of a host.
use Rattle.std.specs.Prelude.{◌≡◌, ◌↔◌, ℕ, Bool, true, false, List, [], ◌∷◌, ◌++◌, Option, Some, None, IfSome, Result, Ok, Err}
use Rattle.module_store.specs.declared.naming.Naming.{Ghosts}
use Rattle.retired_tags.specs.declared.tags.RetiredTags.{RetiredTags}
use Rattle.retired_tags.specs.declared.views.TagStep.{TagStep}
use Rattle.retired_tags.specs.declared.views.TagStep.TheVariants.{RetireLoad, RetireOr}
use Rattle.retired_tags.specs.Passes.{IsSameTagPass, StandsForAll, TagPass, steps, trail}
use Rattle.retired_tags.specs.Steps.{HasSet, Knows}
use Rattle.pool_host.specs.declared.answers.Answer.{Answer}
use Rattle.pool_host.specs.declared.answers.Answer.TheVariants as answer
use Rattle.pool_host.specs.declared.refusals.Refused.{Refused}
use Rattle.pool_host.specs.declared.refusals.Refused.TheVariants as refused
use Rattle.pool_host.specs.declared.answers.Begun.{Begun}
use Rattle.pool_host.specs.declared.answers.Begun.TheVariants as begun

-- What a call so answered read at its one look: the bit of its module, or nothing where it could not be made.
abbrev pub look_of : Answer → Option Bool
look_of answer.Retired = Some true
look_of (answer.Done outcome) = Some false
look_of (answer.Full kind) = Some false
look_of _ = None

-- what a call that begins read at its one look
abbrev pub begun_look : {N : Type 0} {G : Ghosts N} → Begun N G → Option Bool
begun_look (begun.Retired pass) = Some true
begun_look (begun.Ready paused) = Some false
begun_look (begun.Full pass kind) = Some false
begun_look _ = None

-- what a call that is refused so read at its one look
abbrev pub refused_look : Refused → Option Bool
refused_look refused.Retired = Some true
refused_look (refused.Full kind) = Some false
refused_look _ = None

-- and of one that starts
abbrev pub started_look : {A : Type 0} → Result A Refused → Option Bool
started_look (Ok started) = Some false
started_look (Err why) = refused_look why

-- a look at this tag is one step, and none is no step
abbrev pub look_steps : ℕ → Option Bool → List TagStep
look_steps tag None = []
look_steps tag (Some read) = RetireLoad tag read ∷ []

-- it read the bit of this tag exactly where one of these steps had set it
abbrev pub IsDecidedBy : ℕ → List TagStep → Option Bool → Type 0
IsDecidedBy tag done look = IfSome look (λ read. (read ≡ true) ↔ HasSet tag done)

-- A look of a pass, or none: it is its only step, it reads what the pass knows to be set, and, where the pass stands for all, exactly what it set itself.
pub record Looked (tags : RetiredTags) (tag : ℕ) (before after : TagPass) (look : Option Bool) : Type 0 where
  pub same : IsSameTagPass before after
  pub step : trail after ≡ trail before ++ look_steps tag look
  pub known : Knows tag (steps before) → IfSome look (λ read. read ≡ true)
  pub own_steps : StandsForAll tags before → IsDecidedBy tag (steps before) look

-- A step that sets the bit of this tag is the pass's only one. Where the pass stands for all, it reads the bit set exactly where the pass had set it itself.
pub record SetsBit (tags : RetiredTags) (tag : ℕ) (before after : TagPass) (already : Bool) : Type 0 where
  pub same : IsSameTagPass before after
  pub step : trail after ≡ trail before ++ RetireOr tag already ∷ []
  pub own_steps : StandsForAll tags before → (already ≡ true) ↔ HasSet tag (steps before)
