-- The calls that one pass makes one after another, as far as they go at its host's retired tags.
use Rattle.std.specs.Prelude.{◌≡◌, ◌≢◌, ℕ, Bool, false, List, [], ◌∷◌, ◌++◌, Option, Some}
use Rattle.module_store.specs.declared.naming.Naming.{Ghosts}
use Rattle.retired_tags.specs.declared.tags.RetiredTags.{RetiredTags}
use Rattle.retired_tags.specs.Passes.{TagPass}
use Rattle.pool_host.specs.declared.answers.Answer.{Answer}
use Rattle.pool_host.specs.declared.answers.Begun.{Begun}
use Rattle.pool_host.specs.declared.answers.Retire.{Retire}
use Rattle.pool_host.specs.Looks.{begun_look, look_of, Looked, SetsBit}
use Rattle.pool_host.specs.Retiring.{is_already}

-- The retirement of the module of this tag, as it was answered, or a call of it, made at once or begun, by what its look read.
pub data PassCall : Type 0 where
  Retires : ℕ → Retire → PassCall
  Calls : ℕ → Option Bool → PassCall

-- what it makes of the pass, as its own clauses say
abbrev pub Makes : RetiredTags → PassCall → (before after : TagPass) → Type 0
Makes tags (Retires tag how) before after = SetsBit tags tag before after (is_already how)
Makes tags (Calls tag look) before after = Looked tags tag before after look

-- what one after the other makes of it
abbrev pub MakeAll : RetiredTags → List PassCall → (before after : TagPass) → Type 0
MakeAll tags [] before after = after ≡ before
MakeAll tags (call ∷ calls) before after = (between : TagPass) × Makes tags call before between × MakeAll tags calls between after

-- calls among which a call of a module follows its retirement
abbrev pub with_later : ℕ → Retire → (look : Option Bool) → (first between last : List PassCall) → List PassCall
with_later tag how look first between last = first ++ (Retires tag how ∷ (between ++ (Calls tag look ∷ last)))

-- A call that looked so was not made: its module is retired, or the call could not be made anyway.
abbrev pub IsNotMade : Option Bool → Type 0
IsNotMade look = look ≢ Some false

-- Whatever calls a pass makes one after another: a call of a module after its retirement is not made.
abbrev pub NeverCalledAgain : Type 0
NeverCalledAgain = (tags : RetiredTags) (tag : ℕ) (how : Retire) (a : Answer) (first between last : List PassCall) (before after : TagPass)
    → MakeAll tags (with_later tag how (look_of a) first between last) before after → IsNotMade (look_of a)

-- and none begins
abbrev pub NeverBegunAgain : {N : Type 0} → Ghosts N → Type 0
NeverBegunAgain {N} G = (tags : RetiredTags) (tag : ℕ) (how : Retire) (b : Begun N G) (first between last : List PassCall) (before after : TagPass)
    → MakeAll tags (with_later tag how (begun_look b) first between last) before after → IsNotMade (begun_look b)
