-- Calls of one pass as the theorem of retirement has them, worked by hand: there are such calls, so that the theorem speaks of something.
use Rattle.std.proofs.Common.{◌≤◌, true, false, List, [], ◌∷◌, Some, refl, arith}
use Rattle.retired_tags.specs.declared.tags.RetiredTags.{RetiredTags}
use Rattle.retired_tags.specs.declared.views.TagStep.{TagStep}
use Rattle.retired_tags.specs.declared.views.TagStep.TheVariants.{RetireLoad, RetireOr}
use Rattle.retired_tags.specs.Passes.{IsSameTagPass, TagPass, passes_of}
use Rattle.retired_tags.specs.Views.{new_view, view_after}
use Rattle.pool_host.specs.declared.answers.Retire.TheVariants.{Already, First}
use Rattle.pool_host.specs.Looks.{Looked, SetsBit}
use Rattle.pool_host.specs.Retirements.{Calls, MakeAll, PassCall, Retires}

-- a pass after a step
abbrev after : TagPass → TagStep → TagPass
after p o = record p { me = (view_after p.me.0 o, p.me.1) }

same_after : (p : TagPass) (o : TagStep) → IsSameTagPass p (after p o)
same_after p o = record { table_is = refl; number_is = refl; passes_are = refl; unsplit_is = refl; share_is = refl; joined_is = refl; slots_are = refl }

-- a module is retired, its call is refused, a call of another goes on, and the first is retired again
abbrev calls : List PassCall
calls = Retires 5 (First 1) ∷ Calls 5 (Some true) ∷ Calls 6 (Some false) ∷ Retires 5 Already ∷ []

module _ (tags : RetiredTags) (several : 2 ≤ passes_of tags) (seat : TagPass) where
  abbrev new : TagPass
  new = record seat { me = (new_view 2 0 1, []) }

  abbrev retired : TagPass
  retired = after new (RetireOr 5 false)

  abbrev refused : TagPass
  refused = after retired (RetireLoad 5 true)

  abbrev called : TagPass
  called = after refused (RetireLoad 6 false)

  abbrev again : TagPass
  again = after called (RetireOr 5 true)

  first : SetsBit tags 5 new retired false
  first = record { same = same_after new (RetireOr 5 false); step = refl; own_steps = λ all. absurd (omega arith) }

  second : Looked tags 5 retired refused (Some true)
  second = record { same = same_after retired (RetireLoad 5 true); step = refl; known = λ knows. refl; own_steps = λ all. absurd (omega arith) }

  third : Looked tags 6 refused called (Some false)
  third = record { same = same_after refused (RetireLoad 6 false); step = refl; known = λ knows. absurd (omega arith); own_steps = λ all. absurd (omega arith) }

  fourth : SetsBit tags 5 called again true
  fourth = record { same = same_after called (RetireOr 5 true); step = refl; own_steps = λ all. absurd (omega arith) }

  all_made : MakeAll tags calls new again
  all_made = (retired, first, (refused, second, (called, third, (again, fourth, refl))))
