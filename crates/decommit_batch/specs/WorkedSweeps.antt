-- A sweep worked by hand.
use Rattle.std.specs.Prelude.{List, [], ◌∷◌}
use Rattle.slot_words.specs.declared.views.Operation.{Operation}
use Rattle.slot_words.specs.declared.views.Operation.TheVariants.{Load, Claim, Release, WarmDown, AwaitDown}

-- For the module of tag 5: slot 0 is warm for it and slot 1 awaiting, slot 2 is warm for tag 6, slot 3 is held. The claim of slot 4 is lost, and slot 5 is warm for tag 6 as it is won, slot 6 cold.
abbrev pub worked_sweep : List Operation
worked_sweep = Load 0 42 ∷ Claim 0 42 ∷ WarmDown 3 ∷ Release 0 0 ∷ Load 1 44 ∷ Claim 1 44 ∷ AwaitDown 1 ∷ Release 1 0 ∷ Load 2 50 ∷ Load 3 43
    ∷ Load 4 42 ∷ Claim 4 43 ∷ Load 5 42 ∷ Claim 5 50 ∷ Release 5 50 ∷ Load 6 44 ∷ Claim 6 0 ∷ Release 6 0 ∷ []
