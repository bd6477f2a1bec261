-- The history of each pool in the story: the steps of its own kind in their order, with those that only read.
use Rattle.std.specs.Prelude.{◌≡◌, [], ◌∷◌, refl}
use Rattle.pool_core.specs.declared.events.Event.TheVariants.{AwaitDown, AwaitUp, Claim, Home, Load, Out, Release, Split, Stamp, WarmDown, WarmUp}
use Rattle.pool_core.specs.StateWords.{cold_target}
use Rattle.pool_model.specs.declared.kinds.Kind.TheVariants.{Instance, Memory, Table}
use Rattle.pool_model.specs.Histories.{steps_of}
use Rattle.model_examples.proofs.Story.{awaiting, warm, story}

-- caller 0 reads the words of both slots before it claims one
tickets : steps_of Instance story ≡ Split 0 1 ∷ Load 0 0 ∷ Load 0 1 ∷ Claim 0 0 ∷ Out 0 0 ∷ Claim 1 1 ∷ Out 1 1 ∷ Home 0 0 ∷ Release 0 0 cold_target ∷ Home 1 1 ∷ Release 1 1 cold_target ∷ Claim 0 0 ∷ Out 0 0 ∷ []
tickets = refl

memories : steps_of Memory story ≡ Split 0 1 ∷ Claim 0 0 ∷ Out 0 0 ∷ Claim 1 1 ∷ Out 1 1 ∷ Home 0 0 ∷ AwaitUp 0 ∷ Stamp 0 ∷ Release 0 0 (awaiting 0 0)
    ∷ Claim 0 0 ∷ AwaitDown 0 ∷ Out 0 0 ∷ WarmUp 0 ∷ Home 0 0 ∷ Release 0 0 (warm 0 0) ∷ Home 1 1 ∷ AwaitUp 1 ∷ Stamp 1 ∷ Release 1 1 (awaiting 1 1)
    ∷ Claim 0 1 ∷ AwaitDown 0 ∷ Out 0 1 ∷ []
memories = refl

-- the claim of the slot that is held is among them
tables : steps_of Table story ≡ Split 0 1 ∷ Claim 0 0 ∷ Out 0 0 ∷ Claim 1 0 ∷ Claim 1 1 ∷ Out 1 1 ∷ Home 0 0 ∷ WarmUp 0 ∷ Stamp 0 ∷ Release 0 0 (warm 0 0)
    ∷ WarmUp 1 ∷ WarmDown 1 ∷ Home 1 1 ∷ Release 1 1 cold_target ∷ Claim 0 0 ∷ WarmDown 0 ∷ Out 0 0 ∷ []
tables = refl
