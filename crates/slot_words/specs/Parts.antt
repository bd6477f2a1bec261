-- How a trail grows.
use Rattle.std.specs.Prelude.{◌≡◌, List, [], ◌∷◌, ◌++◌}
use Rattle.slot_words.specs.declared.views.Operation.{Operation}

-- one part for each of these items, in order
abbrev pub Parts : {A : Type 0} → (A → List Operation → Type 0) → List A → List Operation → Type 0
Parts IsPart [] done = done ≡ []
Parts IsPart (x ∷ xs) done = (part : List Operation) × (others : List Operation) × (done ≡ part ++ others) × IsPart x part × Parts IsPart xs others

-- the second trail is the first and operations that are as said
pub record Grew (Is : List Operation → Type 0) (before after : List Operation) : Type 0 where
  pub done : List Operation
  pub grown : after ≡ before ++ done
  pub is : Is done

-- first operations of the one kind, then of the other
pub record Then (First Second : List Operation → Type 0) (done : List Operation) : Type 0 where
  pub first : List Operation
  pub second : List Operation
  pub done_is : done ≡ first ++ second
  pub is_first : First first
  pub is_second : Second second
