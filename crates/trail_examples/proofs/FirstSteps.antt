-- How a trail begins that goes one way or another, and the part of one slot.
use Rattle.std.proofs.Common.{◌≡◌, ℕ, Bool, true, false, MatchBool, List, [], ◌∷◌, ◌++◌, sym, ap, ◌∙◌, subst, append-nil}
use Rattle.std.specs.List.{range_with_len}
use Rattle.slot_words.specs.declared.views.Operation.{Operation}
use Rattle.slot_words.specs.Parts.{Parts}

module _ (A : List Operation → Type 0) (done : List Operation) (o : Operation) where
  -- it alone, or others behind it
  pub one_or_more : (b : Bool) → MatchBool b ((others : List Operation) × (done ≡ o ∷ others) × A others) (done ≡ o ∷ []) → (others : List Operation) × (done ≡ o ∷ others)
  one_or_more true (others, e, is) = (others, e)
  one_or_more false e = ([], e)

  -- it alone, or one or others behind it
  pub one_two_or_more : (b more : Bool) (p : Operation) → MatchBool b (done ≡ o ∷ []) (MatchBool more ((others : List Operation) × (done ≡ o ∷ others) × A others) (done ≡ o ∷ p ∷ [])) → (others : List Operation) × (done ≡ o ∷ others)
  one_two_or_more true more p e = ([], e)
  one_two_or_more false true p (others, e, is) = (others, e)
  one_two_or_more false false p e = (p ∷ [], e)

-- what is said of the others
pub of_others : (A : List Operation → Type 0) (o : Operation) (os : List Operation) → ((others : List Operation) × (o ∷ os ≡ o ∷ others) × A others) → A os
of_others A o os (others, e, is) = let same : others ≡ os = cc in subst A same is

-- of one slot there is one part
pub part_of_one : (IsPart : ℕ → List Operation → Type 0) (done : List Operation) → Parts IsPart (range_with_len 0 1) done → IsPart 0 done
part_of_one IsPart done (part, others, done_is, is, none) = subst (IsPart 0) (sym (done_is ∙ ap (λ (os : List Operation). part ++ os) none ∙ append-nil part)) is
