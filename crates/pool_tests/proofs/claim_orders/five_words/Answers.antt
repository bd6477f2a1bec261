use Rattle.std.proofs.Common.{ℕ, List, [], ◌∷◌}
use Rattle.std.specs.List.{All}
use Rattle.std.proofs.lemmas.List.Elements.{All-cons, All-nil}
use Rattle.pool_core.specs.declared.words.StateWord.{StateWord}
use Rattle.pool_core.specs.StateWords.{IsWordOf}
use Rattle.pool_tests.proofs.claim_orders.five_words.Goals as goal

abbrev IsSome : ℕ → Type 0
IsSome r = (w : StateWord) × IsWordOf r w

five : (a b c d e : ℕ) → IsSome a → IsSome b → IsSome c → IsSome d → IsSome e → All IsSome (a ∷ b ∷ c ∷ d ∷ e ∷ [])
five a b c d e p q r s t = All-cons IsSome a (b ∷ c ∷ d ∷ e ∷ []) p (All-cons IsSome b (c ∷ d ∷ e ∷ []) q (All-cons IsSome c (d ∷ e ∷ []) r (All-cons IsSome d (e ∷ []) s (All-cons IsSome e [] t (All-nil IsSome)))))

pub returns : goal.returns
returns c = five _ _ _ _ _ (_, c.free.ensures) (_, c.free-2.ensures) (_, c.free-3.ensures) (_, c.free-4.ensures) (_, c.free-5.ensures)
