use Rattle.std.proofs.Common.{ℕ, List, subst, sym}
use Rattle.request_text.specs.Reading.{IsOwnPlace}
use Rattle.request_text.proofs.scope.Scope.add.Goals as goal

-- where memory is refused the names stay
pub invariant_of-self : goal.invariant_of-self
invariant_of-self c = record {
  by_name = c.declare.ensures.places;
  at_once = subst (λ (names : List (List ℕ)). IsOwnPlace names c.self.inside.recent) (sym c.in_err-place-in-Module.ensures.kept) c.self.invariant.at_once;
}
