use Rattle.std.proofs.Common.{◌≡◌, ℕ, List, sym}
use Rattle.std.specs.Prelude.{Some}
use Rattle.std.specs.List.{slice_get}
use Rattle.std.proofs.lemmas.Option.{slice_get_within}
use Rattle.request_text.proofs.PlaceLemmas.{found_at_once}
use Rattle.request_text.proofs.scope.Scope.place.Goals as goal

pub returns-then-has_name-clause-place : goal.returns-then-has_name-clause-place
returns-then-has_name-clause-place c =
    let names : List (List ℕ) = c.self.inside.names.items in
    let at : slice_get names c.self.inside.recent ≡ Some c.args.name.now = rw c.deref.ensures.value at (c.has_name.ensures.0 c.if-has_name.true) in
    rw (← c.self.view_is) (sym (found_at_once names c.self.inside.recent c.args.name.now c.self.invariant.at_once at))

pub returns-then-has_name-clause-within : goal.returns-then-has_name-clause-within
returns-then-has_name-clause-within c =
    let names : List (List ℕ) = c.self.inside.names.items in
    let at : slice_get names c.self.inside.recent ≡ Some c.args.name.now = rw c.deref.ensures.value at (c.has_name.ensures.0 c.if-has_name.true) in
    rw (← c.self.view_is) (slice_get_within names c.self.inside.recent c.args.name.now at)

pub returns-then-has_name-clause-own : goal.returns-then-has_name-clause-own
returns-then-has_name-clause-own c = rw (← c.self.view_is) c.self.invariant.at_once
