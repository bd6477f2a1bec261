use Rattle.std.proofs.Common.{◌≡◌, ℕ, ◌<◌, length, subst, sym, rules}
use Rattle.std.specs.Prelude.{Option, IfSome}
use Rattle.request_words.specs.Words.{place_of}
use Rattle.request_text.specs.Reading.{IsOwnPlace}
use Rattle.request_text.proofs.PlaceLemmas.{own_place, place_within}
use Rattle.request_text.proofs.scope.Scope.mapped_place.Goals as goal

pub returns-clause-within : goal.returns-clause-within
returns-clause-within c =
    let e : c.copied.result ≡ place_of c.args.self.now.names c.args.name.now = search rules in
    subst (λ (o : Option ℕ). IfSome o (λ place. place < length c.args.self.now.names)) (sym e) (place_within c.args.self.now.names c.args.name.now)

pub returns-clause-own : goal.returns-clause-own
returns-clause-own c =
    let e : c.copied.result ≡ place_of c.args.self.now.names c.args.name.now = search rules in
    subst (λ (o : Option ℕ). IfSome o (IsOwnPlace c.args.self.now.names)) (sym e) (own_place c.args.self.now.names c.args.name.now)
