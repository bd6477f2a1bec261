use Rattle.std.proofs.Common.{◌≡◌, ℕ, List, [], ◌∷◌, ◌++◌, length, refl, sym, subst, rules}
use Rattle.std.specs.Prelude.{Some}
use Rattle.std.specs.Ordering.{nat_cmp}
use Rattle.std.specs.BTreeMap.{UpdatesBy}
use Rattle.std.specs.Cmp.Lexicographic.{slice_cmp}
use Rattle.request_text.specs.Reading.{ArePlaces, IsOwnPlace}
use Rattle.request_text.proofs.PlaceLemmas.{own_place-push, places-push, places-same}
use Rattle.request_text.proofs.scope.declare.Goals as goal

-- where memory is refused the entries and the names stay
pub returns-in_err-reserve-clause-places : goal.returns-in_err-reserve-clause-places
returns-in_err-reserve-clause-places c = places-same c.args.places.now c.args.places.now c.args.names.now.items c.reserve.new.self.items refl c.reserve.ensures.items c.requires.places

pub returns-in_err-map_err-clause-places : goal.returns-in_err-map_err-clause-places
returns-in_err-map_err-clause-places c =
    let same : c.insert.new.self.entries ≡ c.args.places.now.entries = search rules in
    places-same c.args.places.now c.insert.new.self c.args.names.now.items c.reserve.new.self.items same c.reserve.ensures.items c.requires.places

pub returns-clause-places : goal.returns-clause-places
returns-clause-places c =
    let names = c.args.names.now.items in
    let u : UpdatesBy (λ x y. slice_cmp nat_cmp x.items y.items) (λ key. slice_cmp nat_cmp c.in_ok-key.key.items key.items) c.args.places.now c.insert.new.self (Some c.len-place.result) = search rules in
    let key : c.in_ok-key.key.items ≡ c.args.name.now = c.in_ok-key.ensures.items in
    let v : UpdatesBy (λ x y. slice_cmp nat_cmp x.items y.items) (λ key. slice_cmp nat_cmp c.args.name.now key.items) c.args.places.now c.insert.new.self (Some (length names)) =
    subst (λ (n : ℕ). UpdatesBy (λ x y. slice_cmp nat_cmp x.items y.items) (λ key. slice_cmp nat_cmp c.args.name.now key.items) c.args.places.now c.insert.new.self (Some n)) (let e : c.len-place.result ≡ length names = search rules in e)
    (subst (λ (l : List ℕ). UpdatesBy (λ x y. slice_cmp nat_cmp x.items y.items) (λ key. slice_cmp nat_cmp l key.items) c.args.places.now c.insert.new.self (Some c.len-place.result)) key u) in
    let pushed : c.push_reserved.new.self.items ≡ names ++ c.args.name.now ∷ [] = search rules in
    subst (λ (l : List (List ℕ)). ArePlaces c.insert.new.self l) (sym pushed) (places-push c.args.places.now c.insert.new.self names c.args.name.now c.requires.new c.requires.places v)

pub returns-clause-own : goal.returns-clause-own
returns-clause-own c =
    let names : List (List ℕ) = c.args.names.now.items in
    let place : c.len-place.result ≡ length names = search rules in
    let pushed : c.push_reserved.new.self.items ≡ names ++ c.args.name.now ∷ [] = search rules in
    subst (λ (l : List (List ℕ)). IsOwnPlace l c.len-place.result) (sym pushed)
    (subst (λ (n : ℕ). IsOwnPlace (names ++ c.args.name.now ∷ []) n) (sym place) (own_place-push names c.args.name.now c.requires.new))
