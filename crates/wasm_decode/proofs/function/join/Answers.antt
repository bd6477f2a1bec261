use Rattle.std.proofs.Common.{◌≡◌, ℕ, List, [], ◌∷◌, length, map, refl, ap, ◌∙◌, arith, Bor}
use Rattle.std.specs.List.{zip}
use Rattle.std.proofs.lemmas.Iterator.{YieldsList-from_slice, YieldsList-from_zip}
use Rattle.std.proofs.lemmas.Iterator.Adapters.{YieldsList-from_vec}
use Rattle.std.proofs.lemmas.Iterator.Consumers.{YieldsList-end}
use Rattle.wasm_spec.specs.Grammar.{Body}
use Rattle.wasm_decode.specs.declared.function.SizedBody.{SizedBody}
use Rattle.wasm_decode.specs.Bodies.{body_tree}
use Rattle.wasm_decode.proofs.function.join.Goals as goal

zip-firsts : {A B : Type 0} (xs : List A) (ys : List B) → length xs ≡ length ys → map (λ p. p.0) (zip xs ys) ≡ xs
zip-firsts [] ys e = refl
zip-firsts (x ∷ xs) [] e = absurd (omega (arith, e))
zip-firsts {A = A} (x ∷ xs) (y ∷ ys) e = ap (λ (l : List A). x ∷ l) (zip-firsts xs ys (omega (arith, e)))

zip-seconds : {A B C : Type 0} (f : B → C) (xs : List A) (ys : List B) → length xs ≡ length ys → map (λ p. f p.1) (zip xs ys) ≡ map f ys
zip-seconds f [] [] e = refl
zip-seconds f [] (y ∷ ys) e = absurd (omega (arith, e))
zip-seconds f (x ∷ xs) [] e = absurd (omega (arith, e))
zip-seconds {C = C} f (x ∷ xs) (y ∷ ys) e = ap (λ (l : List C). f y ∷ l) (zip-seconds f xs ys (omega (arith, e)))

maps-firsts : (ps : List (Bor ℕ × SizedBody)) → map (λ p. p.0.now) ps ≡ map (λ (p : ℕ × SizedBody). p.0) (map (λ p. (p.0.now, p.1)) ps)
maps-firsts [] = refl
maps-firsts (p ∷ ps) = ap (λ (l : List ℕ). p.0.now ∷ l) (maps-firsts ps)

maps-seconds : (ps : List (Bor ℕ × SizedBody)) → map (λ p. body_tree p.1.body) ps ≡ map (λ (p : ℕ × SizedBody). body_tree p.1.body) (map (λ p. (p.0.now, p.1)) ps)
maps-seconds [] = refl
maps-seconds (p ∷ ps) = ap (λ (l : List Body). body_tree p.1.body ∷ l) (maps-seconds ps)

firsts : (ps : List (Bor ℕ × SizedBody)) (xs : List ℕ) (ys : List SizedBody) → map (λ p. (p.0.now, p.1)) ps ≡ zip xs ys → map (λ p. p.0.now) ps ≡ map (λ p. p.0) (zip xs ys)
firsts ps xs ys e = maps-firsts ps ∙ ap (map (λ p. p.0)) e

seconds : (ps : List (Bor ℕ × SizedBody)) (xs : List ℕ) (ys : List SizedBody) → map (λ p. (p.0.now, p.1)) ps ≡ zip xs ys → map (λ p. body_tree p.1.body) ps ≡ map (λ p. body_tree p.1.body) (zip xs ys)
seconds ps xs ys e = maps-seconds ps ∙ ap (map (λ p. body_tree p.1.body)) e

pub returns-clause-types : goal.returns-clause-types
returns-clause-types c =
    let xs = c.args.type_indices.now in
    let ys = c.args.bodies.items in
    let end = YieldsList-end (YieldsList-from_zip (YieldsList-from_slice xs (cc)) (YieldsList-from_vec ys (cc) (cc))) c.loop-type_index.yielded c.loop-type_index.type_index-iterator c.loop-type_index.yielded_by c.next.result c.next.new.self c.in-None.is c.next.ensures.steps in
    c.loop-type_index.invariant.types ∙ firsts c.loop-type_index.yielded xs ys end.0 ∙ zip-firsts xs ys c.requires

pub returns-clause-bodies : goal.returns-clause-bodies
returns-clause-bodies c =
    let xs = c.args.type_indices.now in
    let ys = c.args.bodies.items in
    let end = YieldsList-end (YieldsList-from_zip (YieldsList-from_slice xs (cc)) (YieldsList-from_vec ys (cc) (cc))) c.loop-type_index.yielded c.loop-type_index.type_index-iterator c.loop-type_index.yielded_by c.next.result c.next.new.self c.in-None.is c.next.ensures.steps in
    c.loop-type_index.invariant.bodies ∙ seconds c.loop-type_index.yielded xs ys end.0 ∙ zip-seconds (λ s. body_tree s.body) xs ys c.requires
