-- After its retirement no call of a module is made by the pass that retired it.
use Rattle.std.proofs.Common.{◌≡◌, ℕ, ◌+◌, ◌==◌, Bool, true, true≢false, cond, List, [], ◌∷◌, ◌++◌, Option, IfSome, refl, sym, ap, ◌∙◌, subst, arith}
use Rattle.std.specs.List.{count_by}
use Rattle.std.proofs.lemmas.Bool.{eq-eqb}
use Rattle.std.proofs.lemmas.List.Sums.{sum_by-append, sum_by_push}
use Rattle.module_store.specs.declared.naming.Naming.{Ghosts}
use Rattle.retired_tags.specs.declared.tags.RetiredTags.{RetiredTags}
use Rattle.retired_tags.specs.declared.views.TagStep.{TagStep}
use Rattle.retired_tags.specs.declared.views.TagStep.TheVariants.{RetireOr}
use Rattle.retired_tags.specs.Passes.{IsSameTagPass, TagPass, steps, trail}
use Rattle.retired_tags.specs.Steps.{Knows, tells}
use Rattle.pool_host.specs.declared.answers.Retire.{Retire}
use Rattle.pool_host.specs.Looks.{begun_look, look_of, look_steps}
use Rattle.pool_host.specs.Retirements.{Calls, IsNotMade, MakeAll, Makes, NeverBegunAgain, NeverCalledAgain, PassCall, Retires, with_later}
use Rattle.pool_host.specs.Retiring.{is_already}

module _ (tag : ℕ) where
  -- how many steps of a pass tell it that the bit is set, after more steps of its own
  abbrev told : List TagStep → ℕ
  told done = count_by (tells tag) done

  told_more : (p q : TagPass) (more : List TagStep) → IsSameTagPass p q → trail q ≡ trail p ++ more → told (steps q) ≡ told (steps p) + told more
  told_more p q more same step =
      let f : TagStep → ℕ = λ o. cond (tells tag o) 1 0 in
      let now : told (steps q) ≡ told (trail q) + told q.me.0.joined_trail = sum_by-append f (trail q) q.me.0.joined_trail in
      let grown : told (trail q) ≡ told (trail p) + told more = ap told step ∙ sum_by-append f (trail p) more in
      let joined : told q.me.0.joined_trail ≡ told p.me.0.joined_trail = ap told same.joined_is in
      let was : told (steps p) ≡ told (trail p) + told p.me.0.joined_trail = sum_by-append f (trail p) p.me.0.joined_trail in
      omega arith

  one_told : (already : Bool) → told (RetireOr tag already ∷ []) ≡ 1
  one_told already =
      let f : TagStep → ℕ = λ o. cond (tells tag o) 1 0 in
      let one : told (RetireOr tag already ∷ []) ≡ told [] + cond (tag == tag) 1 0 = sum_by_push f [] (RetireOr tag already) in
      let is : ◌≡◌ {A = ℕ} (cond (tag == tag) 1 0) 1 = ap (λ (b : Bool). cond b 1 0) (eq-eqb tag tag refl) in
      omega arith

  module _ (tags : RetiredTags) where
    still_knows : (call : PassCall) (p q : TagPass) → Makes tags call p q → Knows tag (steps p) → Knows tag (steps q)
    still_knows (Retires t how) p q makes knows = let more = told_more p q (RetireOr t (is_already how) ∷ []) makes.same makes.step in omega arith
    still_knows (Calls t look) p q makes knows = let more = told_more p q (look_steps t look) makes.same makes.step in omega arith

    know_all : (calls : List PassCall) (p q : TagPass) → MakeAll tags calls p q → Knows tag (steps p) → Knows tag (steps q)
    know_all [] p q make knows = subst (λ (r : TagPass). Knows tag (steps r)) (sym make) knows
    know_all (call ∷ calls) p q make knows = know_all calls make.0 q make.2 (still_knows call p make.0 make.1 knows)

    -- some calls, and then others
    in_parts : (calls others : List PassCall) (p q : TagPass) → MakeAll tags (calls ++ others) p q → (r : TagPass) × MakeAll tags calls p r × MakeAll tags others r q
    in_parts [] others p q make = (p, refl, make)
    in_parts (call ∷ calls) others p q make = let rest = in_parts calls others make.0 q make.2 in (rest.0, (make.0, make.1, rest.1), rest.2)

    -- the look of a call after the retirement reads the bit set
    reads_set : (how : Retire) (look : Option Bool) (first between last : List PassCall) (p q : TagPass) → MakeAll tags (with_later tag how look first between last) p q
        → IfSome look (λ (read : Bool). read ≡ true)
    reads_set how look first between last p q make =
        let later = in_parts first (Retires tag how ∷ (between ++ (Calls tag look ∷ last))) p q make in
        let retired = later.2 in
        let called = in_parts between (Calls tag look ∷ last) retired.0 q retired.2 in
        let more = told_more later.0 retired.0 (RetireOr tag (is_already how) ∷ []) retired.1.same retired.1.step in
        let one = one_told (is_already how) in
        called.2.1.known (know_all between retired.0 called.0 called.1 (omega arith))

not_made : (look : Option Bool) → IfSome look (λ (read : Bool). read ≡ true) → IsNotMade look
not_made look read is = let P : Option Bool → Type 0 = λ l. IfSome l (λ (b : Bool). b ≡ true) in true≢false (sym (subst P is read))

pub never_called_again : NeverCalledAgain
never_called_again tags tag how a first between last p q make = not_made (look_of a) (reads_set tag tags how (look_of a) first between last p q make)

pub never_begun_again : {N : Type 0} (G : Ghosts N) → NeverBegunAgain G
never_begun_again G tags tag how b first between last p q make = not_made (begun_look b) (reads_set tag tags how (begun_look b) first between last p q make)
