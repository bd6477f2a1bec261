use Rattle.std.proofs.Common.{◌≡◌, ℕ, ◌+◌, List, [], ◌∷◌, map, drop, get_or, true, false, IsTrue, refl, sym, ◌∙◌, subst, arith, rules, drop_of_length-le}
use Rattle.wasm_spec.specs.Grammar.{Section, IsCustom, IsOrderedAbove, place}
use Rattle.wasm_decode.specs.declared.section.Section.{Section as Read}
use Rattle.wasm_decode.specs.Sections.{section_of}
use Rattle.wasm_decode.proofs.Ordered.{at-place, behind-custom, behind-placed, not-custom, not-placed}
use Rattle.wasm_decode.proofs.section.are_in_order.Goals as goal
use Rattle.wasm_decode.proofs.section.are_in_order.Goals.{then-section-eq0+else-not-is_custom, else-section-eq0+else-most-section+else-here-last}

pub loop-section-init : goal.loop-section-init
loop-section-init c = (λ h. h, λ h. h)

pub returns-then-not-is_custom : goal.returns-then-not-is_custom
returns-then-not-is_custom c =
    let none : Read = record { id = 0; contents = record { ref_ptr = (0, 0); now = [] } } in
    let i = c.loop-section.section-index in
    let s : Section = section_of (get_or c.args.sections.now i none) in
    let ss : List Section = map section_of (drop (i + 1) c.args.sections.now) in
    let e = at-place c.args.sections.now i none c.loop-section-test.true in (
      λ f. absurd (let g : false ≡ true = f in cc),
      λ o.
          let h : IsOrderedAbove c.args.profile c.loop-section.last (s ∷ ss) = subst (λ (l : List Section). IsOrderedAbove c.args.profile c.loop-section.last l) e (c.loop-section.invariant.0 o) in
          absurd (not-custom c.args.profile c.loop-section.last s ss c.if-section-eq0.true (λ k. let t : IsTrue c.is_custom.result = c.is_custom.ensures.1 k in let f : c.is_custom.result ≡ false = c.if-not-is_custom.true in absurd (cc)) h),
    )

pub returns-then-most-section : goal.returns-then-most-section
returns-then-most-section c =
    let none : Read = record { id = 0; contents = record { ref_ptr = (0, 0); now = [] } } in
    let i = c.loop-section.section-index in
    let s : Section = section_of (get_or c.args.sections.now i none) in
    let ss : List Section = map section_of (drop (i + 1) c.args.sections.now) in
    let e = at-place c.args.sections.now i none c.loop-section-test.true in (
      λ f. absurd (let g : false ≡ true = f in cc),
      λ o.
          let h : IsOrderedAbove c.args.profile c.loop-section.last (s ∷ ss) = subst (λ (l : List Section). IsOrderedAbove c.args.profile c.loop-section.last l) e (c.loop-section.invariant.0 o) in
          absurd (not-placed c.args.profile c.loop-section.last s ss c.if-section-eq0.false (λ a b. omega (arith, c.last_id-most.ensures, c.if-most-section.true)) h),
    )

pub returns-then-here-last : goal.returns-then-here-last
returns-then-here-last c =
    let none : Read = record { id = 0; contents = record { ref_ptr = (0, 0); now = [] } } in
    let i = c.loop-section.section-index in
    let s : Section = section_of (get_or c.args.sections.now i none) in
    let ss : List Section = map section_of (drop (i + 1) c.args.sections.now) in
    let e = at-place c.args.sections.now i none c.loop-section-test.true in (
      λ f. absurd (let g : false ≡ true = f in cc),
      λ o.
          let h : IsOrderedAbove c.args.profile c.loop-section.last (s ∷ ss) = subst (λ (l : List Section). IsOrderedAbove c.args.profile c.loop-section.last l) e (c.loop-section.invariant.0 o) in
          absurd (not-placed c.args.profile c.loop-section.last s ss c.if-section-eq0.false (λ a b. omega (arith, c.place-here.ensures, c.if-here-last.true)) h),
    )

pub loop-section-preserved : goal.loop-section-preserved
loop-section-preserved c =
    let none : Read = record { id = 0; contents = record { ref_ptr = (0, 0); now = [] } } in
    let i = c.loop-section.section-index in
    let s : Section = section_of (get_or c.args.sections.now i none) in
    let ss : List Section = map section_of (drop (i + 1) c.args.sections.now) in
    let e = at-place c.args.sections.now i none c.loop-section-test.true in
    let low = c.loop-section.last in
    let P : ℕ → List Section → Type 0 = λ n l. IsOrderedAbove c.args.profile n l in
    let from : P low (s ∷ ss) → P 0 (map section_of c.args.sections.now) = λ h. c.loop-section.invariant.1 (subst (P low) (sym e) h) in
    let to : P 0 (map section_of c.args.sections.now) → P low (s ∷ ss) = λ h. subst (P low) e (c.loop-section.invariant.0 h) in
    elim c.if-section-eq0.branch [
      | then-section-eq0+else-not-is_custom w ↦
          let custom : IsCustom s.contents = w.is_custom.ensures.0 (let t : IsTrue w.is_custom.result = first_of (cc, search rules) in t) in
          let b = behind-custom c.args.profile low s ss w.if-section-eq0.true custom in
          let last : c.if-section-eq0.last ≡ low = w.last-is in
          (λ h. subst (λ (n : ℕ). P n ss) (sym last) (b.0 (to h)), λ h. from (b.1 (subst (λ (n : ℕ). P n ss) last h)))
      | else-section-eq0+else-most-section+else-here-last w ↦
          let b = behind-placed c.args.profile low s ss w.if-section-eq0.false (omega (arith, w.place-here.ensures, w.if-here-last.false)) (omega (arith, c.last_id-most.ensures, w.if-most-section.false)) in
          let last : c.if-section-eq0.last ≡ place s.id = w.last-is ∙ w.place-here.ensures in
          (λ h. subst (λ (n : ℕ). P n ss) (sym last) (b.0 (to h)), λ h. from (b.1 (subst (λ (n : ℕ). P n ss) last h)))
    ]

pub returns : goal.returns
returns c =
    let done : drop c.loop-section.section-index c.args.sections.now ≡ [] = drop_of_length-le c.args.sections.now (omega arith) in
    (λ t. c.loop-section.invariant.1 (rw done tt), λ o. refl)
