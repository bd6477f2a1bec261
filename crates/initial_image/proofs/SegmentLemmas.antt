-- Segments one after another: the first that ends past its table or memory, and what they write.
use Rattle.std.proofs.Common.{◌≡◌, ℕ, ◌+◌, ◌<◌, ◌≤◌, Bool, true, false, cond, List, ◌∷◌, length, drop, get_or, refl, sym, ap, ◌∙◌}
use Rattle.std.specs.Prelude.{Option, Some, None, find, fold, map}
use Rattle.std.specs.List.{enumerate_from}
use Rattle.std.proofs.lemmas.List.{at_drop_more}
use Rattle.std.proofs.lemmas.Bool.{cond-true, cond-false, le-ltb, lt-ltb, ltb-false}
use Rattle.wasm_spec.specs.Store.{Extent}
use Rattle.initial_image.specs.Segments.{is_past}

module _ {S T : Type 0} (tree : S → T) (extent : ℕ × T → Extent) (segments : List S) where
  -- the first misfit from the i-th segment on
  abbrev pub misfit_from : ℕ → Option Extent
  misfit_from i = find is_past (map extent (enumerate_from i (map tree (drop i segments))))

  module _ (i : ℕ) (s : S) (lt : i < length segments) (is : s ≡ get_or segments i s) where
    -- it is that segment, or one of those after it
    misfit_from-next : misfit_from i ≡ find is_past (extent (i, tree s) ∷ map extent (enumerate_from (i + 1) (map tree (drop (i + 1) segments))))
    misfit_from-next = at_drop_more (λ (l : List S). find is_past (map extent (enumerate_from i (map tree l)))) segments i s lt
        ∙ ap (λ (x : S). find is_past (extent (i, tree x) ∷ map extent (enumerate_from (i + 1) (map tree (drop (i + 1) segments))))) (sym is)

    pub misfit_from-within : (extent (i, tree s)).end ≤ (extent (i, tree s)).size → misfit_from (i + 1) ≡ misfit_from i
    misfit_from-within le = sym (misfit_from-next ∙ cond-false _ _ _ (le-ltb (extent (i, tree s)).size (extent (i, tree s)).end le))

    pub misfit_from-here : (extent (i, tree s)).size < (extent (i, tree s)).end → misfit_from i ≡ Some (extent (i, tree s))
    misfit_from-here past = misfit_from-next ∙ cond-true _ _ _ (lt-ltb (extent (i, tree s)).size (extent (i, tree s)).end past)

    -- where there is none, that segment fits, and so do those after it
    pub misfit_from-none : misfit_from i ≡ None → ((extent (i, tree s)).end ≤ (extent (i, tree s)).size) × (misfit_from (i + 1) ≡ None)
    misfit_from-none none =
        let split : (b : Bool) → is_past (extent (i, tree s)) ≡ b → ◌≡◌ {A = Option Extent} (cond b (Some (extent (i, tree s))) (misfit_from (i + 1))) None
        → ((extent (i, tree s)).end ≤ (extent (i, tree s)).size) × (misfit_from (i + 1) ≡ None) = elim [
          | true ↦ λ q h. absurd (cc)
          | false ↦ λ q h. (ltb-false (extent (i, tree s)).size (extent (i, tree s)).end q, h)
        ] in split (is_past (extent (i, tree s))) refl (sym misfit_from-next ∙ none)

module _ {S T A : Type 0} (tree : S → T) (write : A → T → A) (segments : List S) (i : ℕ) (s : S) (lt : i < length segments) (is : s ≡ get_or segments i s) where
  -- to write the segments from the i-th on is to write that one and then those after it
  pub fold-next : (a : A) → fold write (write a (tree s)) (map tree (drop (i + 1) segments)) ≡ fold write a (map tree (drop i segments))
  fold-next a = sym (at_drop_more (λ (l : List S). fold write a (map tree l)) segments i s lt
      ∙ ap (λ (x : S). fold write (write a (tree x)) (map tree (drop (i + 1) segments))) (sym is))
