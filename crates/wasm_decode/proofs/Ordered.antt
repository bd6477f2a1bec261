-- Sections in order, from one on.
use Rattle.std.proofs.Common.{◌≡◌, ◌↔◌, ℕ, ◌<◌, ◌≤◌, ◌+◌, List, ◌∷◌, length, map, drop, get_or, add-one, inl, inr, ⊎_elim, ap, arith}
use Rattle.std.proofs.Math.Seq.{drop-cons}
use Rattle.wasm_values.specs.declared.profile.Profile.{Profile}
use Rattle.wasm_decode.specs.declared.section.Section.{Section as Read}
use Rattle.wasm_decode.specs.Sections.{section_of}
use Rattle.wasm_spec.specs.Grammar.{Section, IsCustom, IsOrderedAbove, last_id, place}

place-zero : (id : ℕ) → id ≡ 0 → place id ≡ 0
place-zero id e = ap place e

module _ (profile : Profile) (low : ℕ) (s : Section) (ss : List Section) where
  -- a custom section
  pub behind-custom : s.id ≡ 0 → IsCustom s.contents → IsOrderedAbove profile low (s ∷ ss) ↔ IsOrderedAbove profile low ss
  behind-custom e custom = (λ h. ⊎_elim (λ a. a.2) (λ b. absurd (omega (arith, b.0, place-zero s.id e))) h, λ h. inl (e, custom, h))

  pub not-custom : s.id ≡ 0 → (IsCustom s.contents → ⊥) → IsOrderedAbove profile low (s ∷ ss) → ⊥
  not-custom e none h = ⊎_elim (λ a. none a.1) (λ b. absurd (omega (arith, b.0, place-zero s.id e))) h

  -- any other
  pub behind-placed : (s.id ≡ 0 → ⊥) → low < place s.id → s.id ≤ last_id profile → IsOrderedAbove profile low (s ∷ ss) ↔ IsOrderedAbove profile (place s.id) ss
  behind-placed other above most = (λ h. ⊎_elim (λ a. absurd (other a.0)) (λ b. b.2) h, λ h. inr (above, most, h))

  pub not-placed : (s.id ≡ 0 → ⊥) → (low < place s.id → s.id ≤ last_id profile → ⊥) → IsOrderedAbove profile low (s ∷ ss) → ⊥
  not-placed other none h = ⊎_elim (λ a. absurd (other a.0)) (λ b. none b.0 b.1) h

-- the section at a place, and those behind it
pub at-place : (sections : List Read) (i : ℕ) (d : Read) → i < length sections → map section_of (drop i sections) ≡ section_of (get_or sections i d) ∷ map section_of (drop (i + 1) sections)
at-place sections i d lt = rw add-one (ap (map section_of) (drop-cons sections i d lt))
