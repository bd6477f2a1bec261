-- Parts of a sum over views.
use Rattle.std.proofs.Common.{◌≡◌, ◌≢◌, ℕ, suc, ◌+◌, ◌≤◌, ⊎_elim, List, [], ◌∷◌, set, refl, ap, arith}
use mathlib.Core.Logic.{dite}
use mathlib.Core.Option.{some}
use native.Mathlib.Decide.{dec_le}
use lib.ListN.{get_elem?}
use Rattle.std.specs.List.{sum_by}
use Rattle.std.proofs.lemmas.List.Sums.{sum_by-cons}
use Rattle.atomic_table.proofs.Lists.{at_set}
use Rattle.slot_words.proofs.SharedPasses.{sum_by-set_view}

module _ {W : Type 0} (f : W → ℕ) where
  -- a place whose part of the sum is not 0
  pub record HasPart (ws : List W) : Type 0 where
    pub place : ℕ
    pub view : W
    pub at : get_elem? ws place ≡ some view
    pub some_part : 1 ≤ f view

  pub sum_has_part : (ws : List W) → 1 ≤ sum_by f ws → HasPart ws
  sum_has_part [] h = absurd (omega arith)
  sum_has_part (w ∷ ws) h = dite (dec_le 1 (f w))
      (λ here. record { place = 0; view = w; at = refl; some_part = here })
      (λ none. let e = sum_by-cons f w ws in let rest = sum_has_part ws (omega arith) in record { place = suc rest.place; view = rest.view; at = rest.at; some_part = rest.some_part })

  -- where no other view has a part, one has the whole sum
  pub sum_of_one : (none : W) (ws : List W) (id : ℕ) (v : W) → f none ≡ 0 → get_elem? ws id ≡ some v → ((j : ℕ) (u : W) → j ≢ id → get_elem? ws j ≡ some u → f u ≡ 0) → sum_by f ws ≡ f v
  sum_of_one none ws id v nothing at others = let rest : List W = set ws id none in
      let beside : sum_by f rest + f v ≡ sum_by f ws + f none = sum_by-set_view none f ws id v none at in
      dite (dec_le 1 (sum_by f rest))
      (λ more. let p = sum_has_part rest more in let some' = p.some_part in ⊎_elim
      (λ (t : (p.place ≡ id) × (none ≡ p.view)). let e : f none ≡ f p.view = ap f t.1 in absurd (omega arith))
      (λ (t : (p.place ≢ id) × (get_elem? ws p.place ≡ some p.view)). let e = others p.place p.view t.0 t.1 in absurd (omega arith))
      (at_set ws id p.place none p.view p.at))
      (λ no_more. omega arith)
