-- What a take adds to its pass's trail: what it read, its claims, and what settles the slot that was won.
use Rattle.std.proofs.Common.{◌≡◌, ℕ, leb, List, ◌∷◌, ◌++◌, Result, refl}
use Rattle.std.specs.Result.{OnErr}
use Rattle.slot_words.specs.declared.views.Operation.{Operation}
use Rattle.slot_words.specs.declared.views.Operation.TheVariants.{WarmLoad}
use Rattle.slot_words.specs.Trails.{loads_from}
use Rattle.slot_words.specs.Parts.{Grew, Then}
use Rattle.slot_words.proofs.Parts.{then_grew}
use Rattle.affinity_index.specs.Orders.{IsOrder}
use Rattle.slot_pools.specs.Rows.{AreLost}
use Rattle.slot_pools.specs.declared.policy.Policy.{Policy}
use Rattle.slot_pools.specs.declared.policy.Policy.TheVariants.{Batched, Affine, Any}
use Rattle.slot_pools.specs.Looks.{AreWords, IsLook, IsReading}
use Rattle.slot_pools.specs.LookWins.{reads, IsOrderBy}
use Rattle.slot_pools.proofs.ResultLemmas.{on_err}

-- claims along an order of this kind
abbrev pub Along : (List ℕ → Type 0) → (List ℕ → List Operation → Type 0) → List Operation → Type 0
Along Is Claims done = (order : List ℕ) × Is order × Claims order done

-- those along the order were lost, and then this was done
pub after_lost : (Is : List ℕ → Type 0) (Rest : List Operation → Type 0) (t u v : List Operation) → Grew (Along Is AreLost) t u → Grew Rest u v → Grew (Along Is (λ ns. Then (AreLost ns) Rest)) t v
after_lost Is Rest t u v lost rest =
    let order = lost.is.0 in
    let all = then_grew (AreLost order) Rest t u v (record { done = lost.done; grown = lost.grown; is = lost.is.2 }) rest in
    record { done = all.done; grown = all.grown; is = (order, lost.is.1, all.is) }

-- with an order of what it read, that is the look
looked : (limit slots tag warm : ℕ) (seen : List ℕ) (t u : List Operation) → AreWords slots seen → u ≡ t ++ WarmLoad warm ∷ loads_from 0 seen
    → (order : List ℕ) → IsOrder seen tag (leb limit warm) order → Grew (IsLook limit slots tag order) t u
looked limit slots tag warm seen t u words read order is = record {
  done = WarmLoad warm ∷ loads_from 0 seen;
  grown = read;
  is = record { warm = warm; seen = seen; all_seen = words.all_seen; order_is = is; done_is = refl };
}

-- and what a take of any policy reads
reading : (policy : Policy) (limit slots warm : ℕ) (seen : List ℕ) (t u : List Operation) → AreWords slots seen → u ≡ t ++ reads policy warm seen
    → (order : List ℕ) → IsOrderBy policy limit warm seen order → Grew (IsReading policy limit slots order) t u
reading (Batched tag) limit slots warm seen t u words read order is = looked limit slots tag warm seen t u words read order is
reading (Affine tag) limit slots warm seen t u words read order is = looked limit slots tag warm seen t u words read order is
reading Any limit slots warm seen t u words read order is = record {
  done = loads_from 0 seen;
  grown = read;
  is = record { seen = seen; all_seen = words.all_seen; order_is = is; done_is = refl };
}

module _ (policy : Policy) (limit slots warm : ℕ) (seen : List ℕ) (t u : List Operation) (words : AreWords slots seen) (read : u ≡ t ++ reads policy warm seen) where
  abbrev IsIts : List ℕ → Type 0
  IsIts order = IsOrderBy policy limit warm seen order

  -- it read, and so knew the order; it won a slot, and settled it
  pub won_by_reading : (Win : List ℕ → List Operation → Type 0) (Rest : List Operation → Type 0) (v w : List Operation)
      → Grew (Along IsIts Win) u v → Grew Rest v w → Grew (λ done. (ns : List ℕ) × Then (IsReading policy limit slots ns) (Then (Win ns) Rest) done) t w
  won_by_reading Win Rest v w won settled =
      let order = won.is.0 in
      let look = reading policy limit slots warm seen t u words read order won.is.1 in
      let win : Grew (Win order) u v = record { done = won.done; grown = won.grown; is = won.is.2 } in
      let all = then_grew (IsReading policy limit slots order) (Then (Win order) Rest) t u w look (then_grew (Win order) Rest u v w win settled) in
      record { done = all.done; grown = all.grown; is = (order, all.is) }

  -- it read, and so knew the order; then it claimed in vain
  pub full_by_reading : {T E Idle : Type 0} (Loss : List ℕ → List Operation → Type 0) (v : List Operation) (r : Result T E)
      → Idle → Grew (Along IsIts Loss) u v → OnErr r (Idle × Grew (λ done. (ns : List ℕ) × Then (IsReading policy limit slots ns) (Loss ns) done) t v)
  full_by_reading Loss v r idle lost =
      let order = lost.is.0 in
      let look = reading policy limit slots warm seen t u words read order lost.is.1 in
      let loss : Grew (Loss order) u v = record { done = lost.done; grown = lost.grown; is = lost.is.2 } in
      let all = then_grew (IsReading policy limit slots order) (Loss order) t u v look loss in
      on_err r (idle, record { done = all.done; grown = all.grown; is = (order, all.is) })
