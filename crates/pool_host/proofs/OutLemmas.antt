-- A pass that its type keeps holding a slot.
use Rattle.std.proofs.Common.{◌≡◌, ℕ, suc, true, true≢false, List, [], ◌∷◌, map, length, Option, Some, None, refl, sym, ap, arith}
use Rattle.std.specs.Prelude.{slice_index}
use Rattle.slot_words.specs.Passes.{Pass}
use Rattle.instance_calls.specs.Parts.{Slot}
use Rattle.pool_host.specs.Leases.{HoldsSlot}
use Rattle.pool_host.specs.Outs.{HasOut, IsWithin, are_empty}

module _ {V : Type 0} where
  none_out : (places : List (ℕ × Option V)) → map (λ e. e.0) places ≡ [] → places ≡ []
  none_out [] e = refl
  none_out (x ∷ xs) e = let long : suc (length (map (λ (e : ℕ × Option V). e.0) xs)) ≡ 0 = ap length e in absurd (omega arith)

  one_out : (places : List (ℕ × Option V)) (n : ℕ) → map (λ e. e.0) places ≡ n ∷ [] → are_empty places ≡ true → places ≡ (n, None) ∷ []
  one_out [] n e empty = absurd (cc)
  one_out ((k, Some v) ∷ xs) n e empty = absurd (true≢false (sym empty))
  one_out ((k, None) ∷ []) n e empty = let same : k ≡ n = ap (λ (l : List ℕ). slice_index l 0) e in ap (λ (j : ℕ). (j, None) ∷ []) same
  one_out ((k, None) ∷ x ∷ xs) n e empty = let long : suc (suc (length (map (λ (e : ℕ × Option V). e.0) xs))) ≡ 1 = ap length e in absurd (omega arith)

  pub out_has : (slots : ℕ) (p : Pass V) (o : Option Slot) → HasOut p o → IsWithin slots o → HoldsSlot slots p o
  out_has slots p None out within = (out.0, none_out p.me.1 out.1)
  out_has slots p (Some s) out within = ((out.0, one_out p.me.1 s.number out.1 out.2), within)

  -- and the other way round, as a call begins
  pub has_out : (slots : ℕ) (p : Pass V) (o : Option Slot) → HoldsSlot slots p o → HasOut p o
  has_out slots p None held = (held.0, ap (map (λ e. e.0)) held.1, ap are_empty held.1)
  has_out slots p (Some s) held = (held.0.0, ap (map (λ e. e.0)) held.0.1, ap are_empty held.0.1)

  pub is_within : (slots : ℕ) (p : Pass V) (o : Option Slot) → HoldsSlot slots p o → IsWithin slots o
  is_within slots p None held = tt
  is_within slots p (Some s) held = held.1
