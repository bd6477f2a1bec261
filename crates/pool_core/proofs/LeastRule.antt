-- A chain of tests names the first that holds.
use Rattle.std.proofs.Common.{◌≡◌, ℕ, zero, suc, ◌+◌, ◌<◌, Bool, true, false, cond, List, [], ◌∷◌, get_or, refl, ap, ◌∙◌, arith}
use Rattle.pool_core.specs.declared.events.Event.{Event}
use Rattle.pool_core.specs.PoolCore.{PoolCore}
use Rattle.pool_core.specs.RefusalRules.{breaks_seat_rule, breaks_slot_rule, breaks_idle_rule, breaks_holder_rule, breaks_place_rule, breaks_need_rule, breaks_excess_rule, breaks_target_rule, refusal_of, IsLeastRule}

-- the place, from j on, of the first that is true, or 0
first_from : ℕ → List Bool → ℕ
first_from j [] = 0
first_from j (b ∷ bs) = cond b j (first_from (suc j) bs)

-- what the first of them is, where the places begin at j
record IsFirst (j : ℕ) (bs : List Bool) (r : ℕ) : Type 0 where
  pub broken : 0 < r → (k : ℕ) × (r ≡ j + k) × (get_or bs k false ≡ true) × ((i : ℕ) → i < k → get_or bs i false ≡ false)
  pub none : r ≡ 0 → (k : ℕ) → get_or bs k false ≡ false

first_is : (j : ℕ) (bs : List Bool) → 0 < j → IsFirst j bs (first_from j bs)
unfolding first_from
first_is j [] pos = record { broken = λ h. absurd (omega arith); none = λ h k. refl }
first_is j (true ∷ bs) pos = record { broken = λ h. (0, omega arith, refl, λ i l. absurd (omega arith)); none = λ h k. absurd (omega arith) }
first_is j (false ∷ bs) pos = let r = first_is (suc j) bs (omega arith) in record {
  broken = λ h. let b = r.broken h in (suc (b.0), omega (arith, b.1), b.2, elim [ zero ↦ λ l. refl | suc i ↦ λ l. b.3 i (omega arith) ]);
  none = λ h. elim [ zero ↦ refl | suc k ↦ r.none h k ];
}

-- with a place 0 in front that is false
led_by_false : (bs : List Bool) (r : ℕ) → IsFirst 1 bs r
    → (0 < r → get_or (false ∷ bs) r false ≡ true) × ((k : ℕ) → k < r → get_or (false ∷ bs) k false ≡ false) × (r ≡ 0 → (k : ℕ) → get_or (false ∷ bs) k false ≡ false)
led_by_false bs r first = (
  λ h. let b = first.broken h in let e : r ≡ suc (b.0) = omega (arith, b.1) in ap (λ (j : ℕ). get_or (false ∷ bs) j false) e ∙ b.2,
  elim [ zero ↦ λ l. refl | suc k ↦ λ l. let b = first.broken (omega arith) in b.3 k (omega (arith, b.1)) ],
  λ h. elim [ zero ↦ refl | suc k ↦ first.none h k ],
)

pub refusal_is_least : (c : PoolCore) (e : Event) → IsLeastRule c e (refusal_of c e)
unfolding first_from
refusal_is_least c e =
    let rules : List Bool = breaks_seat_rule c e ∷ breaks_slot_rule c e ∷ breaks_idle_rule c e ∷ breaks_holder_rule c e ∷ breaks_place_rule c e ∷ breaks_need_rule c e ∷ breaks_excess_rule c e ∷ breaks_target_rule c e ∷ [] in
    let l = led_by_false rules (first_from 1 rules) (first_is 1 rules (omega arith)) in record { broken = l.0; least = l.1; none = l.2 }
