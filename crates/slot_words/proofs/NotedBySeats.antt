-- What one seat notes of an event.
use Rattle.std.proofs.Common.{◌≡◌, ◌≢◌, ℕ, Bool, if◌then◌else◌, List, [], ◌∷◌, ◌++◌, refl, ap, eq-eqb, ne_eqb}
use Rattle.pool_core.specs.declared.events.Event.{Event}
use Rattle.pool_core.specs.PoolCore.{PoolCore}
use Rattle.pool_core.specs.RefusalRules.{seat_of}
use Rattle.slot_words.specs.History.{noted, noted_by}

-- its own events
pub noted_here : (s : ℕ) (c : PoolCore) (e : Event) → seat_of e ≡ s → noted_by s c e ≡ noted c e
noted_here s c e own = ap (λ (b : Bool). if b then noted c e else []) (eq-eqb (seat_of e) s own)

-- and of others nothing
pub noted_elsewhere : (s : ℕ) (c : PoolCore) (e : Event) → seat_of e ≢ s → noted_by s c e ≡ []
noted_elsewhere s c e other = ap (λ (b : Bool). if b then noted c e else []) (ne_eqb (seat_of e) s other)

-- nothing twice is nothing each time
pub both_empty : {A : Type 0} (xs ys : List A) → xs ++ ys ≡ [] → (xs ≡ []) × (ys ≡ [])
both_empty [] ys e = (refl, e)
both_empty (x ∷ xs) ys e = absurd (cc)
