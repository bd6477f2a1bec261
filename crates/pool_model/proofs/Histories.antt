-- The steps of one kind are a history of its pool.
use Rattle.std.proofs.Common.{◌≡◌, ℕ, Bool, true, false, cond, List, [], ◌∷◌, refl, subst}
use Rattle.std.specs.Prelude.{Option, Some, None}
use Rattle.pool_core.specs.declared.events.Event.{Event}
use Rattle.pool_core.specs.PoolCore.{PoolCore}
use Rattle.pool_core.specs.EventEffects.{core_after}
use Rattle.pool_core.specs.RefusalRules.{refusal_of}
use Rattle.pool_model.specs.declared.kinds.Kind.{Kind}
use Rattle.pool_model.specs.PoolMachine.{World, Running, Machine, WorldEvent, Step, Prepare, Restore, Clear, Begin, Turn, End, Cancel, same_kind, with_core, after_turn, after_end, after, after_all, AllMayHappen}
use Rattle.pool_model.specs.Histories.{steps_of, LeadTo, StepsAreHistories}
use Rattle.pool_model.proofs.Steps.{same_kind-is}

one-more : (c : PoolCore) (e : Event) (es : List Event) (last : PoolCore) → refusal_of c e ≡ 0 → LeadTo (core_after c e) es last → LeadTo c (e ∷ es) last
one-more c e es last ok h = record { allowed = (ok, h.allowed); leads = h.leads }

-- a step of one kind goes into that kind's list, and leaves the pools of the others
step-leads : (p : Machine) (j : Kind) (e : Event) (k : Kind) (es : List Event) (last : PoolCore) → refusal_of (p.core j) e ≡ 0 → LeadTo ((with_core p j (core_after (p.core j) e)).core k) es last
    → LeadTo (p.core k) (cond (same_kind j k) (e ∷ es) es) last
step-leads p j e k es last ok h =
    let split : (b : Bool) → same_kind j k ≡ b → LeadTo (cond b (core_after (p.core j) e) (p.core k)) es last → LeadTo (p.core k) (cond b (e ∷ es) es) last = elim [
      | true ↦ λ q h. subst (λ (l : Kind). LeadTo (p.core l) (e ∷ es) last) (same_kind-is j k q) (one-more (p.core j) e es last ok h)
      | false ↦ λ q h. h
    ] in split (same_kind j k) refl h

-- a turn is of no account for the pools, and neither is an end
turn-stays : (w : World) (p : Machine) (i : ℕ) (marks : List Bool) (k : Kind) (call : Option Running) → (after_turn w p i marks call).core k ≡ p.core k
turn-stays w p i marks k None = refl
turn-stays w p i marks k (Some r) = refl

end-stays : (w : World) (p : Machine) (i : ℕ) (marks : List Bool) (k : Kind) (call : Option Running) → (after_end w p i marks call).core k ≡ p.core k
end-stays w p i marks k None = refl
end-stays w p i marks k (Some r) = refl

steps-lead : (w : World) (p : Machine) (es : List WorldEvent) → AllMayHappen w p es → (k : Kind) → LeadTo (p.core k) (steps_of k es) ((after_all w p es).core k)
steps-lead w p [] may k = record { allowed = tt; leads = refl }
steps-lead w p (Step j e ∷ es) may k = step-leads p j e k (steps_of k es) ((after_all w (after w p (Step j e)) es).core k) may.0.0 (steps-lead w (after w p (Step j e)) es may.1 k)
steps-lead w p (Prepare j s m ∷ es) may k = steps-lead w (after w p (Prepare j s m)) es may.1 k
steps-lead w p (Restore j s ∷ es) may k = steps-lead w (after w p (Restore j s)) es may.1 k
steps-lead w p (Clear j s x ∷ es) may k = steps-lead w (after w p (Clear j s x)) es may.1 k
steps-lead w p (Begin i q ∷ es) may k = steps-lead w (after w p (Begin i q)) es may.1 k
steps-lead w p (Turn i marks ∷ es) may k = let q : Machine = after w p (Turn i marks) in
    subst (λ (c : PoolCore). LeadTo c (steps_of k es) ((after_all w q es).core k)) (turn-stays w p i marks k (p.calls i)) (steps-lead w q es may.1 k)
steps-lead w p (End i marks ∷ es) may k = let q : Machine = after w p (End i marks) in
    subst (λ (c : PoolCore). LeadTo c (steps_of k es) ((after_all w q es).core k)) (end-stays w p i marks k (p.calls i)) (steps-lead w q es may.1 k)
steps-lead w p (Cancel i ∷ es) may k = steps-lead w (after w p (Cancel i)) es may.1 k

pub steps-are-histories : StepsAreHistories
steps-are-histories w p es opening may k =
    subst (λ (c : PoolCore). LeadTo c (steps_of k es) ((after_all w p es).core k)) (opening.core k) (steps-lead w p es may k)
