-- A list of events, one event longer.
use Rattle.std.proofs.Common.{◌≡◌, ◌<◌, ◌+◌, ℕ, List, [], ◌∷◌, ◌++◌, length, take, get_or, refl, sym, ap, ◌∙◌, subst}
use Rattle.std.proofs.lemmas.List.{take_more}
use Rattle.std.proofs.lemmas.Option.{slice_get-get_or}
use Rattle.std.specs.Prelude.{Some, slice_get}
use Rattle.pool_core.specs.declared.events.Event.{Event}
use Rattle.pool_core.specs.declared.replays.ReplayFault.{ReplayFault}
use Rattle.pool_core.specs.declared.replays.ReplayFault.TheVariants.{NoMemory, Unlawful}
use Rattle.pool_core.specs.EventEffects.{core_after}
use Rattle.pool_core.specs.PoolCore.{PoolCore}
use Rattle.pool_core.specs.RefusalRules.{refusal_of}
use Rattle.pool_core.specs.Runs.{AllAllowed, IsRefusedAt, IsReplayFault, Refuses, core_after_all}

pub core_after_all-more : (c : PoolCore) (es : List Event) (e : Event) → core_after_all c (es ++ e ∷ []) ≡ core_after (core_after_all c es) e
core_after_all-more c [] e = refl
core_after_all-more c (x ∷ es) e = core_after_all-more (core_after c x) es e

pub allowed_more : (c : PoolCore) (es : List Event) (e : Event) → AllAllowed c es → refusal_of (core_after_all c es) e ≡ 0 → AllAllowed c (es ++ e ∷ [])
allowed_more c [] e h r = (r, tt)
allowed_more c (x ∷ es) e h r = (h.0, allowed_more (core_after c x) es e h.1 r)

pub one_more : (o : PoolCore) (es : List Event) (i : ℕ) (d : Event) (c c' : PoolCore) → i < length es → AllAllowed o (take i es) → c ≡ core_after_all o (take i es) → refusal_of c (get_or es i d) ≡ 0 → c' ≡ core_after c (get_or es i d)
    → AllAllowed o (take (i + 1) es) × (c' ≡ core_after_all o (take (i + 1) es))
one_more o es i d c c' h all is ok to = let e : Event = get_or es i d in let m : take (i + 1) es ≡ take i es ++ e ∷ [] = take_more es i d h in (
  subst (AllAllowed o) (sym m) (allowed_more o (take i es) e all (ap (λ (p : PoolCore). refusal_of p e) (sym is) ∙ ok)),
  to ∙ ap (λ (p : PoolCore). core_after p e) is ∙ sym (core_after_all-more o (take i es) e) ∙ ap (core_after_all o) (sym m),
)

-- what is refused at its place is the fault of the whole list
pub fault_at : (o : PoolCore) (es : List Event) (i : ℕ) (d : Event) (c : PoolCore) (f : ReplayFault) → i < length es → AllAllowed o (take i es) → c ≡ core_after_all o (take i es) → IsRefusedAt i c (get_or es i d) f → IsReplayFault o es f
fault_at o es i d c (Unlawful at rule number) h all is refused = let e : Event = get_or es i d in
    subst (λ (k : ℕ). AllAllowed o (take k es) × ((x : Event) × (slice_get es k ≡ Some x) × Refuses (core_after_all o (take k es)) x rule number)) (sym refused.0)
    (all, (e, slice_get-get_or es i d h, subst (λ (p : PoolCore). Refuses p e rule number) is refused.1))
fault_at o es i d c NoMemory h all is refused = absurd refused
