use Rattle.std.proofs.Common.{◌∙◌, ℕ, ◌+◌, length, ap, arith}
use Rattle.std.proofs.lemmas.List.{length_push}
use Rattle.std.proofs.lemmas.List.Elements.{All-push}
use Rattle.pool_core.specs.declared.words.State.TheVariants.{Cold}
use Rattle.slot_pools.proofs.open_slot.cold_values.Goals as goal

pub loop-preserved : goal.loop-preserved
loop-preserved g c =
    let inv = c.loop.invariant in
    let items = c.push_reserved.ensures.items in
    record {
      count = ap length items ∙ length_push c.loop.values.items c.in_ok-value.value ∙ ap (λ (n : ℕ). n + 1) inv.count;
      room = omega (arith, inv.room, c.push_reserved.ensures.capacity);
      cold = rw items (All-push (g.V.Pooled.fits Cold 0) c.loop.values.items c.in_ok-value.value inv.cold c.in_ok-value.ensures.cold);
    }
