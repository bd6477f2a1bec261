use Rattle.std.proofs.Common.{◌≡◌, rules, arith, ℕ, Some, leb, slice_get, subst, sym, ◌∙◌}
use Rattle.affinity_index.specs.Orders.{IsOrder}
use Rattle.slot_pools.proofs.WonRows.{all_lost, lost_at_place, none_at, won_at_place}
use Rattle.slot_pools.proofs.claims.claim_in_order.Goals as goal

pub loop-preserved : goal.loop-preserved
loop-preserved g c = let h = c.in_default-claim.ensures.held in record {
  same = search rules;
  idle = h.0;
  number = c.next_in_order-next.ensures.number;
  along = λ order is.
      let so_far = c.loop.invariant.along order is in
      let stands : slice_get order c.loop.counter ≡ Some c.in-Some.n = sym so_far.0 ∙ c.in-Some.is in
      (c.next_in_order-next.ensures.next order c.loop.counter is stands, lost_at_place order c.loop.counter c.in-Some.n stands _ _ _ so_far.1 h.1);
}

pub returns-in_default-clause-held : goal.returns-in_default-clause-held
returns-in_default-clause-held g c =
    let has = c.each_scan_has_its_order.ensures c.args.seen.now c.args.tag (leb c.limit-limit.result c.args.warm) in
    let so_far = c.loop.invariant.along has.0 has.1 in
    let all = all_lost has.0 c.loop.counter _ _ (none_at has.0 c.loop.counter (sym so_far.0 ∙ c.in_default.is)) so_far.1 in
    (c.loop.invariant.idle, record { done = all.done; grown = all.grown; is = (has.0, subst (λ (k : ℕ). IsOrder c.args.seen.now c.args.tag (leb k c.args.warm) has.0) c.limit-limit.ensures has.1, all.is) })

pub claim-requires-clause-number : goal.claim-requires-clause-number
claim-requires-clause-number g c = let within = rw c.in-Some.is at c.loop.invariant.number in omega (arith, within, c.requires.words.all_seen)

pub returns-in-Ok-clause-trail : goal.returns-in-Ok-clause-trail
returns-in-Ok-clause-trail g c =
    let l = c.in-Ok.lease in
    let has = c.each_scan_has_its_order.ensures c.args.seen.now c.args.tag (leb c.limit-limit.result c.args.warm) in
    let so_far = c.loop.invariant.along has.0 has.1 in
    let stands : slice_get has.0 c.loop.counter ≡ Some c.in-Some.n = sym so_far.0 ∙ c.in-Some.is in
    let won = won_at_place has.0 c.loop.counter c.in-Some.n stands l.number l.word _ _ _ c.in-Ok.ensures.number so_far.1 c.in-Ok.ensures.trail in
    record { done = won.done; grown = won.grown; is = (has.0, subst (λ (k : ℕ). IsOrder c.args.seen.now c.args.tag (leb k c.args.warm) has.0) c.limit-limit.ensures has.1, won.is) }

pub next_in_order-next-requires-clause-last : goal.next_in_order-next-requires-clause-last
next_in_order-next-requires-clause-last g c = rw c.in-Some.is at c.loop.invariant.number

pub returns-clause-held : goal.returns-clause-held
returns-clause-held g c =
    let has = c.each_scan_has_its_order.ensures c.args.seen.now c.args.tag (leb c.limit-limit.result c.args.warm) in
    let so_far = c.loop.invariant.along has.0 has.1 in
    let up = c.loop.auto.counter-end in
    let all = all_lost has.0 c.loop.counter _ _ (omega (arith, has.2, c.loop-test.false, c.slots-end.ensures.is, c.requires.words.all_seen)) so_far.1 in
    (c.loop.invariant.idle, record { done = all.done; grown = all.grown; is = (has.0, subst (λ (k : ℕ). IsOrder c.args.seen.now c.args.tag (leb k c.args.warm) has.0) c.limit-limit.ensures has.1, all.is) })
