use Rattle.std.proofs.Common.{arith}
use Rattle.call_workers.proofs.TakenLemmas.{begins, ends, gave_then_failed, goes_on, waits}
use Rattle.call_workers.proofs.work_loop.work.Goals as goal

pub loop-init : goal.loop-init
loop-init g c = record {
  caller = c.requires.caller;
  own = c.requires.own;
  working = rw c.new-made.ensures.items (begins g.N.Naming.config c.args.share.now c.args.calls.now _ _);
}

pub returns-in_err-worked-in-Some-next-clause-spent : goal.returns-in_err-worked-in-Some-next-clause-spent
returns-in_err-worked-in-Some-next-clause-spent g c =
    let h = c.loop.invariant.working in
    gave_then_failed c.from_residual-in_err-worked-in-Some-next.result _ _ _ h.taken (c.in-Some-next.number, c.in-Some-next.item) h.account_is c.in-Some-next.ensures.given

pub returns-then-number-eq0-clause-made : goal.returns-then-number-eq0-clause-made
returns-then-number-eq0-clause-made g c =
    rw c.reserve.ensures.items (ends _ _ _ _ _ _ _ _ c.loop.invariant.working _ (c.in-Some-next.number, c.in-Some-next.item) c.if-number-eq0.true c.in-Some-next.ensures.given)

pub loop-preserved : goal.loop-preserved
loop-preserved g c =
    let counted = c.if-number-eq0.false in
    let working = goes_on _ _ _ _ _ _ _ _ c.loop.invariant.working _ _ (c.in-Some-next.number, c.in-Some-next.item) _ c.loop.invariant.caller (omega arith) c.in-Some-next.ensures.given c.in_ok-worked-in-Some-next.ensures.entry c.in_ok-worked-in-Some-next.ensures.made in record {
      caller = c.make.ensures.own;
      own = c.next-in-loop.ensures.own;
      working = rw (c.push_reserved.ensures.items, c.reserve.ensures.items) working;
    }

pub returns-in_err-map_err-clause-caller : goal.returns-in_err-map_err-clause-caller
returns-in_err-map_err-clause-caller g c = c.loop.invariant.caller

pub returns-in_err-map_err-clause-own : goal.returns-in_err-map_err-clause-own
returns-in_err-map_err-clause-own g c = c.loop.invariant.own

pub loop-preserved-in-None-next : goal.loop-preserved-in-None-next
loop-preserved-in-None-next g c =
    let i = c.loop.invariant in record {
      caller = i.caller;
      own = c.next-in-loop.ensures.own;
      working = rw c.reserve.ensures.items (waits _ _ _ _ _ _ _ _ i.working _ c.in-None-next.ensures.none);
    }

pub returns-then-number-eq0-clause-caller : goal.returns-then-number-eq0-clause-caller
returns-then-number-eq0-clause-caller g c = c.loop.invariant.caller

pub returns-then-number-eq0-clause-own : goal.returns-then-number-eq0-clause-own
returns-then-number-eq0-clause-own g c = c.next-in-loop.ensures.own
