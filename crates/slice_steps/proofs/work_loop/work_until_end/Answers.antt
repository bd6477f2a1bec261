use Rattle.std.proofs.Common.{arith}
use Rattle.slice_steps.proofs.SliceLemmas.{did_more, did_nothing}
use Rattle.slice_steps.proofs.work_loop.work_until_end.Goals as goal

pub loop-init : goal.loop-init
loop-init g c =
    record { at_work = c.requires.at_work; did = did_nothing g.N.Naming.config c.args.shared.now.host c.args.shared.now.calls.items g.A.InSlices.slice _ _ _ }

pub returns-then-told-clause-did : goal.returns-then-told-clause-did
returns-then-told-clause-did g c =
    let one = c.is_end-told.ensures.yes c.if-told.true in
    did_more g.N.Naming.config c.args.shared.now.host c.args.shared.now.calls.items g.A.InSlices.slice 0 _ 1 _ _ _ _ _ _ _ _ _ c.loop.invariant.did c.in_ok-came.ensures.did (omega arith)

pub loop-preserved : goal.loop-preserved
loop-preserved g c =
    let none = c.is_end-told.ensures.no c.if-told.false in record {
      at_work = c.next_step.ensures.at_work;
      did = did_more g.N.Naming.config c.args.shared.now.host c.args.shared.now.calls.items g.A.InSlices.slice 0 _ 0 _ _ _ _ _ _ _ _ _ c.loop.invariant.did c.in_ok-came.ensures.did (omega arith);
    }
