use Rattle.std.proofs.Common.{◌∙◌, [], refl}
use Rattle.slice_steps.proofs.SliceLemmas.{nothing_more, worked_more}
use Rattle.slice_steps.proofs.work_loop.help.Goals as goal

pub loop-init : goal.loop-init
loop-init g c =
    record { at_work = c.requires.at_work; own = refl; did = nothing_more g.N.Naming.config c.args.shared.now.host c.args.shared.now.calls.items g.A.InSlices.slice _ _ _ _ refl refl }

pub returns-then-idle-worker-clause-did : goal.returns-then-idle-worker-clause-did
returns-then-idle-worker-clause-did g c =
    worked_more g.N.Naming.config c.args.shared.now.host c.args.shared.now.calls.items g.A.InSlices.slice [] _ _ _ _ _ _ c.loop.invariant.did c.in_ok-go_on.ensures.did

pub loop-preserved-in-Nothing : goal.loop-preserved-in-Nothing
loop-preserved-in-Nothing g c =
    let i = c.loop.invariant in record {
      at_work = c.go_on.ensures.at_work;
      own = c.go_on.ensures.own ∙ i.own;
      did = worked_more g.N.Naming.config c.args.shared.now.host c.args.shared.now.calls.items g.A.InSlices.slice [] _ _ _ _ _ _ i.did c.in_ok-go_on.ensures.did;
    }

pub loop-preserved : goal.loop-preserved
loop-preserved g c =
    let i = c.loop.invariant in record {
      at_work = c.go_on.ensures.at_work;
      own = c.go_on.ensures.own ∙ i.own;
      did = worked_more g.N.Naming.config c.args.shared.now.host c.args.shared.now.calls.items g.A.InSlices.slice [] _ _ _ _ _ _ i.did c.in_ok-go_on.ensures.did;
    }
