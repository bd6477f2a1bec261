use Rattle.slice_workers.proofs.EndLemmas.{one_more}
use Rattle.slice_workers.proofs.ends.join_next.Goals as goal

pub returns-clause-sliced : goal.returns-clause-sliced
returns-clause-sliced g c =
    let did = rw c.in_ok-made.was at c.requires.done.made in
    one_more g.N.Naming.config c.args.shared.now c.args.queue.now g.A.InSlices.slice c.args.sliced.now.own c.join_pass.new.pass c.args.done.worker.own c.args.first.now c.join_pass-2.new.pass c.args.done.worker.place
    c.args.sliced.now.entries.items _ _ _ c.requires.sliced c.join_pass.ensures.own c.join_pass-2.ensures.own
    c.join_pass.ensures.both c.join_pass-2.ensures.both did c.put_behind.ensures.ok
