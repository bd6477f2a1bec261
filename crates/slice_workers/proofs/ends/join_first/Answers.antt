use Rattle.slice_workers.proofs.EndLemmas.{joined_first}
use Rattle.slice_workers.proofs.ends.join_first.Goals as goal

pub returns : goal.returns
returns g c =
    let did = rw c.in_ok-entries.was at c.requires.done.made in
    joined_first g.N.Naming.config c.args.shared.now c.args.queue.now g.A.InSlices.slice _ c.args.done.worker.own c.args.first.now c.join_pass.new.pass c.args.done.worker.place _ c.requires.first c.requires.done.own c.join_pass.ensures.own
    c.join_pass.ensures.both did
