use Rattle.std.proofs.Common.{rules}
use Rattle.std.specs.Prelude.{All, IfOk}
use Rattle.std.specs.List.{AllZip}
use Rattle.call_workers.specs.Crews.{HasEnded, IsDone}
use Rattle.call_workers.proofs.KnowLemmas.{all_done_know}
use Rattle.call_workers.proofs.ZipLemmas.{all_if_ok, zip_if_ok}
use Rattle.call_workers.proofs.crew.work_all.Goals as goal

pub returns : goal.returns
returns g c =
    let zip : IfOk c.map_vec-done.result (λ done. AllZip (IsDone g.N.Naming.config c.args.shared.now c.args.jobs.now) c.args.workers.items done.items) =
    zip_if_ok _ _ (IsDone g.N.Naming.config c.args.shared.now c.args.jobs.now) (λ job x returns. returns.met) c.args.workers.items c.map_vec-done.result (search rules) c.map_vec-done.ensures.each in
    let ended : IfOk c.map_vec-done.result (λ done. All (HasEnded g.N.Naming.config c.args.shared.now c.args.jobs.now) done.items) =
    all_if_ok (IsDone g.N.Naming.config c.args.shared.now c.args.jobs.now) (HasEnded g.N.Naming.config c.args.shared.now c.args.jobs.now) (λ began done is. is.ended) c.args.workers.items c.map_vec-done.result zip in
    let known = all_done_know g.N.Naming.config c.args.shared.now c.args.jobs.now c.args.workers.items c.map_vec-done.result c.requires.workers zip in record {
      done = search rules;
      ended = search rules;
      known = search rules;
      count = search rules;
    }
