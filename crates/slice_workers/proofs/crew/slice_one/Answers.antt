use Rattle.std.proofs.Common.{ap}
use Rattle.slice_workers.proofs.crew.slice_one.Goals as goal

pub work_in_slices-made-requires-clause-room : goal.work_in_slices-made-requires-clause-room
work_in_slices-made-requires-clause-room g c κs within = ap (λ r. r.room) c.requires.worker.place.account_is
