use Rattle.std.proofs.Common.{arith}
use Rattle.initial_image.proofs.TableLemmas.{entries-next}
use Rattle.initial_image.proofs.fill.write_functions.Goals as goal

pub loop-place-preserved : goal.loop-place-preserved
loop-place-preserved c = entries-next c.args.functions.now c.args.entries.now c.loop-place.entries c.loop-place.place (omega arith) c.requires c.loop-place.invariant
