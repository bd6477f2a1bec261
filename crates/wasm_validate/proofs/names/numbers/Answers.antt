use Rattle.std.proofs.Common.{refl, arith, length}
use Rattle.std.proofs.lemmas.Iterator.{items_from_collect, YieldsList-from_range}
use Rattle.wasm_validate.proofs.names.numbers.Goals as goal

pub returns : goal.returns
returns c = items_from_collect _ c.collect.ensures.ran (YieldsList-from_range 0 c.in_ok-count.count (length c.args.exports.now) refl (omega (arith, c.in_ok-count.ensures.is)))
