use Rattle.std.proofs.Common.{rules}
use Rattle.instance_calls.proofs.ArgumentLemmas.{one_more}
use Rattle.instance_calls.proofs.arguments.have_types.Goals as goal

pub loop-index-preserved : goal.loop-index-preserved
loop-index-preserved c =
    one_more c.args.values.now c.args.types.now c.loop-index.index _ _ c.loop-index-test.true c.if-values-types.false
    (c.is_of_type.ensures.0 (search rules)) c.loop-index.invariant
