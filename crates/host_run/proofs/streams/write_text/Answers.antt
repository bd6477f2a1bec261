use Rattle.std.proofs.Common.{rules}
use Rattle.host_run.proofs.StreamLemmas.{more_past}
use Rattle.host_run.proofs.streams.write_text.Goals as goal

pub loop-rest-preserved : goal.loop-rest-preserved
loop-rest-preserved g c = record {
  quiet = search rules;
  progress = more_past _ _ _ _ _ c.in_ok-count.count c.loop-rest.invariant.progress c.in_ok-count.ensures.bound c.in_ok-count.ensures.bytes;
}
