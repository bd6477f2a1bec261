use Rattle.std.proofs.Common.{◌≡◌, length}
use Rattle.host_run.proofs.StreamLemmas.{Progress}
use Rattle.host_run.proofs.streams.write_text.Given as goal

abbrev pub invariant-loop-rest : goal.invariant-loop-rest
invariant-loop-rest g l = record {
  quiet : g.K.Sink.faults l.sink ≡ g.K.Sink.faults l.initial.sink;
  progress : Progress (g.K.Sink.written l.initial.sink) (g.K.Sink.written l.sink) l.text l.rest;
}

abbrev pub decreases-loop-rest : goal.decreases-loop-rest
decreases-loop-rest g l = length l.rest
