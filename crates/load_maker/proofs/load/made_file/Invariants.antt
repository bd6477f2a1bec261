use Rattle.std.proofs.Common.{◌≡◌}
use Rattle.load_maker.specs.Load.{made_file, state_at}
use Rattle.load_maker.proofs.load.made_file.Given as goal

abbrev pub invariant-loop-calls : goal.invariant-loop-calls
invariant-loop-calls l = record {
  state : l.state ≡ state_at l.seed l.calls;
  file : l.file.items ≡ made_file l.seed l.calls;
}
