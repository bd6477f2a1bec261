use Rattle.std.proofs.Common.{◌≡◌, ◌≤◌, ◌+◌, ◌-◌, length}
use Rattle.std.specs.Io.KnownBytes.{Consumes}
use Rattle.request_text.specs.declared.request.TheConstants.{MOST_BYTES}
use Rattle.host_run.proofs.streams.read_pieces.Given as goal

abbrev pub invariant-pieces : goal.invariant-pieces
invariant-pieces g l = record {
  quiet : g.S.Source.faults l.source ≡ g.S.Source.faults l.initial.source;
  taken : Consumes (g.S.Source.left l.initial.source) (g.S.Source.left l.source) l.bytes.items;
  size : length l.bytes.items ≤ MOST_BYTES + 1;
}

abbrev pub decreases-pieces : goal.decreases-pieces
decreases-pieces g l = MOST_BYTES + 1 - length l.bytes.items
