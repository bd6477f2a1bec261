use Rattle.std.proofs.Common.{◌≡◌}
use Rattle.std.specs.Io.Iter.{split_byte, split_known_bytes}
use Rattle.pool_host.specs.Hosts.{IsHostPass}
use Rattle.line_service.proofs.LineLemmas.{HasCome}
use Rattle.line_service.proofs.lines.answer_lines.Given as goal

abbrev pub invariant-loop-line : goal.invariant-loop-line
invariant-loop-line g l = record {
  can : (goal.iterator-loop-line g).can_next l.line-iterator;
  finite : (goal.iterator-loop-line g).is_finite l.line-iterator;
  own : IsHostPass l.host l.pass;
  byte : split_byte l.line-iterator ≡ 10;
  come : HasCome g.N.Naming.config l.module.tree (g.B.Read.remaining l.fn.source) (split_known_bytes g.B.Read.remaining l.line-iterator) (g.W.Write.contents l.fn.out) (g.W.Write.contents l.out);
}
