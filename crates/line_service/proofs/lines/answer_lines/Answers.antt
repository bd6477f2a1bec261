use Rattle.std.proofs.Common.{◌∙◌}
use Rattle.std.specs.Io.Iter.{split_known_bytes}
use Rattle.line_service.proofs.LineLemmas.{come_last, come_next}
use Rattle.line_service.proofs.lines.answer_lines.Goals as goal

pub loop-line-preserved : goal.loop-line-preserved
loop-line-preserved g c =
    let i = c.loop-line.invariant in
    let left = g.B.Read.remaining in
    let written = g.W.Write.contents in
    let steps = rw c.in_ok-line.was at c.in-Some.ensures.steps in
    let piece = rw i.byte at steps.2 in
    let answered = rw c.as_slice.ensures.value at c.in_ok-answer_line.ensures.answered in
    record {
      can = tt;
      finite = tt;
      own = c.in_ok-answer_line.ensures.own;
      byte = steps.1 ∙ i.byte;
      come = come_next g.N.Naming.config c.args.module.now.tree (left c.args.source) (split_known_bytes left c.loop-line.line-iterator) (split_known_bytes left c.next.new.self)
          (written c.args.out.now) (written c.loop-line.out) (written c.answer_line.new.out) c.in_ok-line.line.items i.come piece.0 piece.1 answered;
    }

pub returns-clause-answered : goal.returns-clause-answered
returns-clause-answered g c =
    let left = g.B.Read.remaining in
    let written = g.W.Write.contents in
    come_last g.N.Naming.config c.args.module.now.tree (left c.args.source) (split_known_bytes left c.loop-line.line-iterator) (written c.args.out.now) (written c.loop-line.out)
    c.loop-line.invariant.come c.in-None.ensures.steps.2
