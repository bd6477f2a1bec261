use Rattle.std.proofs.Common.{◌+◌, ◌∙◌, ap, sym, arith}
use Rattle.std.proofs.lemmas.List.Elements.{All-head, All-rest, All-same}
use Rattle.request_text.specs.Text.{requests_from}
use Rattle.request_text.proofs.LineLemmas.{IsPrintable, bytes_left, fewer_left, first_line, lines_left, one_read, one_refused}
use Rattle.request_text.proofs.parser.read_lines.Goals as goal

pub loop-left-preserved : goal.loop-left-preserved
loop-left-preserved c =
    let n = c.args.config.now in
    let rest = c.in-Some.rest.now in
    let is = ap lines_left c.in-Some.is ∙ first_line rest _ _ c.next_line.ensures.lines in
    let fewer = fewer_left rest _ c.next_line.ensures.shorter in
    let size = ap bytes_left c.in-Some.is in
    record {
      lines = one_read n c.loop-left.number c.loop-left.reading c.read.new.self _ _ _ (c.loop-left.invariant.lines ∙ ap (requests_from n (c.loop-left.number + 1) c.loop-left.reading) is) c.in-Ok.ensures;
      room = omega (arith, fewer, size, c.loop-left.invariant.room);
      printable = λ known. All-rest IsPrintable _ _ _ is (c.loop-left.invariant.printable known);
    }

pub read-requires : goal.read-requires
read-requires c known =
    let rest = c.in-Some.rest.now in
    let is = ap lines_left c.in-Some.is ∙ first_line rest _ _ c.next_line.ensures.lines in
    All-head IsPrintable _ _ (All-same IsPrintable _ _ (sym is) (c.loop-left.invariant.printable known))

pub returns-in-Err-clause-refused : goal.returns-in-Err-clause-refused
returns-in-Err-clause-refused c =
    let n = c.args.config.now in
    let is = ap lines_left c.in-Some.is ∙ first_line c.in-Some.rest.now _ _ c.next_line.ensures.lines in
    rw c.at_line.ensures
    (one_refused n c.loop-left.number c.loop-left.reading _ _ c.in-Err.fault _ (c.loop-left.invariant.lines ∙ ap (requests_from n (c.loop-left.number + 1) c.loop-left.reading) is) c.in-Err.ensures)

pub returns-clause-read : goal.returns-clause-read
returns-clause-read c =
    let none = ap lines_left c.in_default.is in
    c.loop-left.invariant.lines ∙ ap (requests_from c.args.config.now (c.loop-left.number + 1) c.loop-left.reading) none
