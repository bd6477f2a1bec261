use Rattle.std.proofs.Common.{◌≡◌, Some, None, arith}
use Rattle.wasm_checker.specs.Check.{end_block}
use Rattle.wasm_checker.specs.Position.{outside, with_stack}
use Rattle.wasm_checker.specs.Subject.{result_of}
use Rattle.wasm_checker.proofs.Steps.{exits}
use Rattle.wasm_checker.proofs.Advances.{at_end, frame_last, end_none, emptied, results_turn, second_turn}
use Rattle.wasm_checker.proofs.checker.Checker.close.Goals as goal

pub returns-in_err-end : goal.returns-in_err-end
returns-in_err-end c o l =
    let d = at_end c.args.m.now c.args.f.now c.args.self.now o l c.requires.over c.requires.some in
    let frame = c.index-frame.result.now in
    let framed = frame_last c.args.m.now c.args.f.now c.args.self.now o d c.len.result frame (omega (arith, c.len.ensures)) c.index-frame.ensures in
    exits _ (end_block frame.end_type (Some d.position.stack) ≡ None) _ _ c.in_err-end.field-0.0 c.from_residual.ensures.1 (c.in_err-end.ensures d.position d.shows)
    (end_none c.args.m.now c.args.f.now c.args.self.now o d frame framed)

pub returns-in-Some : goal.returns-in-Some
returns-in-Some c o l =
    let d = at_end c.args.m.now c.args.f.now c.args.self.now o l c.requires.over c.requires.some in
    let frame = c.index-frame.result.now in
    let framed = frame_last c.args.m.now c.args.f.now c.args.self.now o d c.len.result frame (omega (arith, c.len.ensures)) c.index-frame.ensures in
    let x = c.in_ok-end.ensures d.position d.shows in
    let gone = emptied c.args.m.now c.args.f.now c.args.self.now o d frame framed c.end.new.self x in
    second_turn c.args.m.now c.args.f.now c.args.self.now o d frame framed c.end.new.self x c.enter.new.self c.in-Some.q c.enter.result c.in-Some.is
    (c.enter.ensures (result_of c.args.m.now c.args.f.now) (outside d.inner d.outer x.stack) (c.leave.ensures (with_stack d.position x.stack) d.inner d.outer x.shows d.nested gone))

pub returns-in-None : goal.returns-in-None
returns-in-None c o l =
    let d = at_end c.args.m.now c.args.f.now c.args.self.now o l c.requires.over c.requires.some in
    let frame = c.index-frame.result.now in
    let framed = frame_last c.args.m.now c.args.f.now c.args.self.now o d c.len.result frame (omega (arith, c.len.ensures)) c.index-frame.ensures in
    let x = c.in_ok-end.ensures d.position d.shows in
    let gone = emptied c.args.m.now c.args.f.now c.args.self.now o d frame framed c.end.new.self x in
    results_turn c.args.m.now c.args.f.now c.args.self.now o d frame framed c.end.new.self x c.push_result.new.self c.push_result.result c.in-None.is
    (c.push_result.ensures (outside d.inner d.outer x.stack) (c.leave.ensures (with_stack d.position x.stack) d.inner d.outer x.shows d.nested gone))
