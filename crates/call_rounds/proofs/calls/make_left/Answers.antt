use Rattle.std.proofs.Common.{◌≡◌, ◌+◌, ◌-◌, ◌<◌, ◌∙◌, Some, ap, arith, length, refl}
use Rattle.request_text.specs.declared.request.Directive.{Directive}
use Rattle.retired_tags.specs.Passes.{steps}
use Rattle.request_text.specs.Text.{modules_of}
use Rattle.run_books.specs.Put.{module_of}
use Rattle.run_books.specs.Lines.{GoesAs, limits_in}
use Rattle.run_books.proofs.BoardLemmas.{line_of_call, lines_had, lines_made, none_there, open_here, some_there}
use Rattle.run_books.proofs.EntryLemmas.{entry_of_place, many_entries}
use Rattle.call_rounds.proofs.LaneLemmas.{unset_here}
use Rattle.call_rounds.proofs.LeftLemmas.{left_begin, left_end, left_had, left_made, left_other}
use Rattle.run_books.proofs.PlaceLemmas.{all_calls, call_room, calls_next, fewer_modules, got_item, no_call, part_got, part_none, placed_call}
use Rattle.run_books.proofs.PutLemmas.{module_there}
use Rattle.call_rounds.proofs.calls.make_left.Goals as goal
use Rattle.call_rounds.proofs.calls.make_left.Goals.{in-Call+else-is_left, in-Call+then-is_left+in_ok-line, in_default}

pub loop-at-init : goal.loop-at-init
loop-at-init g c = record {
  above = omega arith;
  within = c.requires.span.order;
  number_is = c.requires.span.calls_are;
  lines = c.requires.books.lines;
  lane = refl;
  tags = λ tag has. has;
  known = λ tag knows. knows;
  left = left_begin _ _ _ _ _ _ _;
}

pub entry_at-entry-requires : goal.entry_at-entry-requires
entry_at-entry-requires g c =
    let all = c.args.requests.now.directives in
    let within = c.requires.span.within in
    let test = c.loop-at-test.true in
    let here = got_item all c.loop-at.at _ (omega arith) (rw c.directives-directives.ensures.all at c.index-directives-at.is) ∙ ap (λ (d : Directive). Some d) c.in-Call.is in
    let placed = placed_call all 0 c.loop-at.at _ _ _ _ c.directives-directives.ensures.lawful.placed here in
    let fewer = fewer_modules all c.loop-at.at c.args.span.to c.loop-at.invariant.within in
    let many = many_entries (limits_in c.args.requests.now.profile g.N.Naming.config) all c.args.span.to _ _ c.requires.books.entered in
    rw c.deref.ensures.value (omega arith)

pub call_line-requires-after_bounds : goal.call_line-requires-after_bounds
call_line-requires-after_bounds g c κs within =
    let all = c.args.requests.now.directives in
    let inside = c.requires.span.within in
    let test = c.loop-at-test.true in
    let here = got_item all c.loop-at.at _ (omega arith) (rw c.directives-directives.ensures.all at c.index-directives-at.is) ∙ ap (λ (d : Directive). Some d) c.in-Call.is in
    let there = rw c.deref.ensures.value at c.entry_at-entry.ensures in
    unset_here _ _ _ all c.args.span.from c.loop-at.at _ _ _ _ (steps c.loop-at.lane.pass.retired) c.directives-directives.ensures.lawful c.requires.books.entered.tagged (λ tag has. c.requires.tags tag (c.loop-at.invariant.tags tag has)) c.loop-at.invariant.above here
    c.entry_at-entry.result.now there

pub is_left-requires : goal.is_left-requires
is_left-requires g c =
    let all = c.args.requests.now.directives in
    let inside = c.requires.span.within in
    let test = c.loop-at-test.true in
    let i = c.loop-at.invariant in
    let here = got_item all c.loop-at.at _ (omega arith) (rw c.directives-directives.ensures.all at c.index-directives-at.is) ∙ ap (λ (d : Directive). Some d) c.in-Call.is in
    let room = call_room all c.loop-at.at (length all) _ _ _ _ (omega arith) here in
    let many = i.lines.board_is.many in
    let number = i.number_is in
    (omega arith, omega (arith, all_calls all, room.1))

pub returns-in_err-line-clause-known : goal.returns-in_err-line-clause-known
returns-in_err-line-clause-known g c = λ tag knows. c.in_err-line.ensures.known tag (c.loop-at.invariant.known tag knows)

pub returns-in_err-line-clause-tags : goal.returns-in_err-line-clause-tags
returns-in_err-line-clause-tags g c = λ tag has. c.loop-at.invariant.tags tag (c.in_err-line.ensures.tags tag has)

pub collect-requires : goal.collect-requires
collect-requires g c =
    let all = c.args.requests.now.directives in
    let inside = c.requires.span.within in
    let test = c.loop-at-test.true in
    let i = c.loop-at.invariant in
    let here = got_item all c.loop-at.at _ (omega arith) (rw c.directives-directives.ensures.all at c.index-directives-at.is) ∙ ap (λ (d : Directive). Some d) c.in-Call.is in
    let room = call_room all c.loop-at.at (length all) _ _ _ _ (omega arith) here in
    let many = i.lines.board_is.many in
    let number = i.number_is in
    let there : c.loop-at.number < length c.loop-at.board = omega (arith, all_calls all, room.1) in
    let at : c.loop-at.number + 1 - 1 ≡ c.loop-at.number = omega arith in
    let asked = rw at at c.is_left.ensures in
    open_here _ _ there (none_there _ _ _ there asked c.if-is_left.true)

pub loop-at-preserved : goal.loop-at-preserved
loop-at-preserved g c =
    let limits = limits_in c.args.requests.now.profile g.N.Naming.config in
    let all = c.args.requests.now.directives in
    let inside = c.requires.span.within in
    let test = c.loop-at-test.true in
    let here = got_item all c.loop-at.at _ (omega arith) (rw c.directives-directives.ensures.all at c.index-directives-at.is) in
    let i = c.loop-at.invariant in
    let above = i.above in
    let many = i.lines.board_is.many in
    let number = i.number_is in
    let at : c.loop-at.number + 1 - 1 ≡ c.loop-at.number = omega arith in
    elim c.match-directives-at.branch [
      | in-Call+then-is_left+in_ok-line w ↦ (
          let got = here ∙ ap (λ (d : Directive). Some d) w.in-Call.is in
          let whole = call_room all c.loop-at.at (length all) _ _ _ _ (omega arith) got in
          let room = call_room all c.loop-at.at c.args.span.to _ _ _ _ test got in
          let there : c.loop-at.number < length c.loop-at.board = omega (arith, all_calls all, whole.1) in
          let asked = rw at at w.is_left.ensures in
          let none = none_there _ _ _ there asked w.if-is_left.true in
          let stood = rw w.deref.ensures.value at w.entry_at-entry.ensures in
          let (bytes, of_module, entry) = entry_of_place limits all c.args.span.to _ _ c.requires.books.entered w.in-Call.module _ stood in
          let collected = rw at at w.collect.ensures in
          let called = module_there _ w.in-Call.module _ (module_of w.entry_at-entry.result.now) stood refl in
          let made = rw (i.lane, called) at w.in_ok-line.ensures.made in
          let goes : GoesAs limits (modules_of all) w.in-Call.module w.in-Call.retired w.in-Call.invocation w.in_ok-line.line = record { bytes = bytes; there = of_module; goes = w.in_ok-line.ensures.line _ bytes entry } in record {
            above = omega arith;
            within = omega arith;
            number_is = rw w.number-is (omega (arith, room.0));
            lines = rw (w.number-is, w.board-is) (lines_made limits all c.loop-at.number _ _ i.lines _ _ there (omega (arith, room.1)) (line_of_call limits all c.loop-at.at c.loop-at.number _ _ _ _ _ got i.number_is goes) collected);
            lane = rw w.lane-is (w.in_ok-line.ensures.lane ∙ i.lane);
            tags = rw w.lane-is (λ tag has. i.tags tag (w.in_ok-line.ensures.tags tag has));
            known = rw w.lane-is (λ tag knows. w.in_ok-line.ensures.known tag (i.known tag knows));
            left = rw (w.number-is, w.board-is, w.lane-is) (left_made _ _ _ _ _ _ _ _ _ _ _ i.left _ _ (part_got all c.loop-at.at c.args.span.to _ test here) _ _ _ _ w.in-Call.is _ _ _ none collected made);
          }
          )
      | in-Call+else-is_left w ↦ (
          let got = here ∙ ap (λ (d : Directive). Some d) w.in-Call.is in
          let whole = call_room all c.loop-at.at (length all) _ _ _ _ (omega arith) got in
          let room = call_room all c.loop-at.at c.args.span.to _ _ _ _ test got in
          let there : c.loop-at.number < length c.loop-at.board = omega (arith, all_calls all, whole.1) in
          let asked = rw at at w.is_left.ensures in
          let (line, stands) = some_there _ _ _ there asked w.if-is_left.false in record {
            above = omega arith;
            within = omega arith;
            number_is = rw w.number-is (omega (arith, room.0));
            lines = rw (w.number-is, w.board-is) (lines_had limits all c.loop-at.number _ _ i.lines line stands);
            lane = rw w.lane-is i.lane;
            tags = rw w.lane-is i.tags;
            known = rw w.lane-is i.known;
            left = rw (w.number-is, w.board-is, w.lane-is) (left_had _ _ _ _ _ _ _ _ _ _ _ i.left _ _ (part_got all c.loop-at.at c.args.span.to _ test here) _ _ _ _ w.in-Call.is line stands);
          }
          )
      | in_default w ↦ (
          let next = calls_next all c.loop-at.at _ here in
          let none = no_call _ w.in_default.not-Call in record {
            above = omega arith;
            within = omega arith;
            number_is = rw w.number-is (omega arith);
            lines = rw (w.number-is, w.board-is) i.lines;
            lane = rw w.lane-is i.lane;
            tags = rw w.lane-is i.tags;
            known = rw w.lane-is i.known;
            left = rw (w.number-is, w.board-is, w.lane-is) (left_other _ _ _ _ _ _ _ _ _ _ _ i.left _ _ (part_got all c.loop-at.at c.args.span.to _ test here) w.in_default.not-Call);
          }
          )
    ]

pub returns-clause-made : goal.returns-clause-made
returns-clause-made g c = left_end _ _ _ _ _ _ _ _ _ _ _ c.loop-at.invariant.left (part_none c.args.requests.now.directives c.loop-at.at c.args.span.to c.loop-at-test.false)
