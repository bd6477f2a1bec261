use Rattle.std.proofs.Common.{◌≡◌, ◌∙◌, Some, ap, arith, inr}
use Rattle.request_text.specs.declared.request.Directive.{Directive}
use Rattle.run_books.specs.Lines.{limits_in}
use Rattle.run_books.proofs.EntryLemmas.{entered_module, entered_other, kept_all, kept_more, many_entries, room_for_module}
use Rattle.run_books.proofs.PlaceLemmas.{got_item, placed_call}
use Rattle.run_books.proofs.PutLemmas.{module_there, puts_begin, puts_call, puts_end, puts_many, puts_module, puts_retire, room_for_call}
use Rattle.run_books.proofs.putter.put_calls.Goals as goal
use Rattle.run_books.proofs.putter.put_calls.Goals.{in-Call, in-Module+in_ok-enter-in-Module, in-Retire}

pub loop-at-init : goal.loop-at-init
loop-at-init g c = record {
  within = c.requires.span_is.order;
  own = c.requires.own;
  entered = c.requires.entered;
  kept = kept_all _;
  left = puts_begin c.args.requests.now.directives c.args.span c.requires.span_is _ _ c.requires.puts c.requires.none;
}

pub enter-requires : goal.enter-requires
enter-requires g c =
    let all = c.args.requests.now.directives in
    let within = c.requires.span_is.within in
    let test = c.loop-at-test.true in
    let here = got_item all c.loop-at.at _ (omega arith) (rw c.directives-directives.ensures.all at c.index-directives-at.is) ∙ ap (λ (d : Directive). Some d) c.in-Module.is in
    room_for_module (limits_in c.args.requests.now.profile g.N.Naming.config) all c.loop-at.at _ _ c.loop-at.invariant.entered _ _ here

pub returns-in_err-enter-in-Module-clause-many : goal.returns-in_err-enter-in-Module-clause-many
returns-in_err-enter-in-Module-clause-many g c = puts_many c.args.requests.now.directives c.args.span c.requires.span_is _ _ _ _ _ c.loop-at.invariant.left c.loop-at.invariant.within

pub entry_at-requires : goal.entry_at-requires
entry_at-requires g c =
    let all = c.args.requests.now.directives in
    let within = c.requires.span_is.within in
    let test = c.loop-at-test.true in
    let here = got_item all c.loop-at.at _ (omega arith) (rw c.directives-directives.ensures.all at c.index-directives-at.is) ∙ ap (λ (d : Directive). Some d) c.in-Call.is in
    let placed = placed_call all 0 c.loop-at.at _ _ _ _ c.directives-directives.ensures.lawful.placed here in
    let many = many_entries (limits_in c.args.requests.now.profile g.N.Naming.config) all c.loop-at.at _ _ c.loop-at.invariant.entered in
    rw c.deref.ensures.value (omega arith)

pub put-requires-clause-room : goal.put-requires-clause-room
put-requires-clause-room g c =
    let all = c.args.requests.now.directives in
    let within = c.requires.span_is.within in
    let test = c.loop-at-test.true in
    let here = got_item all c.loop-at.at _ (omega arith) (rw c.directives-directives.ensures.all at c.index-directives-at.is) ∙ ap (λ (d : Directive). Some d) c.in-Call.is in
    let left = c.loop-at.invariant.left in
    let few = room_for_call all c.args.span c.requires.span_is c.loop-at.at _ _ _ _ left test _ _ _ _ here in
    let room = c.requires.room in
    let many = left.many in omega arith

pub put-requires-clause-number : goal.put-requires-clause-number
put-requires-clause-number g c =
    let all = c.args.requests.now.directives in
    let within = c.requires.span_is.within in
    let test = c.loop-at-test.true in
    let here = got_item all c.loop-at.at _ (omega arith) (rw c.directives-directives.ensures.all at c.index-directives-at.is) ∙ ap (λ (d : Directive). Some d) c.in-Call.is in
    let left = c.loop-at.invariant.left in
    let few = room_for_call all c.args.span c.requires.span_is c.loop-at.at _ _ _ _ left test _ _ _ _ here in
    let first = c.requires.first in
    let count = c.requires.count in
    let many = left.many in inr (omega arith, omega arith)

pub loop-at-preserved : goal.loop-at-preserved
loop-at-preserved g c =
    let limits = limits_in c.args.requests.now.profile g.N.Naming.config in
    let all = c.args.requests.now.directives in
    let within = c.requires.span_is.within in
    let test = c.loop-at-test.true in
    let here = got_item all c.loop-at.at _ (omega arith) (rw c.directives-directives.ensures.all at c.index-directives-at.is) in
    let i = c.loop-at.invariant in
    elim c.match-directives-at.branch [
      | in-Module+in_ok-enter-in-Module w ↦ (
          let entered = rw (w.as_slice.ensures, c.profile-profile.ensures) at w.in_ok-enter-in-Module.ensures in
          let got = here ∙ ap (λ (d : Directive). Some d) w.in-Module.is in record {
            within = omega arith;
            own = rw w.own-is i.own;
            entered = rw w.registry-is (entered_module limits all c.loop-at.at _ _ i.entered _ _ _ _ got entered);
            kept = rw w.registry-is (kept_more limits _ _ _ _ _ _ i.kept entered);
            left = rw (w.own-is, w.registry-is, w.number-is) (puts_module all c.args.span c.requires.span_is c.loop-at.at _ _ _ _ i.left test _ _ _ _ got entered.after_is);
          }
          )
      | in-Call w ↦ (
          let got = here ∙ ap (λ (d : Directive). Some d) w.in-Call.is in
          let placed = placed_call all 0 c.loop-at.at _ _ _ _ c.directives-directives.ensures.lawful.placed got in
          let many = many_entries limits all c.loop-at.at _ _ i.entered in
          let there = module_there c.loop-at.registry.entries.items w.in-Call.module _ _ (rw w.deref.ensures.value at w.entry_at.ensures) w.item_of-item.ensures in record {
            within = omega arith;
            own = rw w.own-is w.put.ensures.own;
            entered = rw w.registry-is (entered_other limits all c.loop-at.at _ _ i.entered _ got (λ name bytes is. cc));
            kept = rw w.registry-is i.kept;
            left = rw (w.own-is, w.registry-is, w.number-is) (puts_call all c.args.span c.requires.span_is c.loop-at.at _ _ _ _ i.left test _ _ _ _ got _ _ (omega arith) there w.put.ensures.put);
          }
          )
      | in-Retire w ↦ (
          let got = here ∙ ap (λ (d : Directive). Some d) w.in-Retire.is in record {
            within = omega arith;
            own = rw w.own-is i.own;
            entered = rw w.registry-is (entered_other limits all c.loop-at.at _ _ i.entered _ got (λ name bytes is. cc));
            kept = rw w.registry-is i.kept;
            left = rw (w.own-is, w.registry-is, w.number-is) (puts_retire all c.args.span c.requires.span_is c.loop-at.at _ _ _ _ i.left test _ _ got);
          }
          )
    ]

pub returns-clause-many : goal.returns-clause-many
returns-clause-many g c = puts_many c.args.requests.now.directives c.args.span c.requires.span_is _ _ _ _ _ c.loop-at.invariant.left c.loop-at.invariant.within

pub returns-clause-put : goal.returns-clause-put
returns-clause-put g c = puts_end c.args.requests.now.directives c.args.span c.requires.span_is _ _ _ _ _ c.loop-at.invariant.left c.loop-at-test.false

pub returns-in_err-enter-in-Module-clause-own : goal.returns-in_err-enter-in-Module-clause-own
returns-in_err-enter-in-Module-clause-own g c = c.loop-at.invariant.own

pub returns-in_err-enter-in-Module-clause-putter : goal.returns-in_err-enter-in-Module-clause-putter
returns-in_err-enter-in-Module-clause-putter g c = c.loop-at.invariant.left.putter

pub put-requires-clause-own : goal.put-requires-clause-own
put-requires-clause-own g c = c.loop-at.invariant.own

pub put-requires-clause-putter : goal.put-requires-clause-putter
put-requires-clause-putter g c = c.loop-at.invariant.left.putter

pub returns-clause-own : goal.returns-clause-own
returns-clause-own g c = c.loop-at.invariant.own

pub returns-clause-putter : goal.returns-clause-putter
returns-clause-putter g c = c.loop-at.invariant.left.putter

pub returns-clause-kept : goal.returns-clause-kept
returns-clause-kept g c = c.loop-at.invariant.kept

pub returns-clause-entered : goal.returns-clause-entered
returns-clause-entered g c =
    let within = c.loop-at.invariant.within in
    let past = c.loop-at-test.false in
    let all : c.loop-at.at ≡ c.args.span.to = omega arith in rw (← all) c.loop-at.invariant.entered
