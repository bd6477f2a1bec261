use Rattle.std.proofs.Common.{◌∙◌, Some, ap, arith}
use Rattle.request_text.specs.declared.request.Directive.{Directive}
use Rattle.run_books.specs.Lines.{limits_in}
use Rattle.run_books.proofs.EntryLemmas.{entered_module, entered_other, kept_all, kept_more, room_for_module}
use Rattle.run_books.proofs.PlaceLemmas.{got_item}
use Rattle.run_books.proofs.modules.enter_round.Goals as goal
use Rattle.run_books.proofs.modules.enter_round.Goals.{in-Module+in_ok-enter, in_default}

pub loop-at-init : goal.loop-at-init
loop-at-init g c = record { within = c.requires.span.order; entered = c.requires.entered; kept = kept_all _ }

pub enter-requires : goal.enter-requires
enter-requires g c =
    let all = c.args.requests.now.directives in
    let within = c.requires.span.within in
    let test = c.loop-at-test.true in
    let here = got_item all c.loop-at.at _ (omega arith) (rw c.directives-directives.ensures.all at c.index-directives-at.is) ∙ ap (λ (d : Directive). Some d) c.in-Module.is in
    room_for_module (limits_in c.args.requests.now.profile g.N.Naming.config) all c.loop-at.at _ _ c.loop-at.invariant.entered _ _ here

pub loop-at-preserved : goal.loop-at-preserved
loop-at-preserved g c =
    let limits = limits_in c.args.requests.now.profile g.N.Naming.config in
    let all = c.args.requests.now.directives in
    let within = c.requires.span.within in
    let test = c.loop-at-test.true in
    let here = got_item all c.loop-at.at _ (omega arith) (rw c.directives-directives.ensures.all at c.index-directives-at.is) in
    let i = c.loop-at.invariant in
    elim c.match-directives-at.branch [
      | in-Module+in_ok-enter w ↦ (
          let entered = rw (w.as_slice.ensures, c.profile-profile.ensures) at w.in_ok-enter.ensures in record {
            within = omega arith;
            entered = rw w.registry-is (entered_module limits all c.loop-at.at _ _ i.entered _ _ _ _ (here ∙ ap (λ (d : Directive). Some d) w.in-Module.is) entered);
            kept = rw w.registry-is (kept_more limits _ _ _ _ _ _ i.kept entered);
          }
          )
      | in_default w ↦ record {
        within = omega arith;
        entered = rw w.registry-is (entered_other limits all c.loop-at.at _ _ i.entered _ here w.in_default.not-Module);
        kept = rw w.registry-is i.kept;
      }
    ]
