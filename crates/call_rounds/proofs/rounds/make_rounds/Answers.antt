use Rattle.std.proofs.Common.{◌∙◌, Some, ap, arith}
use Rattle.std.proofs.lemmas.List.{drop_all}
use Rattle.request_text.specs.declared.request.Directive.{Directive}
use Rattle.run_books.proofs.PlaceLemmas.{drop_got, got_item}
use Rattle.call_rounds.proofs.RunLemmas.{one_round_more, one_round_none, rounds_end, rounds_other, rounds_retire}
use Rattle.call_rounds.proofs.rounds.make_rounds.Goals as goal
use Rattle.call_rounds.proofs.rounds.make_rounds.Goals.{in-Retire+in_ok-run, in_default}

pub loop-at-init : goal.loop-at-init
loop-at-init g c = record {
  run = c.requires.run;
  behind = (let start = c.requires.new.done in omega arith);
  one_round = one_round_none _ _ _ (omega arith);
  rounds = λ after rest. rest;
}

pub loop-at-preserved : goal.loop-at-preserved
loop-at-preserved g c =
    let all = c.args.requests.now.directives in
    let test = c.loop-at-test.true in
    let i = c.loop-at.invariant in
    let here = got_item all c.loop-at.at _ (rw c.directives-directives.ensures.all at test) (rw c.directives-directives.ensures.all at c.index-directives-at.is) in
    elim c.match-directives-at.branch [
      | in-Retire+in_ok-run w ↦ (
          let made = w.in_ok-run.ensures.made in
          let out = w.retire.ensures.carried_out in
          let at = made.done in
          let done = out.done in
          let line = here ∙ ap (λ (d : Directive). Some d) w.in-Retire.is in
          rw w.run-is (record {
            run = w.retire.ensures.run;
            behind = omega arith;
            one_round = one_round_none all _ _ (omega arith);
            rounds = rounds_retire g.N.Naming.config c.args.requests.now c.loop-at.at _ _ _ _ _ _ i.rounds (drop_got all c.loop-at.at _ line) made out;
          })
          )
      | in_default w ↦ rw w.run-is (record {
        run = i.run;
        behind = (let b = i.behind in omega arith);
        one_round = one_round_more all _ c.loop-at.at _ i.one_round here (λ place name is. w.in_default.not-Retire place name is);
        rounds = rounds_other g.N.Naming.config c.args.requests.now c.loop-at.at _ _ _ i.rounds (drop_got all c.loop-at.at _ here) (λ place name is. w.in_default.not-Retire place name is);
      })
    ]

pub returns : goal.returns
returns g c =
    rounds_end g.N.Naming.config c.args.requests.now _ _ _ _ c.requires.new c.loop-at.invariant.rounds
    (drop_all c.loop-at.at c.args.requests.now.directives (rw c.directives-directives.ensures.all at c.loop-at-test.false)) c.make_round-2.ensures.run
    (rw c.directives-directives.ensures.all at c.make_round-2.ensures.made)

pub make_round-requires-clause-run : goal.make_round-requires-clause-run
make_round-requires-clause-run g c κs within = c.loop-at.invariant.run

pub make_round-requires-clause-to : goal.make_round-requires-clause-to
make_round-requires-clause-to g c κs within = (c.loop-at.invariant.behind, rw c.directives-directives.ensures.all at c.loop-at.auto.at-end)

pub make_round-requires-clause-one_round : goal.make_round-requires-clause-one_round
make_round-requires-clause-one_round g c κs within = c.loop-at.invariant.one_round

pub retire-requires-clause-run : goal.retire-requires-clause-run
retire-requires-clause-run g c = c.in_ok-run.ensures.run

pub retire-requires-clause-line : goal.retire-requires-clause-line
retire-requires-clause-line g c =
    let all = c.args.requests.now.directives in
    let here = got_item all c.loop-at.at _ (rw c.directives-directives.ensures.all at c.loop-at-test.true) (rw c.directives-directives.ensures.all at c.index-directives-at.is) in
    (c.in-Retire.name, rw c.in_ok-run.ensures.made.done (here ∙ ap (λ (d : Directive). Some d) c.in-Retire.is))
