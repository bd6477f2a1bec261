use Rattle.std.proofs.Common.{◌∙◌, [], ◌∷◌, arith, refl}
use Rattle.slice_steps.proofs.SliceLemmas.{nothing_more, worked_more}
use Rattle.slice_steps.proofs.steps.begin_when_free.Goals as goal

pub loop-init : goal.loop-init
loop-init g c = record {
  at_work = c.requires.at_work;
  own = refl;
  some = c.requires.some;
  did = nothing_more g.N.Naming.config c.args.shared.now.host c.args.shared.now.calls.items g.A.InSlices.slice _ _ _ _ refl refl;
}

pub returns-then-began-clause-did : goal.returns-then-began-clause-did
returns-then-began-clause-did g c =
    worked_more g.N.Naming.config c.args.shared.now.host c.args.shared.now.calls.items g.A.InSlices.slice (c.args.call ∷ []) _ _ _ _ _ _ c.loop.invariant.did (rw c.if-began.true at c.in_ok-began.ensures.did)

pub loop-preserved : goal.loop-preserved
loop-preserved g c =
    let i = c.loop.invariant in
    let same = c.in_ok-began.ensures.kept c.if-began.false in
    let tried = rw c.if-began.false at c.in_ok-began.ensures.did in
    let more = c.make_others.ensures.kept in
    let some = i.some in record {
      at_work = c.make_others.ensures.at_work;
      own = c.make_others.ensures.own ∙ (c.begin_held.ensures.own ∙ i.own);
      some = omega arith;
      did = worked_more g.N.Naming.config c.args.shared.now.host c.args.shared.now.calls.items g.A.InSlices.slice [] _ _ _ _ _ _
          (worked_more g.N.Naming.config c.args.shared.now.host c.args.shared.now.calls.items g.A.InSlices.slice [] _ _ _ _ _ _ i.did tried) c.in_ok-make_others.ensures.did;
    }

pub begin_held-requires-clause-at_work : goal.begin_held-requires-clause-at_work
begin_held-requires-clause-at_work g c κs within = c.loop.invariant.at_work

pub begin_held-requires-clause-fits : goal.begin_held-requires-clause-fits
begin_held-requires-clause-fits g c κs within = c.requires.fits

pub make_others-requires-clause-at_work : goal.make_others-requires-clause-at_work
make_others-requires-clause-at_work g c κs within = c.begin_held.ensures.at_work

pub make_others-requires-clause-fits : goal.make_others-requires-clause-fits
make_others-requires-clause-fits g c κs within = c.requires.fits

pub returns-in_err-began-clause-at_work : goal.returns-in_err-began-clause-at_work
returns-in_err-began-clause-at_work g c = c.begin_held.ensures.at_work

pub returns-then-began-clause-at_work : goal.returns-then-began-clause-at_work
returns-then-began-clause-at_work g c = c.begin_held.ensures.at_work

pub returns-in_err-make_others-clause-at_work : goal.returns-in_err-make_others-clause-at_work
returns-in_err-make_others-clause-at_work g c = c.make_others.ensures.at_work
