use Rattle.std.proofs.Common.{ap, arith, length}
use Rattle.std.proofs.lemmas.List.Elements.{All-push}
use Rattle.pool_host.specs.Hosts.{IsHostPass}
use Rattle.slice_steps.proofs.SliceLemmas.{call_taken, came_round, nothing_more, pass_kept}
use Rattle.slice_steps.proofs.steps.go_on.Goals as goal

pub returns-in_err-make_room-clause-at_work : goal.returns-in_err-make_room-clause-at_work
returns-in_err-make_room-clause-at_work g c =
    let w = c.requires.at_work in
    let same = ap length c.make_room.ensures.passes in
    let room = w.room in record { own = w.own; place = w.place; slice_is = w.slice_is; passes = rw c.make_room.ensures.passes w.passes; room = omega arith }

pub returns-in-None-clause-at_work : goal.returns-in-None-clause-at_work
returns-in-None-clause-at_work g c =
    let w = c.requires.at_work in
    let same = ap length c.make_room.ensures.passes in
    let still = ap (λ r. r.room) c.in-None.ensures.none in
    let room = w.room in record { own = w.own; place = c.next.ensures.own; slice_is = w.slice_is; passes = rw c.make_room.ensures.passes w.passes; room = omega arith }

pub returns-in-None-clause-did : goal.returns-in-None-clause-did
returns-in-None-clause-did g c =
    nothing_more g.N.Naming.config c.args.shared.now.host c.args.shared.now.calls.items g.A.InSlices.slice _ _ _ _ c.in-None.ensures.none c.make_room.ensures.made

pub returns-in-Some-Idle-clause-at_work : goal.returns-in-Some-Idle-clause-at_work
returns-in-Some-Idle-clause-at_work g c =
    let w = c.requires.at_work in
    let own = came_round g.A.Admits.fits _ _ _ c.in-Some-Idle.field-0 _ c.requires.fits c.in-Some-Idle.field-0-is c.in-Some-Idle.ensures.fits in
    let same = ap length c.make_room.ensures.passes in
    let took = ap (λ r. r.room) c.in-Some-Idle.ensures.given in
    let more = c.push_reserved.ensures.len in
    let room = w.room in record {
      own = w.own;
      place = c.next.ensures.own;
      slice_is = w.slice_is;
      passes = rw (c.push_reserved.ensures.items, c.make_room.ensures.passes) (All-push (IsHostPass c.args.shared.now.host) _ _ w.passes own);
      room = omega arith;
    }

pub returns-in-Some-Idle-clause-did : goal.returns-in-Some-Idle-clause-did
returns-in-Some-Idle-clause-did g c =
    pass_kept g.N.Naming.config c.args.shared.now.host c.args.shared.now.calls.items g.A.InSlices.slice _ _ c.in-Some-Idle.pass _ _ (rw c.in-Some-Idle.field-0-is at c.in-Some-Idle.ensures.given)
    c.make_room.ensures.made

pub resume_call-requires-clause-at_work : goal.resume_call-requires-clause-at_work
resume_call-requires-clause-at_work g c κs within =
    let w = c.requires.at_work in
    let same = ap length c.make_room.ensures.passes in
    let took = ap (λ r. r.room) c.in-Some-Paused.ensures.given in
    let room = w.room in record { own = w.own; place = c.next.ensures.own; slice_is = w.slice_is; passes = rw c.make_room.ensures.passes w.passes; room = omega arith }

pub resume_call-requires-clause-paused : goal.resume_call-requires-clause-paused
resume_call-requires-clause-paused g c κs within = came_round g.A.Admits.fits _ _ _ c.in-Some-Paused.field-0 _ c.requires.fits c.in-Some-Paused.field-0-is c.in-Some-Paused.ensures.fits

pub returns-in-Some-Paused-clause-did : goal.returns-in-Some-Paused-clause-did
returns-in-Some-Paused-clause-did g c =
    call_taken g.N.Naming.config c.args.shared.now.host c.args.shared.now.calls.items g.A.InSlices.slice _ _ _ c.in-Some-Paused.paused _ _ _ _ (rw c.in-Some-Paused.field-0-is at c.in-Some-Paused.ensures.given)
    c.make_room.ensures.made c.resume_call.ensures.did

pub returns-in-Some-Paused-clause-kept : goal.returns-in-Some-Paused-clause-kept
returns-in-Some-Paused-clause-kept g c =
    let same = ap length c.make_room.ensures.passes in
    let left = ap (λ v. length v.items) c.resume_call.ensures.passes in omega arith
