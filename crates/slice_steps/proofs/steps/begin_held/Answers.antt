use Rattle.std.proofs.Common.{ap, arith, length, refl}
use Rattle.std.proofs.lemmas.List.Elements.{All-pop, All-push}
use Rattle.pool_host.specs.Hosts.{IsHostPass}
use Rattle.slice_steps.specs.declared.queued.Queued.TheVariants as queued
use Rattle.slice_steps.proofs.SliceLemmas.{begun_put, nothing_more, slice_of_run}
use Rattle.slice_steps.proofs.steps.begin_held.Goals as goal

pub returns-in_err-make_room-clause-at_work : goal.returns-in_err-make_room-clause-at_work
returns-in_err-make_room-clause-at_work g c =
    let w = c.requires.at_work in
    let same = ap length c.make_room.ensures.passes in
    let room = w.room in record { own = w.own; place = w.place; slice_is = w.slice_is; passes = rw c.make_room.ensures.passes w.passes; room = omega arith }

pub try_call-requires-clause-pass : goal.try_call-requires-clause-pass
try_call-requires-clause-pass g c κs within =
    let rest = All-pop (IsHostPass c.args.shared.now.host) _ _ _ c.pop.ensures.items (rw c.make_room.ensures.passes c.requires.at_work.passes) in
    rw c.unwrap-pass.ensures at rest.1

pub push_reserved-requires : goal.push_reserved-requires
push_reserved-requires g c =
    let less = rw c.unwrap-pass.ensures at c.pop.ensures.len in
    let capacity = c.pop.ensures.capacity in
    let free = c.in_ok-make_room.ensures.free in omega arith

pub returns-in-Full-clause-at_work : goal.returns-in-Full-clause-at_work
returns-in-Full-clause-at_work g c =
    let w = c.requires.at_work in
    let tried = c.in-Full.ensures 0 in
    let rest = All-pop (IsHostPass c.args.shared.now.host) _ _ _ c.pop.ensures.items (rw c.make_room.ensures.passes w.passes) in
    let same = ap length c.make_room.ensures.passes in
    let less = rw c.unwrap-pass.ensures at c.pop.ensures.len in
    let more = c.push_reserved.ensures.len in
    let room = w.room in record {
      own = w.own;
      place = w.place;
      slice_is = w.slice_is;
      passes = rw c.push_reserved.ensures.items (All-push (IsHostPass c.args.shared.now.host) _ _ rest.0 tried.0);
      room = omega arith;
    }

pub returns-in-Full-clause-kept : goal.returns-in-Full-clause-kept
returns-in-Full-clause-kept g c = λ full.
    let same = ap length c.make_room.ensures.passes in
    let less = rw c.unwrap-pass.ensures at c.pop.ensures.len in
    let more = c.push_reserved.ensures.len in omega arith

pub returns-in-Full-clause-did : goal.returns-in-Full-clause-did
returns-in-Full-clause-did g c =
    nothing_more g.N.Naming.config c.args.shared.now.host c.args.shared.now.calls.items g.A.InSlices.slice _ _ _ _ refl c.make_room.ensures.made

pub leave-requires-clause-room : goal.leave-requires-clause-room
leave-requires-clause-room g c =
    let room = c.requires.at_work.room in
    let some = c.requires.some in omega arith

pub leave-requires-clause-fits : goal.leave-requires-clause-fits
leave-requires-clause-fits g c =
    let rest = All-pop (IsHostPass c.args.shared.now.host) _ _ _ c.pop.ensures.items (rw c.make_room.ensures.passes c.requires.at_work.passes) in
    let own = rw c.unwrap-pass.ensures at rest.1 in
    (c.requires.fits _).1 (slice_of_run g.N.Naming.config c.args.shared.now.host c.args.shared.now.calls.items g.A.InSlices.slice (queued.Idle c.unwrap-pass.result) c.args.call.now _ own
    (c.in-Left.ensures g.A.InSlices.slice).0)

pub returns-in_err-leave-in-Left-clause-at_work : goal.returns-in_err-leave-in-Left-clause-at_work
returns-in_err-leave-in-Left-clause-at_work g c =
    let w = c.requires.at_work in
    let rest = All-pop (IsHostPass c.args.shared.now.host) _ _ _ c.pop.ensures.items (rw c.make_room.ensures.passes w.passes) in
    let same = ap length c.make_room.ensures.passes in
    let less = rw c.unwrap-pass.ensures at c.pop.ensures.len in
    let put = ap (λ r. r.room) c.leave.ensures.put in
    let room = w.room in record { own = w.own; place = c.leave.ensures.own; slice_is = w.slice_is; passes = rest.0; room = omega arith }

pub returns-in_ok-leave-in-Left-clause-at_work : goal.returns-in_ok-leave-in-Left-clause-at_work
returns-in_ok-leave-in-Left-clause-at_work g c =
    let w = c.requires.at_work in
    let rest = All-pop (IsHostPass c.args.shared.now.host) _ _ _ c.pop.ensures.items (rw c.make_room.ensures.passes w.passes) in
    let same = ap length c.make_room.ensures.passes in
    let less = rw c.unwrap-pass.ensures at c.pop.ensures.len in
    let put = ap (λ r. r.room) c.leave.ensures.put in
    let room = w.room in record { own = w.own; place = c.leave.ensures.own; slice_is = w.slice_is; passes = rest.0; room = omega arith }

pub returns-in_ok-leave-in-Left-clause-did : goal.returns-in_ok-leave-in-Left-clause-did
returns-in_ok-leave-in-Left-clause-did g c =
    let rest = All-pop (IsHostPass c.args.shared.now.host) _ _ _ c.pop.ensures.items (rw c.make_room.ensures.passes c.requires.at_work.passes) in
    let own = rw c.unwrap-pass.ensures at rest.1 in
    begun_put g.N.Naming.config c.args.shared.now.host c.args.shared.now.calls.items g.A.InSlices.slice c.unwrap-pass.result _ _ c.args.call.now _ _ _ _ own
    (c.in-Left.ensures g.A.InSlices.slice) c.leave.ensures.put c.make_room.ensures.made c.in_ok-leave-in-Left.ensures.entry
