use Rattle.pool_host.proofs.SlotLemmas.{all_served, gave_those, still_have}
use Rattle.pool_host.proofs.StartLemmas.{look_is, refused_cause, refused_left, refused_so, refused_trails}
use Rattle.instance_calls.specs.Instances.{left_by}
use Rattle.instance_calls.proofs.CallLemmas.{ends_with}
use Rattle.pool_host.proofs.host.Host.answer.Goals as goal

pub give-requires-clause-have : goal.give-requires-clause-have
give-requires-clause-have g c =
    (c.args.loaded.now.module.now, still_have g.N.Naming.config c.args.self.now c.args.loaded.now.module.now c.in-Ok.instance (left_by c.run-ended.result.1.instance) c.run-ended.ensures.slots c.start.new.passes c.in-Ok.ensures.have)

pub returns-in-Ok-clause-trails : goal.returns-in-Ok-clause-trails
returns-in-Ok-clause-trails g c =
    let config = g.N.Naming.config in
    let host = c.args.self.now in
    let m = c.args.loaded.now.module.now in
    let x = c.in-Ok.instance in
    let y = left_by c.run-ended.result.1.instance in
    let keeps = c.run-ended.ensures.slots in
    let have = still_have config host m x y keeps c.start.new.passes c.in-Ok.ensures.have in
    let gave = gave_those config host m x y keeps c.start.new.passes c.give.new.passes (c.give.ensures.gave m have) in
    all_served config host m x c.args.passes.now c.start.new.passes c.give.new.passes c.in-Ok.ensures.fresh c.in-Ok.ensures.took gave c.run-ended.result.0.outcome

pub returns-in-Ok-clause-answer : goal.returns-in-Ok-clause-answer
returns-in-Ok-clause-answer g c =
    let call = c.args.call.now in
    ends_with g.N.Naming.config c.args.loaded.now.module.now.tree call.export.now c.in-Ok.function call.args.now call.request.now call.fuel c.run-ended.result.0.outcome c.run-ended.new.said c.in-Ok.ensures.may c.run-ended.ensures.ends

pub returns-in-Ok-clause-left : goal.returns-in-Ok-clause-left
returns-in-Ok-clause-left g c = (c.in-Ok.function, c.in-Ok.ensures.may, c.run-ended.ensures.left)

pub returns-in-Ok-clause-counted : goal.returns-in-Ok-clause-counted
returns-in-Ok-clause-counted g c = λ was. c.give.ensures.counted (c.start.ensures.counted was)

pub returns-in-Err-clause-answer : goal.returns-in-Err-clause-answer
returns-in-Err-clause-answer g c =
    let call = c.args.call.now in
    rw c.answer.ensures (refused_so g.N.Naming.config c.args.self.now c.args.loaded.now.module.now call.export.now call.args.now c.args.passes.now call.request.now call.fuel c.start.new.passes c.start.new.said c.in-Err.refused c.start.ensures.none c.in-Err.ensures.refused)

pub returns-in-Err-clause-left : goal.returns-in-Err-clause-left
returns-in-Err-clause-left g c =
    let call = c.args.call.now in
    rw c.answer.ensures (refused_left g.N.Naming.config c.args.self.now c.args.loaded.now.module.now call.export.now call.args.now c.args.passes.now call.request.now call.fuel c.in-Err.refused)

pub returns-in-Err-clause-trails : goal.returns-in-Err-clause-trails
returns-in-Err-clause-trails g c =
    rw c.answer.ensures (refused_trails g.N.Naming.config c.args.self.now c.args.loaded.now.module.now c.args.call.now.export.now c.args.call.now.args.now c.args.passes.now c.start.new.passes c.in-Err.refused c.in-Err.ensures.refused)

pub returns-in-Err-clause-full : goal.returns-in-Err-clause-full
returns-in-Err-clause-full g c =
    rw c.answer.ensures (refused_cause g.N.Naming.config c.args.self.now c.args.loaded.now.module.now c.args.call.now.export.now c.args.call.now.args.now c.args.passes.now c.start.new.passes c.in-Err.refused c.in-Err.ensures.refused)

pub returns-in-Err-clause-looked : goal.returns-in-Err-clause-looked
returns-in-Err-clause-looked g c = rw c.answer.ensures (rw (look_is c.in-Err.refused) c.in-Err.ensures.looked)
