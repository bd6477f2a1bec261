use Rattle.std.proofs.Common.{List, ℕ, sym, subst, refl, rules}
use Rattle.std.specs.Vec.{with_item}
use Rattle.instance_calls.specs.CallWords.{run_limits}
use Rattle.pool_host.specs.CallWords.{IfFull, IsHostAnswer}
use Rattle.pool_host.specs.Hosts.{AreSamePasses}
use Rattle.pool_host.specs.Looks.{look_of, Looked}
use Rattle.pool_host.specs.Trails.{AddsTrails, HasCause}
use Rattle.tenant_share.proofs.CallerLemmas.{answer_elsewhere, answer_there, at_both, at_tenant, host_read, part_elsewhere, read_own, still_caller}
use Rattle.tenant_share.proofs.share_host.ShareHost.invoke_for.Goals as goal

pub invoke-requires : goal.invoke-requires
invoke-requires g c = let r = c.requires in let i = c.index_mut-pass in (search rules, read_own c.args.self.now c.args.caller.now r.caller c.args.tenant r.tenant i.result.now i.ensures.value)

pub returns-clause-own : goal.returns-clause-own
returns-clause-own g c = let r = c.requires in let i = c.index_mut-pass in let e = c.invoke.ensures in
    still_caller c.args.self.now c.args.caller.now r.caller c.args.tenant r.tenant i.result.now i.ensures.value _ c.invoke.new.pass refl e.same e.own

pub returns-clause-answer : goal.returns-clause-answer
returns-clause-answer g c = let r = c.requires in let i = c.index_mut-pass in let a = c.args.call.now in
    subst (λ (bytes : List ℕ). IsHostAnswer c.args.module.now.tree (run_limits g.N.Naming.config) a.export.now a.args.now a.request.now a.fuel c.invoke.result bytes)
    (sym (answer_there c.args.self.now c.args.caller.now r.caller c.args.tenant r.tenant i.result.now i.ensures.value (record { passes = with_item c.args.caller.now.passes c.args.tenant c.invoke.new.pass }) c.invoke.new.pass refl)) c.invoke.ensures.answer

pub returns-clause-same : goal.returns-clause-same
returns-clause-same g c = let r = c.requires in let i = c.index_mut-pass in
    at_both c.args.self.now c.args.caller.now r.caller c.args.tenant r.tenant i.result.now i.ensures.value (record { passes = with_item c.args.caller.now.passes c.args.tenant c.invoke.new.pass }) c.invoke.new.pass refl
    (λ x. x.pass.passes) AreSamePasses c.invoke.ensures.same.same.pools

pub returns-clause-trails : goal.returns-clause-trails
returns-clause-trails g c = λ host before after there. let r = c.requires in let i = c.index_mut-pass in
    at_tenant c.args.self.now c.args.caller.now r.caller c.args.tenant r.tenant i.result.now i.ensures.value (record { passes = with_item c.args.caller.now.passes c.args.tenant c.invoke.new.pass }) c.invoke.new.pass refl
    (λ x y. AddsTrails g.N.Naming.config host c.args.module.now c.invoke.result x.pass.passes y.pass.passes)
    (c.invoke.ensures.trails host (host_read c.args.self.now c.args.caller.now r.caller c.args.tenant r.tenant i.result.now i.ensures.value host there)) before after

pub returns-clause-full : goal.returns-clause-full
returns-clause-full g c = λ host before after there. let r = c.requires in let i = c.index_mut-pass in
    at_tenant c.args.self.now c.args.caller.now r.caller c.args.tenant r.tenant i.result.now i.ensures.value (record { passes = with_item c.args.caller.now.passes c.args.tenant c.invoke.new.pass }) c.invoke.new.pass refl
    (λ x y. IfFull c.invoke.result (HasCause g.N.Naming.config host c.args.module.now x.pass.passes y.pass.passes))
    (c.invoke.ensures.full host (host_read c.args.self.now c.args.caller.now r.caller c.args.tenant r.tenant i.result.now i.ensures.value host there)) before after

pub returns-clause-looked : goal.returns-clause-looked
returns-clause-looked g c = λ host before after there. let r = c.requires in let i = c.index_mut-pass in
    at_tenant c.args.self.now c.args.caller.now r.caller c.args.tenant r.tenant i.result.now i.ensures.value (record { passes = with_item c.args.caller.now.passes c.args.tenant c.invoke.new.pass }) c.invoke.new.pass refl
    (λ x y. Looked host.retired.tags c.args.module.now.tag x.pass.retired y.pass.retired (look_of c.invoke.result))
    (c.invoke.ensures.looked host (host_read c.args.self.now c.args.caller.now r.caller c.args.tenant r.tenant i.result.now i.ensures.value host there)) before after

pub returns-clause-others : goal.returns-clause-others
returns-clause-others g c = let r = c.requires in let i = c.index_mut-pass in
    part_elsewhere c.args.self.now c.args.caller.now r.caller c.args.tenant r.tenant i.result.now i.ensures.value (record { passes = with_item c.args.caller.now.passes c.args.tenant c.invoke.new.pass }) c.invoke.new.pass refl
    (λ x. x.pass.passes)

pub returns-clause-tags : goal.returns-clause-tags
returns-clause-tags g c = let r = c.requires in let i = c.index_mut-pass in
    part_elsewhere c.args.self.now c.args.caller.now r.caller c.args.tenant r.tenant i.result.now i.ensures.value (record { passes = with_item c.args.caller.now.passes c.args.tenant c.invoke.new.pass }) c.invoke.new.pass refl
    (λ x. x.pass.retired)

pub returns-clause-bytes : goal.returns-clause-bytes
returns-clause-bytes g c = let r = c.requires in let i = c.index_mut-pass in
    answer_elsewhere c.args.self.now c.args.caller.now r.caller c.args.tenant r.tenant i.result.now i.ensures.value (record { passes = with_item c.args.caller.now.passes c.args.tenant c.invoke.new.pass }) c.invoke.new.pass refl
