use Rattle.std.proofs.Common.{◌≡◌, ◌∙◌, refl, rules, subst}
use Rattle.std.proofs.lemmas.Option.{get_or_from_slice_get}
use Rattle.pool_host.specs.declared.host.Host.{Host}
use Rattle.pool_host.specs.Hosts.{IsHostPass}
use Rattle.pool_host.specs.Looks.{look_of, Looked}
use Rattle.pool_host.specs.CallWords.{IfFull}
use Rattle.pool_host.specs.Trails.{AddsTrails, HasCause}
use Rattle.tenant_share.proofs.share_host.ShareHost.invoke.Goals as goal

pub returns-clause-own : goal.returns-clause-own
returns-clause-own g c =
    let own = c.requires in
    let called = c.index-host.result.now in
    let is : called ≡ own.host = c.index-host.ensures ∙ get_or_from_slice_get c.args.self.now.hosts.items c.args.pass.now.tenant own.host called own.there in
    record { host = own.host; there = own.there; own = subst (λ (h : Host _). IsHostPass h c.invoke.new.pass) is c.invoke.ensures.own }

pub returns-clause-trails : goal.returns-clause-trails
returns-clause-trails g c = λ host there.
    let called = c.index-host.result.now in
    let is : called ≡ host = c.index-host.ensures ∙ get_or_from_slice_get c.args.self.now.hosts.items c.args.pass.now.tenant host called there in
    subst (λ (h : Host _). AddsTrails g.N.Naming.config h c.args.module.now c.invoke.result c.args.pass.now.pass.passes c.invoke.new.pass.passes) is c.invoke.ensures.trails

pub returns-clause-looked : goal.returns-clause-looked
returns-clause-looked g c = λ host there.
    let called = c.index-host.result.now in
    let is : called ≡ host = c.index-host.ensures ∙ get_or_from_slice_get c.args.self.now.hosts.items c.args.pass.now.tenant host called there in
    subst (λ (h : Host _). Looked h.retired.tags c.args.module.now.tag c.args.pass.now.pass.retired c.invoke.new.pass.retired (look_of c.invoke.result)) is c.invoke.ensures.looked

pub returns-clause-same : goal.returns-clause-same
returns-clause-same g c = record { tenant_is = refl; same = c.invoke.ensures.same }

pub returns-clause-answer : goal.returns-clause-answer
returns-clause-answer g c = c.invoke.ensures.answer

pub returns-clause-full : goal.returns-clause-full
returns-clause-full g c = λ host there.
    let called = c.index-host.result.now in
    let is : called ≡ host = c.index-host.ensures ∙ get_or_from_slice_get c.args.self.now.hosts.items c.args.pass.now.tenant host called there in
    subst (λ (h : Host _). IfFull c.invoke.result (HasCause g.N.Naming.config h c.args.module.now c.args.pass.now.pass.passes c.invoke.new.pass.passes)) is c.invoke.ensures.full

pub invoke-requires : goal.invoke-requires
invoke-requires g c =
    let own = c.requires in
    let called = c.index-host.result.now in
    let is : called ≡ own.host = c.index-host.ensures ∙ get_or_from_slice_get c.args.self.now.hosts.items c.args.pass.now.tenant own.host called own.there in
    (search rules, rw is own.own)
