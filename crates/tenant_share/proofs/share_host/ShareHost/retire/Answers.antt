use Rattle.std.proofs.Common.{◌≡◌, ◌∙◌, refl, subst}
use Rattle.std.proofs.lemmas.Option.{get_or_from_slice_get}
use Rattle.pool_host.specs.declared.host.Host.{Host}
use Rattle.pool_host.specs.Hosts.{IsHostPass}
use Rattle.pool_host.specs.Looks.{SetsBit}
use Rattle.pool_host.specs.Retiring.{is_already, Sweeps}
use Rattle.tenant_share.proofs.share_host.ShareHost.retire.Goals as goal

pub returns-clause-own : goal.returns-clause-own
returns-clause-own g c =
    let own = c.requires in
    let called = c.index-host.result.now in
    let is : called ≡ own.host = c.index-host.ensures ∙ get_or_from_slice_get c.args.self.now.hosts.items c.args.pass.now.tenant own.host called own.there in
    record { host = own.host; there = own.there; own = subst (λ (h : Host _). IsHostPass h c.retire.new.pass) is c.retire.ensures.own }

pub returns-clause-bit : goal.returns-clause-bit
returns-clause-bit g c = λ host there.
    let called = c.index-host.result.now in
    let is : called ≡ host = c.index-host.ensures ∙ get_or_from_slice_get c.args.self.now.hosts.items c.args.pass.now.tenant host called there in
    subst (λ (h : Host _). SetsBit h.retired.tags c.args.module.now.tag c.args.pass.now.pass.retired c.retire.new.pass.retired (is_already c.retire.result)) is c.retire.ensures.bit

pub returns-clause-sweeps : goal.returns-clause-sweeps
returns-clause-sweeps g c = λ host there.
    let called = c.index-host.result.now in
    let is : called ≡ host = c.index-host.ensures ∙ get_or_from_slice_get c.args.self.now.hosts.items c.args.pass.now.tenant host called there in
    subst (λ (h : Host _). Sweeps h c.args.module.now c.retire.result c.args.pass.now.pass.passes c.retire.new.pass.passes) is c.retire.ensures.sweeps

pub returns-clause-same : goal.returns-clause-same
returns-clause-same g c = record { tenant_is = refl; same = c.retire.ensures.same }

pub returns-clause-bytes : goal.returns-clause-bytes
returns-clause-bytes g c = c.retire.ensures.bytes

pub returns-clause-known : goal.returns-clause-known
returns-clause-known g c = c.retire.ensures.known

pub returns-clause-before : goal.returns-clause-before
returns-clause-before g c = c.retire.ensures.before

pub retire-requires : goal.retire-requires
retire-requires g c =
    let own = c.requires in
    let called = c.index-host.result.now in
    let is : called ≡ own.host = c.index-host.ensures ∙ get_or_from_slice_get c.args.self.now.hosts.items c.args.pass.now.tenant own.host called own.there in rw is own.own
