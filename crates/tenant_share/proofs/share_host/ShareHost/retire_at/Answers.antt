use Rattle.std.proofs.Common.{refl}
use Rattle.std.specs.Vec.{with_item}
use Rattle.tenant_share.specs.Retiring.{IsRetirement}
use Rattle.tenant_share.proofs.CallerLemmas.{at_tenant, bytes_stay, host_read, pass_elsewhere, read_own, still_caller}
use Rattle.tenant_share.proofs.share_host.ShareHost.retire_at.Goals as goal

pub retire-requires : goal.retire-requires
retire-requires g c = let r = c.requires in let i = c.index_mut-pass in read_own c.args.self.now c.args.caller.now r.caller c.args.tenant r.tenant i.result.now i.ensures.value

pub returns-clause-own : goal.returns-clause-own
returns-clause-own g c = let r = c.requires in let i = c.index_mut-pass in let e = c.retire.ensures in
    still_caller c.args.self.now c.args.caller.now r.caller c.args.tenant r.tenant i.result.now i.ensures.value _ c.retire.new.pass refl e.same e.own

pub returns-clause-retired : goal.returns-clause-retired
returns-clause-retired g c = let r = c.requires in let i = c.index_mut-pass in let e = c.retire.ensures in record {
  own = λ host before after there.
      let called = host_read c.args.self.now c.args.caller.now r.caller c.args.tenant r.tenant i.result.now i.ensures.value host there in
      at_tenant c.args.self.now c.args.caller.now r.caller c.args.tenant r.tenant i.result.now i.ensures.value (record { passes = with_item c.args.caller.now.passes c.args.tenant c.retire.new.pass }) c.retire.new.pass refl
      (λ x y. IsRetirement host c.args.module.now x.pass y.pass)
      (record { how = c.retire.result; bit = e.bit host called; known = e.known; known_before = e.before; sweeps = e.sweeps host called }) before after;
  others = pass_elsewhere c.args.self.now c.args.caller.now r.caller c.args.tenant r.tenant i.result.now i.ensures.value (record { passes = with_item c.args.caller.now.passes c.args.tenant c.retire.new.pass }) c.retire.new.pass refl;
}

pub returns-clause-bytes : goal.returns-clause-bytes
returns-clause-bytes g c = let r = c.requires in let i = c.index_mut-pass in bytes_stay c.args.self.now c.args.caller.now r.caller c.args.tenant r.tenant i.result.now i.ensures.value (record { passes = with_item c.args.caller.now.passes c.args.tenant c.retire.new.pass }) c.retire.new.pass refl c.retire.ensures.bytes
