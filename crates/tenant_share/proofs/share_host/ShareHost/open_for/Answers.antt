use Rattle.std.proofs.Common.{◌+◌, ◌∙◌, ℕ, ap, arith, rules}
use Rattle.std.proofs.lemmas.List.Elements.{All-weaker}
use Rattle.tenant_share.specs.Opening.{IsFresh}
use Rattle.tenant_share.specs.Tenants.{IsCaller, IsNewCaller}
use Rattle.tenant_share.proofs.OpeningLemmas.{fresh_caller, fresh_new, one_more, shares_more}
use Rattle.tenant_share.proofs.share_host.ShareHost.open_for.Goals as goal

pub loop-preserved : goal.loop-preserved
loop-preserved g c =
    let i = c.loop.invariant in
    let adds = c.in_ok-own.ensures in
    record {
      many = one_more c.loop.share c.add_host.new.self adds.host adds.hosts_are ∙ ap (λ (n : ℕ). n + 1) i.many;
      end_is = i.end_is;
      shares = shares_more c.args.plan.now.1 c.args.callers c.loop.share c.add_host.new.self c.in_ok-own.own.items adds i.shares;
      count = search rules;
      fresh = c.in_ok-all-2.ensures.fresh;
    }

pub returns-clause-callers : goal.returns-clause-callers
returns-clause-callers g c = All-weaker (IsFresh c.loop.share) (IsCaller c.loop.share) (fresh_caller c.loop.share) c.loop.all.items c.loop.invariant.fresh

pub returns-clause-new : goal.returns-clause-new
returns-clause-new g c = All-weaker (IsFresh c.loop.share) (IsNewCaller c.loop.share) (fresh_new c.loop.share) c.loop.all.items c.loop.invariant.fresh

pub add_host-requires-clause-tenant : goal.add_host-requires-clause-tenant
add_host-requires-clause-tenant g c =
    let many = c.loop.invariant.many in
    let end = c.loop.invariant.end_is in
    let test = c.loop-test.true in omega arith

pub deal-requires-clause-before : goal.deal-requires-clause-before
deal-requires-clause-before g c =
    let adds = c.in_ok-own.ensures in
    record { before = c.loop.share; host = adds.host; hosts_are = adds.hosts_are; new = adds.new; each = c.loop.invariant.fresh }

pub deal-requires-clause-enough : goal.deal-requires-clause-enough
deal-requires-clause-enough g c =
    let count = c.loop.invariant.count in
    let many = c.in_ok-own.ensures.many in omega arith

pub returns-clause-shares : goal.returns-clause-shares
returns-clause-shares g c =
    let i = c.loop.invariant in
    let many = i.many in
    let end = i.end_is in
    let past = c.loop-test.false in
    let last = c.loop.auto.counter-end in record { many = omega arith; each = i.shares }
