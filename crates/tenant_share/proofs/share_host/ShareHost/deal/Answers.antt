use Rattle.std.proofs.Common.{rules}
use Rattle.std.proofs.lemmas.List.Elements.{All-pop, All-push}
use Rattle.pool_host.specs.Hosts.{IsNewHostPass}
use Rattle.tenant_share.specs.Opening.{IsFresh}
use Rattle.tenant_share.proofs.OpeningLemmas.{fresh_more}
use Rattle.tenant_share.proofs.share_host.ShareHost.deal.Goals as goal

pub loop-caller-preserved : goal.loop-caller-preserved
loop-caller-preserved g c =
    let i = c.loop-caller.invariant in
    let was = i.left in
    let callers = All-pop (IsFresh was.before) c.loop-caller.callers.items c.pop.new.self.items c.pop.result c.pop.ensures.items was.each in
    let owns = All-pop (IsNewHostPass was.host) c.loop-caller.own.items c.pop-in-Some.new.self.items c.pop-in-Some.result c.pop-in-Some.ensures.items was.new in
    let caller = rw c.in-Some.is at callers.1 in
    let own = rw c.unwrap.ensures at owns.1 in
    record {
      left = record { before = was.before; host = was.host; hosts_are = was.hosts_are; new = owns.0; each = callers.0 };
      fresh = rw c.push_reserved.ensures.items (All-push (IsFresh c.args.self.now) c.loop-caller.all.items c.add.new.self i.fresh
          (fresh_more was.before c.args.self.now was.host was.hosts_are c.in-Some.caller c.add.new.self c.unwrap.result caller own c.in_ok-add.ensures));
      enough = search rules;
      count = search rules;
      room = search rules;
    }
