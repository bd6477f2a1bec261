use Rattle.std.proofs.Common.{◌≡◌, ℕ, ◌+◌, ◌-◌, length, ap, arith, subst}
use Rattle.std.proofs.lemmas.List.Elements.{All-pop}
use Rattle.pool_host.specs.Hosts.{IsHostPass}
use Rattle.slice_workers.specs.Crews.{HasIdle}
use Rattle.slice_workers.proofs.EndLemmas.{idle_first, idle_more}
use Rattle.slice_workers.proofs.crew.put_passes.Goals as goal

pub loop-pass-init : goal.loop-pass-init
loop-pass-init g c =
    let e : 0 ≡ length c.args.passes.items - length c.args.passes.items = omega arith in
    let room = ap (λ r. r.room) c.requires.first.account_is in
    let enough = c.requires.room in record {
      idle = subst (λ (n : ℕ). HasIdle c.args.queue.now n c.args.first.now) e (idle_first c.args.queue.now c.args.first.now c.requires.first);
      less = omega arith;
      room = omega (arith, c.requires.first.own.capacity_is);
      passes = c.requires.passes;
    }

pub loop-pass-preserved : goal.loop-pass-preserved
loop-pass-preserved g c =
    let i = c.loop-pass.invariant in
    let passes = All-pop (IsHostPass _) _ _ _ c.pop.ensures.items i.passes in
    let room = ap (λ r. r.room) c.put.ensures.put in
    let many = c.in-Some.ensures.len in
    let less = i.less in
    let enough = i.room in
    let e : length c.args.passes.items - length c.loop-pass.passes.items + 1 ≡ length c.args.passes.items - length c.pop.new.self.items = omega arith in record {
      idle = subst (λ (n : ℕ). HasIdle c.args.queue.now n c.put.new.pass) e (idle_more _ _ _ _ _ i.idle c.put.ensures.own c.put.ensures.put);
      less = omega arith;
      room = omega arith;
      passes = passes.0;
    }

pub returns : goal.returns
returns g c =
    let i = c.loop-pass.invariant in
    let none = c.in_default.ensures.cases.0 in
    let e : length c.args.passes.items - length c.loop-pass.passes.items ≡ length c.args.passes.items = omega arith in
    subst (λ (n : ℕ). HasIdle c.args.queue.now n c.loop-pass.first) e i.idle
