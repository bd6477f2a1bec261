use Rattle.std.proofs.Common.{refl, rules}
use Rattle.std.proofs.lemmas.List.Elements.{All-pop, All-push}
use Rattle.slot_words.specs.Owned.{IsNewPassOf}
use Rattle.retired_tags.specs.Passes.{IsNewTagPass}
use Rattle.memory_counts.proofs.CountLemmas.{counted_new}
use Rattle.pool_host.specs.Hosts.{IsNewHostPass}
use Rattle.pool_host.proofs.IdleLemmas.{idle_rests}
use Rattle.pool_host.proofs.new_passes.deal.Goals as goal

pub loop-preserved : goal.loop-preserved
loop-preserved g c =
    let i = c.loop.invariant in
    let host = c.args.host.now in
    let tickets = All-pop (IsNewPassOf host.tickets) c.loop.tickets.items c.pop.new.self.items c.pop.result c.pop.ensures.items i.tickets in
    let memories = All-pop (IsNewPassOf host.memories) c.loop.memories.items c.pop-in-loop.new.self.items c.pop-in-loop.result c.pop-in-loop.ensures.items i.memories in
    let tables = All-pop (IsNewPassOf host.tables) c.loop.tables.items c.pop-in-loop-2.new.self.items c.pop-in-loop-2.result c.pop-in-loop-2.ensures.items i.tables in
    let tags = All-pop (IsNewTagPass host.retired.tags) c.loop.tags.items c.pop-in-loop-3.new.self.items c.pop-in-loop-3.result c.pop-in-loop-3.ensures.items i.tags in
    let ticket : IsNewPassOf host.tickets c.unwrap.result = rw c.unwrap.ensures at tickets.1 in
    let memory : IsNewPassOf host.memories c.unwrap-in-loop.result = rw c.unwrap-in-loop.ensures at memories.1 in
    let table : IsNewPassOf host.tables c.unwrap-in-loop-2.result = rw c.unwrap-in-loop-2.ensures at tables.1 in
    let tag : IsNewTagPass host.retired.tags c.unwrap-retired.result = rw c.unwrap-retired.ensures at tags.1 in
    record {
      tickets = tickets.0;
      memories = memories.0;
      tables = tables.0;
      tags = tags.0;
      passes = rw c.push_reserved.ensures.items (All-push (IsNewHostPass host) c.loop.all.items _ i.passes (record { pools = record { ticket = ticket; memory = memory; table = table }; tags = tag; no_answer = c.in_ok-answer.ensures; none_left = refl }));
      tickets_left = search rules;
      memories_left = search rules;
      tables_left = search rules;
      tags_left = search rules;
      dealt = search rules;
      room = search rules;
      end_is = i.end_is;
    }

pub invariant_of-push_reserved : goal.invariant_of-push_reserved
invariant_of-push_reserved g c =
    let i = c.loop.invariant in
    let host = c.args.host.now in
    let tickets = All-pop (IsNewPassOf host.tickets) c.loop.tickets.items c.pop.new.self.items c.pop.result c.pop.ensures.items i.tickets in
    let memories = All-pop (IsNewPassOf host.memories) c.loop.memories.items c.pop-in-loop.new.self.items c.pop-in-loop.result c.pop-in-loop.ensures.items i.memories in
    let tables = All-pop (IsNewPassOf host.tables) c.loop.tables.items c.pop-in-loop-2.new.self.items c.pop-in-loop-2.result c.pop-in-loop-2.ensures.items i.tables in
    let tags = All-pop (IsNewTagPass host.retired.tags) c.loop.tags.items c.pop-in-loop-3.new.self.items c.pop-in-loop-3.result c.pop-in-loop-3.ensures.items i.tags in
    let ticket : IsNewPassOf host.tickets c.unwrap.result = rw c.unwrap.ensures at tickets.1 in
    let memory : IsNewPassOf host.memories c.unwrap-in-loop.result = rw c.unwrap-in-loop.ensures at memories.1 in
    let table : IsNewPassOf host.tables c.unwrap-in-loop-2.result = rw c.unwrap-in-loop-2.ensures at tables.1 in
    let tag : IsNewTagPass host.retired.tags c.unwrap-retired.result = rw c.unwrap-retired.ensures at tags.1 in
    record {
      rests_ticket = idle_rests c.unwrap.result ticket.idle;
      rests_memory = idle_rests c.unwrap-in-loop.result memory.idle;
      rests_table = idle_rests c.unwrap-in-loop-2.result table.idle;
      one_ticket = ticket.share_is;
      one_memory = memory.share_is;
      one_table = table.share_is;
      one_retired = tag.share_is;
      counted = counted_new g.N.Naming.config.batch c.unwrap-in-loop.result memory.idle memory.trail_is;
    }
