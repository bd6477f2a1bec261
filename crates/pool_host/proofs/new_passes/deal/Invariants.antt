use Rattle.std.proofs.Common.{◌≡◌, ◌+◌, ◌≤◌, vec_len, vec_capacity}
use Rattle.std.specs.List.{All}
use Rattle.slot_words.specs.Owned.{IsNewPassOf}
use Rattle.retired_tags.specs.Passes.{IsNewTagPass}
use Rattle.pool_host.specs.Hosts.{IsNewHostPass}
use Rattle.pool_host.proofs.new_passes.deal.Given as goal

abbrev pub invariant-loop : goal.invariant-loop
invariant-loop g l = record {
  tickets : All (IsNewPassOf l.host.tickets) l.tickets.items;
  memories : All (IsNewPassOf l.host.memories) l.memories.items;
  tables : All (IsNewPassOf l.host.tables) l.tables.items;
  tags : All (IsNewTagPass l.host.retired.tags) l.tags.items;
  passes : All (IsNewHostPass l.host) l.all.items;
  tickets_left : vec_len l.tickets + l.counter ≡ l.end;
  memories_left : vec_len l.memories + l.counter ≡ l.end;
  tables_left : vec_len l.tables + l.counter ≡ l.end;
  tags_left : vec_len l.tags + l.counter ≡ l.end;
  dealt : vec_len l.all ≡ l.counter;
  room : l.end ≤ vec_capacity l.all;
  end_is : l.end ≡ vec_len l.fn.tickets;
}
