use Rattle.std.proofs.Common.{◌≡◌, ◌+◌, ◌++◌, vec_len}
use Rattle.std.specs.List.{All}
use Rattle.slot_words.specs.Passes.{share_of, trails}
use Rattle.pool_host.specs.Closing.{memory_trails, table_trails, ticket_trails}
use Rattle.pool_host.specs.Hosts.{AreIdle, ArePassesOf, IsHostPass}
use Rattle.pool_host.proofs.counts.join_all.Given as goal

abbrev pub invariant-loop-other : goal.invariant-loop-other
invariant-loop-other g l = record {
  own : ArePassesOf l.host l.joined;
  idle : AreIdle l.joined;
  rest : All (IsHostPass l.host) l.passes.items;
  ticket_share : share_of l.joined.ticket + vec_len l.passes ≡ vec_len l.fn.passes;
  memory_share : share_of l.joined.memory + vec_len l.passes ≡ vec_len l.fn.passes;
  table_share : share_of l.joined.table + vec_len l.passes ≡ vec_len l.fn.passes;
  ticket : trails l.joined.ticket ++ ticket_trails l.passes.items ≡ ticket_trails l.fn.passes.items;
  memory : trails l.joined.memory ++ memory_trails l.passes.items ≡ memory_trails l.fn.passes.items;
  table : trails l.joined.table ++ table_trails l.passes.items ≡ table_trails l.fn.passes.items;
}

abbrev pub decreases-loop-other : goal.decreases-loop-other
decreases-loop-other g l = vec_len l.passes
