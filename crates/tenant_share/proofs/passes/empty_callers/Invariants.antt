use Rattle.std.proofs.Common.{◌≡◌, ◌≤◌, vec_capacity, vec_len}
use Rattle.std.specs.List.{All}
use Rattle.tenant_share.specs.Opening.{IsEmptyCaller}
use Rattle.tenant_share.proofs.passes.empty_callers.Given as goal

abbrev pub invariant-loop : goal.invariant-loop
invariant-loop g l = record {
  many : vec_len l.all ≡ l.counter;
  room : l.count ≤ vec_capacity l.all;
  empty : All IsEmptyCaller l.all.items;
}
