use Rattle.std.proofs.Common.{◌≡◌, map, take}
use Rattle.affinity_index.specs.Rankings.{number_of}
use Rattle.affinity_index.proofs.claim_order.numbers_of.Given as goal

abbrev pub invariant-loop-entry : goal.invariant-loop-entry
invariant-loop-entry l = l.numbers.items ≡ map number_of (take l.entry-index l.ranked)
