use Rattle.std.proofs.Common.{◌≡◌, ◌+◌, ◌≤◌, Some, ◌++◌, map, reverse, vec_len, vec_capacity}
use Rattle.slot_words.proofs.lifetime.in_slots.Given as goal

abbrev pub invariant-loop-value : goal.invariant-loop-value
invariant-loop-value g l = record { items : map (λ x. Some x) l.values.items ++ reverse l.slots.items ≡ map (λ x. Some x) l.fn.values.items; room : vec_len l.values + vec_len l.slots ≤ vec_capacity l.slots }

abbrev pub decreases-loop-value : goal.decreases-loop-value
decreases-loop-value g l = vec_len l.values
