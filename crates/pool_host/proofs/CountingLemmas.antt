-- What a visit to the memories adds to the looks and to the gives.
use Rattle.std.proofs.Common.{◌≡◌, ℕ, ◌+◌, false, List, [], ◌∷◌, ◌++◌, refl, sym, ap, ◌∙◌, arith, append_assoc, append-nil}
use Rattle.slot_words.specs.declared.views.Operation.{Operation}
use Rattle.slot_words.specs.Owned.{limit_of, slots_of}
use Rattle.slot_words.specs.Parts.{Grew, Then}
use Rattle.slot_words.specs.Passes.{trail}
use Rattle.decommit_batch.specs.Counts.{counted_in, looks_in}
use Rattle.decommit_batch.specs.HandIn.{IsHandIn}
use Rattle.slot_pools.specs.declared.policy.Policy.TheVariants.{Batched}
use Rattle.slot_pools.specs.Takes.{IsFullTake, IsTake}
use Rattle.pool_model.specs.Contents.{needs}
use Rattle.pool_model.specs.declared.kinds.Kind.TheVariants.{Memory}
use Rattle.memory_counts.specs.Counted.{given_in}
use Rattle.memory_counts.proofs.CountLemmas.{full_adds, hand_in_adds, take_adds}
use Rattle.pool_host.specs.Counting.{CallsAreCounted, CountsVisit, gives_at, looks_at}
use Rattle.pool_host.specs.Trails.{visit_if}
use Rattle.pool_host.specs.Visits.{Adds, None, Served, TurnedAway, Visit}

by_visit : (v : Visit) (limit slots tag batch : ℕ) (t u : List Operation) → counted_in false t ≡ false
    → Grew (Adds (IsTake (Batched tag) limit slots) (λ n. IsHandIn limit slots n tag batch) (IsFullTake (Batched tag) limit slots) v) t u → CountsVisit v t u
by_visit None limit slots tag batch t u none grew =
    let same : u ≡ t = grew.grown ∙ ap (λ (os : List Operation). t ++ os) grew.is ∙ append-nil t in
    let looks = ap looks_in same in let gives = ap given_in same in record { looks = omega arith; gives = omega arith }
by_visit Served limit slots tag batch t u none grew =
    let n = grew.is.0 in let read = grew.is.1 in let both = grew.is.2 in
    let mid : List Operation = t ++ both.first in
    let took : Grew (IsTake (Batched tag) limit slots n read) t mid = record { done = both.first; grown = refl; is = both.is_first } in
    let gave : Grew (IsHandIn limit slots n tag batch) mid u = record {
      done = both.second;
      grown = grew.grown ∙ ap (λ (os : List Operation). t ++ os) both.done_is ∙ sym (append_assoc t both.first both.second);
      is = both.is_second;
    } in
    let first = take_adds t mid none limit slots tag n read took in
    let second = hand_in_adds mid u first.2 limit slots n tag batch gave in
    let a = first.0 in let b = first.1 in let d = second.0 in let e = second.1 in record { looks = omega arith; gives = omega arith }
by_visit TurnedAway limit slots tag batch t u none grew =
    let full = full_adds t u none limit slots tag grew in
    let a = full.0 in let b = full.1 in record { looks = omega arith; gives = omega arith }

pub calls_are_counted : (N : Type 0) → CallsAreCounted N
calls_are_counted N config host m answer before after none adds =
    by_visit (visit_if (needs Memory m.tree) answer Memory) (limit_of host.memories) (slots_of host.memories) m.tag config.batch (trail before.memory) (trail after.memory) none adds.memory
