use Rattle.std.proofs.Common.{ℕ, [], append-nil, ap, refl, subst, sym}
use Rattle.std.specs.Prelude.{is_some}
use Rattle.std.specs.Option.{option_map_or}
use Rattle.slot_words.specs.Leases.{lease_number}
use Rattle.slot_words.specs.Owned.{limit_of}
use Rattle.slot_words.specs.Parts.{Grew}
use Rattle.slot_words.specs.Passes.{trail}
use Rattle.slot_pools.specs.Gives.{IsWarmGive}
use Rattle.pool_host.proofs.slots.give_table.Goals as goal

pub give-requires-clause-number : goal.give-requires-clause-number
give-requires-clause-number g c = (rw c.in-Some.is at c.requires.has).1

pub give-requires-clause-holds : goal.give-requires-clause-holds
give-requires-clause-holds g c = (rw c.in-Some.is at c.requires.has).0

pub give-requires-clause-belongs : goal.give-requires-clause-belongs
give-requires-clause-belongs g c = ap is_some (rw c.in-Some.is at c.requires.belongs.1)

pub returns-in-Some-clause-gave : goal.returns-in-Some-clause-gave
returns-in-Some-clause-gave g c = λ m belongs.
    let tables = c.args.host.now.tables in
    let lease = c.in-Some.lease in
    rw c.in-Some.is (subst (λ (tag : ℕ). Grew (IsWarmGive (limit_of tables) (lease_number lease) tag) (trail c.args.passes.now.table) (trail c.give.new.pass))
    (ap (λ o. option_map_or (λ n. n.tag) o 0) (rw c.in-Some.is at belongs)) c.give.ensures.trail)

pub returns-in_default-clause-idle : goal.returns-in_default-clause-idle
returns-in_default-clause-idle g c = rw c.in_default.is at c.requires.has

pub returns-in_default-clause-gave : goal.returns-in_default-clause-gave
returns-in_default-clause-gave g c = λ m belongs. rw c.in_default.is (record { done = []; grown = sym (append-nil _); is = refl })
