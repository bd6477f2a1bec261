-- Worked shares.
use Rattle.std.proofs.Common.{◌≡◌, ℕ, List, [], ◌∷◌, arith, refl}
use Rattle.std.specs.Prelude.{replicate}
use Rattle.pool_limits.specs.declared.numbers.Numbers.{Numbers}
use Rattle.pool_limits.specs.declared.wants.Want.{Want}
use Rattle.tenant_share.specs.Shares.{rest, shares, all_of, AddUp, IsPlan}

abbrev numbers : (instances memories tables warm : ℕ) → Numbers
numbers instances memories tables warm = record { workers = 2; instances = instances; memories = memories; tables = tables; warm = warm; batch = 4; pages = 32; elements = 1024; depth = 128; frame = 1024 }

abbrev want : (instances memories tables warm : ℕ) → Want
want instances memories tables warm = record { instances = instances; memories = memories; tables = tables; warm = warm }

usual_rest : rest (numbers 4 4 4 2) (want 1 2 1 1 ∷ []) ≡ want 2 1 2 1
usual_rest = refl

-- four parts that differ, and what two tenants want of each
parts_differ : shares (numbers 10 20 30 40) (want 1 2 3 4 ∷ want 1 3 5 7 ∷ []) ≡ want 7 14 21 29 ∷ want 1 2 3 4 ∷ want 1 3 5 7 ∷ []
parts_differ = refl

nobody_wants : shares (numbers 10 20 30 40) [] ≡ want 9 19 29 40 ∷ []
nobody_wants = refl

slots_of_two : all_of (want 1 2 3 4 ∷ want 1 3 5 7 ∷ []) ≡ record { instances = 2; memories = 5; tables = 8 }
slots_of_two = refl

-- a share that lacks one of a part, and one too many
abbrev all : List Want
all = want 2 1 2 1 ∷ want 1 2 1 1 ∷ []

one_instance_lacks : AddUp (numbers 5 4 4 2) all → ⊥
one_instance_lacks h = let sum = h.slots.instances in omega arith

one_memory_lacks : AddUp (numbers 4 5 4 2) all → ⊥
one_memory_lacks h = let sum = h.slots.memories in omega arith

one_table_lacks : AddUp (numbers 4 4 5 2) all → ⊥
one_table_lacks h = let sum = h.slots.tables in omega arith

one_warm_slot_lacks : AddUp (numbers 4 4 4 3) all → ⊥
one_warm_slot_lacks h = let sum = h.warm in omega arith

-- a plan has a tenant, and at most sixteen, each with slots
no_tenant : IsPlan (numbers 1 1 1 0) [] → ⊥
no_tenant h = let one = h.some in omega arith

seventeen_tenants : IsPlan (numbers 18 18 18 0) (replicate 17 (want 1 1 1 0)) → ⊥
seventeen_tenants h = let few = h.few in omega arith

tenant_without_memory : IsPlan (numbers 3 2 3 0) (want 1 1 1 0 ∷ want 1 0 1 0 ∷ []) → ⊥
tenant_without_memory h = let none = (h.each 1 (want 0 0 0 0) (omega arith)).memories in omega arith
