-- Worked numbers: the first that is out of its range, who has which slots, and what tenants may want.
use Rattle.std.proofs.Common.{◌≡◌, ℕ, List, [], ◌∷◌, arith, refl}
use Rattle.std.specs.Prelude.{Option, Some, None, map, replicate}
use Rattle.pool_limits.specs.declared.numbers.Numbers.{Numbers}
use Rattle.pool_limits.specs.declared.numbers.BadNumber.{BadNumber}
use Rattle.pool_limits.specs.declared.numbers.Setting.{Setting}
use Rattle.pool_limits.specs.declared.numbers.Setting.TheVariants.{Workers, Instances, Memories, Tables, Warm, Batch, Pages, Elements, Depth, Frame}
use Rattle.pool_limits.specs.declared.share.Share.{Share}
use Rattle.pool_limits.specs.declared.wants.Part.TheVariants as part
use Rattle.pool_limits.specs.declared.wants.Part.TheVariants.{Instance, Memory, Table}
use Rattle.pool_limits.specs.declared.wants.PlanFault.TheVariants.{TooManyTenants, BadShare, Over}
use Rattle.pool_limits.specs.declared.wants.Want.{Want}
use Rattle.pool_limits.specs.Plans.{amount, plan_fault, total, HasSlots, MayWant}
use Rattle.pool_limits.specs.Ranges.{bad_number}
use Rattle.pool_limits.specs.Shares.{AreAllSlots, lane_share, shared_share}

abbrev usual : Numbers
usual = record { workers = 1; instances = 4; memories = 4; tables = 4; warm = 2; batch = 4; pages = 32; elements = 1024; depth = 128; frame = 1024 }

abbrev greatest : Numbers
greatest = record { workers = 16; instances = 1024; memories = 1024; tables = 1024; warm = 1024; batch = 1024; pages = 256; elements = 65536; depth = 1000; frame = 4096 }

abbrev least : Numbers
least = record { workers = 1; instances = 1; memories = 1; tables = 1; warm = 0; batch = 1; pages = 1; elements = 0; depth = 1; frame = 1 }

abbrev bad : Setting → ℕ → Option BadNumber
bad which value = Some (record { which = which; value = value })

usual_allowed : bad_number usual ≡ None
usual_allowed = refl

greatest_allowed : bad_number greatest ≡ None
greatest_allowed = refl

least_allowed : bad_number least ≡ None
least_allowed = refl

no_batch : bad_number (record usual { batch = 0 }) ≡ bad Batch 0
no_batch = refl

one_memory_of_two_workers : bad_number (record usual { workers = 2; memories = 1 }) ≡ bad Memories 1
one_memory_of_two_workers = refl

workers_before_batch : bad_number (record usual { workers = 17; batch = 0 }) ≡ bad Workers 17
workers_before_batch = refl

-- each number at one past its range, with all later ones out of theirs too
past : bad_number (record greatest { instances = 1025; memories = 1025; tables = 1025; warm = 1025; batch = 1025; pages = 257; elements = 65537; depth = 1001; frame = 4097 }) ≡ bad Instances 1025
past = refl

past_memories : bad_number (record greatest { memories = 1025; tables = 1025; warm = 1025; batch = 1025; pages = 257; elements = 65537; depth = 1001; frame = 4097 }) ≡ bad Memories 1025
past_memories = refl

past_tables : bad_number (record greatest { tables = 1025; warm = 1025; batch = 1025; pages = 257; elements = 65537; depth = 1001; frame = 4097 }) ≡ bad Tables 1025
past_tables = refl

past_warm : bad_number (record greatest { warm = 1025; batch = 1025; pages = 257; elements = 65537; depth = 1001; frame = 4097 }) ≡ bad Warm 1025
past_warm = refl

past_batch : bad_number (record greatest { batch = 1025; pages = 257; elements = 65537; depth = 1001; frame = 4097 }) ≡ bad Batch 1025
past_batch = refl

past_pages : bad_number (record greatest { pages = 257; elements = 65537; depth = 1001; frame = 4097 }) ≡ bad Pages 257
past_pages = refl

past_elements : bad_number (record greatest { elements = 65537; depth = 1001; frame = 4097 }) ≡ bad Elements 65537
past_elements = refl

past_depth : bad_number (record greatest { depth = 1001; frame = 4097 }) ≡ bad Depth 1001
past_depth = refl

past_frame : bad_number (record greatest { frame = 4097 }) ≡ bad Frame 4097
past_frame = refl

no_frame : bad_number (record least { frame = 0 }) ≡ bad Frame 0
no_frame = refl

no_worker : bad_number (record least { workers = 0 }) ≡ bad Workers 0
no_worker = refl

abbrev share_of : (instances memories tables : ℕ) → Share
share_of instances memories tables = record { instances = instances; memories = memories; tables = tables }

abbrev several : Numbers
several = record usual { workers = 2; instances = 5; memories = 6; tables = 7 }

lane_has_one_of_each : lane_share several ≡ share_of 1 1 1
lane_has_one_of_each = refl

workers_share_the_rest : shared_share several ≡ share_of 4 5 6
workers_share_the_rest = refl

lane_has_all : lane_share (record several { workers = 1 }) ≡ share_of 5 6 7
lane_has_all = refl

nothing_is_shared : shared_share (record several { workers = 1 }) ≡ share_of 0 0 0
nothing_is_shared = refl

-- two shares that leave one slot out are not all
one_instance_left : AreAllSlots several (share_of 1 1 1) (share_of 3 5 6) → ⊥
one_instance_left h = let left = h.instances in omega arith

one_memory_left : AreAllSlots several (share_of 1 1 1) (share_of 4 4 6) → ⊥
one_memory_left h = let left = h.memories in omega arith

one_table_left : AreAllSlots several (share_of 1 1 1) (share_of 4 5 5) → ⊥
one_table_left h = let left = h.tables in omega arith

-- ---- what tenants want

abbrev want : (instances memories tables warm : ℕ) → Want
want instances memories tables warm = record { instances = instances; memories = memories; tables = tables; warm = warm }

abbrev two_workers : Numbers
two_workers = record usual { workers = 2 }

-- four numbers that differ, so that each part is seen to be its own
amounts : map (λ part. amount part (want 5 6 7 8)) (Instance ∷ Memory ∷ Table ∷ part.Warm ∷ []) ≡ 5 ∷ 6 ∷ 7 ∷ 8 ∷ []
amounts = refl

totals : map (λ part. total part (record several { warm = 8 })) (Instance ∷ Memory ∷ Table ∷ part.Warm ∷ []) ≡ 5 ∷ 6 ∷ 7 ∷ 8 ∷ []
totals = refl

-- of four slots of each kind two may be wanted, and of two warm slots both
all_but_two_may_be_wanted : plan_fault two_workers (want 1 1 1 1 ∷ want 1 1 1 1 ∷ []) ≡ None
all_but_two_may_be_wanted = refl

nothing_is_wanted : plan_fault two_workers [] ≡ None
nothing_is_wanted = refl

one_wants_two_memories : plan_fault two_workers (want 1 2 1 1 ∷ []) ≡ None
one_wants_two_memories = refl

memories_over : plan_fault two_workers (want 1 2 1 1 ∷ want 1 1 1 0 ∷ []) ≡ Some (Over Memory 3 4)
memories_over = refl

no_memory : plan_fault two_workers (want 1 0 1 0 ∷ []) ≡ Some (BadShare 1 Memory)
no_memory = refl

-- each part at one past what may be wanted, with all later ones past it too
instances_first : plan_fault two_workers (want 3 3 3 3 ∷ []) ≡ Some (Over Instance 3 4)
instances_first = refl

memories_next : plan_fault two_workers (want 2 3 3 3 ∷ []) ≡ Some (Over Memory 3 4)
memories_next = refl

tables_next : plan_fault two_workers (want 2 2 3 3 ∷ []) ≡ Some (Over Table 3 4)
tables_next = refl

warm_last : plan_fault two_workers (want 2 2 2 3 ∷ []) ≡ Some (Over part.Warm 3 2)
warm_last = refl

-- with one slot of each kind nothing is left beside the lane's
one_slot_is_too_few : plan_fault least [] ≡ Some (Over Instance 0 1)
one_slot_is_too_few = refl

-- a share of none, whatever is wanted of other parts; a tenant may want no warm slot
instances_before_memories : plan_fault two_workers (want 1 1 1 0 ∷ want 0 0 0 9 ∷ []) ≡ Some (BadShare 2 Instance)
instances_before_memories = refl

memories_before_tables : plan_fault two_workers (want 9 0 0 0 ∷ want 0 0 0 0 ∷ []) ≡ Some (BadShare 1 Memory)
memories_before_tables = refl

no_table : plan_fault two_workers (want 9 9 9 9 ∷ want 9 9 9 9 ∷ want 9 9 0 9 ∷ []) ≡ Some (BadShare 3 Table)
no_table = refl

-- the number of tenants before their shares
fifteen_tenants : plan_fault greatest (replicate 15 (want 1 1 1 0)) ≡ None
fifteen_tenants = refl

sixteen_tenants : plan_fault greatest (replicate 16 (want 0 0 0 0)) ≡ Some (TooManyTenants 16)
sixteen_tenants = refl

fifteen_shares_of_none : plan_fault greatest (replicate 15 (want 0 0 0 0)) ≡ Some (BadShare 1 Instance)
fifteen_shares_of_none = refl

-- what is past one bound alone may not be wanted
abbrev usual_shares : List Want
usual_shares = want 2 2 2 2 ∷ []

no_instance : HasSlots (want 0 1 1 1) → ⊥
no_instance h = let one = h.instances in omega arith

no_memories : HasSlots (want 1 0 1 1) → ⊥
no_memories h = let one = h.memories in omega arith

no_tables : HasSlots (want 1 1 0 1) → ⊥
no_tables h = let one = h.tables in omega arith

one_instance_is_left : MayWant (record two_workers { instances = 3 }) usual_shares → ⊥
one_instance_is_left h = let left = h.instances in omega arith

one_memory_is_left : MayWant (record two_workers { memories = 3 }) usual_shares → ⊥
one_memory_is_left h = let left = h.memories in omega arith

one_table_is_left : MayWant (record two_workers { tables = 3 }) usual_shares → ⊥
one_table_is_left h = let left = h.tables in omega arith

one_warm_slot_lacks : MayWant (record two_workers { warm = 1 }) usual_shares → ⊥
one_warm_slot_lacks h = let lacks = h.warm in omega arith

one_tenant_too_many : MayWant greatest (replicate 16 (want 1 1 1 0)) → ⊥
one_tenant_too_many h = let few = h.few in omega arith
