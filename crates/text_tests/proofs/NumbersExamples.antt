-- Numbers of a configuration that are just in range, and ones that are just out of it.
use Rattle.std.proofs.Common.{◌≡◌, refl, arith}
use Rattle.std.specs.Prelude.{None}
use Rattle.pool_limits.specs.declared.numbers.Numbers.{Numbers}
use Rattle.pool_limits.specs.Ranges.{AreInRange, bad_number}

-- the least of two workers
abbrev two_workers : Numbers
two_workers = record { workers = 2; instances = 2; memories = 2; tables = 2; warm = 0; batch = 1; pages = 1; elements = 0; depth = 1; frame = 1 }

two_slots_of_each_kind : bad_number two_workers ≡ None
two_slots_of_each_kind = refl

two_workers_are_in_range : AreInRange two_workers
two_workers_are_in_range = record {
  workers = (omega arith, omega arith);
  instances = (omega arith, omega arith);
  memories = (omega arith, omega arith);
  tables = (omega arith, omega arith);
  warm = omega arith;
  batch = (omega arith, omega arith);
  pages = (omega arith, omega arith);
  elements = omega arith;
  depth = (omega arith, omega arith);
  frame = (omega arith, omega arith);
  shared = λ several. (omega arith, omega arith, omega arith);
}

-- the greatest, of which one number is one greater
abbrev greatest : Numbers
greatest = record { workers = 16; instances = 1024; memories = 1024; tables = 1024; warm = 1024; batch = 1024; pages = 256; elements = 65536; depth = 1000; frame = 4096 }

one_worker_more : AreInRange (record greatest { workers = 17 }) → ⊥
one_worker_more are = let most = are.workers.1 in omega (arith, most)

one_instance_more : AreInRange (record greatest { instances = 1025 }) → ⊥
one_instance_more are = let most = are.instances.1 in omega (arith, most)

one_memory_more : AreInRange (record greatest { memories = 1025 }) → ⊥
one_memory_more are = let most = are.memories.1 in omega (arith, most)

one_table_more : AreInRange (record greatest { tables = 1025 }) → ⊥
one_table_more are = let most = are.tables.1 in omega (arith, most)

one_warm_slot_more : AreInRange (record greatest { warm = 1025 }) → ⊥
one_warm_slot_more are = let most = are.warm in omega (arith, most)

one_more_in_a_batch : AreInRange (record greatest { batch = 1025 }) → ⊥
one_more_in_a_batch are = let most = are.batch.1 in omega (arith, most)

one_page_more : AreInRange (record greatest { pages = 257 }) → ⊥
one_page_more are = let most = are.pages.1 in omega (arith, most)

one_element_more : AreInRange (record greatest { elements = 65537 }) → ⊥
one_element_more are = let most = are.elements in omega (arith, most)

one_call_deeper : AreInRange (record greatest { depth = 1001 }) → ⊥
one_call_deeper are = let most = are.depth.1 in omega (arith, most)

one_more_in_a_frame : AreInRange (record greatest { frame = 4097 }) → ⊥
one_more_in_a_frame are = let most = are.frame.1 in omega (arith, most)

-- of two workers nothing is left to share where a kind has one slot
one_instance_of_two_workers : AreInRange (record two_workers { instances = 1 }) → ⊥
one_instance_of_two_workers are = let least = (are.shared (omega arith)).0 in omega (arith, least)
