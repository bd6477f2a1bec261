-- Which numbers a configuration may have.
use Rattle.std.specs.Prelude.{◌≤◌, ◌||◌, ℕ, List, [], ◌∷◌, Bool, Option, find, nat_lt, if◌then◌else◌, option_map}
use Rattle.pool_limits.specs.declared.numbers.Numbers.{Numbers}
use Rattle.pool_limits.specs.declared.numbers.BadNumber.{BadNumber}
use Rattle.pool_limits.specs.declared.numbers.Ranged.{Ranged}
use Rattle.pool_limits.specs.declared.numbers.Setting.{Setting}
use Rattle.pool_limits.specs.declared.numbers.Setting.TheVariants.{Workers, Instances, Memories, Tables, Warm, Batch, Pages, Elements, Depth, Frame}

-- those of a run without options
abbrev pub default_numbers : Numbers
default_numbers = record {
  workers = 1;
  instances = 4;
  memories = 4;
  tables = 4;
  warm = 2;
  batch = 4;
  pages = 32;
  elements = 1024;
  depth = 128;
  frame = 1024;
}

-- the least number of slots of a kind: where there are several workers, one slot is not shared
abbrev pub least_total : Numbers → ℕ
least_total n = if nat_lt n.workers 2 then 1 else 2

abbrev pub ranged : Setting → (value least most : ℕ) → Ranged
ranged which value least most = record { which = which; value = value; least = least; most = most }

-- each number, with the least and the greatest that it may be
abbrev pub ranges : Numbers → List Ranged
ranges n =
    ranged Workers n.workers 1 16
    ∷ ranged Instances n.instances (least_total n) 1024
    ∷ ranged Memories n.memories (least_total n) 1024
    ∷ ranged Tables n.tables (least_total n) 1024
    ∷ ranged Warm n.warm 0 1024
    ∷ ranged Batch n.batch 1 1024
    ∷ ranged Pages n.pages 1 256
    ∷ ranged Elements n.elements 0 65536
    ∷ ranged Depth n.depth 1 1000
    ∷ ranged Frame n.frame 1 4096
    ∷ []

abbrev pub is_outside : Ranged → Bool
is_outside r = nat_lt r.value r.least || nat_lt r.most r.value

abbrev pub bad_of : Ranged → BadNumber
bad_of r = record { which = r.which; value = r.value }

-- the first number that is out of its range
abbrev pub bad_number : Numbers → Option BadNumber
bad_number n = option_map bad_of (find is_outside (ranges n))

-- each number is in its range
pub record AreInRange (n : Numbers) : Type 0 where
  pub workers : (1 ≤ n.workers) × (n.workers ≤ 16)
  pub instances : (1 ≤ n.instances) × (n.instances ≤ 1024)
  pub memories : (1 ≤ n.memories) × (n.memories ≤ 1024)
  pub tables : (1 ≤ n.tables) × (n.tables ≤ 1024)
  pub warm : n.warm ≤ 1024
  pub batch : (1 ≤ n.batch) × (n.batch ≤ 1024)
  pub pages : (1 ≤ n.pages) × (n.pages ≤ 256)
  pub elements : n.elements ≤ 65536
  pub depth : (1 ≤ n.depth) × (n.depth ≤ 1000)
  pub frame : (1 ≤ n.frame) × (n.frame ≤ 4096)
  -- where there are several workers, each kind has a slot beside the lane's
  pub shared : 2 ≤ n.workers → (2 ≤ n.instances) × (2 ≤ n.memories) × (2 ≤ n.tables)
