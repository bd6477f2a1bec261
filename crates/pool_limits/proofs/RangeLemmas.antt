-- What the ranges of a configuration's numbers come to.
use Rattle.std.proofs.Common.{◌≡◌, ℕ, ◌≤◌, Bool, true, false, cond, List, [], ◌∷◌, refl, ap, ◌∙◌, arith}
use Rattle.std.specs.Prelude.{Option, Some, None, find, nat_lt, option_map}
use Rattle.std.proofs.lemmas.Bool.{cond_both, cond-false, le-ltb, ltb-false, or_from, or_parts}
use Rattle.pool_limits.specs.declared.numbers.Numbers.{Numbers}
use Rattle.pool_limits.specs.declared.numbers.Ranged.{Ranged}
use Rattle.pool_limits.specs.declared.numbers.Setting.{Setting}
use Rattle.pool_limits.specs.declared.numbers.Setting.TheVariants.{Workers, Instances, Memories, Tables, Warm, Batch, Pages, Elements, Depth, Frame}
use Rattle.pool_limits.specs.Ranges.{least_total, ranged, ranges, is_outside, bad_of, bad_number, AreInRange}

-- no item passes
abbrev pub NonePasses : {X : Type 0} → (X → Bool) → List X → Type 0
NonePasses p [] = Unit {0}
NonePasses p (x ∷ xs) = (p x ≡ false) × NonePasses p xs

pub find-none : {X : Type 0} (p : X → Bool) (xs : List X) → find p xs ≡ None → NonePasses p xs
find-none p [] h = tt
find-none {X} p (x ∷ xs) h =
    let split : (b : Bool) → p x ≡ b → ◌≡◌ {A = Option X} (cond b (Some x) (find p xs)) None → (p x ≡ false) × NonePasses p xs = elim [
      | true ↦ λ is none. absurd (cc)
      | false ↦ λ is none. (is, find-none p xs none)
    ] in split (p x) refl h

pub none-find : {X : Type 0} (p : X → Bool) (xs : List X) → NonePasses p xs → find p xs ≡ None
none-find p [] h = refl
none-find p (x ∷ xs) h = cond-false _ _ _ h.0 ∙ none-find p xs h.1

record IsInside (r : Ranged) : Type 0 where
  least : r.least ≤ r.value
  most : r.value ≤ r.most

inside : (r : Ranged) → is_outside r ≡ false → IsInside r
inside r h = let parts = or_parts (nat_lt r.value r.least) (nat_lt r.most r.value) h in
    record { least = ltb-false r.value r.least parts.0; most = ltb-false r.most r.value parts.1 }

not_outside : (r : Ranged) → r.least ≤ r.value → r.value ≤ r.most → is_outside r ≡ false
not_outside r least most = or_from (nat_lt r.value r.least) (nat_lt r.most r.value) (le-ltb r.value r.least least) (le-ltb r.most r.value most)

least_total-one : (n : Numbers) → 1 ≤ least_total n
least_total-one n = cond_both (nat_lt n.workers 2) 1 2 (λ k. 1 ≤ k) (λ e. omega arith) (λ e. omega arith)

least_total-two : (n : Numbers) → 2 ≤ n.workers → least_total n ≡ 2
least_total-two n several = cond-false _ _ _ (le-ltb n.workers 2 several)

-- a total within its range
record IsTotal (n : Numbers) (total : ℕ) : Type 0 where
  one : (1 ≤ total) × (total ≤ 1024)
  two : 2 ≤ n.workers → 2 ≤ total

is_total : (n : Numbers) (r : Ranged) → r.least ≡ least_total n → r.most ≡ 1024 → IsInside r → IsTotal n r.value
is_total n r least most is = let at_least = is.least in let at_most = is.most in let one = least_total-one n in record {
  one = (omega arith, omega arith);
  two = λ several. let two = least_total-two n several in omega arith;
}

bad_number-none : (found : Option Ranged) → option_map bad_of found ≡ None → found ≡ None
bad_number-none None h = refl
bad_number-none (Some r) h = absurd (cc)

-- where no number is bad, all are in range
pub in_range : (n : Numbers) → bad_number n ≡ None → AreInRange n
in_range n h =
    let none = find-none is_outside (ranges n) (bad_number-none (find is_outside (ranges n)) h) in
    let workers = inside (ranged Workers n.workers 1 16) none.0 in
    let instances = is_total n (ranged Instances n.instances (least_total n) 1024) refl refl (inside (ranged Instances n.instances (least_total n) 1024) none.1.0) in
    let memories = is_total n (ranged Memories n.memories (least_total n) 1024) refl refl (inside (ranged Memories n.memories (least_total n) 1024) none.1.1.0) in
    let tables = is_total n (ranged Tables n.tables (least_total n) 1024) refl refl (inside (ranged Tables n.tables (least_total n) 1024) none.1.1.1.0) in
    let warm = inside (ranged Warm n.warm 0 1024) none.1.1.1.1.0 in
    let batch = inside (ranged Batch n.batch 1 1024) none.1.1.1.1.1.0 in
    let pages = inside (ranged Pages n.pages 1 256) none.1.1.1.1.1.1.0 in
    let elements = inside (ranged Elements n.elements 0 65536) none.1.1.1.1.1.1.1.0 in
    let depth = inside (ranged Depth n.depth 1 1000) none.1.1.1.1.1.1.1.1.0 in
    let frame = inside (ranged Frame n.frame 1 4096) none.1.1.1.1.1.1.1.1.1.0 in
    record {
      workers = (workers.least, workers.most);
      instances = instances.one;
      memories = memories.one;
      tables = tables.one;
      warm = warm.most;
      batch = (batch.least, batch.most);
      pages = (pages.least, pages.most);
      elements = elements.most;
      depth = (depth.least, depth.most);
      frame = (frame.least, frame.most);
      shared = λ several. (instances.two several, memories.two several, tables.two several);
    }

total-inside : (n : Numbers) (which : Setting) (total : ℕ) → (1 ≤ total) × (total ≤ 1024) → (2 ≤ n.workers → 2 ≤ total) → is_outside (ranged which total (least_total n) 1024) ≡ false
total-inside n which total is several = not_outside (ranged which total (least_total n) 1024)
    (cond_both (nat_lt n.workers 2) 1 2 (λ k. k ≤ total) (λ e. is.0) (λ e. several (ltb-false n.workers 2 e))) is.1

-- and where all are in range, no number is bad
pub none_bad : (n : Numbers) → AreInRange n → bad_number n ≡ None
none_bad n is = ap (option_map bad_of) (none-find is_outside (ranges n) (
  not_outside (ranged Workers n.workers 1 16) is.workers.0 is.workers.1,
  (
    total-inside n Instances n.instances is.instances (λ several. (is.shared several).0),
    (
      total-inside n Memories n.memories is.memories (λ several. (is.shared several).1),
      (
        total-inside n Tables n.tables is.tables (λ several. (is.shared several).2),
        (
          not_outside (ranged Warm n.warm 0 1024) (omega arith) is.warm,
          (
            not_outside (ranged Batch n.batch 1 1024) is.batch.0 is.batch.1,
            (
              not_outside (ranged Pages n.pages 1 256) is.pages.0 is.pages.1,
              (not_outside (ranged Elements n.elements 0 65536) (omega arith) is.elements, (not_outside (ranged Depth n.depth 1 1000) is.depth.0 is.depth.1, (not_outside (ranged Frame n.frame 1 4096) is.frame.0 is.frame.1, tt))),
            ),
          ),
        ),
      ),
    ),
  ),
))
