-- What tenants may want, and what is at fault where they may not.
use Rattle.std.proofs.Common.{◌≡◌, ℕ, zero, suc, ◌+◌, ◌≤◌, Bool, true, false, cond, List, [], ◌∷◌, length, refl, ap, ◌∙◌, subst, arith}
use Rattle.std.specs.Prelude.{◌==◌, Option, Some, None, find, nat_lt, option_map}
use Rattle.std.specs.List.{All}
use Rattle.std.specs.Option.{option_or}
use Rattle.std.proofs.lemmas.Bool.{cond_both, cond-false, eqb-false, ne_eqb, le-ltb, ltb-false}
use Rattle.pool_limits.specs.declared.numbers.Numbers.{Numbers}
use Rattle.pool_limits.specs.declared.wants.TheConstants.{MOST_TENANTS}
use Rattle.pool_limits.specs.declared.wants.Part.{Part}
use Rattle.pool_limits.specs.declared.wants.Part.TheVariants.{Instance, Memory, Table, Warm}
use Rattle.pool_limits.specs.declared.wants.PlanFault.{PlanFault}
use Rattle.pool_limits.specs.declared.wants.PlanFault.TheVariants.{BadShare, NoMemory, TooManyTenants}
use Rattle.pool_limits.specs.declared.wants.Want.{Want}
use Rattle.pool_limits.specs.Plans.{empty_part, first_bad, first_over, is_over, kept, over_fault, plan_fault, total, wanted, HasSlots, MayWant}
use Rattle.pool_limits.proofs.RangeLemmas.{find-none, none-find, NonePasses}

-- ---- options in a row

or-none : {A : Type 0} (a b : Option A) → option_or a b ≡ None → (a ≡ None) × (b ≡ None)
or-none None b e = (refl, e)
or-none (Some x) b e = absurd (cc)

both-none : {A : Type 0} (a b : Option A) → a ≡ None → b ≡ None → option_or a b ≡ None
both-none None b e f = f
both-none (Some x) b e f = absurd (cc)

map-none : {A B : Type 0} (f : A → B) (a : Option A) → option_map f a ≡ None → a ≡ None
map-none f None e = refl
map-none f (Some x) e = absurd (cc)

-- a condition that gives something is false where nothing is given
not_given : {A : Type 0} (b : Bool) (x : A) (y : Option A) → ◌≡◌ {A = Option A} (cond b (Some x) y) None → (b ≡ false) × (y ≡ None)
not_given true x y e = absurd (cc)
not_given false x y e = (refl, e)

-- ---- slots of each kind

some : (k : ℕ) → ¬ (k ≡ 0) → 1 ≤ k
some k h = omega arith

has_slots : (w : Want) → empty_part w ≡ None → HasSlots w
has_slots w e = let a = not_given (w.instances == 0) Instance _ e in let b = not_given (w.memories == 0) Memory _ a.1 in let c = not_given (w.tables == 0) Table _ b.1 in
    let i = eqb-false w.instances 0 a.0 in let m = eqb-false w.memories 0 b.0 in let t = eqb-false w.tables 0 c.0 in record {
      instances = some w.instances i;
      memories = some w.memories m;
      tables = some w.tables t;
    }

not_zero : (k : ℕ) → 1 ≤ k → (k == 0) ≡ false
not_zero k h = ne_eqb k 0 (λ e. omega arith)

none_empty : (w : Want) → HasSlots w → empty_part w ≡ None
none_empty w h = cond-false _ _ _ (not_zero w.instances h.instances) ∙ cond-false _ _ _ (not_zero w.memories h.memories) ∙ cond-false _ _ _ (not_zero w.tables h.tables)

all_have : (k : ℕ) (ws : List Want) → first_bad k ws ≡ None → All HasSlots ws
all_have k [] e i d h = absurd (omega arith)
all_have k (w ∷ ws) e zero d h = has_slots w (map-none (λ (kind : Part). BadShare k kind) (empty_part w) (or-none _ (first_bad (k + 1) ws) e).0)
all_have k (w ∷ ws) e (suc i) d h = all_have (k + 1) ws (or-none (option_map (λ (kind : Part). BadShare k kind) (empty_part w)) (first_bad (k + 1) ws) e).1 i d (omega arith)

-- where each wants slots of each kind, none is bad
pub none_bad : (k : ℕ) (ws : List Want) → All HasSlots ws → first_bad k ws ≡ None
none_bad k [] h = refl
none_bad k (w ∷ ws) h = both-none (option_map (λ (kind : Part). BadShare k kind) (empty_part w)) (first_bad (k + 1) ws)
    (ap (option_map (λ (kind : Part). BadShare k kind)) (none_empty w (h 0 w (omega arith))))
    (none_bad (k + 1) ws (λ i d lt. h (suc i) d (omega arith)))

-- ---- sums

abbrev parts : List Part
parts = Instance ∷ Memory ∷ Table ∷ Warm ∷ []

is_within : (n : Numbers) (ws : List Want) (part : Part) → is_over n ws part ≡ false → wanted part ws + kept part ≤ total part n
is_within n ws part e = ltb-false (total part n) (wanted part ws + kept part) e

not_over : (n : Numbers) (ws : List Want) (part : Part) → wanted part ws + kept part ≤ total part n → is_over n ws part ≡ false
not_over n ws part h = le-ltb (total part n) (wanted part ws + kept part) h

-- ---- both ways

pub may_want : (n : Numbers) (ws : List Want) → plan_fault n ws ≡ None → MayWant n ws
may_want n ws e = let few = not_given (nat_lt MOST_TENANTS (length ws)) (TooManyTenants (length ws)) _ e in let none = or-none (first_bad 1 ws) (first_over n ws) few.1 in
    let within = find-none (is_over n ws) parts (map-none (over_fault n ws) (find (is_over n ws) parts) none.1) in
    let warm = is_within n ws Warm within.1.1.1.0 in record {
      few = ltb-false MOST_TENANTS (length ws) few.0;
      each = all_have 1 ws none.0;
      instances = is_within n ws Instance within.0;
      memories = is_within n ws Memory within.1.0;
      tables = is_within n ws Table within.1.1.0;
      warm = omega arith;
    }

pub no_fault : (n : Numbers) (ws : List Want) → MayWant n ws → plan_fault n ws ≡ None
no_fault n ws h = let warm : wanted Warm ws + kept Warm ≤ n.warm = let most = h.warm in omega arith in
    let none : NonePasses (is_over n ws) parts = (not_over n ws Instance h.instances, (not_over n ws Memory h.memories, (not_over n ws Table h.tables, (not_over n ws Warm warm, tt)))) in
    cond-false _ _ _ (le-ltb MOST_TENANTS (length ws) h.few)
    ∙ both-none (first_bad 1 ws) (first_over n ws) (none_bad 1 ws h.each) (ap (option_map (over_fault n ws)) (none-find (is_over n ws) parts none))

-- ---- want of memory is no fault of wants

abbrev NotMemory : Option PlanFault → Type 0
NotMemory (Some NoMemory) = ⊥
NotMemory fault = Unit {0}

or-not_memory : (a b : Option PlanFault) → NotMemory a → NotMemory b → NotMemory (option_or a b)
or-not_memory None b h k = k
or-not_memory (Some x) b h k = h

bad-not_memory : (tenant : ℕ) (kind : Option Part) → NotMemory (option_map (λ (k : Part). BadShare tenant k) kind)
bad-not_memory tenant None = tt
bad-not_memory tenant (Some kind) = tt

first_bad-not_memory : (k : ℕ) (ws : List Want) → NotMemory (first_bad k ws)
first_bad-not_memory k [] = tt
first_bad-not_memory k (w ∷ ws) = or-not_memory (option_map (λ (kind : Part). BadShare k kind) (empty_part w)) (first_bad (k + 1) ws) (bad-not_memory k (empty_part w)) (first_bad-not_memory (k + 1) ws)

over-not_memory : (n : Numbers) (ws : List Want) (part : Option Part) → NotMemory (option_map (over_fault n ws) part)
over-not_memory n ws None = tt
over-not_memory n ws (Some part) = tt

pub not_memory : (n : Numbers) (ws : List Want) → plan_fault n ws ≡ Some NoMemory → ⊥
not_memory n ws e = let is : NotMemory (plan_fault n ws) = cond_both (nat_lt MOST_TENANTS (length ws)) (Some (TooManyTenants (length ws))) (option_or (first_bad 1 ws) (first_over n ws)) NotMemory (λ many. tt)
    (λ few. or-not_memory (first_bad 1 ws) (first_over n ws) (first_bad-not_memory 1 ws) (over-not_memory n ws (find (is_over n ws) parts))) in subst NotMemory e is
