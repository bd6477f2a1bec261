-- The table of opcodes of profile 1, read at an opcode, and how that of profile 2 differs.
use Rattle.std.proofs.Common.{◌≡◌, ℕ, zero, suc, ◌+◌, ◌-◌, ◌<◌, ◌≤◌, List, [], ◌∷◌, ◌++◌, get_or, replicate, Bool, true, false, ◌||◌, ◌&&◌, ◌==◌, cond, refl, sym, ap, ◌∙◌, arith, nat_le}
use Rattle.std.specs.Prelude.{Option, Some, None, find}
use Rattle.std.specs.List.{list_all}
use Rattle.std.specs.Option.{option_map_or}
use Rattle.std.proofs.lemmas.Bool.{and_parts, false≢true}
use Rattle.std.proofs.lemmas.List.{get_or-replicate}
use Rattle.std.proofs.lemmas.Bool.Decides.{nat_tests}
use Rattle.wasm_values.specs.declared.profile.Profile.{Profile}
use Rattle.wasm_values.specs.declared.profile.Profile.TheVariants.{One, Two}
use Rattle.wasm_spec.specs.InstrGrammar.{Shape, NotPlain, added, first_opcodes, numeric, opcodes, shape}

-- the shape of an opcode that is known
pub known : (opcode n : ℕ) → opcode ≡ n → shape One opcode ≡ shape One n
known opcode n is = ap (shape One) is

-- the shapes of so many opcodes in a row
abbrev pub shapes : Profile → ℕ → ℕ → List Shape
shapes profile first zero = []
shapes profile first (suc count) = shape profile first ∷ shapes profile (first + 1) count

shapes-at : (profile : Profile) (first count i : ℕ) → i < count → get_or (shapes profile first count) i NotPlain ≡ shape profile (first + i)
shapes-at profile first zero i lt = absurd (omega (arith, lt))
shapes-at profile first (suc count) zero lt = let e : first ≡ first + 0 = omega arith in ap (shape profile) e
shapes-at profile first (suc count) (suc i) lt =
    let e : first + 1 + i ≡ first + suc i = omega arith in
    shapes-at profile (first + 1) count i (omega (arith, lt)) ∙ ap (shape profile) e

-- a range of opcodes, where the table has these shapes
pub run : (profile : Profile) (first count : ℕ) (xs : List Shape) → shapes profile first count ≡ xs
    → (n : ℕ) → first ≤ n → n < first + count → shape profile n ≡ get_or xs (n - first) NotPlain
run profile first count xs e n le lt =
    let m : first + (n - first) ≡ n = omega arith in
    sym (ap (shape profile) m) ∙ sym (shapes-at profile first count (n - first) (omega (arith, le, lt))) ∙ ap (λ (l : List Shape). get_or l (n - first) NotPlain) e

-- where they are all the same
pub run-same : (profile : Profile) (first count : ℕ) (x : Shape) → shapes profile first count ≡ replicate count x
    → (n : ℕ) → first ≤ n → n < first + count → shape profile n ≡ x
run-same profile first count x e n le lt =
    run profile first count (replicate count x) e n le lt ∙ get_or-replicate count (n - first) x NotPlain (omega (arith, le, lt))

-- ranges of opcodes
abbrev pub is_inside : List (ℕ × ℕ) → ℕ → Bool
is_inside [] n = false
is_inside (r ∷ ranges) n = (nat_le r.0 n && nat_le n r.1) || is_inside ranges n

none-found : (found : Bool) (row : ℕ × Shape) (later : Option (ℕ × Shape)) → (found ≡ true → ⊥) → later ≡ None → cond found (Some row) later ≡ None
none-found true row later here there = absurd (here refl)
none-found false row later here there = there

none-at : (ranges : List (ℕ × ℕ)) (rows : List (ℕ × Shape)) → list_all (λ row. is_inside ranges row.0) rows ≡ true
    → (n : ℕ) → is_inside ranges n ≡ false → find (λ r. r.0 == n) rows ≡ None
none-at ranges [] h n out = refl
none-at ranges (row ∷ rows) h n out =
    let b = and_parts (is_inside ranges row.0) (list_all (λ r. is_inside ranges r.0) rows) h in
    none-found (row.0 == n) row (find (λ r. r.0 == n) rows)
    (λ is. let i : row.0 ≡ n = grind (arith, nat_tests) in false≢true (sym out ∙ ap (is_inside ranges) (sym i) ∙ b.0))
    (none-at ranges rows b.1 n out)

-- a default arm: the table has no row outside these ranges
pub only : (ranges : List (ℕ × ℕ)) → list_all (λ row. is_inside ranges row.0) (opcodes One) ≡ true → (n : ℕ) → is_inside ranges n ≡ false → shape One n ≡ NotPlain
unfolding shape
only ranges h n out = ap (λ (o : Option (ℕ × Shape)). option_map_or (λ row. row.1) o NotPlain) (none-at ranges (opcodes One) h n out)

-- ---- what profile 2 adds

find-none : (rows more : List (ℕ × Shape)) (n : ℕ) → find (λ row. row.0 == n) more ≡ None → find (λ row. row.0 == n) (rows ++ more) ≡ find (λ row. row.0 == n) rows
find-none [] more n e = e
find-none (row ∷ rows) more n e = ap (cond (row.0 == n) (Some row)) (find-none rows more n e)

-- it adds no other opcode
none_added : (n : ℕ) → (0xC0 ≤ n → n ≤ 0xC4 → ⊥) → (n ≡ 0xFC → ⊥) → find (λ row. row.0 == n) (added Two) ≡ None
none_added n low prefix = grind (arith, nat_tests)

pub same-outside : (n : ℕ) → (0xC0 ≤ n → n ≤ 0xC4 → ⊥) → (n ≡ 0xFC → ⊥) → shape Two n ≡ shape One n
unfolding shape
same-outside n low prefix =
    let rows : List (ℕ × Shape) = first_opcodes ++ numeric in
    ap (λ (o : Option (ℕ × Shape)). option_map_or (λ row. row.1) o NotPlain)
    (find-none rows (added Two) n (none_added n low prefix) ∙ sym (find-none rows [] n refl))
