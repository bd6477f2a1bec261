-- Blocks that are marked, and how many.
use Rattle.std.proofs.Common.{◌≡◌, ◌≢◌, ℕ, ◌+◌, ◌*◌, ◌/◌, ◌<◌, ◌≤◌, ⊎_elim, Bool, true, false, cond, List, [], ◌∷◌, length, set, get_or, zero, suc, refl, sym, ap, ◌∙◌, subst, arith}
use Rattle.std.specs.Prelude.{slice_index, slice_index_or, count_by, sum_by}
use Rattle.std.specs.List.{range_with_len}
use Rattle.std.proofs.lemmas.Bool.{cases_lt, true≢false}
use Rattle.std.proofs.lemmas.List.{get_or-set_other}
use Rattle.std.proofs.lemmas.List.Sums.{sum_by-cons, sum_by-set}
use Rattle.memory_blocks.proofs.MarkLemmas.{count}
use Rattle.block_restore.specs.Images.{HasMarked, KeepsImage, count_in}

-- ---- a mark that is taken away

pub count_less : (marks : List Bool) (block : ℕ) → block < length marks → slice_index_or marks block false ≡ true → count (set marks block false) + 1 ≡ count marks
count_less marks block lt is =
    let f : Bool → ℕ = λ b. cond b 1 0 in
    let all : sum_by f (set marks block false) + f (get_or marks block false) ≡ sum_by f marks + 0 = sum_by-set f marks block false false lt in
    let one : f (get_or marks block false) ≡ 1 = ap f is in
    omega (arith, all, one)

pub none_counted : (marks : List Bool) → ((k : ℕ) → slice_index_or marks k false ≡ false) → count marks ≡ 0
none_counted [] none = refl
none_counted (true ∷ marks) none = absurd (true≢false (none zero))
none_counted (false ∷ marks) none =
    let first : count (false ∷ marks) ≡ 0 + count marks = sum_by-cons (λ (marked : Bool). cond marked 1 0) false marks in
    let rest = none_counted marks (λ k. none (suc k)) in
    omega (arith, first, rest)

-- a block more has the image's bytes, and has no mark
pub kept_more : (marks : List Bool) (block : ℕ) (image : ℕ → ℕ) (old new : List ℕ) → length new ≡ length old
    → ((i : ℕ) → 4096 * block ≤ i → i < 4096 * block + 4096 → slice_index new i ≡ image i)
    → ((i : ℕ) → i < 4096 * block → slice_index new i ≡ slice_index old i)
    → ((i : ℕ) → 4096 * block + 4096 ≤ i → slice_index new i ≡ slice_index old i)
    → KeepsImage old marks image → KeepsImage new (set marks block false) image
kept_more marks block image old new long written before after kept = λ i lt free.
    let unmarked : i / 4096 ≢ block → slice_index_or marks (i / 4096) false ≡ false = λ ne. sym (get_or-set_other marks block (i / 4096) false false ne) ∙ free in
    ⊎_elim
    (λ (l : i < 4096 * block). before i l ∙ kept i (omega arith) (unmarked (λ (e : i / 4096 ≡ block). omega arith)))
    (λ (l : 4096 * block ≤ i). ⊎_elim
    (λ (u : i < 4096 * block + 4096). written i l u)
    (λ (u : 4096 * block + 4096 ≤ i). after i u ∙ kept i (omega arith) (unmarked (λ (e : i / 4096 ≡ block). omega arith)))
    (cases_lt i (4096 * block + 4096)))
    (cases_lt i (4096 * block))

-- ---- blocks of a set

-- no more are marked than a set has that has all of them
marked_within : (set : ℕ → Bool) (marks : List Bool) (from : ℕ) → ((k : ℕ) → slice_index_or marks k false ≡ true → set (from + k) ≡ true)
    → count marks ≤ count_by set (range_with_len from (length marks))
marked_within set [] from all = omega arith
marked_within set (b ∷ marks) from all =
    let mine : count (b ∷ marks) ≡ cond b 1 0 + count marks = sum_by-cons (λ (marked : Bool). cond marked 1 0) b marks in
    let theirs : count_by set (from ∷ range_with_len (from + 1) (length marks)) ≡ cond (set from) 1 0 + count_by set (range_with_len (from + 1) (length marks)) =
    sum_by-cons (λ (k : ℕ). cond (set k) 1 0) from (range_with_len (from + 1) (length marks)) in
    let rest = marked_within set marks (from + 1) (λ k is. subst (λ (n : ℕ). set n ≡ true) (omega arith) (all (suc k) is)) in
    let first : cond b 1 0 ≤ cond (set from) 1 0 = one_within b (λ is. subst (λ (n : ℕ). set n ≡ true) (omega arith) (all zero is)) in
    omega (arith, mine, theirs, rest, first)
  where
    one_within : (b : Bool) → (b ≡ true → set from ≡ true) → cond b 1 0 ≤ cond (set from) 1 0
    one_within false h = omega arith
    one_within true h = rw (h refl) (omega arith)

pub count_within : (set : ℕ → Bool) (marks : List Bool) → HasMarked set marks → count marks ≤ count_in set (length marks)
count_within set marks all = marked_within set marks 0 (λ k is. subst (λ (n : ℕ). set n ≡ true) (omega arith) (all k is))

-- a set that has all marks of both has all of what others were added to
pub marked_with : (set : ℕ → Bool) (old others new : List Bool) → ((k : ℕ) → slice_index_or old k false ≡ false → slice_index_or new k false ≡ true → slice_index_or others k false ≡ true)
    → HasMarked set old → HasMarked set others → HasMarked set new
marked_with set old others new least has has_others k is = split (slice_index_or old k false) refl where
  split : (b : Bool) → slice_index_or old k false ≡ b → set k ≡ true
  split true e = has k e
  split false e = has_others k (least k e is)
