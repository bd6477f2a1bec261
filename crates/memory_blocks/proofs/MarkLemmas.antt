-- Marks, and where those that are set lie.
use Rattle.std.proofs.Common.{◌≡◌, ◌≢◌, ℕ, zero, suc, ◌+◌, ◌-◌, ◌<◌, ◌≤◌, ◌∙◌, ⊎_elim, Bool, true, false, cond, List, [], ◌∷◌, Option, Some, None, length, set, take, drop, get_or, refl, sym, ap, arith}
use Rattle.std.specs.Prelude.{MatchOption, count_by, if◌then◌else◌, max, min, slice_index_or}
use Rattle.std.proofs.lemmas.Bool.{cases_eq, cases_lt, true≢false}
use Rattle.std.proofs.lemmas.List.{get_or-drop, get_or-set_other, get_or-set_same, get_or-take, get_or_past, length-set}
use Rattle.std.proofs.lemmas.List.Sums.{sum_by-cons}
use Rattle.memory_blocks.specs.Marks.{IsFirstBetween, IsFirstMarked, IsJoined, IsNoneBetween, IsUnmarkedOutside}
use Rattle.memory_blocks.proofs.RowLemmas.{length-row, row_after, row_before, set_row}

-- ---- what is looked for

abbrev pub count : List Bool → ℕ
count marks = count_by (λ marked. marked) marks

pub none_marked : (marks : List Bool) → ¬ (0 < count marks) → (k : ℕ) → slice_index_or marks k false ≡ false
none_marked [] none k = refl
none_marked (true ∷ marks) none k =
    let first : count (true ∷ marks) ≡ 1 + count marks = sum_by-cons (λ (marked : Bool). cond marked 1 0) true marks in
    absurd (none (omega (arith, first)))
none_marked (false ∷ marks) none zero = refl
none_marked (false ∷ marks) none (suc k) =
    let first : count (false ∷ marks) ≡ 0 + count marks = sum_by-cons (λ (marked : Bool). cond marked 1 0) false marks in
    none_marked marks (λ (h : 0 < count marks). none (omega (arith, first))) k

-- no block between two places is marked, where none of that part is
pub none_between : (from end : ℕ) (marks : List Bool) → ¬ (0 < count (take (end - from) (drop from marks))) → IsNoneBetween from end marks
none_between from end marks none k f lt =
    ap (λ (n : ℕ). get_or marks n false) (omega arith)
    ∙ sym (get_or-drop from marks (k - from) false)
    ∙ sym (get_or-take (end - from) (drop from marks) (k - from) false (omega arith))
    ∙ none_marked (take (end - from) (drop from marks)) none (k - from)

pub none_further : (from mid end : ℕ) (marks : List Bool) → IsNoneBetween from mid marks → IsNoneBetween mid end marks → IsNoneBetween from end marks
none_further from mid end marks before later k f lt = ⊎_elim (λ (h : k < mid). before k f h) (λ (h : mid ≤ k). later k h lt) (cases_lt k mid)

-- ---- where the marked ones lie

-- what is found there is found among all
pub found_first : (first end : ℕ) (marks : List Bool) (found : Option ℕ) → IsUnmarkedOutside first end marks
    → MatchOption found (IsNoneBetween first end marks) (IsFirstBetween first end marks) → IsFirstMarked marks found
found_first first end marks None is none = λ k f lt. ⊎_elim
    (λ (h : k < first). is.before k h)
    (λ (h : first ≤ k). ⊎_elim (λ (u : k < end). none k h u) (λ (u : end ≤ k). is.after k u) (cases_lt k end))
    (cases_lt k first)
found_first first end marks (Some block) is it = record {
  from_on = omega arith;
  below = let b = it.below in let w = is.within in omega arith;
  marked = it.marked;
  before = λ k f lt. ⊎_elim (λ (h : k < first). is.before k h) (λ (h : first ≤ k). it.before k h lt) (cases_lt k first);
}

pub none_at_all : (marks : List Bool) → IsNoneBetween 0 (length marks) marks → (k : ℕ) → slice_index_or marks k false ≡ false
none_at_all marks none k = ⊎_elim (λ (h : k < length marks). none k (omega arith) h) (λ (h : length marks ≤ k). get_or_past marks k false h) (cases_lt k (length marks))

pub widened_set : (first end block : ℕ) (marks : List Bool) → block < length marks → IsUnmarkedOutside first end marks
    → IsUnmarkedOutside (min first block) (max end (block + 1)) (set marks block true)
widened_set first end block marks lt is = record {
  within = let w = is.within in let l = length-set marks block true in omega arith;
  before = λ k h. get_or-set_other marks block k true false (λ (e : k ≡ block). omega arith) ∙ is.before k (omega arith);
  after = λ k h. get_or-set_other marks block k true false (λ (e : k ≡ block). omega arith) ∙ is.after k (omega arith);
}

pub widened_row : (first end from count : ℕ) (marks : List Bool) → from + count ≤ length marks → IsUnmarkedOutside first end marks
    → IsUnmarkedOutside (min first from) (max end (from + count)) (set_row from count (from + count) marks)
widened_row first end from count marks le is = record {
  within = let w = is.within in let l = length-row from count (from + count) marks refl le in omega arith;
  before = λ k h. row_before from count (from + count) marks k refl le (omega arith) ∙ is.before k (omega arith);
  after = λ k h. row_after from count (from + count) marks k refl le (omega arith) ∙ is.after k (omega arith);
}

-- ---- marks that are joined

-- those of the others before a block are joined, and nothing else is
pub record IsJoinedBefore (block : ℕ) (old others new : List Bool) : Type 0 where
  pub marked : (k : ℕ) → k < block → slice_index_or new k false ≡ false → (slice_index_or old k false ≡ false) × (slice_index_or others k false ≡ false)
  pub least : (k : ℕ) → slice_index_or old k false ≡ false → slice_index_or new k false ≡ true → slice_index_or others k false ≡ true
  pub later : (k : ℕ) → block ≤ k → slice_index_or new k false ≡ slice_index_or old k false
  pub room : length new ≡ length old

pub joined_none : (first end : ℕ) (old others : List Bool) → IsUnmarkedOutside first end others → IsJoinedBefore first old others old
joined_none first end old others is = record {
  marked = λ k h e. (e, is.before k h);
  least = λ k o e. absurd (true≢false (sym e ∙ o));
  later = λ k h. refl;
  room = refl;
}

pub joined_more : (block : ℕ) (old others now : List Bool) (marked : Bool) → slice_index_or others block false ≡ marked → block < length now → IsJoinedBefore block old others now
    → IsJoinedBefore (block + 1) old others (if marked then set now block true else now)
joined_more block old others now true is lt so = record {
  marked = λ k h e. ⊎_elim
      (λ (same : k ≡ block).
      absurd (true≢false (sym (get_or-set_same now block true false lt) ∙ ap (λ (n : ℕ). get_or (set now block true) n false) (sym same) ∙ e)))
      (λ (ne : k ≢ block). so.marked k (omega arith) (sym (get_or-set_other now block k true false ne) ∙ e))
      (cases_eq k block);
  least = λ k o e. ⊎_elim
      (λ (same : k ≡ block). ap (λ (n : ℕ). get_or others n false) same ∙ is)
      (λ (ne : k ≢ block). so.least k o (sym (get_or-set_other now block k true false ne) ∙ e))
      (cases_eq k block);
  later = λ k h. get_or-set_other now block k true false (λ (e : k ≡ block). omega arith) ∙ so.later k (omega arith);
  room = length-set now block true ∙ so.room;
}
joined_more block old others now false is lt so = record {
  marked = λ k h e. ⊎_elim
      (λ (l : k < block). so.marked k l e)
      (λ (u : block ≤ k). let same : k ≡ block = omega arith in (sym (so.later k u) ∙ e, ap (λ (n : ℕ). get_or others n false) same ∙ is))
      (cases_lt k block);
  least = so.least;
  later = λ k h. so.later k (omega arith);
  room = so.room;
}

pub joined_all : (first end block : ℕ) (old others new : List Bool) → IsUnmarkedOutside first end others → end ≤ block → IsJoinedBefore block old others new → IsJoined old others new
joined_all first end block old others new is past so = record {
  marked = λ k e. ⊎_elim (λ (l : k < block). so.marked k l e) (λ (u : block ≤ k). (sym (so.later k u) ∙ e, is.after k (omega arith))) (cases_lt k block);
  least = so.least;
  room = so.room;
}
