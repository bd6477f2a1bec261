-- Blocks that are marked.
use Rattle.std.proofs.Common.{◌≡◌, ℕ, zero, suc, ◌+◌, ◌-◌, ◌*◌, ◌/◌, ◌<◌, ◌≤◌, ◌⊎◌, ⊎_elim, inl, inr, List, [], ◌∷◌, ◌++◌, Bool, true, false, length, set, take, drop, replicate, get_or, refl, sym, ap, ◌∙◌, arith}
use Rattle.std.specs.Prelude.{cond, count_by, sum_by}
use Rattle.std.proofs.lemmas.Bool.{cases_lt}
use Rattle.std.proofs.lemmas.List.{get_or-drop, get_or-take, get_or_past, length-replicate, length-take, drop-drop, take-append-drop}
use Rattle.std.proofs.lemmas.List.Sums.{sum_by-append, sum_by-take-drop}
use Rattle.std.proofs.lemmas.List.Folds.{sum_by-replicate}
use Rattle.wasm_spec.specs.Store.{written}
use Rattle.linear_memory.specs.declared.memory.Memory.{Memory}
use Rattle.linear_memory.specs.Bytes.{IsMemory, shown, size_of}
use Rattle.memory_blocks.specs.Blocks.{KeepsUnmarked, is_marked}
use Rattle.memory_blocks.proofs.KeepingLemmas.{unmarked_more}
use Rattle.linear_memory.specs.Marks.{MarksChanges, MarksPart, touched, with_part}
use Rattle.wasm_spec.proofs.StoreSizes.{length-written}
use Rattle.linear_memory.proofs.WrittenBytes.{drop-written, outside_written, take-written}

-- what does not lie within a part lies before it or past it
outside_part : (at n i : ℕ) → (at ≤ i → i < at + n → ⊥) → (i < at) ⊎ (at + n ≤ i)
outside_part at n i out =
    ⊎_elim (λ (l : i < at). inl l) (λ (l : at ≤ i). ⊎_elim (λ (u : i < at + n). absurd (out l u)) (λ (u : at + n ≤ i). inr u) (cases_lt i (at + n))) (cases_lt i at)

-- ---- a row of marks that is set

-- the marks after those from `first` on, up to `end`, were set
abbrev set_row : ℕ → ℕ → ℕ → List Bool → List Bool
set_row first count end xs = take first xs ++ (replicate count true ++ drop end xs)

row_here : (first count end : ℕ) (xs : List Bool) (b : ℕ) → end ≡ first + count → end ≤ length xs → first ≤ b → b < end → get_or (set_row first count end xs) b false ≡ true
row_here zero zero end xs b e h l u = absurd (omega arith)
row_here zero (suc count) zero xs b e h l u = absurd (omega arith)
row_here zero (suc count) (suc end) [] b e h l u = absurd (omega arith)
row_here zero (suc count) (suc end) (x ∷ xs) zero e h l u = refl
row_here zero (suc count) (suc end) (x ∷ xs) (suc b) e h l u = row_here zero count end xs b (omega arith) (omega arith) (omega arith) (omega arith)
row_here (suc first) count zero xs b e h l u = absurd (omega arith)
row_here (suc first) count (suc end) [] b e h l u = absurd (omega arith)
row_here (suc first) count (suc end) (x ∷ xs) zero e h l u = absurd (omega arith)
row_here (suc first) count (suc end) (x ∷ xs) (suc b) e h l u = row_here first count end xs b (omega arith) (omega arith) (omega arith) (omega arith)

-- what is not marked afterwards was not before
row_unset : (first count end : ℕ) (xs : List Bool) (b : ℕ) → end ≡ first + count → end ≤ length xs → get_or (set_row first count end xs) b false ≡ false → get_or xs b false ≡ false
row_unset zero zero zero xs b e h u = u
row_unset zero zero (suc end) xs b e h u = absurd (omega arith)
row_unset zero (suc count) zero xs b e h u = absurd (omega arith)
row_unset zero (suc count) (suc end) [] b e h u = absurd (omega arith)
row_unset zero (suc count) (suc end) (x ∷ xs) zero e h u = absurd (cc)
row_unset zero (suc count) (suc end) (x ∷ xs) (suc b) e h u = row_unset zero count end xs b (omega arith) (omega arith) u
row_unset (suc first) count zero xs b e h u = absurd (omega arith)
row_unset (suc first) count (suc end) [] b e h u = absurd (omega arith)
row_unset (suc first) count (suc end) (x ∷ xs) zero e h u = u
row_unset (suc first) count (suc end) (x ∷ xs) (suc b) e h u = row_unset first count end xs b (omega arith) (omega arith) u

row_counted : (first count end : ℕ) (xs : List Bool) → end ≡ first + count → count_by (λ b. b) (set_row first count end xs) ≤ count_by (λ b. b) xs + count
row_counted first count end xs e =
    let f : Bool → ℕ = λ b. cond b 1 0 in
    let outer = sum_by-append f (take first xs) (replicate count true ++ drop end xs) in
    let inner = sum_by-append f (replicate count true) (drop end xs) in
    let set = sum_by-replicate f count true in
    let whole = sum_by-take-drop f xs first in
    let upper = sum_by-take-drop f (drop first xs) count in
    let same : sum_by f (drop count (drop first xs)) ≡ sum_by f (drop end xs) = ap (sum_by f) (drop-drop count first xs ∙ ap (λ (n : ℕ). drop n xs) (omega arith)) in
    omega arith

-- ---- the blocks of a part

-- the blocks that a part lies in end where its last byte lies
touched_end : (at n : ℕ) → 0 < n → at / 4096 + touched at n ≡ (at + n - 1) / 4096 + 1
touched_end at zero some = absurd (omega arith)
touched_end at (suc n) some = omega arith

-- all of its blocks are marked, so a place that lies in no marked block lies outside it
pub part_outside : (marks : List Bool) (at n i : ℕ) → at + n ≤ length marks * 4096 → is_marked (written marks (at / 4096) (replicate (touched at n) true)) i ≡ false → (i < at) ⊎ (at + n ≤ i)
part_outside marks at n i fits unmarked = outside_part at n i (λ l u.
    let some : 0 < n = omega arith in
    let end = touched_end at n some in
    let long : length (replicate (touched at n) true) ≡ touched at n = length-replicate (touched at n) true in
    let is : get_or (written marks (at / 4096) (replicate (touched at n) true)) (i / 4096) false ≡ true =
    row_here (at / 4096) (touched at n) (at / 4096 + length (replicate (touched at n) true)) marks (i / 4096) (omega arith) (omega arith) (omega arith) (omega arith) in
    cc (is, unmarked))

-- no mark is set where there is no byte
no_row : (marks : List Bool) (first : ℕ) → written marks first [] ≡ marks
no_row marks first = ap (λ (k : ℕ). take first marks ++ drop k marks) (omega arith) ∙ take-append-drop first marks

pub row_length : (marks : List Bool) (at n : ℕ) → at + n ≤ length marks * 4096 → length (written marks (at / 4096) (replicate (touched at n) true)) ≡ length marks
row_length marks at zero fits = ap length (no_row marks (at / 4096))
row_length marks at (suc n) fits =
    let long : length (replicate (touched at (suc n)) true) ≡ touched at (suc n) = length-replicate (touched at (suc n)) true in
    length-written marks (at / 4096) (replicate (touched at (suc n)) true) (omega arith)

part_unset : (marks : List Bool) (at n b : ℕ) → at + n ≤ length marks * 4096 → get_or (written marks (at / 4096) (replicate (touched at n) true)) b false ≡ false → get_or marks b false ≡ false
part_unset marks at zero b fits u = ap (λ (l : List Bool). get_or l b false) (sym (no_row marks (at / 4096))) ∙ u
part_unset marks at (suc n) b fits u =
    let long : length (replicate (touched at (suc n)) true) ≡ touched at (suc n) = length-replicate (touched at (suc n)) true in
    row_unset (at / 4096) (touched at (suc n)) (at / 4096 + length (replicate (touched at (suc n)) true)) marks b (omega arith) (omega arith) u

-- ---- one mark or two

set_once : (xs : List Bool) (i : ℕ) → i < length xs → set (set xs i true) i true ≡ take i xs ++ (true ∷ drop (suc i) xs)
set_once [] i h = absurd (omega arith)
set_once (x ∷ xs) zero h = refl
set_once (x ∷ xs) (suc i) h = ap (λ (l : List Bool). x ∷ l) (set_once xs i (omega arith))

set_both : (xs : List Bool) (i : ℕ) → suc i < length xs → set (set xs i true) (suc i) true ≡ take i xs ++ (true ∷ (true ∷ drop (suc (suc i)) xs))
set_both [] i h = absurd (omega arith)
set_both (x ∷ []) i h = absurd (omega arith)
set_both (x ∷ (y ∷ xs)) zero h = refl
set_both (x ∷ (y ∷ xs)) (suc i) h = ap (λ (l : List Bool). x ∷ l) (set_both (y ∷ xs) i (omega arith))

ends_near : (at n : ℕ) → 0 < n → n ≤ 4096 → ((at + n - 1) / 4096 ≡ at / 4096) ⊎ ((at + n - 1) / 4096 ≡ suc (at / 4096))
ends_near at n some short = grind arith

-- so short a part lies in its first block and its last
pub pair_is_part : (marks : List Bool) (at n : ℕ) → 0 < n → n ≤ 4096 → (at + n - 1) / 4096 < length marks
    → set (set marks (at / 4096) true) ((at + n - 1) / 4096) true ≡ with_part marks at n
pair_is_part marks at n some short last =
    let first : ℕ = at / 4096 in
    let end = touched_end at n some in
    let after_one : suc first ≡ first + 1 = omega arith in
    let after_two : suc (suc first) ≡ first + 2 = omega arith in
    let one : (at + n - 1) / 4096 ≡ first → set (set marks first true) ((at + n - 1) / 4096) true ≡ with_part marks at n = λ e.
    let blocks : 1 ≡ touched at n = omega arith in
    ap (λ (i : ℕ). set (set marks first true) i true) e ∙ set_once marks first (omega arith)
    ∙ ap (λ (d : ℕ). take first marks ++ (true ∷ drop d marks)) after_one ∙ ap (λ (k : ℕ). written marks first (replicate k true)) blocks in
    let two : (at + n - 1) / 4096 ≡ suc first → set (set marks first true) ((at + n - 1) / 4096) true ≡ with_part marks at n = λ e.
    let blocks : 2 ≡ touched at n = omega arith in
    ap (λ (i : ℕ). set (set marks first true) i true) e ∙ set_both marks first (omega arith)
    ∙ ap (λ (d : ℕ). take first marks ++ (true ∷ (true ∷ drop d marks))) after_two ∙ ap (λ (k : ℕ). written marks first (replicate k true)) blocks in
    ⊎_elim one two (ends_near at n some short)

-- and so in two at most
pub touched_short : (at n : ℕ) → n ≤ 4096 → touched at n ≤ 2
touched_short at zero short = omega arith
touched_short at (suc n) short = omega arith

-- ---- memories

pub changes_none : (old new : Memory) → new.bytes.items ≡ old.bytes.items → new.marks.items ≡ old.marks.items → MarksChanges old new 0
changes_none old new bytes marks = record {
  unmarked = record { bytes = λ i u. ap (λ (l : List ℕ). get_or l i 0) bytes; marks = λ i u. ap (λ (l : List Bool). is_marked l i) (sym marks) ∙ u };
  counted = omega (arith, ap (count_by (λ b. b)) marks);
  room = record { bytes = ap length bytes; marks = ap length marks };
}

-- of no byte no block is marked
pub part_none : (memory : Memory) (at : ℕ) → MarksPart memory memory at 0
part_none memory at = record { changes = changes_none memory memory refl refl; marks = sym (no_row memory.marks.items (at / 4096)) }

-- one change after another
pub changes_more : (a b c : Memory) (n k j : ℕ) → MarksChanges a b n → MarksChanges b c k → n + k ≡ j → MarksChanges a c j
changes_more a b c n k j p q e = record {
  unmarked = unmarked_more a.bytes.items b.bytes.items c.bytes.items a.marks.items b.marks.items c.marks.items p.unmarked q.unmarked;
  counted = let x = p.counted in let y = q.counted in omega arith;
  room = record { bytes = q.room.bytes ∙ p.room.bytes; marks = q.room.marks ∙ p.room.marks };
}

-- ---- what is shown

all_alike : (n i d : ℕ) → get_or (replicate n d) i d ≡ d
all_alike zero i d = refl
all_alike (suc n) zero d = refl
all_alike (suc n) (suc i) d = all_alike n i d

-- past the size all is zero, as past the end of what is shown
shown_byte : (most : ℕ) (memory : Memory) → IsMemory most memory → (i : ℕ) → get_or (shown memory) i 0 ≡ get_or memory.bytes.items i 0
shown_byte most memory is i =
    let size = size_of memory in
    let bytes = memory.bytes.items in
    let beyond : size ≤ i → get_or (shown memory) i 0 ≡ get_or bytes i 0 = λ le.
    let none : get_or (shown memory) i 0 ≡ 0 = get_or_past (take size bytes) i 0 (omega (arith, length-take size bytes)) in
    let rest : get_or bytes i 0 ≡ get_or (drop size bytes) (i - size) 0 = ap (λ (n : ℕ). get_or bytes n 0) (omega arith) ∙ sym (get_or-drop size bytes (i - size) 0) in
    none ∙ sym (rest ∙ ap (λ (l : List ℕ). get_or l (i - size) 0) is.zeros ∙ all_alike (length bytes - size) (i - size) 0) in
    ⊎_elim (λ (lt : i < size). get_or-take size bytes i 0 lt) beyond (cases_lt i size)

-- what is shown keeps the bytes outside the marked blocks
pub shown_unmarked : (most n : ℕ) (old new : Memory) → IsMemory most new → MarksChanges old new n → KeepsUnmarked old.bytes.items (shown new) old.marks.items new.marks.items
shown_unmarked most n old new is changes = record { bytes = λ i u. shown_byte most new is i ∙ changes.unmarked.bytes i u; marks = changes.unmarked.marks }

-- ---- a piece that is written within the size

module _ (old new : Memory) (at : ℕ) (p : List ℕ) (fits : at + length p ≤ size_of old) (bytes : new.bytes.items ≡ written old.bytes.items at p) where
  within : (most : ℕ) → IsMemory most old → at + length p ≤ length old.bytes.items
  within most is = let r = is.bytes in let s = is.size in omega arith

  row_changes : (most n : ℕ) → IsMemory most old → length p ≡ n → new.marks.items ≡ with_part old.marks.items at n → MarksChanges old new (touched at n)
  row_changes most n is counts marks =
      let m = is.marks in
      let s = is.size in
      let room : at + n ≤ length old.marks.items * 4096 = omega arith in
      let row = replicate (touched at n) true in
      let long : length row ≡ touched at n = length-replicate (touched at n) true in
      record {
        unmarked = record {
          bytes = λ i u.
              ap (λ (l : List ℕ). get_or l i 0) bytes
              ∙ outside_written at p old.bytes.items i (within most is)
              (rw counts (part_outside old.marks.items at n i room (ap (λ (l : List Bool). is_marked l i) (sym marks) ∙ u)));
          marks = λ i u. part_unset old.marks.items at n (i / 4096) room (ap (λ (l : List Bool). is_marked l i) (sym marks) ∙ u);
        };
        counted = rw marks (row_counted (at / 4096) (touched at n) (at / 4096 + length row) old.marks.items (omega arith));
        room = record {
          bytes = ap length bytes ∙ length-written old.bytes.items at p (within most is);
          marks = ap length marks ∙ row_length old.marks.items at n room;
        };
      }

  -- the blocks of the piece are marked
  pub marks_part : (most n : ℕ) → IsMemory most old → length p ≡ n → new.marks.items ≡ with_part old.marks.items at n → MarksPart old new at n
  marks_part most n is counts marks = record { changes = row_changes most n is counts marks; marks = marks }

  pub shown_written : (most : ℕ) → IsMemory most old → new.pages ≡ old.pages → shown new ≡ written (shown old) at p
  shown_written most is pages =
      let r = is.bytes in
      let s = is.size in
      rw (bytes, pages) (take-written at p old.bytes.items (size_of old) fits (omega arith))

  pub memory_written : (most : ℕ) → IsMemory most old → new.pages ≡ old.pages → length new.marks.items ≡ length old.marks.items → new.bytes.accessible ≡ old.bytes.accessible → IsMemory most new
  memory_written most is pages marks accessible =
      let r = is.bytes in
      let s = is.size in
      let first = is.accessible in
      let long : length new.bytes.items ≡ length old.bytes.items = ap length bytes ∙ length-written old.bytes.items at p (within most is) in
      record {
        bytes = rw long is.bytes;
        marks = rw marks is.marks;
        size = rw pages is.size;
        zeros = rw (long, bytes, pages) (drop-written at p old.bytes.items (size_of old) fits (omega arith) ∙ is.zeros);
        accessible = omega arith;
      }
