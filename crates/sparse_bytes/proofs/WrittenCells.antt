-- A piece that is written into one cell.
use Rattle.std.proofs.Common.{◌≡◌, ◌≢◌, ℕ, ◌+◌, ◌-◌, ◌*◌, ◌/◌, ◌%◌, ◌<◌, ◌≤◌, ◌⊎◌, ⊎_elim, inl, inr, List, [], length, get_or, ap, sym, ◌∙◌, arith}
use Rattle.std.specs.Prelude.{Some, is_some, unwrap_or}
use Rattle.std.specs.Ordering.{nat_cmp}
use Rattle.std.specs.BTreeMap.{get, Updates}
use Rattle.std.proofs.lemmas.Bool.{cases_eq}
use Rattle.std.proofs.lemmas.Grind.{common_steps}
use Rattle.std.proofs.lemmas.List.{places}
use borrow.Rule.Slice.PartMut.{put_mid}
use Rattle.sparse_bytes.specs.declared.cells.Cells.{Cells}
use Rattle.sparse_bytes.specs.Written.{Touches}
use Rattle.sparse_bytes.specs.Cells.{HasCell, WritesCells, cell_at, cell_byte}

-- ---- one cell

pub put_within : (from k : ℕ) (cell piece : List ℕ) (j : ℕ) → k ≡ length piece → from + k ≤ length cell → from ≤ j → j < from + k → get_or (put_mid from k cell piece) j 0 ≡ get_or piece (j - from) 0
put_within from k cell piece j e h l u = grind (arith, common_steps, places)

pub put_outside : (from k : ℕ) (cell piece : List ℕ) (j : ℕ) → k ≡ length piece → from + k ≤ length cell → (j < from) ⊎ (from + k ≤ j) → get_or (put_mid from k cell piece) j 0 ≡ get_or cell j 0
put_outside from k cell piece j e h w = ⊎_elim (λ (l : j < from). grind (arith, common_steps, places)) (λ (l : from + k ≤ j). grind (arith, common_steps, places)) w

module _ (old new : Cells) (number from k : ℕ) (cell piece : List ℕ)
    (updates : Updates nat_cmp old.cells new.cells number (Some (put_mid from k cell piece)))
    (size : k ≡ length piece) (some : 0 < k) (fits : from + k ≤ 64) (long : length cell ≡ 64)
    (shows : (j : ℕ) → get_or cell j 0 ≡ get_or (cell_at old number) j 0) where
  here : (i : ℕ) → i / 64 ≡ number → cell_byte new i ≡ get_or (put_mid from k cell piece) (i % 64) 0
  unfolding cell_byte
  here i e = ap (λ (n : ℕ). get_or (cell_at new n) (i % 64) 0) e ∙ ap (λ o. get_or (unwrap_or o []) (i % 64) 0) updates.1

  apart : (q : ℕ) → q ≢ number → get nat_cmp new.cells q ≡ get nat_cmp old.cells q
  apart q ne = updates.2 q (grind (arith, common_steps))

  there : (i : ℕ) → i / 64 ≢ number → cell_byte new i ≡ cell_byte old i
  unfolding cell_byte
  there i ne = ap (λ o. get_or (unwrap_or o []) (i % 64) 0) (apart (i / 64) ne)

  found : (q : ℕ) → HasCell new q → HasCell old q ⊎ Touches 64 (64 * number + from) (length piece) q
  found q has = ⊎_elim
      (λ (e : q ≡ number). inr (record { place = 64 * number + from; from = omega arith; below = omega arith; in_part = omega arith }))
      (λ (ne : q ≢ number). inl (ap is_some (sym (apart q ne)) ∙ has))
      (cases_eq q number)

  place : (i : ℕ) → i / 64 ≡ number → (i < 64 * number + from) ⊎ (64 * number + from + k ≤ i) → (i % 64 < from) ⊎ (from + k ≤ i % 64)
  place i e w = ⊎_elim (λ (l : i < 64 * number + from). inl (omega arith)) (λ (l : 64 * number + from + k ≤ i). inr (omega arith)) w

  outside : (i : ℕ) → (i < 64 * number + from) ⊎ (64 * number + from + k ≤ i) → cell_byte new i ≡ cell_byte old i
  unfolding cell_byte
  outside i w = ⊎_elim
      (λ (e : i / 64 ≡ number).
      here i e
      ∙ put_outside from k cell piece (i % 64) size (omega arith) (place i e w)
      ∙ shows (i % 64)
      ∙ sym (ap (λ (n : ℕ). get_or (cell_at old n) (i % 64) 0) e))
      (there i)
      (cases_eq (i / 64) number)

  pub written_cell : WritesCells (64 * number + from) piece old new
  written_cell = record {
    bytes = record {
      within = λ i l u. here i (omega arith) ∙ put_within from k cell piece (i % 64) size (omega arith) (omega arith) (omega arith) ∙ ap (λ (n : ℕ). get_or piece n 0) (omega arith);
      before = λ i l. outside i (inl l);
      after = λ i l. outside i (inr (omega arith));
    };
    parts = found;
  }
