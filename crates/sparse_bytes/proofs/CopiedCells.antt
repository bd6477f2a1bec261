-- Cells that are copied into a part of zeros, one after another.
use Rattle.std.proofs.Common.{◌≡◌, ◌≢◌, ℕ, ◌+◌, ◌-◌, ◌*◌, ◌/◌, ◌%◌, ◌<◌, ◌≤◌, ⊎_elim, List, [], ◌∷◌, false, true, length, replicate, get_or, ap, sym, ◌∙◌, arith}
use Rattle.std.specs.Prelude.{Some, is_some, unwrap_or}
use Rattle.std.specs.Ordering.{nat_cmp}
use Rattle.std.specs.declared.ops.Bound.TheVariants.{Included, Excluded}
use Rattle.std.specs.Int.{div_ceil}
use Rattle.std.specs.BTreeMap.{get, is_at}
use Rattle.std.specs.BTreeMap.Range.{IsEntryInRange, entries_between, range_contains}
use Rattle.std.specs.List.{All}
use Rattle.std.specs.Map.{lookup}
use Rattle.std.proofs.lemmas.Bool.{cases_eq, cases_lt}
use Rattle.std.proofs.lemmas.Grind.{common_steps}
use Rattle.std.proofs.lemmas.List.{get_or-replicate, length-replicate}
use Rattle.std.proofs.lemmas.List.Elements.{All-tail}
use Rattle.std.proofs.lemmas.Map.Entries.{lookup-filter-keys}
use Rattle.sparse_bytes.specs.declared.cells.Cells.{Cells}
use Rattle.sparse_bytes.specs.Cells.{cell_at, cell_byte}
use Rattle.sparse_bytes.proofs.CellLemmas.{none_zero}

-- it is a cell of these, with a number from the first on and before the end
pub record IsCellOf (bytes : Cells) (first end : ℕ) (entry : ℕ × List ℕ) : Type 0 where
  pub from : first ≤ entry.0
  pub below : entry.0 < end
  pub is : get nat_cmp bytes.cells entry.0 ≡ Some entry.1

-- the part shows the cells that are not left
pub record IsCopiedBut (bytes : Cells) (first end : ℕ) (left : List (ℕ × List ℕ)) (part : List ℕ) : Type 0 where
  pub here : All (IsCellOf bytes first end) left
  pub copied : (i : ℕ) → i < length part → is_some (lookup (is_at (nat_cmp (first + i / 64))) left) ≡ false → get_or part i 0 ≡ cell_byte bytes (64 * first + i)

lookup_later : (q number : ℕ) (cell : List ℕ) (left : List (ℕ × List ℕ)) → q ≢ number → lookup (is_at (nat_cmp q)) ((number, cell) ∷ left) ≡ lookup (is_at (nat_cmp q)) left
lookup_later q number cell left ne = grind (arith, common_steps)

module _ (bytes : Cells) (first end : ℕ) where
  byte_is : (i : ℕ) → cell_byte bytes (64 * first + i) ≡ get_or (cell_at bytes (first + i / 64)) (i % 64) 0
  unfolding cell_byte
  byte_is i =
      let number : (64 * first + i) / 64 ≡ first + i / 64 = omega arith in
      let place : (64 * first + i) % 64 ≡ i % 64 = omega arith in
      rw (number, place)

  -- the entries of the map with these numbers
  abbrev between_ends : List (ℕ × List ℕ)
  between_ends = entries_between nat_cmp (Included first) (Excluded end) bytes.cells.entries

  between_is : (q : ℕ) → first ≤ q → q < end → lookup (is_at (nat_cmp q)) between_ends ≡ get nat_cmp bytes.cells q
  between_is q l u =
      lookup-filter-keys (is_at (nat_cmp q)) (range_contains nat_cmp (Included first) (Excluded end)) true (λ k e. grind (arith, common_steps)) bytes.cells.entries

  cell_from_entry : (entry : ℕ × List ℕ) → IsEntryInRange nat_cmp (Included first) (Excluded end) bytes.cells entry → IsCellOf bytes first end entry
  cell_from_entry entry is = let below = is.0.1 in let from = is.0.0 in record { from = grind (arith, common_steps); below = grind (arith, common_steps); is = is.1 }

  pub copied_none : (n : ℕ) → first + div_ceil n 64 ≡ end → All (IsEntryInRange nat_cmp (Included first) (Excluded end) bytes.cells) between_ends
      → IsCopiedBut bytes first end between_ends (replicate n 0)
  copied_none n h all = record {
    here = λ k d l. cell_from_entry (get_or between_ends k d) (all k d l);
    copied = λ i l absent.
        let q = first + i / 64 in
        let within : i < n = omega (arith, length-replicate {A = ℕ} n 0) in
        let none : is_some (get nat_cmp bytes.cells q) ≡ false = ap is_some (sym (between_is q (omega arith) (grind (arith, common_steps)))) ∙ absent in
        get_or-replicate n i 0 0 within ∙ sym (byte_is i ∙ none_zero (get nat_cmp bytes.cells q) (i % 64) none);
  }

  pub copied_more : (number : ℕ) (cell : List ℕ) (left : List (ℕ × List ℕ)) (part new : List ℕ) → IsCopiedBut bytes first end ((number, cell) ∷ left) part
      → ((i : ℕ) → (number - first) * 64 ≤ i → i < (number - first) * 64 + 64 → i < length new → get_or new i 0 ≡ get_or cell (i - (number - first) * 64) 0)
      → ((i : ℕ) → i < (number - first) * 64 → get_or new i 0 ≡ get_or part i 0)
      → ((i : ℕ) → (number - first) * 64 + 64 ≤ i → get_or new i 0 ≡ get_or part i 0)
      → length new ≡ length part → IsCopiedBut bytes first end left new
  copied_more number cell left part new is within before after room =
      let start = (number - first) * 64 in
      let this = is.here 0 (number, cell) (omega arith) in
      let from : first ≤ number = this.from in
      record {
        here = All-tail (IsCellOf bytes first end) (number, cell) left is.here;
        copied = λ i l absent. ⊎_elim
            (λ (e : first + i / 64 ≡ number).
            within i (omega arith) (omega arith) l
            ∙ ap (λ (n : ℕ). get_or cell n 0) (omega arith)
            ∙ sym
            (byte_is i ∙ ap (λ (n : ℕ). get_or (cell_at bytes n) (i % 64) 0) e ∙ ap (λ o. get_or (unwrap_or o []) (i % 64) 0) this.is))
            (λ (ne : first + i / 64 ≢ number).
            let old : get_or part i 0 ≡ cell_byte bytes (64 * first + i) = is.copied i (omega arith) (ap is_some (lookup_later (first + i / 64) number cell left ne) ∙ absent) in
            ⊎_elim (λ (l : i < start). before i l ∙ old) (λ (l : start ≤ i). after i (omega arith) ∙ old) (cases_lt i start))
            (cases_eq (first + i / 64) number);
      }
