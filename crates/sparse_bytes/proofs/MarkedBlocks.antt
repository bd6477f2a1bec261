-- Blocks that are marked for the parts so far.
use Rattle.std.proofs.Common.{◌≡◌, ◌≢◌, ℕ, ◌*◌, ◌/◌, ◌%◌, ◌<◌, ⊎_elim, List, [], ◌∷◌, Bool, true, false, length, set, get_or, refl, ap, ◌∙◌, arith}
use Rattle.std.specs.Ordering.{eq_by_cmp, nat_cmp}
use Rattle.std.specs.BTreeMap.{get}
use Rattle.std.specs.List.{All}
use Rattle.std.specs.Set.{is_member}
use Rattle.std.specs.Prelude.{is_some}
use Rattle.std.proofs.lemmas.Bool.{cases_Bool, cases_eq}
use Rattle.std.proofs.lemmas.Grind.{common_steps}
use Rattle.std.proofs.lemmas.List.{get_or-set_same, get_or-set_other, length-set}
use Rattle.std.proofs.lemmas.List.Elements.{All-tail}
use Rattle.std.proofs.Math.Nat.{div-div-eq-div-mul, div-lt_iff_lt-mul}
use Rattle.sparse_bytes.specs.declared.cells.Cells.{Cells}
use Rattle.sparse_bytes.proofs.CellLemmas.{none_zero}
use Rattle.sparse_bytes.specs.Cells.{HasCell, cell_byte}

abbrev has_key : List ℕ → ℕ → Bool
has_key numbers q = is_member (eq_by_cmp nat_cmp) numbers q

-- of the parts that there are, the blocks of those that are not left are marked, and no others; so many parts make a block
pub record IsMarkedBut (Has : ℕ → Type 0) (parts : ℕ) (left : List ℕ) (old new : List Bool) : Type 0 where
  pub here : All Has left
  pub covered : (q : ℕ) → Has q → has_key left q ≡ false → q / parts < length new → get_or new (q / parts) false ≡ true
  pub kept : (k : ℕ) → get_or new k false ≡ false → get_or old k false ≡ false
  pub least : (k : ℕ) → get_or old k false ≡ false → get_or new k false ≡ true → (number : ℕ) × Has number × (number / parts ≡ k)
  pub room : length new ≡ length old

pub marked_none : (Has : ℕ → Type 0) (parts : ℕ) (numbers : List ℕ) (marks : List Bool) → All Has numbers → ((q : ℕ) → Has q → has_key numbers q ≡ true)
    → IsMarkedBut Has parts numbers marks marks
marked_none Has parts numbers marks found has = record {
  here = found;
  covered = λ q h n lt. absurd (let e = has q h in cc);
  kept = λ k e. e;
  least = λ k e f. absurd (cc);
  room = refl;
}

-- what is not left in a block of its own was not left before
not_first : (q number parts : ℕ) (left : List ℕ) → q / parts ≢ number / parts → has_key left q ≡ false → has_key (number ∷ left) q ≡ false
not_first q number parts left ne n = ⊎_elim (λ (e : q ≡ number). absurd (ne (ap (λ (x : ℕ). x / parts) e))) (λ (apart : q ≢ number). grind (arith, common_steps)) (cases_eq q number)

pub marked_more : (Has : ℕ → Type 0) (parts number : ℕ) (left : List ℕ) (old new : List Bool) → IsMarkedBut Has parts (number ∷ left) old new
    → IsMarkedBut Has parts left old (set new (number / parts) true)
marked_more Has parts number left old new is = record {
  here = All-tail Has number left is.here;
  covered = λ q h n lt. ⊎_elim
      (λ (e : q / parts ≡ number / parts). rw e (get_or-set_same new (number / parts) true false (omega (arith, length-set {A = Bool}, e))))
      (λ (ne : q / parts ≢ number / parts).
      get_or-set_other new (number / parts) (q / parts) true false ne
      ∙ is.covered q h (not_first q number parts left ne n) (omega (arith, length-set {A = Bool})))
      (cases_eq (q / parts) (number / parts));
  kept = λ k e. is.kept k (grind (arith, common_steps));
  least = λ k e f. ⊎_elim
      (λ (same : number / parts ≡ k). (number, is.here 0 0 (grind (arith, common_steps)), same))
      (λ (other : number / parts ≢ k). is.least k e (grind (arith, common_steps)))
      (cases_eq (number / parts) k);
  room = length-set new (number / parts) true ∙ is.room;
}

-- the byte at a place whose block has no mark
pub unmarked_zero : (bytes : Cells) (cells : ℕ) (old new : List Bool) → 0 < cells → IsMarkedBut (HasCell bytes) cells [] old new
    → (i : ℕ) → i < 64 * cells * length new → get_or new (i / (64 * cells)) false ≡ false → cell_byte bytes i ≡ 0
unfolding cell_byte
unmarked_zero bytes cells old new some is i lt unmarked = ⊎_elim
    (λ (has : HasCell bytes (i / 64)).
    let block : i / 64 / cells ≡ i / (64 * cells) = div-div-eq-div-mul i 64 cells in
    let within : i / (64 * cells) < length new = (div-lt_iff_lt-mul {k = 64 * cells} (omega arith)).1 (omega arith) in
    let marked : get_or new (i / (64 * cells)) false ≡ true = rw (← block) (is.covered (i / 64) has refl (rw block within)) in
    absurd (cc))
    (λ (none : is_some (get nat_cmp bytes.cells (i / 64)) ≡ false). none_zero (get nat_cmp bytes.cells (i / 64)) (i % 64) none)
    (cases_Bool (is_some (get nat_cmp bytes.cells (i / 64))))
