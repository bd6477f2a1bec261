-- A piece that is written into one block.
use Rattle.std.specs.Global.{Global}
use Rattle.std.proofs.Common.{◌≡◌, ◌≢◌, ℕ, ◌+◌, ◌-◌, ◌*◌, ◌/◌, ◌%◌, ◌<◌, ◌≤◌, ◌⊎◌, ⊎_elim, inl, inr, false, Bool, List, [], length, get_or, ap, refl, subst, sym, true, ◌∙◌, arith}
use Rattle.std.specs.Prelude.{Box, Err, IfOk, None, Ok, Option, Result, Some, is_some, slice_index}
use Rattle.std.specs.Ordering.{nat_cmp}
use Rattle.std.specs.BTreeMap.{get}
use Rattle.std.proofs.lemmas.Bool.{cases_eq}
use Rattle.std.proofs.Math.Nat.{div-div-eq-div-mul}
use borrow.Rule.Slice.PartMut.{put_mid}
use Rattle.sparse_bytes.specs.declared.bytes.SparseBytes.{SparseBytes}
use Rattle.sparse_bytes.specs.declared.cells.Cells.{Cells}
use Rattle.sparse_bytes.specs.Written.{Touches}
use Rattle.sparse_bytes.specs.Cells.{HasCell, WritesCells, cell_byte}
use Rattle.sparse_bytes.specs.SparseBytes.{HasBlock, IsWritten, byte_at, shown_byte}
use Rattle.sparse_bytes.proofs.MarkedBlocks.{IsMarkedBut}
use Rattle.sparse_bytes.proofs.WrittenCells.{put_outside, put_within}

-- a byte, by what its block is
pub byte_is : (bytes : SparseBytes) (i number : ℕ) (block : Option (Box (List ℕ) Global)) → i / 4096 ≡ number → get nat_cmp bytes.whole number ≡ block
    → byte_at bytes i ≡ shown_byte block bytes.cells i
unfolding byte_at
byte_is bytes i number block e is = ap (λ (n : ℕ). shown_byte (get nat_cmp bytes.whole n) bytes.cells i) e ∙ ap (λ b. shown_byte b bytes.cells i) is

-- a block that there is, or its cells
pub byte_in : (bytes : SparseBytes) (number i : ℕ) (block : Option (Box (List ℕ) Global)) → i < 4096 → get nat_cmp bytes.whole number ≡ block
    → byte_at bytes (4096 * number + i) ≡ shown_byte block bytes.cells (4096 * number + i)
byte_in bytes number i block lt is = byte_is bytes (4096 * number + i) number block (omega arith) is

-- whether a place lies within the piece, as seen from its block
place_apart : (number from k i : ℕ) → i / 4096 ≡ number → (i < 4096 * number + from) ⊎ (4096 * number + from + k ≤ i) → (i % 4096 < from) ⊎ (from + k ≤ i % 4096)
place_apart number from k i e w = ⊎_elim (λ (l : i < 4096 * number + from). inl (omega arith)) (λ (l : 4096 * number + from + k ≤ i). inr (omega arith)) w

-- What one piece leaves: its bytes, the others as they were, and no whole block and no cell but those that were and those that it touches.
written_if : (old new : SparseBytes) (place : ℕ) (piece : List ℕ) → ((i : ℕ) → place ≤ i → i < place + length piece → byte_at new i ≡ slice_index piece (i - place))
    → ((i : ℕ) → (i < place) ⊎ (place + length piece ≤ i) → byte_at new i ≡ byte_at old i)
    → ((q : ℕ) → is_some (get nat_cmp new.whole q) ≡ true → (is_some (get nat_cmp old.whole q) ≡ true) ⊎ Touches 4096 place (length piece) q)
    → ((c : ℕ) → HasCell new.cells c → HasCell old.cells c ⊎ Touches 64 place (length piece) c) → IsWritten place piece old new
written_if old new place piece within outside whole cells = record {
  bytes = record { within = within; before = λ i l. outside i (inl l); after = λ i l. outside i (inr l) };
  parts = λ q has. ⊎_elim
      (λ (is : is_some (get nat_cmp new.whole q) ≡ true). ⊎_elim
      (λ (was : is_some (get nat_cmp old.whole q) ≡ true). inl (inl was))
      (λ (t : Touches 4096 place (length piece) q). inr t)
      (whole q is))
      (λ (cell : (c : ℕ) × HasCell new.cells c × (c / 64 ≡ q)). ⊎_elim
      (λ (was : HasCell old.cells cell.0). inl (inr (cell.0, was, cell.2)))
      (λ (t : Touches 64 place (length piece) cell.0).
      let quotient : t.place / 64 / 64 ≡ t.place / 4096 = div-div-eq-div-mul t.place 64 64 in
      inr (record { place = t.place; from = t.from; below = t.below; in_part = sym quotient ∙ ap (λ (n : ℕ). n / 64) t.in_part ∙ cell.2 }))
      (cells cell.0 cell.1))
      has;
}

-- a block that is kept whole has the piece from a place in it on
pub record WritesWhole (old new : SparseBytes) (number from k : ℕ) (block piece : List ℕ) (kept : Box (List ℕ) Global) : Type 0 where
  pub is : get nat_cmp new.whole number ≡ Some kept
  pub value : kept.value ≡ put_mid from k block piece
  pub others : (q : ℕ) → q ≢ number → get nat_cmp new.whole q ≡ get nat_cmp old.whole q
  pub cells : new.cells ≡ old.cells
  pub size : k ≡ length piece
  pub some : 0 < k
  pub fits : from + k ≤ 4096
  pub long : length block ≡ 4096
  pub shows : (j : ℕ) → j < 4096 → slice_index block j ≡ byte_at old (4096 * number + j)

module _ (old new : SparseBytes) (number from k : ℕ) (block piece : List ℕ) (kept : Box (List ℕ) Global) (w : WritesWhole old new number from k block piece kept) where
  here : (i : ℕ) → i / 4096 ≡ number → byte_at new i ≡ get_or (put_mid from k block piece) (i % 4096) 0
  here i e = byte_is new i number (Some kept) e w.is ∙ ap (λ (l : List ℕ). get_or l (i % 4096) 0) w.value

  there : (i : ℕ) → i / 4096 ≢ number → byte_at new i ≡ byte_at old i
  there i ne =
      byte_is new i (i / 4096) (get nat_cmp old.whole (i / 4096)) refl (w.others (i / 4096) ne)
      ∙ ap (λ (c : Cells). shown_byte (get nat_cmp old.whole (i / 4096)) c i) w.cells
      ∙ sym (byte_is old i (i / 4096) (get nat_cmp old.whole (i / 4096)) refl refl)

  within : (i : ℕ) → 4096 * number + from ≤ i → i < 4096 * number + from + length piece → byte_at new i ≡ slice_index piece (i - (4096 * number + from))
  within i l u =
      let size = w.size in
      let fits = w.fits in
      here i (omega arith)
      ∙ put_within from k block piece (i % 4096) size (let long = w.long in omega arith) (omega arith) (omega arith)
      ∙ ap (λ (n : ℕ). get_or piece n 0) (omega arith)

  outside : (i : ℕ) → (i < 4096 * number + from) ⊎ (4096 * number + from + k ≤ i) → byte_at new i ≡ byte_at old i
  outside i apart = ⊎_elim
      (λ (e : i / 4096 ≡ number).
      here i e
      ∙ put_outside from k block piece (i % 4096) w.size (let long = w.long in let fits = w.fits in omega arith) (place_apart number from k i e apart)
      ∙ w.shows (i % 4096) (omega arith)
      ∙ ap (byte_at old) (omega arith))
      (there i)
      (cases_eq (i / 4096) number)

  kept_or_touched : (q : ℕ) → is_some (get nat_cmp new.whole q) ≡ true → (is_some (get nat_cmp old.whole q) ≡ true) ⊎ Touches 4096 (4096 * number + from) (length piece) q
  kept_or_touched q has = let size = w.size in let some = w.some in let fits = w.fits in ⊎_elim
      (λ (e : q ≡ number). inr (record { place = 4096 * number + from; from = omega arith; below = omega arith; in_part = omega arith }))
      (λ (ne : q ≢ number). inl (ap is_some (sym (w.others q ne)) ∙ has))
      (cases_eq q number)

-- so the piece is written
pub written_whole : (old new : SparseBytes) (number from k : ℕ) (block piece : List ℕ) (kept : Box (List ℕ) Global) → WritesWhole old new number from k block piece kept
    → IsWritten (4096 * number + from) piece old new
written_whole old new number from k block piece kept w =
    written_if old new (4096 * number + from) piece (within old new number from k block piece kept w)
    (λ i apart. outside old new number from k block piece kept w i (subst (λ (n : ℕ). (i < 4096 * number + from) ⊎ (4096 * number + from + n ≤ i)) (sym w.size) apart))
    (kept_or_touched old new number from k block piece kept w)
    (λ c has. inl (subst (λ (cs : Cells). HasCell cs c) w.cells has))

-- the piece is written into the cells of a block that is not kept whole
module _ (old new : SparseBytes) (number from : ℕ) (piece : List ℕ) (whole : new.whole ≡ old.whole) (none : get nat_cmp old.whole number ≡ None)
    (fits : from + length piece ≤ 4096) (writes : WritesCells (4096 * number + from) piece old.cells new.cells) where
  block_same : (q : ℕ) → get nat_cmp new.whole q ≡ get nat_cmp old.whole q
  block_same q = ap (λ m. get nat_cmp m q) whole

  shown_same : (block : Option (Box (List ℕ) Global)) (i : ℕ) → cell_byte new.cells i ≡ cell_byte old.cells i → shown_byte block new.cells i ≡ shown_byte block old.cells i
  shown_same (Some b) i e = refl
  shown_same None i e = e

  beside : (i : ℕ) → (i < 4096 * number + from) ⊎ (4096 * number + from + length piece ≤ i) → byte_at new i ≡ byte_at old i
  beside i apart =
      byte_is new i (i / 4096) (get nat_cmp old.whole (i / 4096)) refl (block_same (i / 4096))
      ∙ shown_same (get nat_cmp old.whole (i / 4096)) i (⊎_elim (writes.bytes.before i) (writes.bytes.after i) apart)
      ∙ sym (byte_is old i (i / 4096) (get nat_cmp old.whole (i / 4096)) refl refl)

  pub in_cells : IsWritten (4096 * number + from) piece old new
  in_cells =
      written_if old new (4096 * number + from) piece
      (λ i l u. byte_is new i number None (omega arith) (block_same number ∙ none) ∙ writes.bytes.within i l u)
      beside
      (λ q is. inl (ap is_some (sym (block_same q)) ∙ is))
      writes.parts

-- ---- blocks that are marked

-- a byte in a block that has no mark
module _ (bytes : SparseBytes) (middle new : List Bool) (is : IsMarkedBut (λ q. is_some (get nat_cmp bytes.whole q) ≡ true) 1 [] middle new) where
  pub covered_block : ((i : ℕ) → i < 64 * 64 * length middle → get_or middle (i / (64 * 64)) false ≡ false → cell_byte bytes.cells i ≡ 0)
      → (i : ℕ) → i < 4096 * length new → get_or new (i / 4096) false ≡ false → byte_at bytes i ≡ 0
  covered_block cells i lt free = split (get nat_cmp bytes.whole (i / 4096)) refl where
    one : i / 4096 / 1 ≡ i / 4096
    one = omega arith

    split : (block : Option (Box (List ℕ) Global)) → get nat_cmp bytes.whole (i / 4096) ≡ block → byte_at bytes i ≡ 0
    split None e = byte_is bytes i (i / 4096) None refl e ∙ cells i (omega (arith, is.room)) (is.kept (i / 4096) free)
    split (Some b) e =
        let marked = is.covered (i / 4096) (ap is_some e) refl (rw one (omega arith)) in
        absurd (cc (rw one at marked, free))

  pub least_block : (old : List Bool) → ((k : ℕ) → get_or old k false ≡ false → get_or middle k false ≡ true → (c : ℕ) × HasCell bytes.cells c × (c / 64 ≡ k))
      → (k : ℕ) → get_or old k false ≡ false → get_or new k false ≡ true → HasBlock bytes k
  least_block old cells k unmarked marked = split (get_or middle k false) refl where
    split : (b : Bool) → get_or middle k false ≡ b → HasBlock bytes k
    split true e = inr (cells k unmarked e)
    split false e =
        let found = is.least k e marked in
        let same : found.0 ≡ k = omega (arith, found.2) in
        inl (subst (λ (q : ℕ). is_some (get nat_cmp bytes.whole q) ≡ true) same found.1)

-- ---- a block as it is lent or copied

pub if_ok : {A E : Type 0} (P Q : A → Type 0) (r : Result A E) → ((x : A) → P x → Q x) → IfOk r P → IfOk r Q
if_ok P Q (Ok x) f h = f x h
if_ok P Q (Err e) f h = tt

pub none_is : {A : Type 0} (o : Option A) → is_some o ≡ false → o ≡ None
none_is None e = refl
none_is (Some x) e = absurd (cc)

-- the bytes of a block that is kept whole
pub whole_bytes : (bytes : SparseBytes) (number : ℕ) (block : Box (List ℕ) Global) → get nat_cmp bytes.whole number ≡ Some block
    → (i : ℕ) → i < 4096 → slice_index block.value i ≡ byte_at bytes (4096 * number + i)
whole_bytes bytes number block is i lt = ap (slice_index block.value) (omega arith) ∙ sym (byte_in bytes number i (Some block) lt is)

-- and of one that is not
pub joined_bytes : (bytes : SparseBytes) (number : ℕ) → get nat_cmp bytes.whole number ≡ None → (i : ℕ) → i < 4096 → cell_byte bytes.cells (4096 * number + i) ≡ byte_at bytes (4096 * number + i)
joined_bytes bytes number none i lt = sym (byte_in bytes number i None lt none)
