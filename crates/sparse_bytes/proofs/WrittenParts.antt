-- One piece that is written after another.
use Rattle.std.proofs.Common.{◌≡◌, ℕ, ◌+◌, ◌-◌, ◌<◌, ◌≤◌, ◌⊎◌, ⊎_elim, inl, inr, List, length, take, get_or, ap, sym, ◌∙◌, arith}
use Rattle.std.specs.List.{between}
use Rattle.std.proofs.lemmas.Bool.{cases_lt}
use Rattle.std.proofs.lemmas.List.{get_or-take, length-take}
use Rattle.std.proofs.lemmas.List.Edits.{get_or-between, length-between}
use Rattle.sparse_bytes.specs.Written.{IsOver, Touches, Writes}

module _ (bytes : List ℕ) (start done count place : ℕ) (h : done + count ≤ length bytes) (e : place ≡ start + done) where
  short : length (take done bytes) ≡ done
  short = omega (arith, length-take done bytes)

  whole : length (take (done + count) bytes) ≡ done + count
  whole = omega (arith, length-take (done + count) bytes)

  piece : length (between done (done + count) bytes) ≡ count
  piece = omega (arith, length-between bytes done (done + count) h)

  -- the bytes of both pieces
  over_more : (old middle new : ℕ → ℕ) → IsOver start (take done bytes) old middle → IsOver place (between done (done + count) bytes) middle new
      → IsOver start (take (done + count) bytes) old new
  over_more old middle new first second = record {
    within = λ i l u. ⊎_elim
        (λ (b : i < place).
        second.before i b
        ∙ first.within i l (omega (arith, short))
        ∙ get_or-take done bytes (i - start) 0 (omega arith)
        ∙ sym (get_or-take (done + count) bytes (i - start) 0 (omega arith)))
        (λ (b : place ≤ i).
        second.within i b (omega (arith, whole, piece))
        ∙ get_or-between bytes done (done + count) (i - place) 0 (omega (arith, whole))
        ∙ ap (λ (n : ℕ). get_or bytes n 0) (omega arith)
        ∙ sym (get_or-take (done + count) bytes (i - start) 0 (omega (arith, whole))))
        (cases_lt i place);
    before = λ i l. second.before i (omega arith) ∙ first.before i l;
    after = λ i l. second.after i (omega (arith, whole, piece)) ∙ first.after i (omega (arith, whole, short));
  }

  -- and a part that was there, or that one of the pieces touches
  touches_more : (size q : ℕ) (Old Middle New : Type 0) → (Middle → Old ⊎ Touches size start (length (take done bytes)) q)
      → (New → Middle ⊎ Touches size place (length (between done (done + count) bytes)) q) → New → Old ⊎ Touches size start (length (take (done + count) bytes)) q
  touches_more size q Old Middle New first second has = ⊎_elim
      (λ (m : Middle). ⊎_elim
      (λ (o : Old). inl o)
      (λ (t : Touches size start (length (take done bytes)) q). inr (record { place = t.place; from = t.from; below = omega (arith, t.below, short, whole); in_part = t.in_part }))
      (first m))
      (λ (t : Touches size place (length (between done (done + count) bytes)) q). inr (record { place = t.place; from = omega (arith, t.from); below = omega (arith, t.below, piece, whole); in_part = t.in_part }))
      (second has)

  -- the first bytes are written, and those after them over what that left
  pub written_more : (size : ℕ) (old middle new : ℕ → ℕ) (Old Middle New : ℕ → Type 0) → Writes size start (take done bytes) old middle Old Middle
      → Writes size place (between done (done + count) bytes) middle new Middle New → Writes size start (take (done + count) bytes) old new Old New
  written_more size old middle new Old Middle New first second = record {
    bytes = over_more old middle new first.bytes second.bytes;
    parts = λ q has. touches_more size q (Old q) (Middle q) (New q) (first.parts q) (second.parts q) has;
  }
