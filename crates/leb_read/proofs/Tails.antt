-- What is left of bytes after an item.
use Rattle.std.proofs.Common.{◌≡◌, ℕ, ◌-◌, ◌<◌, ◌≤◌, ◌↔◌, inl, inr, List, [], ◌∷◌, ◌++◌, length, take, drop, refl, sym, ap, ◌∙◌, subst, arith, length-append, ℤ, pos, ◌+ℤ◌, ◌*ℤ◌, IsTrue, nat_eq}
use Rattle.std.specs.Prelude.{slice_index_or}
use Rattle.std.proofs.lemmas.List.{drop_at, take-append-drop, length-drop, drop_all, append_assoc, take_all}
use Rattle.std.proofs.lemmas.Bool.{eqb-true, eq-eqb}
use Rattle.wasm_spec.specs.Numbers.{TakesUnsigned, TakesSigned, TakesBytes, TakesName}
use Rattle.leb_read.specs.Reading.{CursorView, rest, IsTail, IsMoved, IsRead}

pub unsigned-tail : (n x : ℕ) (bytes r : List ℕ) → TakesUnsigned n x bytes r → IsTail r bytes
unsigned-tail n x [] r h = absurd h
unsigned-tail n x (b ∷ bytes) r (inl h) = (b ∷ [], ap (λ (l : List ℕ). b ∷ l) (sym h.3))
unsigned-tail n x (b ∷ bytes) r (inr h) =
    let t = unsigned-tail (n - 7) h.2 bytes r h.3 in
    (b ∷ t.0, ap (λ (l : List ℕ). b ∷ l) t.1)

pub signed-tail : (n : ℕ) (x : ℤ) (bytes r : List ℕ) → TakesSigned n x bytes r → IsTail r bytes
signed-tail n x [] r h = absurd h
signed-tail n x (b ∷ bytes) r (inl h) = (b ∷ [], ap (λ (l : List ℕ). b ∷ l) (sym h.3))
signed-tail n x (b ∷ bytes) r (inr (inl h)) = (b ∷ [], ap (λ (l : List ℕ). b ∷ l) (sym h.4))
signed-tail n x (b ∷ bytes) r (inr (inr h)) =
    let t = signed-tail (n - 7) h.2 bytes r h.3 in
    (b ∷ t.0, ap (λ (l : List ℕ). b ∷ l) t.1)

tail-after : (r bytes front mid : List ℕ) → bytes ≡ front ++ mid → IsTail r mid → IsTail r bytes
tail-after r bytes front mid e t = (front ++ t.0, e ∙ ap (λ (l : List ℕ). front ++ l) t.1 ∙ sym (append_assoc front t.0 r))

pub bytes-tail : (xs bytes r : List ℕ) → TakesBytes xs bytes r → IsTail r bytes
bytes-tail xs bytes r h =
    let t = unsigned-tail 32 (length xs) bytes h.mid h.count in
    tail-after r bytes t.0 h.mid t.1 (xs, h.items)

pub name-tail : (xs bytes r : List ℕ) → TakesName xs bytes r → IsTail r bytes
name-tail xs bytes r h = bytes-tail xs bytes r h.spelled

-- a place is told by what is left there
pub moved : (whole r : List ℕ) (place : ℕ) → IsTail r (drop place whole) → drop (length whole - length r) whole ≡ r
moved whole r place t =
    let w = tail-after r whole (take place whole) (drop place whole) (sym (take-append-drop place whole)) t in
    let n : length w.0 ≡ length whole - length r = omega (arith, ap length w.1, length-append w.0 r) in
    ap (drop (length whole - length r)) w.1 ∙ drop_at w.0 r (length whole - length r) n

-- nothing is left exactly at the end
pub left : (p : CursorView) → p.place ≤ length p.whole → IsTrue (nat_eq p.place (length p.whole)) ↔ (rest p ≡ [])
left p h = (
  λ e. drop_all p.place p.whole (omega (arith, eqb-true p.place (length p.whole) e)),
  λ e. eq-eqb p.place (length p.whole) (omega (arith, h, ap length e, length-drop p.place p.whole)),
)

-- going to where r is left
pub goes : (p : CursorView) (r : List ℕ) → p.place ≤ length p.whole → IsTail r (rest p) → IsMoved p (record { whole = p.whole; place = length p.whole - length r }) r
goes p r h t = record {
  whole = refl;
  forth = omega (arith, h, ap length t.1, length-append t.0 r, length-drop p.place p.whole);
  within = omega arith;
  rest = moved p.whole r p.place t;
}

pub shorter : (p : CursorView) (r : List ℕ) → IsTail r (rest p) → length r ≤ length p.whole
shorter p r t = omega (arith, ap length t.1, length-append t.0 r, length-drop p.place p.whole)

-- an item that stood at a place, and the place just after it
pub read_is : {A : Type 0} (Takes : A → List ℕ → List ℕ → Type 0) (x : A) (old new : CursorView) (bytes r : List ℕ)
    → bytes ≡ rest old → Takes x bytes r → IsMoved old new r → IsRead Takes old new x
read_is Takes x old new bytes r e h m = record {
  whole = m.whole;
  forth = m.forth;
  within = m.within;
  spelled = subst (λ (l : List ℕ). Takes x (rest old) l) (sym m.rest) (subst (λ (l : List ℕ). Takes x l r) e h);
}

-- a byte that goes on, before a signed number
pub signed_next : (n : ℕ) (high z : ℤ) (bytes r : List ℕ) → 0 < length bytes → 128 ≤ slice_index_or bytes 0 0 → 7 < n
    → TakesSigned (n - 7) high (take (length bytes - 1) (drop 1 bytes)) r → z ≡ (pos 128 *ℤ high) +ℤ pos (slice_index_or bytes 0 0 - 128)
    → TakesSigned n z bytes r
signed_next n high z [] r some le lt h e = absurd (omega (arith, some))
signed_next n high z (b ∷ bytes) r some le lt h e =
    let all : take (length (b ∷ bytes) - 1) bytes ≡ bytes = take_all (length (b ∷ bytes) - 1) bytes (omega arith) in
    inr (inr (le, lt, high, subst (λ (l : List ℕ). TakesSigned (n - 7) high l r) all h, e))
