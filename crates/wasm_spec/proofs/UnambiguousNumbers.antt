-- Bytes begin with at most one number, one vector, one name.
use Rattle.std.proofs.Common.{◌≡◌, ℕ, ◌+◌, ◌-◌, ◌*◌, ◌^◌, inl, inr, List, [], ◌∷◌, ◌++◌, length, refl, sym, ap, ◌∙◌, subst, arith, ℤ, pos, ◌+ℤ◌, ◌*ℤ◌}
use Rattle.wasm_spec.specs.Numbers.{TakesUnsigned, TakesSigned, TakesEach, TakesVec, TakesBytes, TakesName, IsUnambiguous}

abbrev first : List ℕ → ℕ
first [] = 0
first (b ∷ bytes) = b

abbrev others : List ℕ → List ℕ
others [] = []
others (b ∷ bytes) = bytes

-- the same bytes have the same first byte, and the same bytes after it
pub same_first : {bytes a b : List ℕ} {x y : ℕ} → bytes ≡ x ∷ a → bytes ≡ y ∷ b → x ≡ y
same_first e f = ap first (sym e ∙ f)

pub same_others : {bytes a b : List ℕ} {x y : ℕ} → bytes ≡ x ∷ a → bytes ≡ y ∷ b → a ≡ b
same_others e f = ap others (sym e ∙ f)

pub byte-unique : (x y : ℕ) (bytes r s : List ℕ) → bytes ≡ x ∷ r → bytes ≡ y ∷ s → (x ≡ y) × (r ≡ s)
byte-unique x y bytes r s a b = (same_first a b, same_others a b)

pub unsigned-unique : (n : ℕ) (x y : ℕ) (bytes r s : List ℕ) → TakesUnsigned n x bytes r → TakesUnsigned n y bytes s → (x ≡ y) × (r ≡ s)
unsigned-unique n x y [] r s a b = absurd a
unsigned-unique n x y (c ∷ bytes) r s (inl a) (inl b) = (a.2 ∙ sym b.2, a.3 ∙ sym b.3)
unsigned-unique n x y (c ∷ bytes) r s (inl a) (inr b) = absurd (omega (arith, a.0, b.0))
unsigned-unique n x y (c ∷ bytes) r s (inr a) (inl b) = absurd (omega (arith, a.0, b.0))
unsigned-unique n x y (c ∷ bytes) r s (inr a) (inr b) =
    let i = unsigned-unique (n - 7) a.2 b.2 bytes r s a.3 b.3 in
    (a.4 ∙ ap (λ (m : ℕ). 2 ^ 7 * m + (c - 2 ^ 7)) i.0 ∙ sym b.4, i.1)

pub signed-unique : (n : ℕ) (x y : ℤ) (bytes r s : List ℕ) → TakesSigned n x bytes r → TakesSigned n y bytes s → (x ≡ y) × (r ≡ s)
signed-unique n x y [] r s a b = absurd a
signed-unique n x y (c ∷ bytes) r s (inl a) (inl b) = (a.2 ∙ sym b.2, a.3 ∙ sym b.3)
signed-unique n x y (c ∷ bytes) r s (inl a) (inr (inl b)) = absurd (omega (arith, a.0, b.0))
signed-unique n x y (c ∷ bytes) r s (inl a) (inr (inr b)) = absurd (omega (arith, a.0, b.0))
signed-unique n x y (c ∷ bytes) r s (inr (inl a)) (inl b) = absurd (omega (arith, a.0, b.0))
signed-unique n x y (c ∷ bytes) r s (inr (inl a)) (inr (inl b)) = (a.3 ∙ sym b.3, a.4 ∙ sym b.4)
signed-unique n x y (c ∷ bytes) r s (inr (inl a)) (inr (inr b)) = absurd (omega (arith, a.1, b.0))
signed-unique n x y (c ∷ bytes) r s (inr (inr a)) (inl b) = absurd (omega (arith, a.0, b.0))
signed-unique n x y (c ∷ bytes) r s (inr (inr a)) (inr (inl b)) = absurd (omega (arith, a.0, b.1))
signed-unique n x y (c ∷ bytes) r s (inr (inr a)) (inr (inr b)) =
    let i = signed-unique (n - 7) a.2 b.2 bytes r s a.3 b.3 in
    (a.4 ∙ ap (λ (m : ℤ). (pos (2 ^ 7) *ℤ m) +ℤ pos (c - 2 ^ 7)) i.0 ∙ sym b.4, i.1)

pub each-unique : {A : Type 0} (Takes : A → List ℕ → List ℕ → Type 0) → IsUnambiguous Takes
    → (xs ys : List A) (bytes r s : List ℕ) → length xs ≡ length ys → TakesEach Takes xs bytes r → TakesEach Takes ys bytes s → (xs ≡ ys) × (r ≡ s)
each-unique Takes u [] [] bytes r s e a b = (refl, a ∙ sym b)
each-unique Takes u [] (y ∷ ys) bytes r s e a b = absurd (omega (arith, e))
each-unique Takes u (x ∷ xs) [] bytes r s e a b = absurd (omega (arith, e))
each-unique {A = A} Takes u (x ∷ xs) (y ∷ ys) bytes r s e a b =
    let i = u x y bytes a.0 b.0 a.1 b.1 in
    let j = each-unique Takes u xs ys a.0 r s (omega (arith, e)) a.2 (subst (λ (m : List ℕ). TakesEach Takes ys m s) (sym i.1) b.2) in
    (ap (λ (z : A). z ∷ xs) i.0 ∙ ap (λ (l : List A). y ∷ l) j.0, j.1)

pub vec-unique : {A : Type 0} (Takes : A → List ℕ → List ℕ → Type 0) → IsUnambiguous Takes → IsUnambiguous (TakesVec Takes)
vec-unique Takes u xs ys bytes r s a b =
    let i = unsigned-unique 32 (length xs) (length ys) bytes a.mid b.mid a.count b.count in
    each-unique Takes u xs ys a.mid r s i.0 a.items (subst (λ (m : List ℕ). TakesEach Takes ys m s) (sym i.1) b.items)

append-unique : (xs ys r s : List ℕ) → length xs ≡ length ys → xs ++ r ≡ ys ++ s → (xs ≡ ys) × (r ≡ s)
append-unique [] [] r s e f = (refl, f)
append-unique [] (y ∷ ys) r s e f = absurd (omega (arith, e))
append-unique (x ∷ xs) [] r s e f = absurd (omega (arith, e))
append-unique (x ∷ xs) (y ∷ ys) r s e f =
    let i = append-unique xs ys r s (omega (arith, e)) (ap others f) in
    (ap (λ (z : ℕ). z ∷ xs) (ap first f) ∙ ap (λ (l : List ℕ). y ∷ l) i.0, i.1)

pub bytes-unique : IsUnambiguous TakesBytes
bytes-unique xs ys bytes r s a b =
    let i = unsigned-unique 32 (length xs) (length ys) bytes a.mid b.mid a.count b.count in
    append-unique xs ys r s i.0 (sym a.items ∙ i.1 ∙ b.items)

pub name-unique : IsUnambiguous TakesName
name-unique xs ys bytes r s a b = bytes-unique xs ys bytes r s a.spelled b.spelled
