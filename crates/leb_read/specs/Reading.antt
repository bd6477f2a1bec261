-- What a read of an item at a place in bytes says.
use Rattle.std.specs.Prelude.{◌≡◌, ℕ, ◌≤◌, List, ◌∷◌, ◌++◌, drop, length}

-- a place in bytes
pub record CursorView : Type 0 where
  pub whole : List ℕ
  pub place : ℕ

-- the bytes from there on
abbrev pub rest : CursorView → List ℕ
rest p = drop p.place p.whole

-- these bytes end the others
abbrev pub IsTail : List ℕ → List ℕ → Type 0
IsTail left bytes = (front : List ℕ) × (bytes ≡ front ++ left)

-- the new place is where these bytes are left
pub record IsMoved (old new : CursorView) (left : List ℕ) : Type 0 where
  pub whole : new.whole ≡ old.whole
  pub forth : old.place ≤ new.place
  pub within : new.place ≤ length new.whole
  pub rest : rest new ≡ left

-- the item x stood at the old place, and the new one is just after it
pub record IsRead {A : Type 0} (Takes : A → List ℕ → List ℕ → Type 0) (old new : CursorView) (x : A) : Type 0 where
  pub whole : new.whole ≡ old.whole
  pub forth : old.place ≤ new.place
  pub within : new.place ≤ length new.whole
  pub spelled : Takes x (rest old) (rest new)

-- no such item stands there; the place stays, and the refusal names it
pub record IsRefused {A : Type 0} (Takes : A → List ℕ → List ℕ → Type 0) (old new : CursorView) (at : ℕ) : Type 0 where
  pub stays : new ≡ old
  pub place : at ≡ old.place
  pub none : (x : A) (after : List ℕ) → Takes x (rest old) after → ⊥

-- a byte, and so many bytes
abbrev pub TakesByte : ℕ → List ℕ → List ℕ → Type 0
TakesByte b bytes after = bytes ≡ b ∷ after

abbrev pub TakesSlice : ℕ → List ℕ → List ℕ → List ℕ → Type 0
TakesSlice n xs bytes after = (length xs ≡ n) × (bytes ≡ xs ++ after)
