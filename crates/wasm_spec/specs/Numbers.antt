-- Numbers, vectors and names in the binary format. Source: WebAssembly Core Specification 1.0, sections 5.1.3, 5.2.1,
-- 5.2.2 and 5.2.4.
--
-- Each relation `TakesX x bytes rest` says that the bytes begin with a spelling of x, and that rest follows it.
use Rattle.std.specs.Prelude.{◌≡◌, ℕ, ◌+◌, ◌-◌, ◌*◌, ◌^◌, ◌<◌, ◌≤◌, ◌⊎◌, List, [], ◌∷◌, ◌++◌, length, ℤ, pos, ◌+ℤ◌, ◌-ℤ◌, ◌*ℤ◌, IsUtf8}

-- An unsigned number of n bits (section 5.2.2): each byte has seven bits of it, the lowest ones first, and a byte of
-- 2 ^ 7 or above says that more bytes follow.
abbrev pub TakesUnsigned : (n x : ℕ) → (bytes rest : List ℕ) → Type 0
TakesUnsigned n x [] rest = ⊥
TakesUnsigned n x (b ∷ bytes) rest =
    ((b < 2 ^ 7) × (b < 2 ^ n) × (x ≡ b) × (rest ≡ bytes))
    ⊎ ((2 ^ 7 ≤ b) × (7 < n) × (m : ℕ) × TakesUnsigned (n - 7) m bytes rest × (x ≡ 2 ^ 7 * m + (b - 2 ^ 7)))

-- A signed number of n bits (section 5.2.2): likewise, where bit 6 of the last byte is the sign.
abbrev pub TakesSigned : (n : ℕ) → (x : ℤ) → (bytes rest : List ℕ) → Type 0
TakesSigned n x [] rest = ⊥
TakesSigned n x (b ∷ bytes) rest =
    ((b < 2 ^ 6) × (b < 2 ^ (n - 1)) × (x ≡ pos b) × (rest ≡ bytes))
    ⊎ ((2 ^ 6 ≤ b) × (b < 2 ^ 7) × (2 ^ 7 ≤ b + 2 ^ (n - 1)) × (x ≡ pos b -ℤ pos (2 ^ 7)) × (rest ≡ bytes))
    ⊎ ((2 ^ 7 ≤ b) × (7 < n) × (m : ℤ) × TakesSigned (n - 7) m bytes rest × (x ≡ (pos (2 ^ 7) *ℤ m) +ℤ pos (b - 2 ^ 7)))

-- this byte, and behind it what is said of the bytes that follow
abbrev pub Behind : ℕ → (List ℕ → Type 0) → List ℕ → Type 0
Behind b Is bytes = (after : List ℕ) × (bytes ≡ b ∷ after) × Is after

-- these items, one after the other
abbrev pub TakesEach : {A : Type 0} → (A → List ℕ → List ℕ → Type 0) → (xs : List A) → (bytes rest : List ℕ) → Type 0
TakesEach Takes [] bytes rest = rest ≡ bytes
TakesEach Takes (x ∷ xs) bytes rest = (mid : List ℕ) × Takes x bytes mid × TakesEach Takes xs mid rest

-- a vector (section 5.1.3): a count, and that many items
pub record TakesVec {A : Type 0} (Takes : A → List ℕ → List ℕ → Type 0) (xs : List A) (bytes rest : List ℕ) : Type 0 where
  pub mid : List ℕ
  pub count : TakesUnsigned 32 (length xs) bytes mid
  pub items : TakesEach Takes xs mid rest

-- a vector of bytes: a count, and that many bytes
pub record TakesBytes (xs bytes rest : List ℕ) : Type 0 where
  pub mid : List ℕ
  pub count : TakesUnsigned 32 (length xs) bytes mid
  pub items : mid ≡ xs ++ rest

-- a name (section 5.2.4): a vector of bytes that are UTF-8
pub record TakesName (name bytes rest : List ℕ) : Type 0 where
  pub spelled : TakesBytes name bytes rest
  pub utf8 : IsUtf8 name

-- bytes begin with at most one of these
abbrev pub IsUnambiguous : {A : Type 0} → (A → List ℕ → List ℕ → Type 0) → Type 0
IsUnambiguous {A} Takes = (x y : A) (bytes r s : List ℕ) → Takes x bytes r → Takes y bytes s → (x ≡ y) × (r ≡ s)
