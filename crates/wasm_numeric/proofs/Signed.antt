-- Numbers as signed values, and back.
use Rattle.std.proofs.Common.{◌≡◌, ℕ, suc, ◌-◌, ◌*◌, ◌^◌, ◌<◌, ◌≤◌, sym, ap, ◌∙◌, arith, inl, inr}
use Rattle.std.specs.Prelude.{ℤ, pos, negsuc, unsigned_abs}
use Rattle.std.specs.Int.Signed.{mag}
use Rattle.std.proofs.lemmas.Bool.{cases_order}
use Rattle.std.proofs.lemmas.Bool.Decides.{nat_tests}
use Rattle.std.proofs.lemmas.Int.{ints}
use Rattle.std.proofs.Math.Nat.{pow-suc}
use Rattle.wasm_spec.specs.Operators.{signed, unsigned}

pub signed-low : (n a : ℕ) → a < 2 ^ (n - 1) → signed n a ≡ pos a
signed-low n a h = grind (arith, nat_tests)

pub signed-high : (n a : ℕ) → 2 ^ (n - 1) ≤ a → a < 2 ^ n → signed n a ≡ negsuc (2 ^ n - suc a)
signed-high n a le h = grind (arith, nat_tests, ints)

pub twice : (n : ℕ) → 0 < n → 2 ^ n ≡ 2 ^ (n - 1) * 2
twice n some = let one_more : suc (n - 1) ≡ n = omega arith in ap (λ (x : ℕ). 2 ^ x) (sym one_more) ∙ pow-suc 2 (n - 1)

-- a number below 2 ^ n is not negative, or negative, as a signed value
pub by_sign : {P : Type 0} (n a : ℕ) → a < 2 ^ n → (a < 2 ^ (n - 1) → signed n a ≡ pos a → P)
    → (2 ^ (n - 1) ≤ a → signed n a ≡ negsuc (2 ^ n - suc a) → P) → P
by_sign n a h low high = elim (cases_order a (2 ^ (n - 1))) [
  | inl same ↦ high (omega arith) (signed-high n a (omega arith) h)
  | inr other ↦ elim other [ inl less ↦ low less (signed-low n a less) | inr more ↦ high (omega arith) (signed-high n a (omega arith) h) ]
]

pub unsigned-signed : (n a : ℕ) → a < 2 ^ n → unsigned n (signed n a) ≡ a
unsigned-signed n a h = by_sign n a h (λ _ e. ap (unsigned n) e) (λ _ e. ap (unsigned n) e ∙ omega arith)

pub signed-unsigned : (n : ℕ) (z : ℤ) → 0 < n → mag z < 2 ^ (n - 1) → signed n (unsigned n z) ≡ z
signed-unsigned n (pos j) some h = signed-low n j h
signed-unsigned n (negsuc j) some h =
    let whole : 2 ^ n ≡ 2 ^ (n - 1) * 2 = twice n some in
    let back : 2 ^ n - suc (2 ^ n - suc j) ≡ j = omega arith in
    signed-high n (2 ^ n - suc j) (omega arith) (omega arith) ∙ ap negsuc back

pub mag-signed : (n a : ℕ) → 0 < n → a < 2 ^ n → mag (signed n a) < 2 ^ (n - 1)
mag-signed n a some h =
    let whole : 2 ^ n ≡ 2 ^ (n - 1) * 2 = twice n some in
    by_sign n a h
    (λ low e. let f : mag (signed n a) ≡ a = ap mag e in omega arith)
    (λ high e. let f : mag (signed n a) ≡ 2 ^ n - suc a = ap mag e in omega arith)

pub signed-some : (n b : ℕ) → 0 < b → b < 2 ^ n → 0 < unsigned_abs (signed n b)
signed-some n b some h = by_sign n b h
    (λ low e. let f : unsigned_abs (signed n b) ≡ b = ap unsigned_abs e in omega arith)
    (λ high e. let f : unsigned_abs (signed n b) ≡ suc (2 ^ n - suc b) = ap unsigned_abs e in omega arith)
