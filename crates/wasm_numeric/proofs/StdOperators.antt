-- The operators in the words of std, whose calls the code makes.
use Rattle.std.proofs.Common.{◌≡◌, ℕ, zero, suc, ◌+◌, ◌-◌, ◌*◌, ◌/◌, ◌%◌, ◌^◌, ◌<◌, List, [], ◌∷◌, length, Bool, refl, sym, ap, ◌∙◌, subst, arith, zero-add}
use Rattle.std.specs.Prelude.{reverse, ◌==◌, cond, bit_or}
use Rattle.std.specs.List.{prefix_len, suffix_len}
use Rattle.std.specs.Int.{rotate_left, rotate_right}
use Rattle.std.specs.Int.Count.{ones, ones_step, count_leading_zeros, leading_of_zero, leading_top, count_trailing_zeros, under}
use Rattle.std.specs.Int.Bits.{or_shifted, or_shifted_r, or_self}
use Rattle.std.proofs.lemmas.Bool.Decides.{nat_tests}
use Rattle.std.proofs.lemmas.List.{length-reverse, reverse-append}
use Rattle.std.proofs.lemmas.List.Folds.{prefix_len-append}
use Rattle.std.proofs.lemmas.List.Sums.{sum_by_from}
use Rattle.std.proofs.lemmas.Nat.{mod-pow-add, pow_pos}
use Rattle.std.proofs.Math.Nat.{pow-suc, add_comm, add-zero, mul-one, sub-zero, div-one, div-eq_of_lt, mod_self, mod-eq_of_lt, mul-mod_left, mul-div_cancel}
use Rattle.std.proofs.Math.Path.{ap₂}
use Rattle.std.proofs.Math.Pow.{shr_lt}
use Rattle.wasm_types.specs.declared.instr.Width.{Width}
use Rattle.wasm_types.specs.declared.instr.Width.TheVariants.{W32, W64}
use Rattle.wasm_spec.specs.Operators.{int_width}
use Rattle.wasm_spec.specs.Operators.{bit_width, binary_digits, rotl, rotr}
use Rattle.wasm_numeric.specs.Operators.{clz, ctz, popcnt}

-- ---- counts

abbrev zero_digit : ℕ → Bool
zero_digit d = d == 0

trailing-step : (d : ℕ) (rest : List ℕ) (t : ℕ) → prefix_len zero_digit rest ≡ t → prefix_len zero_digit (d ∷ rest) ≡ under d t
trailing-step zero rest t e = ap (λ (x : ℕ). 1 + x) e ∙ omega arith
trailing-step (suc d) rest t e = grind (arith, nat_tests)

pub ctz_in_std : (n i : ℕ) → ctz n i ≡ count_trailing_zeros n i
unfolding binary_digits count_trailing_zeros
ctz_in_std zero i = refl
ctz_in_std (suc n) i = trailing-step (i % 2) (binary_digits n (i / 2)) (count_trailing_zeros n (i / 2)) (ctz_in_std n (i / 2))

half-below : (n i : ℕ) → i < 2 ^ suc n → i / 2 < 2 ^ n
half-below n i h = let e : 2 ^ suc n ≡ 2 ^ n * 2 = pow-suc 2 n in omega arith

no-ones : (i : ℕ) → i < 2 ^ 0 → 0 ≡ ones i
unfolding ones
no-ones i h = let e : 0 ≡ i = omega arith in ap ones e

pub popcnt_in_std : (n i : ℕ) → i < 2 ^ n → popcnt n i ≡ ones i
unfolding binary_digits
popcnt_in_std zero i h = no-ones i h
popcnt_in_std (suc n) i h =
    sum_by_from (λ x. x) (0 + i % 2) (binary_digits n (i / 2))
    ∙ ap (λ (x : ℕ). 0 + i % 2 + x) (popcnt_in_std n (i / 2) (half-below n i h))
    ∙ ap (λ (x : ℕ). x + ones (i / 2)) (zero-add (i % 2))
    ∙ sym (ones_step i)

pub digits-length : (n i : ℕ) → length (binary_digits n i) ≡ n
unfolding binary_digits
digits-length zero i = refl
digits-length (suc n) i = ap suc (digits-length n (i / 2))

-- all of the digits above the lowest are zeros, or not
leading-step : (n d c : ℕ) (upper : List ℕ) → length upper ≡ n → suffix_len zero_digit upper ≡ c
    → suffix_len zero_digit (d ∷ upper) ≡ cond (c == n) (n + prefix_len zero_digit (d ∷ [])) c
leading-step n d c upper l e =
    ap (prefix_len zero_digit) (reverse-append (d ∷ []) upper)
    ∙ prefix_len-append zero_digit (reverse upper) (d ∷ [])
    ∙ ap (λ (x : ℕ). cond (suffix_len zero_digit upper == x) (x + prefix_len zero_digit (d ∷ [])) (suffix_len zero_digit upper)) (length-reverse upper ∙ l)
    ∙ ap (λ (x : ℕ). cond (x == n) (n + prefix_len zero_digit (d ∷ [])) x) e

-- a number whose n digits are all zeros
leading-all : (n a : ℕ) → a < 2 ^ n → count_leading_zeros n a ≡ n → a ≡ 0
leading-all n zero h e = refl
leading-all n (suc a) h e = let (j, s, low, high) = leading_top n (suc a) (omega arith) h in absurd (omega (arith, s, e))

leading-odd : (n i : ℕ) (c : ℕ) → suc i / 2 < 2 ^ n → count_leading_zeros n (suc i / 2) ≡ c → cond (c == n) (n + prefix_len zero_digit (suc i % 2 ∷ [])) c ≡ c
leading-odd n i c h e =
    let odd : c ≡ n → suc i % 2 ≡ 1 = λ same. let none = leading-all n (suc i / 2) h (e ∙ same) in omega (arith, none) in
    grind (arith, nat_tests)

pub clz_in_std : (n i : ℕ) → i < 2 ^ n → clz n i ≡ count_leading_zeros n i
unfolding binary_digits count_leading_zeros
clz_in_std zero i h = refl
clz_in_std (suc n) zero h =
    leading-step n 0 n (binary_digits n 0) (digits-length n 0) (clz_in_std n 0 (half-below n 0 h) ∙ leading_of_zero n)
    ∙ grind (arith, nat_tests)
clz_in_std (suc n) (suc i) h =
    let c : ℕ = count_leading_zeros n (suc i / 2) in
    leading-step n (suc i % 2) c (binary_digits n (suc i / 2)) (digits-length n (suc i / 2)) (clz_in_std n (suc i / 2) (half-below n (suc i) h))
    ∙ leading-odd n i c (half-below n (suc i) h) refl

-- ---- rotations

-- the digits that stay, moved up
pub moved-up : (a m k : ℕ) → a * 2 ^ k % 2 ^ (m + k) ≡ a % 2 ^ m * 2 ^ k
moved-up a m k =
    mod-pow-add (a * 2 ^ k) m k
    ∙ ap₂ (λ (x y : ℕ). x % 2 ^ m * 2 ^ k + y) (mul-div_cancel a (pow_pos k)) (mul-mod_left a (2 ^ k))
    ∙ add-zero (a % 2 ^ m * 2 ^ k)

rotated : (n a k : ℕ) → a < 2 ^ n → k < n → a * 2 ^ k % 2 ^ n + a / 2 ^ (n - k) ≡ bit_or (a * 2 ^ k % 2 ^ n) (a / 2 ^ ((n - k) % n))
rotated n a zero h lt =
    let whole : a * 1 % 2 ^ n ≡ a = ap (λ (x : ℕ). x % 2 ^ n) (mul-one a) ∙ mod-eq_of_lt h in
    let none : a / 2 ^ (n - 0) ≡ 0 = ap (λ (x : ℕ). a / 2 ^ x) (sub-zero n) ∙ div-eq_of_lt h in
    let again : a / 2 ^ ((n - 0) % n) ≡ a = ap (λ (x : ℕ). a / 2 ^ (x % n)) (sub-zero n) ∙ ap (λ (x : ℕ). a / 2 ^ x) (mod_self n) ∙ div-one a in
    ap₂ (λ (x y : ℕ). x + y) whole none ∙ add-zero a ∙ sym (ap₂ (λ (x y : ℕ). bit_or x y) whole again ∙ or_self a)
rotated n a (suc k) h lt =
    let m : ℕ = n - suc k in
    let whole : m + suc k ≡ n = omega arith in
    let up : a * 2 ^ suc k % 2 ^ n ≡ a % 2 ^ m * 2 ^ suc k = ap (λ (x : ℕ). a * 2 ^ suc k % 2 ^ x) (sym whole) ∙ moved-up a m (suc k) in
    let down : a / 2 ^ (m % n) ≡ a / 2 ^ m = ap (λ (x : ℕ). a / 2 ^ x) (mod-eq_of_lt (omega arith)) in
    let fits : a / 2 ^ m < 2 ^ suc k = shr_lt (suc k) m (subst (λ (x : ℕ). a < 2 ^ x) (sym whole ∙ add_comm m (suc k)) h) in
    ap (λ (x : ℕ). x + a / 2 ^ m) up ∙ sym (ap₂ (λ (x y : ℕ). bit_or x y) up down ∙ or_shifted (a % 2 ^ m) (suc k) (a / 2 ^ m) fits)

rotated-right : (n a k : ℕ) → a < 2 ^ n → k < n → a / 2 ^ k + a * 2 ^ (n - k) % 2 ^ n ≡ bit_or (a / 2 ^ k) (a * 2 ^ ((n - k) % n) % 2 ^ n)
rotated-right n a zero h lt =
    let whole : a / 1 ≡ a = div-one a in
    let none : a * 2 ^ (n - 0) % 2 ^ n ≡ 0 = ap (λ (x : ℕ). a * 2 ^ x % 2 ^ n) (sub-zero n) ∙ mul-mod_left a (2 ^ n) in
    let again : a * 2 ^ ((n - 0) % n) % 2 ^ n ≡ a = ap (λ (x : ℕ). a * 2 ^ (x % n) % 2 ^ n) (sub-zero n) ∙ ap (λ (x : ℕ). a * 2 ^ x % 2 ^ n) (mod_self n) ∙ ap (λ (x : ℕ). x % 2 ^ n) (mul-one a) ∙ mod-eq_of_lt h in
    ap₂ (λ (x y : ℕ). x + y) whole none ∙ add-zero a ∙ sym (ap₂ (λ (x y : ℕ). bit_or x y) whole again ∙ or_self a)
rotated-right n a (suc k) h lt =
    let m : ℕ = n - suc k in
    let whole : suc k + m ≡ n = omega arith in
    let up : a * 2 ^ m % 2 ^ n ≡ a % 2 ^ suc k * 2 ^ m = ap (λ (x : ℕ). a * 2 ^ m % 2 ^ x) (sym whole) ∙ moved-up a (suc k) m in
    let same : a * 2 ^ (m % n) % 2 ^ n ≡ a * 2 ^ m % 2 ^ n = ap (λ (x : ℕ). a * 2 ^ x % 2 ^ n) (mod-eq_of_lt (omega arith)) in
    let fits : a / 2 ^ suc k < 2 ^ m = shr_lt m (suc k) (subst (λ (x : ℕ). a < 2 ^ x) (sym whole ∙ add_comm (suc k) m) h) in
    ap (λ (x : ℕ). a / 2 ^ suc k + x) up ∙ add_comm (a / 2 ^ suc k) (a % 2 ^ suc k * 2 ^ m)
    ∙ sym (ap (λ (y : ℕ). bit_or (a / 2 ^ suc k) y) (same ∙ up) ∙ or_shifted_r (a % 2 ^ suc k) m (a / 2 ^ suc k) fits)

pub rotl_in_std : (w : Width) (a b : ℕ) → a < 2 ^ bit_width w → rotl (bit_width w) a b ≡ rotate_left (int_width w) a b
rotl_in_std W32 a b h = rotated 32 a (b % 32) h (omega arith)
rotl_in_std W64 a b h = rotated 64 a (b % 64) h (omega arith)

pub rotr_in_std : (w : Width) (a b : ℕ) → a < 2 ^ bit_width w → rotr (bit_width w) a b ≡ rotate_right (int_width w) a b
rotr_in_std W32 a b h = rotated-right 32 a (b % 32) h (omega arith)
rotr_in_std W64 a b h = rotated-right 64 a (b % 64) h (omega arith)
