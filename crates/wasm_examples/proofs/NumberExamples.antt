-- Spellings of numbers, and bytes that are none.
use Rattle.std.proofs.Common.{◌≡◌, ℕ, ◌-◌, ◌^◌, ◌<◌, ◌≤◌, List, [], ◌∷◌, inl, inr, refl, arith, ℤ, pos}
use Rattle.std.specs.Prelude.{negsuc}
use Rattle.wasm_spec.specs.Numbers.{TakesUnsigned, TakesSigned}

-- ---- unsigned

-- the greatest number of one byte; what follows is left
one_byte : TakesUnsigned 32 127 (0x7F ∷ 0x05 ∷ []) (0x05 ∷ [])
one_byte = inl (omega arith, omega arith, refl, refl)

-- the least of two
two_bytes : TakesUnsigned 32 128 (0x80 ∷ 0x01 ∷ 0x05 ∷ []) (0x05 ∷ [])
two_bytes = inr (omega arith, omega arith, 1, inl (omega arith, omega arith, refl, refl), refl)

-- padded with zeros to five bytes
padded_zero : TakesUnsigned 32 0 (0x80 ∷ 0x80 ∷ 0x80 ∷ 0x80 ∷ 0x00 ∷ 0x05 ∷ []) (0x05 ∷ [])
padded_zero = inr (omega arith, omega arith, 0, inr (omega arith, omega arith, 0, inr (omega arith, omega arith, 0, inr (omega arith, omega arith, 0, inl (omega arith, omega arith, refl, refl), refl), refl), refl), refl)

-- the greatest number of 32 bits
greatest_of_32 : TakesUnsigned 32 4294967295 (0xFF ∷ 0xFF ∷ 0xFF ∷ 0xFF ∷ 0x0F ∷ 0x05 ∷ []) (0x05 ∷ [])
greatest_of_32 = inr (omega arith, omega arith, 33554431, inr (omega arith, omega arith, 262143, inr (omega arith, omega arith, 2047, inr (omega arith, omega arith, 15, inl (omega arith, omega arith, refl, refl), refl), refl), refl), refl)

-- a byte from 128 on says that more bytes follow
goes_on : (n x b : ℕ) (bytes rest : List ℕ) → 2 ^ 7 ≤ b → TakesUnsigned n x (b ∷ bytes) rest → (m : ℕ) × (7 < n) × TakesUnsigned (n - 7) m bytes rest
goes_on n x b bytes rest h (inl a) = absurd (omega (arith, h, a.0))
goes_on n x b bytes rest h (inr a) = (a.2, a.1, a.3)

-- a bit past the 32nd is set, whatever stands behind
pub unused_bits_are_not_zero : (x : ℕ) (behind rest : List ℕ) → TakesUnsigned 32 x (0x80 ∷ 0x80 ∷ 0x80 ∷ 0x80 ∷ 0x10 ∷ behind) rest → ⊥
unused_bits_are_not_zero x behind rest h =
    let a0 = goes_on 32 x 128 (0x80 ∷ 0x80 ∷ 0x80 ∷ 0x10 ∷ behind) rest (omega arith) h in
    let a1 = goes_on 25 a0.0 128 (0x80 ∷ 0x80 ∷ 0x10 ∷ behind) rest (omega arith) a0.2 in
    let a2 = goes_on 18 a1.0 128 (0x80 ∷ 0x10 ∷ behind) rest (omega arith) a1.2 in
    let a3 = goes_on 11 a2.0 128 (0x10 ∷ behind) rest (omega arith) a2.2 in
    elim (a3.2) [ inl b ↦ absurd (omega (arith, b.0, b.1)) | inr b ↦ absurd (omega (arith, b.0, b.1)) ]

-- a sixth byte, whatever the first is and whatever stands behind the fifth
pub goes_on_behind_five : (first x : ℕ) (behind rest : List ℕ) → 2 ^ 7 ≤ first → TakesUnsigned 32 x (first ∷ 0x80 ∷ 0x80 ∷ 0x80 ∷ 0x80 ∷ behind) rest → ⊥
goes_on_behind_five first x behind rest le h =
    let a0 = goes_on 32 x first (0x80 ∷ 0x80 ∷ 0x80 ∷ 0x80 ∷ behind) rest le h in
    let a1 = goes_on 25 a0.0 128 (0x80 ∷ 0x80 ∷ 0x80 ∷ behind) rest (omega arith) a0.2 in
    let a2 = goes_on 18 a1.0 128 (0x80 ∷ 0x80 ∷ behind) rest (omega arith) a1.2 in
    let a3 = goes_on 11 a2.0 128 (0x80 ∷ behind) rest (omega arith) a2.2 in
    elim (a3.2) [ inl b ↦ absurd (omega (arith, b.0, b.1)) | inr b ↦ absurd (omega (arith, b.0, b.1)) ]

six_bytes : (x : ℕ) (rest : List ℕ) → TakesUnsigned 32 x (0x80 ∷ 0x80 ∷ 0x80 ∷ 0x80 ∷ 0x80 ∷ 0x00 ∷ []) rest → ⊥
six_bytes x rest h = goes_on_behind_five 0x80 x (0x00 ∷ []) rest (omega arith) h

-- the second byte of eight bits is the last
three_bytes_of_8_bits : (x : ℕ) (rest : List ℕ) → TakesUnsigned 8 x (0x80 ∷ 0x80 ∷ 0x00 ∷ []) rest → ⊥
three_bytes_of_8_bits x rest (inl a) = absurd (omega (arith, a.0))
three_bytes_of_8_bits x rest (inr a) = elim (a.3) [ inl b ↦ absurd (omega (arith, b.0)) | inr b ↦ absurd (omega (arith, b.1)) ]

-- the bytes end in the middle
cut_off : (x : ℕ) (rest : List ℕ) → TakesUnsigned 32 x (0x80 ∷ []) rest → ⊥
cut_off x rest h =
    let a0 = goes_on 32 x 128 ([]) rest (omega arith) h in
    a0.2

-- ---- signed

-- bit 6 of the last byte is the sign
minus_one : TakesSigned 32 (negsuc 0) (0x7F ∷ 0x05 ∷ []) (0x05 ∷ [])
minus_one = inr (inl (omega arith, omega arith, omega arith, refl, refl))

-- the greatest of one byte
sixty_three : TakesSigned 32 (pos 63) (0x3F ∷ 0x05 ∷ []) (0x05 ∷ [])
sixty_three = inl (omega arith, omega arith, refl, refl)

-- one more takes two
sixty_four : TakesSigned 32 (pos 64) (0xC0 ∷ 0x00 ∷ 0x05 ∷ []) (0x05 ∷ [])
sixty_four = inr (inr (omega arith, omega arith, (pos 0), inl (omega arith, omega arith, refl, refl), refl))

-- the least of one byte
minus_sixty_four : TakesSigned 32 (negsuc 63) (0x40 ∷ 0x05 ∷ []) (0x05 ∷ [])
minus_sixty_four = inr (inl (omega arith, omega arith, omega arith, refl, refl))

-- padded with copies of the sign to five bytes
padded_minus_one : TakesSigned 32 (negsuc 0) (0xFF ∷ 0xFF ∷ 0xFF ∷ 0xFF ∷ 0x7F ∷ 0x05 ∷ []) (0x05 ∷ [])
padded_minus_one = inr (inr (omega arith, omega arith, (negsuc 0), inr (inr (omega arith, omega arith, (negsuc 0), inr (inr (omega arith, omega arith, (negsuc 0), inr (inr (omega arith, omega arith, (negsuc 0), inr (inl (omega arith, omega arith, omega arith, refl, refl)), refl)), refl)), refl)), refl))

-- the greatest of 32 bits
greatest_signed_of_32 : TakesSigned 32 (pos 2147483647) (0xFF ∷ 0xFF ∷ 0xFF ∷ 0xFF ∷ 0x07 ∷ 0x05 ∷ []) (0x05 ∷ [])
greatest_signed_of_32 = inr (inr (omega arith, omega arith, (pos 16777215), inr (inr (omega arith, omega arith, (pos 131071), inr (inr (omega arith, omega arith, (pos 1023), inr (inr (omega arith, omega arith, (pos 7), inl (omega arith, omega arith, refl, refl), refl)), refl)), refl)), refl))

-- the least of 32 bits
least_signed_of_32 : TakesSigned 32 (negsuc 2147483647) (0x80 ∷ 0x80 ∷ 0x80 ∷ 0x80 ∷ 0x78 ∷ 0x05 ∷ []) (0x05 ∷ [])
least_signed_of_32 = inr (inr (omega arith, omega arith, (negsuc 16777215), inr (inr (omega arith, omega arith, (negsuc 131071), inr (inr (omega arith, omega arith, (negsuc 1023), inr (inr (omega arith, omega arith, (negsuc 7), inr (inl (omega arith, omega arith, omega arith, refl, refl)), refl)), refl)), refl)), refl))

-- the least of 64 bits, in ten bytes
least_signed_of_64 : TakesSigned 64 (negsuc 9223372036854775807) (0x80 ∷ 0x80 ∷ 0x80 ∷ 0x80 ∷ 0x80 ∷ 0x80 ∷ 0x80 ∷ 0x80 ∷ 0x80 ∷ 0x7F ∷ 0x05 ∷ []) (0x05 ∷ [])
least_signed_of_64 = inr (inr (omega arith, omega arith, (negsuc 72057594037927935), inr (inr (omega arith, omega arith, (negsuc 562949953421311), inr (inr (omega arith, omega arith, (negsuc 4398046511103), inr (inr (omega arith, omega arith, (negsuc 34359738367), inr (inr (omega arith, omega arith, (negsuc 268435455), inr (inr (omega arith, omega arith, (negsuc 2097151), inr (inr (omega arith, omega arith, (negsuc 16383), inr (inr (omega arith, omega arith, (negsuc 127), inr (inr (omega arith, omega arith, (negsuc 0), inr (inl (omega arith, omega arith, omega arith, refl, refl)), refl)), refl)), refl)), refl)), refl)), refl)), refl)), refl)), refl))

-- the greatest of 64 bits
greatest_signed_of_64 : TakesSigned 64 (pos 9223372036854775807) (0xFF ∷ 0xFF ∷ 0xFF ∷ 0xFF ∷ 0xFF ∷ 0xFF ∷ 0xFF ∷ 0xFF ∷ 0xFF ∷ 0x00 ∷ 0x05 ∷ []) (0x05 ∷ [])
greatest_signed_of_64 = inr (inr (omega arith, omega arith, (pos 72057594037927935), inr (inr (omega arith, omega arith, (pos 562949953421311), inr (inr (omega arith, omega arith, (pos 4398046511103), inr (inr (omega arith, omega arith, (pos 34359738367), inr (inr (omega arith, omega arith, (pos 268435455), inr (inr (omega arith, omega arith, (pos 2097151), inr (inr (omega arith, omega arith, (pos 16383), inr (inr (omega arith, omega arith, (pos 127), inr (inr (omega arith, omega arith, (pos 0), inl (omega arith, omega arith, refl, refl), refl)), refl)), refl)), refl)), refl)), refl)), refl)), refl)), refl))

-- no byte whose bit 6 is set spells a number from 0 on
bit_6_is_the_sign : (rest : List ℕ) → TakesSigned 32 (pos 127) (0x7F ∷ []) rest → ⊥
bit_6_is_the_sign rest (inl a) = absurd (omega (arith, a.0))
bit_6_is_the_sign rest (inr (inl a)) = let e : pos 127 ≡ negsuc 0 = a.3 in cc (e)
bit_6_is_the_sign rest (inr (inr a)) = absurd (omega (arith, a.0))

signed_goes_on : (n : ℕ) (x : ℤ) (b : ℕ) (bytes rest : List ℕ) → 2 ^ 7 ≤ b → TakesSigned n x (b ∷ bytes) rest → (m : ℤ) × (7 < n) × TakesSigned (n - 7) m bytes rest
signed_goes_on n x b bytes rest h (inl a) = absurd (omega (arith, h, a.0))
signed_goes_on n x b bytes rest h (inr (inl a)) = absurd (omega (arith, h, a.1))
signed_goes_on n x b bytes rest h (inr (inr a)) = (a.2, a.1, a.3)

-- the 32nd bit is set, and what lies above it is not
pub sign_is_not_copied : (x : ℤ) (rest : List ℕ) → TakesSigned 32 x (0x80 ∷ 0x80 ∷ 0x80 ∷ 0x80 ∷ 0x08 ∷ []) rest → ⊥
sign_is_not_copied x rest h =
    let a0 = signed_goes_on 32 x 128 (0x80 ∷ 0x80 ∷ 0x80 ∷ 0x08 ∷ []) rest (omega arith) h in
    let a1 = signed_goes_on 25 a0.0 128 (0x80 ∷ 0x80 ∷ 0x08 ∷ []) rest (omega arith) a0.2 in
    let a2 = signed_goes_on 18 a1.0 128 (0x80 ∷ 0x08 ∷ []) rest (omega arith) a1.2 in
    let a3 = signed_goes_on 11 a2.0 128 (0x08 ∷ []) rest (omega arith) a2.2 in
    elim (a3.2) [ inl b ↦ absurd (omega (arith, b.0, b.1)) | inr b ↦ elim b [ inl d ↦ absurd (omega (arith, d.0, d.1, d.2)) | inr d ↦ absurd (omega (arith, d.0, d.1)) ] ]

-- the bits above the 32nd are not all alike
sign_is_copied_in_part : (x : ℤ) (rest : List ℕ) → TakesSigned 32 x (0xFF ∷ 0xFF ∷ 0xFF ∷ 0xFF ∷ 0x4F ∷ []) rest → ⊥
sign_is_copied_in_part x rest h =
    let a0 = signed_goes_on 32 x 255 (0xFF ∷ 0xFF ∷ 0xFF ∷ 0x4F ∷ []) rest (omega arith) h in
    let a1 = signed_goes_on 25 a0.0 255 (0xFF ∷ 0xFF ∷ 0x4F ∷ []) rest (omega arith) a0.2 in
    let a2 = signed_goes_on 18 a1.0 255 (0xFF ∷ 0x4F ∷ []) rest (omega arith) a1.2 in
    let a3 = signed_goes_on 11 a2.0 255 (0x4F ∷ []) rest (omega arith) a2.2 in
    elim (a3.2) [ inl b ↦ absurd (omega (arith, b.0, b.1)) | inr b ↦ elim b [ inl d ↦ absurd (omega (arith, d.0, d.1, d.2)) | inr d ↦ absurd (omega (arith, d.0, d.1)) ] ]

-- the 64th bit is set, and what lies above it is not
pub sign_of_64_is_not_copied : (x : ℤ) (rest : List ℕ) → TakesSigned 64 x (0x80 ∷ 0x80 ∷ 0x80 ∷ 0x80 ∷ 0x80 ∷ 0x80 ∷ 0x80 ∷ 0x80 ∷ 0x80 ∷ 0x01 ∷ []) rest → ⊥
sign_of_64_is_not_copied x rest h =
    let a0 = signed_goes_on 64 x 128 (0x80 ∷ 0x80 ∷ 0x80 ∷ 0x80 ∷ 0x80 ∷ 0x80 ∷ 0x80 ∷ 0x80 ∷ 0x01 ∷ []) rest (omega arith) h in
    let a1 = signed_goes_on 57 a0.0 128 (0x80 ∷ 0x80 ∷ 0x80 ∷ 0x80 ∷ 0x80 ∷ 0x80 ∷ 0x80 ∷ 0x01 ∷ []) rest (omega arith) a0.2 in
    let a2 = signed_goes_on 50 a1.0 128 (0x80 ∷ 0x80 ∷ 0x80 ∷ 0x80 ∷ 0x80 ∷ 0x80 ∷ 0x01 ∷ []) rest (omega arith) a1.2 in
    let a3 = signed_goes_on 43 a2.0 128 (0x80 ∷ 0x80 ∷ 0x80 ∷ 0x80 ∷ 0x80 ∷ 0x01 ∷ []) rest (omega arith) a2.2 in
    let a4 = signed_goes_on 36 a3.0 128 (0x80 ∷ 0x80 ∷ 0x80 ∷ 0x80 ∷ 0x01 ∷ []) rest (omega arith) a3.2 in
    let a5 = signed_goes_on 29 a4.0 128 (0x80 ∷ 0x80 ∷ 0x80 ∷ 0x01 ∷ []) rest (omega arith) a4.2 in
    let a6 = signed_goes_on 22 a5.0 128 (0x80 ∷ 0x80 ∷ 0x01 ∷ []) rest (omega arith) a5.2 in
    let a7 = signed_goes_on 15 a6.0 128 (0x80 ∷ 0x01 ∷ []) rest (omega arith) a6.2 in
    let a8 = signed_goes_on 8 a7.0 128 (0x01 ∷ []) rest (omega arith) a7.2 in
    elim (a8.2) [ inl b ↦ absurd (omega (arith, b.0, b.1)) | inr b ↦ elim b [ inl d ↦ absurd (omega (arith, d.0, d.1, d.2)) | inr d ↦ absurd (omega (arith, d.0, d.1)) ] ]

-- an eleventh byte
eleven_bytes : (x : ℤ) (rest : List ℕ) → TakesSigned 64 x (0xFF ∷ 0xFF ∷ 0xFF ∷ 0xFF ∷ 0xFF ∷ 0xFF ∷ 0xFF ∷ 0xFF ∷ 0xFF ∷ 0xFF ∷ 0x7F ∷ []) rest → ⊥
eleven_bytes x rest h =
    let a0 = signed_goes_on 64 x 255 (0xFF ∷ 0xFF ∷ 0xFF ∷ 0xFF ∷ 0xFF ∷ 0xFF ∷ 0xFF ∷ 0xFF ∷ 0xFF ∷ 0x7F ∷ []) rest (omega arith) h in
    let a1 = signed_goes_on 57 a0.0 255 (0xFF ∷ 0xFF ∷ 0xFF ∷ 0xFF ∷ 0xFF ∷ 0xFF ∷ 0xFF ∷ 0xFF ∷ 0x7F ∷ []) rest (omega arith) a0.2 in
    let a2 = signed_goes_on 50 a1.0 255 (0xFF ∷ 0xFF ∷ 0xFF ∷ 0xFF ∷ 0xFF ∷ 0xFF ∷ 0xFF ∷ 0x7F ∷ []) rest (omega arith) a1.2 in
    let a3 = signed_goes_on 43 a2.0 255 (0xFF ∷ 0xFF ∷ 0xFF ∷ 0xFF ∷ 0xFF ∷ 0xFF ∷ 0x7F ∷ []) rest (omega arith) a2.2 in
    let a4 = signed_goes_on 36 a3.0 255 (0xFF ∷ 0xFF ∷ 0xFF ∷ 0xFF ∷ 0xFF ∷ 0x7F ∷ []) rest (omega arith) a3.2 in
    let a5 = signed_goes_on 29 a4.0 255 (0xFF ∷ 0xFF ∷ 0xFF ∷ 0xFF ∷ 0x7F ∷ []) rest (omega arith) a4.2 in
    let a6 = signed_goes_on 22 a5.0 255 (0xFF ∷ 0xFF ∷ 0xFF ∷ 0x7F ∷ []) rest (omega arith) a5.2 in
    let a7 = signed_goes_on 15 a6.0 255 (0xFF ∷ 0xFF ∷ 0x7F ∷ []) rest (omega arith) a6.2 in
    let a8 = signed_goes_on 8 a7.0 255 (0xFF ∷ 0x7F ∷ []) rest (omega arith) a7.2 in
    elim (a8.2) [ inl b ↦ absurd (omega (arith, b.0, b.1)) | inr b ↦ elim b [ inl d ↦ absurd (omega (arith, d.0, d.1, d.2)) | inr d ↦ absurd (omega (arith, d.0, d.1)) ] ]

-- the second byte of eight bits is the last
three_bytes_of_8_signed_bits : (x : ℤ) (rest : List ℕ) → TakesSigned 8 x (0xFF ∷ 0xFF ∷ 0x7F ∷ []) rest → ⊥
three_bytes_of_8_signed_bits x rest (inl a) = absurd (omega (arith, a.0))
three_bytes_of_8_signed_bits x rest (inr (inl a)) = absurd (omega (arith, a.1))
three_bytes_of_8_signed_bits x rest (inr (inr a)) = elim (a.3) [ inl b ↦ absurd (omega (arith, b.0)) | inr b ↦ elim b [ inl d ↦ absurd (omega (arith, d.1)) | inr d ↦ absurd (omega (arith, d.1)) ] ]
