-- Numbers in their longest form, the greatest and the least ones, and sequences that close within each other.
use Rattle.std.proofs.Common.{ℕ, ◌+◌, ◌<◌, ◌^◌, inl, inr, List, [], ◌∷◌, length, refl, sym, arith, append-nil, pos}
use Rattle.std.specs.Prelude.{Some, None, replicate, negsuc}
use Rattle.std.proofs.lemmas.List.{length-replicate}
use Rattle.wasm_values.specs.declared.profile.Profile.TheVariants.{One}
use Rattle.wasm_types.specs.declared.types.ValType.TheVariants.{I32}
use Rattle.wasm_values.specs.declared.outcome.Val.TheVariants as val
use Rattle.wasm_types.specs.declared.instr.Width.TheVariants.{W32}
use Rattle.wasm_types.specs.declared.instr.Instr.TheVariants as instr
use Rattle.wasm_types.specs.Tree.{End, Block, Loop, If, Call, CallIndirect}
use Rattle.wasm_spec.specs.Numbers.{TakesUnsigned, TakesVec, TakesBytes}
use Rattle.wasm_spec.specs.TypeGrammar.{TakesValType, TakesRange}
use Rattle.wasm_spec.specs.InstrGrammar.{WithIndex, WithLabels, WithAddress, WithI32, WithI64, TakesShape, TakesPrefixed, TakesCode, ByEnd}
use Rattle.wasm_spec.specs.Grammar.{TakesBody, SpellsStart, SpellsCount}
use Rattle.wasm_spec.proofs.AddModule.{short}

-- ---- five bytes for a number that one would hold

padded : (x : ℕ) (rest : List ℕ) → x < 128 → TakesUnsigned 32 x ((x + 128) ∷ 0x80 ∷ 0x80 ∷ 0x80 ∷ 0x00 ∷ rest) rest
padded x rest small =
    inr (
      omega arith,
      omega arith,
      0,
      inr (
        omega arith,
        omega arith,
        0,
        inr (
          omega arith,
          omega arith,
          0,
          inr (
            omega arith,
            omega arith,
            0,
            inl (omega arith, omega arith, refl, refl),
            refl,
          ),
          refl,
        ),
        refl,
      ),
      omega arith,
    )

count_of_a_vector : TakesVec TakesValType (I32 ∷ []) (0x81 ∷ 0x80 ∷ 0x80 ∷ 0x80 ∷ 0x00 ∷ 0x7F ∷ []) []
count_of_a_vector = record { mid = 0x7F ∷ []; count = padded 1 (0x7F ∷ []) (omega arith); items = ([], refl, refl) }

size_of_bytes : TakesBytes (5 ∷ []) (0x81 ∷ 0x80 ∷ 0x80 ∷ 0x80 ∷ 0x00 ∷ 5 ∷ []) []
size_of_bytes = record { mid = 5 ∷ []; count = padded 1 (5 ∷ []) (omega arith); items = refl }

index_of_a_local : TakesShape (WithIndex (λ x. instr.LocalGet x)) (instr.LocalGet 3) (0x83 ∷ 0x80 ∷ 0x80 ∷ 0x80 ∷ 0x00 ∷ []) []
index_of_a_local = (3, refl, padded 3 [] (omega arith))

labels_of_a_table : TakesShape WithLabels (instr.BrTable (3 ∷ []) 4) (0x81 ∷ 0x80 ∷ 0x80 ∷ 0x80 ∷ 0x00 ∷ 0x83 ∷ 0x80 ∷ 0x80 ∷ 0x80 ∷ 0x00 ∷ 0x84 ∷ 0x80 ∷ 0x80 ∷ 0x80 ∷ 0x00 ∷ []) []
labels_of_a_table = (
  3 ∷ [],
  4,
  0x84 ∷ 0x80 ∷ 0x80 ∷ 0x80 ∷ 0x00 ∷ [],
  refl,
  record { mid = _; count = padded 1 _ (omega arith); items = (_, padded 3 (0x84 ∷ 0x80 ∷ 0x80 ∷ 0x80 ∷ 0x00 ∷ []) (omega arith), refl) },
  padded 4 [] (omega arith),
)

alignment_and_offset : TakesShape (WithAddress (λ m. instr.Load W32 m)) (instr.Load W32 (record { align = 2; offset = 3 })) (0x82 ∷ 0x80 ∷ 0x80 ∷ 0x80 ∷ 0x00 ∷ 0x83 ∷ 0x80 ∷ 0x80 ∷ 0x80 ∷ 0x00 ∷ []) []
alignment_and_offset = (record { align = 2; offset = 3 }, 0x83 ∷ 0x80 ∷ 0x80 ∷ 0x80 ∷ 0x00 ∷ [], refl, padded 2 _ (omega arith), padded 3 [] (omega arith))

called_function : TakesCode One ByEnd (Call 3 End) (0x10 ∷ 0x83 ∷ 0x80 ∷ 0x80 ∷ 0x80 ∷ 0x00 ∷ 0x0B ∷ []) []
called_function = (_, refl, 0x0B ∷ [], padded 3 (0x0B ∷ []) (omega arith), refl)

called_type : TakesCode One ByEnd (CallIndirect 3 End) (0x11 ∷ 0x83 ∷ 0x80 ∷ 0x80 ∷ 0x80 ∷ 0x00 ∷ 0x00 ∷ 0x0B ∷ []) []
called_type = (_, refl, 0x0B ∷ [], padded 3 (0x00 ∷ 0x0B ∷ []) (omega arith), refl)

number_behind_the_prefix : TakesPrefixed instr.MemoryFill (0x8B ∷ 0x80 ∷ 0x80 ∷ 0x80 ∷ 0x00 ∷ 0x00 ∷ []) []
number_behind_the_prefix = record { number = 11; mid = 0x00 ∷ []; row = record { number = 11; instr = instr.MemoryFill; zeros = 1 }; spelled = padded 11 (0x00 ∷ []) (omega arith); found = refl; is = refl; zeros = refl }

start_function : SpellsStart (Some 5) (Some (record { id = 8; contents = 0x85 ∷ 0x80 ∷ 0x80 ∷ 0x80 ∷ 0x00 ∷ [] }))
start_function = (5, refl, padded 5 [] (omega arith))

-- ---- numbers that one byte does not hold

greatest : (rest : List ℕ) → TakesUnsigned 32 4294967295 (0xFF ∷ 0xFF ∷ 0xFF ∷ 0xFF ∷ 0x0F ∷ rest) rest
greatest rest =
    inr (
      omega arith,
      omega arith,
      33554431,
      inr (
        omega arith,
        omega arith,
        262143,
        inr (
          omega arith,
          omega arith,
          2047,
          inr (
            omega arith,
            omega arith,
            15,
            inl (omega arith, omega arith, refl, refl),
            refl,
          ),
          refl,
        ),
        refl,
      ),
      refl,
    )

greatest_offset : TakesShape (WithAddress (λ m. instr.Load W32 m)) (instr.Load W32 (record { align = 4294967295; offset = 4294967295 })) (0xFF ∷ 0xFF ∷ 0xFF ∷ 0xFF ∷ 0x0F ∷ 0xFF ∷ 0xFF ∷ 0xFF ∷ 0xFF ∷ 0x0F ∷ []) []
greatest_offset = (record { align = 4294967295; offset = 4294967295 }, 0xFF ∷ 0xFF ∷ 0xFF ∷ 0xFF ∷ 0x0F ∷ [], refl, greatest _, greatest [])

pages_65536 : (rest : List ℕ) → TakesUnsigned 32 65536 (0x80 ∷ 0x80 ∷ 0x04 ∷ rest) rest
pages_65536 rest = inr (omega arith, omega arith, 512, inr (omega arith, omega arith, 4, inl (omega arith, omega arith, refl, refl), refl), refl)

least_size_of_65536 : TakesRange 65536 None (0x00 ∷ 0x80 ∷ 0x80 ∷ 0x04 ∷ []) []
least_size_of_65536 = (_, refl, pages_65536 [])

greatest_size_of_65536 : TakesRange 65536 (Some 65536) (0x01 ∷ 0x80 ∷ 0x80 ∷ 0x04 ∷ 0x80 ∷ 0x80 ∷ 0x04 ∷ []) []
greatest_size_of_65536 = (_, refl, (0x80 ∷ 0x80 ∷ 0x04 ∷ [], pages_65536 _, pages_65536 []))

count_of_256_segments : SpellsCount 256 (Some (record { id = 12; contents = 0x80 ∷ 0x02 ∷ [] }))
count_of_256_segments = inr (omega arith, omega arith, 2, inl (omega arith, omega arith, refl, refl), refl)

start_function_128 : SpellsStart (Some 128) (Some (record { id = 8; contents = 0x80 ∷ 0x01 ∷ [] }))
start_function_128 = (128, refl, inr (omega arith, omega arith, 1, inl (omega arith, omega arith, refl, refl), refl))

-- the least and the greatest signed number of 32 bits
least_of_32_bits : TakesShape WithI32 (instr.Const (val.I32 2147483648)) (0x80 ∷ 0x80 ∷ 0x80 ∷ 0x80 ∷ 0x78 ∷ []) []
least_of_32_bits = (
  negsuc 2147483647,
  refl,
  inr (inr (
    omega arith,
    omega arith,
    negsuc 16777215,
    inr (inr (
      omega arith,
      omega arith,
      negsuc 131071,
      inr (inr (
        omega arith,
        omega arith,
        negsuc 1023,
        inr (inr (omega arith, omega arith, negsuc 7, inr (inl (omega arith, omega arith, omega arith, refl, refl)), refl)),
        refl,
      )),
      refl,
    )),
    refl,
  )),
)

greatest_of_32_bits : TakesShape WithI32 (instr.Const (val.I32 2147483647)) (0xFF ∷ 0xFF ∷ 0xFF ∷ 0xFF ∷ 0x07 ∷ []) []
greatest_of_32_bits = (
  pos 2147483647,
  refl,
  inr (inr (
    omega arith,
    omega arith,
    pos 16777215,
    inr (inr (
      omega arith,
      omega arith,
      pos 131071,
      inr (inr (
        omega arith,
        omega arith,
        pos 1023,
        inr (inr (omega arith, omega arith, pos 7, inl (omega arith, omega arith, refl, refl), refl)),
        refl,
      )),
      refl,
    )),
    refl,
  )),
)

-- the least and the greatest of 64
least_of_64_bits : TakesShape WithI64 (instr.Const (val.I64 9223372036854775808)) (0x80 ∷ 0x80 ∷ 0x80 ∷ 0x80 ∷ 0x80 ∷ 0x80 ∷ 0x80 ∷ 0x80 ∷ 0x80 ∷ 0x7F ∷ []) []
least_of_64_bits = (
  negsuc 9223372036854775807,
  refl,
  inr (inr (
    omega arith,
    omega arith,
    negsuc 72057594037927935,
    inr (inr (
      omega arith,
      omega arith,
      negsuc 562949953421311,
      inr (inr (
        omega arith,
        omega arith,
        negsuc 4398046511103,
        inr (inr (
          omega arith,
          omega arith,
          negsuc 34359738367,
          inr (inr (
            omega arith,
            omega arith,
            negsuc 268435455,
            inr (inr (
              omega arith,
              omega arith,
              negsuc 2097151,
              inr (inr (
                omega arith,
                omega arith,
                negsuc 16383,
                inr (inr (
                  omega arith,
                  omega arith,
                  negsuc 127,
                  inr (inr (
                    omega arith,
                    omega arith,
                    negsuc 0,
                    inr (inl (omega arith, omega arith, omega arith, refl, refl)),
                    refl,
                  )),
                  refl,
                )),
                refl,
              )),
              refl,
            )),
            refl,
          )),
          refl,
        )),
        refl,
      )),
      refl,
    )),
    refl,
  )),
)

greatest_of_64_bits : TakesShape WithI64 (instr.Const (val.I64 9223372036854775807)) (0xFF ∷ 0xFF ∷ 0xFF ∷ 0xFF ∷ 0xFF ∷ 0xFF ∷ 0xFF ∷ 0xFF ∷ 0xFF ∷ 0x00 ∷ []) []
greatest_of_64_bits = (
  pos 9223372036854775807,
  refl,
  inr (inr (
    omega arith,
    omega arith,
    pos 72057594037927935,
    inr (inr (
      omega arith,
      omega arith,
      pos 562949953421311,
      inr (inr (
        omega arith,
        omega arith,
        pos 4398046511103,
        inr (inr (
          omega arith,
          omega arith,
          pos 34359738367,
          inr (inr (
            omega arith,
            omega arith,
            pos 268435455,
            inr (inr (
              omega arith,
              omega arith,
              pos 2097151,
              inr (inr (
                omega arith,
                omega arith,
                pos 16383,
                inr (inr (
                  omega arith,
                  omega arith,
                  pos 127,
                  inr (inr (
                    omega arith,
                    omega arith,
                    pos 0,
                    inl (omega arith, omega arith, refl, refl),
                    refl,
                  )),
                  refl,
                )),
                refl,
              )),
              refl,
            )),
            refl,
          )),
          refl,
        )),
        refl,
      )),
      refl,
    )),
    refl,
  )),
)

-- ---- locals

-- a body may have any number of locals below 2 ^ 32
one_run_of_locals : (n : ℕ) (count : List ℕ) → n < 2 ^ 32 → TakesUnsigned 32 n count (0x7F ∷ 0x0B ∷ []) → TakesBody One (record { locals = replicate n I32; code = End }) (0x01 ∷ count) []
one_run_of_locals n count few h = record {
  runs = record { count = n; value = I32 } ∷ [];
  mid = 0x0B ∷ [];
  spelled = record { mid = count; count = short 1 count (omega arith); items = (0x0B ∷ [], record { mid = 0x7F ∷ 0x0B ∷ []; count = h; value = refl }, refl) };
  locals = sym (append-nil (replicate n I32));
  few = let long = length-replicate n I32 in omega (arith, long, few);
  code = refl;
}

-- ---- sequences in the first arm of an `if` that has a second

block_in_a_first_arm : TakesCode One ByEnd (If None (Block None End End) End End) (0x04 ∷ 0x40 ∷ 0x02 ∷ 0x40 ∷ 0x0B ∷ 0x05 ∷ 0x0B ∷ 0x0B ∷ []) []
block_in_a_first_arm = (_, refl, _, refl, 0x0B ∷ [], inr (0x0B ∷ 0x0B ∷ [], (_, refl, _, refl, 0x05 ∷ 0x0B ∷ 0x0B ∷ [], refl, refl), refl), refl)

loop_in_a_first_arm : TakesCode One ByEnd (If None (Loop None End End) End End) (0x04 ∷ 0x40 ∷ 0x03 ∷ 0x40 ∷ 0x0B ∷ 0x05 ∷ 0x0B ∷ 0x0B ∷ []) []
loop_in_a_first_arm = (_, refl, _, refl, 0x0B ∷ [], inr (0x0B ∷ 0x0B ∷ [], (_, refl, _, refl, 0x05 ∷ 0x0B ∷ 0x0B ∷ [], refl, refl), refl), refl)

if_in_a_first_arm : TakesCode One ByEnd (If None (If None End End End) End End) (0x04 ∷ 0x40 ∷ 0x04 ∷ 0x40 ∷ 0x0B ∷ 0x05 ∷ 0x0B ∷ 0x0B ∷ []) []
if_in_a_first_arm = (_, refl, _, refl, 0x0B ∷ [], inr (0x0B ∷ 0x0B ∷ [], (_, refl, _, refl, 0x05 ∷ 0x0B ∷ 0x0B ∷ [], inl (refl, refl), refl), refl), refl)

two_arms_in_a_first_arm : TakesCode One ByEnd (If None (If None End End End) End End) (0x04 ∷ 0x40 ∷ 0x04 ∷ 0x40 ∷ 0x05 ∷ 0x0B ∷ 0x05 ∷ 0x0B ∷ 0x0B ∷ []) []
two_arms_in_a_first_arm =
    (_, refl, _, refl, 0x0B ∷ [], inr (0x0B ∷ 0x0B ∷ [], (_, refl, _, refl, 0x05 ∷ 0x0B ∷ 0x0B ∷ [], inr (0x0B ∷ 0x05 ∷ 0x0B ∷ 0x0B ∷ [], refl, refl), refl), refl), refl)
