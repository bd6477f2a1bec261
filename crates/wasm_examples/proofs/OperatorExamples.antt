-- Results of the operators, computed. The expected values are those of another engine, V8.
use Rattle.std.specs.Prelude.{◌≡◌, ℕ, List, [], ◌∷◌, ◌++◌, map, Result, Ok, Err, refl}
use Rattle.wasm_types.specs.declared.instr.PackSize.TheVariants.{Pack8, Pack16, Pack32}
use Rattle.wasm_types.specs.declared.instr.UnaryOp.TheVariants as unary_op
use Rattle.wasm_types.specs.declared.instr.BinaryOp.{BinaryOp}
use Rattle.wasm_types.specs.declared.instr.BinaryOp.TheVariants as binary_op
use Rattle.wasm_types.specs.declared.instr.CompareOp.{CompareOp}
use Rattle.wasm_types.specs.declared.instr.CompareOp.TheVariants as compare_op
use Rattle.wasm_values.specs.declared.outcome.TrapKind.{TrapKind}
use Rattle.wasm_values.specs.declared.outcome.TrapKind.TheVariants.{Divide, Overflow}
use Rattle.wasm_spec.specs.Operators.{binary_digits, unary, binary, compare, eqz, extend_s, wrap}

-- pairs of operands of 32 bits
abbrev pairs_32 : List (ℕ × ℕ)
pairs_32 = (7, 2) ∷ (2147483648, 4294967295) ∷ (4294967289, 2) ∷ (7, 4294967294) ∷ (5, 0) ∷ (305419896, 33) ∷ (2147483649, 4) ∷ (4294967295, 4294967295) ∷ (0, 9) ∷ (3735928559, 31) ∷ (2147483647, 1) ∷ (1, 0) ∷ (0, 2147483648) ∷ (2147483649, 31) ∷ (3735928559, 36) ∷ []

-- the first of each pair, and some more
abbrev operands_32 : List ℕ
operands_32 = map (λ (a, b). a) pairs_32 ++ 15769600 ∷ 2 ∷ []

abbrev results_32 : BinaryOp → List (Result ℕ TrapKind)
results_32 op = map (λ (a, b). binary 32 op a b) pairs_32

abbrev tests_32 : CompareOp → List ℕ
tests_32 op = map (λ (a, b). compare 32 op a b) pairs_32

add_32 : results_32 binary_op.Add ≡ Ok 9 ∷ Ok 2147483647 ∷ Ok 4294967291 ∷ Ok 5 ∷ Ok 5 ∷ Ok 305419929 ∷ Ok 2147483653 ∷ Ok 4294967294 ∷ Ok 9 ∷ Ok 3735928590 ∷ Ok 2147483648 ∷ Ok 1 ∷ Ok 2147483648 ∷ Ok 2147483680 ∷ Ok 3735928595 ∷ []
add_32 = refl

sub_32 : results_32 binary_op.Sub ≡ Ok 5 ∷ Ok 2147483649 ∷ Ok 4294967287 ∷ Ok 9 ∷ Ok 5 ∷ Ok 305419863 ∷ Ok 2147483645 ∷ Ok 0 ∷ Ok 4294967287 ∷ Ok 3735928528 ∷ Ok 2147483646 ∷ Ok 1 ∷ Ok 2147483648 ∷ Ok 2147483618 ∷ Ok 3735928523 ∷ []
sub_32 = refl

mul_32 : results_32 binary_op.Mul ≡ Ok 14 ∷ Ok 2147483648 ∷ Ok 4294967282 ∷ Ok 4294967282 ∷ Ok 0 ∷ Ok 1488921976 ∷ Ok 4 ∷ Ok 1 ∷ Ok 0 ∷ Ok 4144635633 ∷ Ok 2147483647 ∷ Ok 0 ∷ Ok 0 ∷ Ok 2147483679 ∷ Ok 1349441948 ∷ []
mul_32 = refl

div_s_32 : results_32 binary_op.DivS ≡ Ok 3 ∷ Err Overflow ∷ Ok 4294967293 ∷ Ok 4294967293 ∷ Err Divide ∷ Ok 9255148 ∷ Ok 3758096385 ∷ Ok 1 ∷ Ok 0 ∷ Ok 4276933789 ∷ Ok 2147483647 ∷ Err Divide ∷ Ok 0 ∷ Ok 4225693630 ∷ Ok 4279438443 ∷ []
div_s_32 = refl

div_u_32 : results_32 binary_op.DivU ≡ Ok 3 ∷ Ok 0 ∷ Ok 2147483644 ∷ Ok 0 ∷ Err Divide ∷ Ok 9255148 ∷ Ok 536870912 ∷ Ok 1 ∷ Ok 0 ∷ Ok 120513824 ∷ Ok 2147483647 ∷ Err Divide ∷ Ok 0 ∷ Ok 69273666 ∷ Ok 103775793 ∷ []
div_u_32 = refl

rem_s_32 : results_32 binary_op.RemS ≡ Ok 1 ∷ Ok 0 ∷ Ok 4294967295 ∷ Ok 1 ∷ Err Divide ∷ Ok 12 ∷ Ok 4294967293 ∷ Ok 0 ∷ Ok 0 ∷ Ok 4294967276 ∷ Ok 0 ∷ Err Divide ∷ Ok 0 ∷ Ok 4294967295 ∷ Ok 4294967267 ∷ []
rem_s_32 = refl

rem_u_32 : results_32 binary_op.RemU ≡ Ok 1 ∷ Ok 2147483648 ∷ Ok 1 ∷ Ok 7 ∷ Err Divide ∷ Ok 12 ∷ Ok 1 ∷ Ok 0 ∷ Ok 0 ∷ Ok 15 ∷ Ok 0 ∷ Err Divide ∷ Ok 0 ∷ Ok 3 ∷ Ok 11 ∷ []
rem_u_32 = refl

and_32 : results_32 binary_op.And ≡ Ok 2 ∷ Ok 2147483648 ∷ Ok 0 ∷ Ok 6 ∷ Ok 0 ∷ Ok 32 ∷ Ok 0 ∷ Ok 4294967295 ∷ Ok 0 ∷ Ok 15 ∷ Ok 1 ∷ Ok 0 ∷ Ok 0 ∷ Ok 1 ∷ Ok 36 ∷ []
and_32 = refl

or_32 : results_32 binary_op.Or ≡ Ok 7 ∷ Ok 4294967295 ∷ Ok 4294967291 ∷ Ok 4294967295 ∷ Ok 5 ∷ Ok 305419897 ∷ Ok 2147483653 ∷ Ok 4294967295 ∷ Ok 9 ∷ Ok 3735928575 ∷ Ok 2147483647 ∷ Ok 1 ∷ Ok 2147483648 ∷ Ok 2147483679 ∷ Ok 3735928559 ∷ []
or_32 = refl

xor_32 : results_32 binary_op.Xor ≡ Ok 5 ∷ Ok 2147483647 ∷ Ok 4294967291 ∷ Ok 4294967289 ∷ Ok 5 ∷ Ok 305419865 ∷ Ok 2147483653 ∷ Ok 0 ∷ Ok 9 ∷ Ok 3735928560 ∷ Ok 2147483646 ∷ Ok 1 ∷ Ok 2147483648 ∷ Ok 2147483678 ∷ Ok 3735928523 ∷ []
xor_32 = refl

shl_32 : results_32 binary_op.Shl ≡ Ok 28 ∷ Ok 0 ∷ Ok 4294967268 ∷ Ok 3221225472 ∷ Ok 5 ∷ Ok 610839792 ∷ Ok 16 ∷ Ok 2147483648 ∷ Ok 0 ∷ Ok 2147483648 ∷ Ok 4294967294 ∷ Ok 1 ∷ Ok 0 ∷ Ok 2147483648 ∷ Ok 3940282096 ∷ []
shl_32 = refl

shr_s_32 : results_32 binary_op.ShrS ≡ Ok 1 ∷ Ok 4294967295 ∷ Ok 4294967294 ∷ Ok 0 ∷ Ok 5 ∷ Ok 152709948 ∷ Ok 4160749568 ∷ Ok 4294967295 ∷ Ok 0 ∷ Ok 4294967295 ∷ Ok 1073741823 ∷ Ok 1 ∷ Ok 0 ∷ Ok 4294967295 ∷ Ok 4260027374 ∷ []
shr_s_32 = refl

shr_u_32 : results_32 binary_op.ShrU ≡ Ok 1 ∷ Ok 1 ∷ Ok 1073741822 ∷ Ok 0 ∷ Ok 5 ∷ Ok 152709948 ∷ Ok 134217728 ∷ Ok 1 ∷ Ok 0 ∷ Ok 1 ∷ Ok 1073741823 ∷ Ok 1 ∷ Ok 0 ∷ Ok 1 ∷ Ok 233495534 ∷ []
shr_u_32 = refl

rotl_32 : results_32 binary_op.Rotl ≡ Ok 28 ∷ Ok 1073741824 ∷ Ok 4294967271 ∷ Ok 3221225473 ∷ Ok 5 ∷ Ok 610839792 ∷ Ok 24 ∷ Ok 4294967295 ∷ Ok 0 ∷ Ok 4015447927 ∷ Ok 4294967294 ∷ Ok 1 ∷ Ok 0 ∷ Ok 3221225472 ∷ Ok 3940282109 ∷ []
rotl_32 = refl

rotr_32 : results_32 binary_op.Rotr ≡ Ok 3221225473 ∷ Ok 1 ∷ Ok 2147483646 ∷ Ok 28 ∷ Ok 5 ∷ Ok 152709948 ∷ Ok 402653184 ∷ Ok 4294967295 ∷ Ok 0 ∷ Ok 3176889823 ∷ Ok 3221225471 ∷ Ok 1 ∷ Ok 0 ∷ Ok 3 ∷ Ok 4260027374 ∷ []
rotr_32 = refl

eq_32 : tests_32 compare_op.Eq ≡ 0 ∷ 0 ∷ 0 ∷ 0 ∷ 0 ∷ 0 ∷ 0 ∷ 1 ∷ 0 ∷ 0 ∷ 0 ∷ 0 ∷ 0 ∷ 0 ∷ 0 ∷ []
eq_32 = refl

ne_32 : tests_32 compare_op.Ne ≡ 1 ∷ 1 ∷ 1 ∷ 1 ∷ 1 ∷ 1 ∷ 1 ∷ 0 ∷ 1 ∷ 1 ∷ 1 ∷ 1 ∷ 1 ∷ 1 ∷ 1 ∷ []
ne_32 = refl

lt_s_32 : tests_32 compare_op.LtS ≡ 0 ∷ 1 ∷ 1 ∷ 0 ∷ 0 ∷ 0 ∷ 1 ∷ 0 ∷ 1 ∷ 1 ∷ 0 ∷ 0 ∷ 0 ∷ 1 ∷ 1 ∷ []
lt_s_32 = refl

lt_u_32 : tests_32 compare_op.LtU ≡ 0 ∷ 1 ∷ 0 ∷ 1 ∷ 0 ∷ 0 ∷ 0 ∷ 0 ∷ 1 ∷ 0 ∷ 0 ∷ 0 ∷ 1 ∷ 0 ∷ 0 ∷ []
lt_u_32 = refl

gt_s_32 : tests_32 compare_op.GtS ≡ 1 ∷ 0 ∷ 0 ∷ 1 ∷ 1 ∷ 1 ∷ 0 ∷ 0 ∷ 0 ∷ 0 ∷ 1 ∷ 1 ∷ 1 ∷ 0 ∷ 0 ∷ []
gt_s_32 = refl

gt_u_32 : tests_32 compare_op.GtU ≡ 1 ∷ 0 ∷ 1 ∷ 0 ∷ 1 ∷ 1 ∷ 1 ∷ 0 ∷ 0 ∷ 1 ∷ 1 ∷ 1 ∷ 0 ∷ 1 ∷ 1 ∷ []
gt_u_32 = refl

le_s_32 : tests_32 compare_op.LeS ≡ 0 ∷ 1 ∷ 1 ∷ 0 ∷ 0 ∷ 0 ∷ 1 ∷ 1 ∷ 1 ∷ 1 ∷ 0 ∷ 0 ∷ 0 ∷ 1 ∷ 1 ∷ []
le_s_32 = refl

le_u_32 : tests_32 compare_op.LeU ≡ 0 ∷ 1 ∷ 0 ∷ 1 ∷ 0 ∷ 0 ∷ 0 ∷ 1 ∷ 1 ∷ 0 ∷ 0 ∷ 0 ∷ 1 ∷ 0 ∷ 0 ∷ []
le_u_32 = refl

ge_s_32 : tests_32 compare_op.GeS ≡ 1 ∷ 0 ∷ 0 ∷ 1 ∷ 1 ∷ 1 ∷ 0 ∷ 1 ∷ 0 ∷ 0 ∷ 1 ∷ 1 ∷ 1 ∷ 0 ∷ 0 ∷ []
ge_s_32 = refl

ge_u_32 : tests_32 compare_op.GeU ≡ 1 ∷ 0 ∷ 1 ∷ 0 ∷ 1 ∷ 1 ∷ 1 ∷ 1 ∷ 0 ∷ 1 ∷ 1 ∷ 1 ∷ 0 ∷ 1 ∷ 1 ∷ []
ge_u_32 = refl

clz_32 : map (unary 32 unary_op.Clz) operands_32 ≡ 29 ∷ 0 ∷ 0 ∷ 29 ∷ 29 ∷ 3 ∷ 0 ∷ 0 ∷ 32 ∷ 0 ∷ 1 ∷ 31 ∷ 32 ∷ 0 ∷ 0 ∷ 8 ∷ 30 ∷ []
unfolding binary_digits
clz_32 = refl

ctz_32 : map (unary 32 unary_op.Ctz) operands_32 ≡ 0 ∷ 31 ∷ 0 ∷ 0 ∷ 0 ∷ 3 ∷ 0 ∷ 0 ∷ 32 ∷ 0 ∷ 0 ∷ 0 ∷ 32 ∷ 0 ∷ 0 ∷ 13 ∷ 1 ∷ []
unfolding binary_digits
ctz_32 = refl

popcnt_32 : map (unary 32 unary_op.Popcnt) operands_32 ≡ 3 ∷ 1 ∷ 30 ∷ 3 ∷ 2 ∷ 13 ∷ 2 ∷ 32 ∷ 0 ∷ 24 ∷ 31 ∷ 1 ∷ 0 ∷ 2 ∷ 24 ∷ 6 ∷ 1 ∷ []
unfolding binary_digits
popcnt_32 = refl

eqz_32 : map eqz operands_32 ≡ 0 ∷ 0 ∷ 0 ∷ 0 ∷ 0 ∷ 0 ∷ 0 ∷ 0 ∷ 1 ∷ 0 ∷ 0 ∷ 0 ∷ 1 ∷ 0 ∷ 0 ∷ 0 ∷ 0 ∷ []
eqz_32 = refl

-- pairs of operands of 64 bits
abbrev pairs_64 : List (ℕ × ℕ)
pairs_64 = (7, 2) ∷ (9223372036854775808, 18446744073709551615) ∷ (18446744073709551609, 2) ∷ (7, 18446744073709551614) ∷ (5, 0) ∷ (1311768467463790320, 65) ∷ (9223372036854775809, 4) ∷ (18446744073709551615, 18446744073709551615) ∷ (0, 9) ∷ (16045690984503111693, 63) ∷ (9223372036854775807, 1) ∷ (1, 0) ∷ (0, 9223372036854775808) ∷ (9223372036854775809, 63) ∷ (16045690984503111693, 100) ∷ []

-- the first of each pair, and some more
abbrev operands_64 : List ℕ
operands_64 = map (λ (a, b). a) pairs_64 ++ 67729916271001600 ∷ 2147483648 ∷ 4294967296 ∷ 4294967295 ∷ []

abbrev results_64 : BinaryOp → List (Result ℕ TrapKind)
results_64 op = map (λ (a, b). binary 64 op a b) pairs_64

abbrev tests_64 : CompareOp → List ℕ
tests_64 op = map (λ (a, b). compare 64 op a b) pairs_64

add_64 : results_64 binary_op.Add ≡ Ok 9 ∷ Ok 9223372036854775807 ∷ Ok 18446744073709551611 ∷ Ok 5 ∷ Ok 5 ∷ Ok 1311768467463790385 ∷ Ok 9223372036854775813 ∷ Ok 18446744073709551614 ∷ Ok 9 ∷ Ok 16045690984503111756 ∷ Ok 9223372036854775808 ∷ Ok 1 ∷ Ok 9223372036854775808 ∷ Ok 9223372036854775872 ∷ Ok 16045690984503111793 ∷ []
add_64 = refl

sub_64 : results_64 binary_op.Sub ≡ Ok 5 ∷ Ok 9223372036854775809 ∷ Ok 18446744073709551607 ∷ Ok 9 ∷ Ok 5 ∷ Ok 1311768467463790255 ∷ Ok 9223372036854775805 ∷ Ok 0 ∷ Ok 18446744073709551607 ∷ Ok 16045690984503111630 ∷ Ok 9223372036854775806 ∷ Ok 1 ∷ Ok 9223372036854775808 ∷ Ok 9223372036854775746 ∷ Ok 16045690984503111593 ∷ []
sub_64 = refl

mul_64 : results_64 binary_op.Mul ≡ Ok 14 ∷ Ok 9223372036854775808 ∷ Ok 18446744073709551602 ∷ Ok 18446744073709551602 ∷ Ok 0 ∷ Ok 11477974090308164336 ∷ Ok 4 ∷ Ok 1 ∷ Ok 0 ∷ Ok 14754352043380249395 ∷ Ok 9223372036854775807 ∷ Ok 0 ∷ Ok 0 ∷ Ok 9223372036854775871 ∷ Ok 18149108111289730324 ∷ []
mul_64 = refl

div_s_64 : results_64 binary_op.DivS ≡ Ok 3 ∷ Err Overflow ∷ Ok 18446744073709551613 ∷ Ok 18446744073709551613 ∷ Err Divide ∷ Ok 20181053345596774 ∷ Ok 16140901064495857665 ∷ Ok 1 ∷ Ok 0 ∷ Ok 18408632119912623999 ∷ Ok 9223372036854775807 ∷ Err Divide ∷ Ok 0 ∷ Ok 18300341342965825016 ∷ Ok 18422733542817487217 ∷ []
div_s_64 = refl

div_u_64 : results_64 binary_op.DivU ≡ Ok 3 ∷ Ok 0 ∷ Ok 9223372036854775804 ∷ Ok 0 ∷ Err Divide ∷ Ok 20181053345596774 ∷ Ok 2305843009213693952 ∷ Ok 1 ∷ Ok 0 ∷ Ok 254693507690525582 ∷ Ok 9223372036854775807 ∷ Err Divide ∷ Ok 0 ∷ Ok 146402730743726600 ∷ Ok 160456909845031116 ∷ []
div_u_64 = refl

rem_s_64 : results_64 binary_op.RemS ≡ Ok 1 ∷ Ok 0 ∷ Ok 18446744073709551615 ∷ Ok 1 ∷ Err Divide ∷ Ok 10 ∷ Ok 18446744073709551613 ∷ Ok 0 ∷ Ok 0 ∷ Ok 18446744073709551564 ∷ Ok 0 ∷ Err Divide ∷ Ok 0 ∷ Ok 18446744073709551609 ∷ Ok 18446744073709551593 ∷ []
rem_s_64 = refl

rem_u_64 : results_64 binary_op.RemU ≡ Ok 1 ∷ Ok 9223372036854775808 ∷ Ok 1 ∷ Ok 7 ∷ Err Divide ∷ Ok 10 ∷ Ok 1 ∷ Ok 0 ∷ Ok 0 ∷ Ok 27 ∷ Ok 0 ∷ Err Divide ∷ Ok 0 ∷ Ok 9 ∷ Ok 93 ∷ []
rem_u_64 = refl

and_64 : results_64 binary_op.And ≡ Ok 2 ∷ Ok 9223372036854775808 ∷ Ok 0 ∷ Ok 6 ∷ Ok 0 ∷ Ok 64 ∷ Ok 0 ∷ Ok 18446744073709551615 ∷ Ok 0 ∷ Ok 13 ∷ Ok 1 ∷ Ok 0 ∷ Ok 0 ∷ Ok 1 ∷ Ok 4 ∷ []
and_64 = refl

or_64 : results_64 binary_op.Or ≡ Ok 7 ∷ Ok 18446744073709551615 ∷ Ok 18446744073709551611 ∷ Ok 18446744073709551615 ∷ Ok 5 ∷ Ok 1311768467463790321 ∷ Ok 9223372036854775813 ∷ Ok 18446744073709551615 ∷ Ok 9 ∷ Ok 16045690984503111743 ∷ Ok 9223372036854775807 ∷ Ok 1 ∷ Ok 9223372036854775808 ∷ Ok 9223372036854775871 ∷ Ok 16045690984503111789 ∷ []
or_64 = refl

xor_64 : results_64 binary_op.Xor ≡ Ok 5 ∷ Ok 9223372036854775807 ∷ Ok 18446744073709551611 ∷ Ok 18446744073709551609 ∷ Ok 5 ∷ Ok 1311768467463790257 ∷ Ok 9223372036854775813 ∷ Ok 0 ∷ Ok 9 ∷ Ok 16045690984503111730 ∷ Ok 9223372036854775806 ∷ Ok 1 ∷ Ok 9223372036854775808 ∷ Ok 9223372036854775870 ∷ Ok 16045690984503111785 ∷ []
xor_64 = refl

shl_64 : results_64 binary_op.Shl ≡ Ok 28 ∷ Ok 0 ∷ Ok 18446744073709551588 ∷ Ok 13835058055282163712 ∷ Ok 5 ∷ Ok 2623536934927580640 ∷ Ok 16 ∷ Ok 9223372036854775808 ∷ Ok 0 ∷ Ok 9223372036854775808 ∷ Ok 18446744073709551614 ∷ Ok 1 ∷ Ok 0 ∷ Ok 9223372036854775808 ∷ Ok 12677352369424433152 ∷ []
shl_64 = refl

shr_s_64 : results_64 binary_op.ShrS ≡ Ok 1 ∷ Ok 18446744073709551615 ∷ Ok 18446744073709551614 ∷ Ok 0 ∷ Ok 5 ∷ Ok 655884233731895160 ∷ Ok 17870283321406128128 ∷ Ok 18446744073709551615 ∷ Ok 0 ∷ Ok 18446744073709551615 ∷ Ok 4611686018427387903 ∷ Ok 1 ∷ Ok 0 ∷ Ok 18446744073709551615 ∷ Ok 18446744073674611694 ∷ []
shr_s_64 = refl

shr_u_64 : results_64 binary_op.ShrU ≡ Ok 1 ∷ Ok 1 ∷ Ok 4611686018427387902 ∷ Ok 0 ∷ Ok 5 ∷ Ok 655884233731895160 ∷ Ok 576460752303423488 ∷ Ok 1 ∷ Ok 0 ∷ Ok 1 ∷ Ok 4611686018427387903 ∷ Ok 1 ∷ Ok 0 ∷ Ok 1 ∷ Ok 233495534 ∷ []
shr_u_64 = refl

rotl_64 : results_64 binary_op.Rotl ≡ Ok 28 ∷ Ok 4611686018427387904 ∷ Ok 18446744073709551591 ∷ Ok 13835058055282163713 ∷ Ok 5 ∷ Ok 2623536934927580640 ∷ Ok 24 ∷ Ok 18446744073709551615 ∷ Ok 0 ∷ Ok 17246217529106331654 ∷ Ok 18446744073709551614 ∷ Ok 1 ∷ Ok 0 ∷ Ok 13835058055282163712 ∷ Ok 12677352429199290108 ∷ []
rotl_64 = refl

rotr_64 : results_64 binary_op.Rotr ≡ Ok 13835058055282163713 ∷ Ok 1 ∷ Ok 9223372036854775806 ∷ Ok 28 ∷ Ok 5 ∷ Ok 655884233731895160 ∷ Ok 1729382256910270464 ∷ Ok 18446744073709551615 ∷ Ok 0 ∷ Ok 13644637895296671771 ∷ Ok 13835058055282163711 ∷ Ok 1 ∷ Ok 0 ∷ Ok 3 ∷ Ok 18208034605484399598 ∷ []
rotr_64 = refl

eq_64 : tests_64 compare_op.Eq ≡ 0 ∷ 0 ∷ 0 ∷ 0 ∷ 0 ∷ 0 ∷ 0 ∷ 1 ∷ 0 ∷ 0 ∷ 0 ∷ 0 ∷ 0 ∷ 0 ∷ 0 ∷ []
eq_64 = refl

ne_64 : tests_64 compare_op.Ne ≡ 1 ∷ 1 ∷ 1 ∷ 1 ∷ 1 ∷ 1 ∷ 1 ∷ 0 ∷ 1 ∷ 1 ∷ 1 ∷ 1 ∷ 1 ∷ 1 ∷ 1 ∷ []
ne_64 = refl

lt_s_64 : tests_64 compare_op.LtS ≡ 0 ∷ 1 ∷ 1 ∷ 0 ∷ 0 ∷ 0 ∷ 1 ∷ 0 ∷ 1 ∷ 1 ∷ 0 ∷ 0 ∷ 0 ∷ 1 ∷ 1 ∷ []
lt_s_64 = refl

lt_u_64 : tests_64 compare_op.LtU ≡ 0 ∷ 1 ∷ 0 ∷ 1 ∷ 0 ∷ 0 ∷ 0 ∷ 0 ∷ 1 ∷ 0 ∷ 0 ∷ 0 ∷ 1 ∷ 0 ∷ 0 ∷ []
lt_u_64 = refl

gt_s_64 : tests_64 compare_op.GtS ≡ 1 ∷ 0 ∷ 0 ∷ 1 ∷ 1 ∷ 1 ∷ 0 ∷ 0 ∷ 0 ∷ 0 ∷ 1 ∷ 1 ∷ 1 ∷ 0 ∷ 0 ∷ []
gt_s_64 = refl

gt_u_64 : tests_64 compare_op.GtU ≡ 1 ∷ 0 ∷ 1 ∷ 0 ∷ 1 ∷ 1 ∷ 1 ∷ 0 ∷ 0 ∷ 1 ∷ 1 ∷ 1 ∷ 0 ∷ 1 ∷ 1 ∷ []
gt_u_64 = refl

le_s_64 : tests_64 compare_op.LeS ≡ 0 ∷ 1 ∷ 1 ∷ 0 ∷ 0 ∷ 0 ∷ 1 ∷ 1 ∷ 1 ∷ 1 ∷ 0 ∷ 0 ∷ 0 ∷ 1 ∷ 1 ∷ []
le_s_64 = refl

le_u_64 : tests_64 compare_op.LeU ≡ 0 ∷ 1 ∷ 0 ∷ 1 ∷ 0 ∷ 0 ∷ 0 ∷ 1 ∷ 1 ∷ 0 ∷ 0 ∷ 0 ∷ 1 ∷ 0 ∷ 0 ∷ []
le_u_64 = refl

ge_s_64 : tests_64 compare_op.GeS ≡ 1 ∷ 0 ∷ 0 ∷ 1 ∷ 1 ∷ 1 ∷ 0 ∷ 1 ∷ 0 ∷ 0 ∷ 1 ∷ 1 ∷ 1 ∷ 0 ∷ 0 ∷ []
ge_s_64 = refl

ge_u_64 : tests_64 compare_op.GeU ≡ 1 ∷ 0 ∷ 1 ∷ 0 ∷ 1 ∷ 1 ∷ 1 ∷ 1 ∷ 0 ∷ 1 ∷ 1 ∷ 1 ∷ 0 ∷ 1 ∷ 1 ∷ []
ge_u_64 = refl

clz_64 : map (unary 64 unary_op.Clz) operands_64 ≡ 61 ∷ 0 ∷ 0 ∷ 61 ∷ 61 ∷ 3 ∷ 0 ∷ 0 ∷ 64 ∷ 0 ∷ 1 ∷ 63 ∷ 64 ∷ 0 ∷ 0 ∷ 8 ∷ 32 ∷ 31 ∷ 32 ∷ []
unfolding binary_digits
clz_64 = refl

ctz_64 : map (unary 64 unary_op.Ctz) operands_64 ≡ 0 ∷ 63 ∷ 0 ∷ 0 ∷ 0 ∷ 4 ∷ 0 ∷ 0 ∷ 64 ∷ 0 ∷ 0 ∷ 0 ∷ 64 ∷ 0 ∷ 0 ∷ 45 ∷ 31 ∷ 32 ∷ 0 ∷ []
unfolding binary_digits
ctz_64 = refl

popcnt_64 : map (unary 64 unary_op.Popcnt) operands_64 ≡ 3 ∷ 1 ∷ 62 ∷ 3 ∷ 2 ∷ 32 ∷ 2 ∷ 64 ∷ 0 ∷ 42 ∷ 63 ∷ 1 ∷ 0 ∷ 2 ∷ 42 ∷ 6 ∷ 1 ∷ 1 ∷ 32 ∷ []
unfolding binary_digits
popcnt_64 = refl

eqz_64 : map eqz operands_64 ≡ 0 ∷ 0 ∷ 0 ∷ 0 ∷ 0 ∷ 0 ∷ 0 ∷ 0 ∷ 1 ∷ 0 ∷ 0 ∷ 0 ∷ 1 ∷ 0 ∷ 0 ∷ 0 ∷ 0 ∷ 0 ∷ 0 ∷ []
eqz_64 = refl

wrap_64 : map (wrap 32) operands_64 ≡ 7 ∷ 0 ∷ 4294967289 ∷ 7 ∷ 5 ∷ 2596069104 ∷ 1 ∷ 4294967295 ∷ 0 ∷ 3405705229 ∷ 4294967295 ∷ 1 ∷ 0 ∷ 1 ∷ 3405705229 ∷ 0 ∷ 2147483648 ∷ 0 ∷ 4294967295 ∷ []
wrap_64 = refl

extend_s_32 : map (extend_s 32 64) operands_32 ≡ 7 ∷ 18446744071562067968 ∷ 18446744073709551609 ∷ 7 ∷ 5 ∷ 305419896 ∷ 18446744071562067969 ∷ 18446744073709551615 ∷ 0 ∷ 18446744073150512879 ∷ 2147483647 ∷ 1 ∷ 0 ∷ 18446744071562067969 ∷ 18446744073150512879 ∷ 15769600 ∷ 2 ∷ []
extend_s_32 = refl

-- ---- the lowest bits, by their sign

abbrev edges_32 : List ℕ
edges_32 = 127 ∷ 128 ∷ 255 ∷ 383 ∷ 32767 ∷ 32768 ∷ 65535 ∷ 98304 ∷ []

abbrev edges_64 : List ℕ
edges_64 = 18446744073709551609 ∷ 127 ∷ 128 ∷ 255 ∷ 383 ∷ 32767 ∷ 32768 ∷ 98304 ∷ 2147483647 ∷ 2147483648 ∷ 6442450944 ∷ []

extend8_s_32 : map (unary 32 (unary_op.ExtendS Pack8)) edges_32 ≡ 127 ∷ 4294967168 ∷ 4294967295 ∷ 127 ∷ 4294967295 ∷ 0 ∷ 4294967295 ∷ 0 ∷ []
extend8_s_32 = refl

extend16_s_32 : map (unary 32 (unary_op.ExtendS Pack16)) edges_32 ≡ 127 ∷ 128 ∷ 255 ∷ 383 ∷ 32767 ∷ 4294934528 ∷ 4294967295 ∷ 4294934528 ∷ []
extend16_s_32 = refl

extend8_s_64 : map (unary 64 (unary_op.ExtendS Pack8)) edges_64 ≡ 18446744073709551609 ∷ 127 ∷ 18446744073709551488 ∷ 18446744073709551615 ∷ 127 ∷ 18446744073709551615 ∷ 0 ∷ 0 ∷ 18446744073709551615 ∷ 0 ∷ 0 ∷ []
extend8_s_64 = refl

extend16_s_64 : map (unary 64 (unary_op.ExtendS Pack16)) edges_64 ≡ 18446744073709551609 ∷ 127 ∷ 128 ∷ 255 ∷ 383 ∷ 32767 ∷ 18446744073709518848 ∷ 18446744073709518848 ∷ 18446744073709551615 ∷ 0 ∷ 0 ∷ []
extend16_s_64 = refl

extend32_s_64 : map (unary 64 (unary_op.ExtendS Pack32)) edges_64 ≡ 18446744073709551609 ∷ 127 ∷ 128 ∷ 255 ∷ 383 ∷ 32767 ∷ 32768 ∷ 98304 ∷ 2147483647 ∷ 18446744071562067968 ∷ 18446744071562067968 ∷ []
extend32_s_64 = refl

-- what lies above them is no part of the sign
above_8_in_32 : map (unary 32 (unary_op.ExtendS Pack8)) (256 ∷ 384 ∷ []) ≡ 0 ∷ 4294967168 ∷ []
above_8_in_32 = refl

above_16_in_32 : unary 32 (unary_op.ExtendS Pack16) 65536 ≡ 0
above_16_in_32 = refl

above_8_in_64 : map (unary 64 (unary_op.ExtendS Pack8)) (256 ∷ 384 ∷ []) ≡ 0 ∷ 18446744073709551488 ∷ []
above_8_in_64 = refl

above_16_in_64 : map (unary 64 (unary_op.ExtendS Pack16)) (65535 ∷ 65536 ∷ []) ≡ 18446744073709551615 ∷ 0 ∷ []
above_16_in_64 = refl

above_32_in_64 : map (unary 64 (unary_op.ExtendS Pack32)) (4294967295 ∷ 4294967296 ∷ []) ≡ 18446744073709551615 ∷ 0 ∷ []
above_32_in_64 = refl
