-- Loads that were computed by hand.
use Rattle.std.proofs.Common.{◌≡◌, ℕ, List, ◌++◌, refl, codes}
use Rattle.std.specs.Fmt.{digits}
use Rattle.std.specs.List.{flat_map, range_with_len}
use Rattle.load_maker.specs.Load.{call_text, draw_of, drawn_line, state_at}

abbrev calls_of : (seed count : ℕ) → List ℕ
calls_of seed count = flat_map (drawn_line seed) (range_with_len 1 count)

first_state : state_at 1 1 ≡ 7806831264735756412
first_state = refl

first_draw : draw_of (state_at 1 1) ≡ 908834774
first_draw = refl

third_state : state_at 7 3 ≡ 16723372171710603212
third_state = refl

one_call : calls_of 1 1 ≡ codes "call g dirty 43\n"
unfolding call_text digits
one_call = refl

all_kinds : calls_of 7 7 ≡ codes "call g dirty 19\ncall g look 100\ncall bump bump 100\ncall bump bump 100\ncall bump bump 100\n"
    ++ codes "call g look 100\ncall add add 100 i32:216297466 i32:7\n"
unfolding call_text digits
all_kinds = refl

greatest_seed : calls_of 18446744073709551615 2 ≡ codes "call add add 100 i32:393638122 i32:1\ncall g look 100\n"
unfolding call_text digits
greatest_seed = refl
