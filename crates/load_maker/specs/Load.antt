-- The request file that a seed and a number of calls give: three modules, and calls of them that are drawn by a linear
-- congruential generator. Each line ends in LF.
use Rattle.std.specs.Prelude.{ℕ, zero, suc, ◌+◌, ◌*◌, ◌/◌, ◌%◌, ◌^◌, ◌==◌, if◌then◌else◌, List, ◌++◌, codes, flat_map}
use Rattle.std.specs.Fmt.{decimal}
use Rattle.std.specs.List.{range_with_len}

-- ---- the generator

-- a state is a number below 2^64; this is the one that follows
abbrev pub state_after : ℕ → ℕ
state_after state = (state * 6364136223846793005 + 1442695040888963407) % 2 ^ 64

-- the state after so many steps from the seed
abbrev pub state_at : (seed steps : ℕ) → ℕ
state_at seed zero = seed
state_at seed (suc steps) = state_after (state_at seed steps)

-- the upper 31 bits of a state
abbrev pub draw_of : ℕ → ℕ
draw_of state = state / 2 ^ 33

-- ---- the lines

-- a module's name, and the hex digits of its bytes
abbrev pub module_line : (name digits : List ℕ) → List ℕ
module_line name digits = codes "module " ++ name ++ codes " " ++ digits ++ codes "\n"

-- `add` adds two i32
abbrev pub add_digits : List ℕ
add_digits = codes "0061736d0100000001070160027f7f017f030201000707010361646400000a09010700200020016a0b"

-- `bump` counts its calls in its memory
abbrev pub bump_digits : List ℕ
bump_digits = codes "0061736d010000000105016000017f0302010005030100010708010462756d7000000a160114004100410028020041016a36020041002802000b"

-- `g` grows its memory: `dirty` writes the last byte and then loops until its fuel is used up, and `look` gives that byte
abbrev pub grown_digits : List ℕ
grown_digits = codes "0061736d010000000108026000006000017f03030200010503010001071002056469727479000004"
    ++ codes "6c6f6f6b00010a26021500410140001a41ffff07417f3a000003400c000b0b0e00410140001a41ffff072d00000b"

unfoldable pub module_lines : List ℕ
module_lines = module_line (codes "add") add_digits ++ module_line (codes "bump") bump_digits ++ module_line (codes "g") grown_digits

-- the call with this number: the draw's remainder by 4 picks what is called, and its quotient gives a number
unfoldable pub call_text : (number draw : ℕ) → List ℕ
call_text number draw =
    if draw % 4 == 0 then codes "call add add " ++ decimal 100 ++ codes " i32:" ++ decimal (draw / 4) ++ codes " i32:" ++ decimal number
    else if draw % 4 == 1 then codes "call bump bump " ++ decimal 100
    else if draw % 4 == 2 then codes "call g dirty " ++ decimal ((draw / 4) % 50)
    else codes "call g look " ++ decimal 100

-- the line of the k-th call, which is drawn from the state after k steps
abbrev pub drawn_line : (seed k : ℕ) → List ℕ
drawn_line seed k = call_text k (draw_of (state_at seed k)) ++ codes "\n"

-- ---- the file

-- the modules' lines, and those of the calls 1 to `count`
abbrev pub made_file : (seed count : ℕ) → List ℕ
made_file seed count = module_lines ++ flat_map (drawn_line seed) (range_with_len 1 count)
