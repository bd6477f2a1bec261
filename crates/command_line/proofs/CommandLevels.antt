-- The levels of `run` and `make`: where no fault comes, each number has its range, and the flag is set or not.
use Rattle.std.proofs.Common.{◌≡◌, ℕ, zero, suc, true, false, List, [], ◌∷◌, Some, refl, codes, pos}
use Rattle.clap.specs.Words.{Shape, Text, built, one_of}
use Rattle.clap.specs.Simple.{filled, with_index}
use Rattle.clap.specs.Walk.{Rule, arg_by_id, nothing_held, rows_after}
use Rattle.clap.specs.Faults.{level_fault}
use Rattle.clap.specs.declared.builder.value_parser.ValueParser.TheVariants as vp
use Rattle.command_line.specs.Command.{flag, number_argument, number_option, poolhost_command}
use Rattle.command_line.specs.Matches.{HasMake, HasNumbers, HasRun, IsNumberIn}
use Rattle.command_line.proofs.LevelValues.{is_readable, reads_value}
use Rattle.command_line.proofs.NumberTexts.{flag_text, signed_number, unsigned_number}

-- the subcommand at this place
abbrev shape_at : List Shape → ℕ → Shape
shape_at [] n = poolhost_command.top
shape_at (s ∷ rest) zero = s
shape_at (s ∷ rest) (suc n) = shape_at rest n

-- an option with a number has one of its range
pub option_number : (s : Shape) (rest : List Text) → is_readable s.rules ≡ true → level_fault s [] nothing_held rest false [] ≡ []
    → (id : Text) (least most : ℕ) (default : Text) → arg_by_id s.rules id ≡ Some (filled (number_option id least most default))
    → IsNumberIn least most (one_of id (rows_after s.rules [] rest))
option_number s rest readable e id least most default found =
    let value = reads_value s rest readable e (filled (number_option id least most default)) found refl in
    rw value.reads (signed_number least most value.text value.passes)

-- `run` and `make`, as they are built
abbrev pub run_level : Shape
run_level = shape_at (built poolhost_command).subs 0

abbrev pub make_level : Shape
make_level = shape_at (built poolhost_command).subs 1

pub run_numbers : (rest : List Text) → level_fault run_level [] nothing_held rest false [] ≡ [] → HasNumbers (rows_after run_level.rules [] rest)
run_numbers rest e = record {
  workers = option_number run_level rest refl e (codes "workers") 1 16 (codes "1") refl;
  instances = option_number run_level rest refl e (codes "instances") 1 1024 (codes "4") refl;
  memories = option_number run_level rest refl e (codes "memories") 1 1024 (codes "4") refl;
  tables = option_number run_level rest refl e (codes "tables") 1 1024 (codes "4") refl;
  warm = option_number run_level rest refl e (codes "warm") 0 1024 (codes "2") refl;
  batch = option_number run_level rest refl e (codes "batch") 1 1024 (codes "4") refl;
  pages = option_number run_level rest refl e (codes "pages") 1 256 (codes "32") refl;
  elements = option_number run_level rest refl e (codes "elements") 0 65536 (codes "1024") refl;
  depth = option_number run_level rest refl e (codes "depth") 1 1000 (codes "128") refl;
  frame = option_number run_level rest refl e (codes "frame") 1 4096 (codes "1024") refl;
}

-- `--summary`, as it is built
abbrev summary_rule : Rule
summary_rule = filled (flag (codes "summary"))

pub run_complete : (rest : List Text) → level_fault run_level [] nothing_held rest false [] ≡ [] → HasRun (rows_after run_level.rules [] rest)
run_complete rest e =
    let value = reads_value run_level rest refl e summary_rule refl refl in
    record {
      numbers = run_numbers rest e;
      slice = option_number run_level rest refl e (codes "slice") 0 4294967295 (codes "0") refl;
      summary = rw value.reads (flag_text value.text value.passes);
    }

-- the arguments of `make`, as they are built
abbrev seed_rule : Rule
seed_rule = with_index 1 (filled (number_argument (codes "seed") (vp.Unsigned 0 18446744073709551615)))

abbrev count_rule : Rule
count_rule = with_index 2 (filled (number_argument (codes "count") (vp.Signed (pos 1) (pos 100000))))

pub make_complete : (rest : List Text) → level_fault make_level [] nothing_held rest false [] ≡ [] → HasMake (rows_after make_level.rules [] rest)
make_complete rest e =
    let seed = reads_value make_level rest refl e seed_rule refl refl in
    let count = reads_value make_level rest refl e count_rule refl refl in
    record {
      seed = rw seed.reads (unsigned_number 0 18446744073709551615 seed.text seed.passes);
      count = rw count.reads (signed_number 1 100000 count.text count.passes);
    }
