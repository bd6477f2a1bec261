-- The command `poolhost`, as clap's parse reads it.
use Rattle.std.specs.Prelude.{ℕ, pos, true, Some, List, [], ◌∷◌, ◌++◌, codes, fold}
use Rattle.std.specs.Borrow.{Bor}
use Rattle.clap.specs.Words.{App, Rule, Text, new_app, new_rule, with_rule, with_subcommand}
use Rattle.clap.specs.Simple.{on_top}
use Rattle.clap.specs.declared.builder.action.ArgAction.TheVariants.{Set, SetTrue}
use Rattle.clap.specs.declared.builder.value_parser.ValueParser.{ValueParser}
use Rattle.clap.specs.declared.builder.value_parser.ValueParser.TheVariants as vp

-- `--NAME NUMBER`: a whole number from `least` to `most`; left out, it is the number of `default`
abbrev pub number_option : (name : Text) (least most : ℕ) (default : Text) → Rule
number_option name least most default = record (new_rule name) {
  long = Some name;
  action = Some Set;
  parser = Some (vp.Signed (pos least) (pos most));
  defaults = default ∷ [];
}

-- the option of a row: its name, the least and the most of its numbers, and its default
abbrev pub number_row : Bor Text × ℕ × ℕ × Bor Text → Rule
number_row row = number_option row.0.now row.1 row.2 row.3.now

abbrev pub run_options : List Rule
run_options = number_option (codes "workers") 1 16 (codes "1")
    ∷ number_option (codes "instances") 1 1024 (codes "4")
    ∷ number_option (codes "memories") 1 1024 (codes "4")
    ∷ number_option (codes "tables") 1 1024 (codes "4")
    ∷ number_option (codes "warm") 0 1024 (codes "2")
    ∷ number_option (codes "batch") 1 1024 (codes "4")
    ∷ number_option (codes "pages") 1 256 (codes "32")
    ∷ number_option (codes "elements") 0 65536 (codes "1024")
    ∷ number_option (codes "depth") 1 1000 (codes "128")
    ∷ number_option (codes "frame") 1 4096 (codes "1024")
    ∷ number_option (codes "slice") 0 4294967295 (codes "0")
    ∷ []

-- `--NAME`
abbrev pub flag : (name : Text) → Rule
flag name = record (new_rule name) { long = Some name; action = Some SetTrue }

-- the command of this name, with these rules and no help
abbrev pub command_named : (name : Text) → List Rule → App
command_named name rules = on_top (λ s. record s { rules = rules; disable_help_flag = true }) (new_app name)

-- the command with these rules more, one after another
abbrev pub with_rules : App → List Rule → App
with_rules a rules = fold with_rule a rules

-- `run`, with its options and its flag
abbrev pub run_command : App
run_command = command_named (codes "run") (run_options ++ flag (codes "summary") ∷ [])

-- a number that must be given, in its place among the words
abbrev pub number_argument : (name : Text) → ValueParser → Rule
number_argument name parser = record (new_rule name) { action = Some Set; parser = Some parser; required = true }

-- `make SEED COUNT`
abbrev pub make_command : App
make_command = command_named (codes "make") (number_argument (codes "seed") (vp.Unsigned 0 18446744073709551615)
    ∷ number_argument (codes "count") (vp.Signed (pos 1) (pos 100000)) ∷ [])

-- `poolhost`, which wants a subcommand: it has `run` and `make`
abbrev pub poolhost_command : App
poolhost_command =
    let empty = on_top (λ s. record s { disable_help_subcommand = true; subcommand_required = true }) (command_named (codes "poolhost") []) in
    with_subcommand (with_subcommand empty run_command.top) make_command.top
