-- What the words of a command line mean; the first is the program's name.
use Rattle.std.specs.Prelude.{◌==◌, List, Option, Some, None, length, codes, if◌then◌else◌, is_none, option_and_then}
use Rattle.std.specs.Str.{bytes_eq}
use Rattle.clap.specs.Words.{Row, Text, fault_of, subcommand_of}
use Rattle.pool_limits.specs.Ranges.{bad_number}
use Rattle.command_line.specs.Command.{poolhost_command}
use Rattle.command_line.specs.Matches.{is_set, number_in, numbers_in}
use Rattle.command_line.specs.declared.words.Command.{Command}
use Rattle.command_line.specs.declared.words.Command.TheVariants.{Make, Run}

-- the name of the subcommand that the words enter, and its matches; none where clap finds a fault in the words
unfoldable pub entered_by : List Text → Option (Text × List Row)
entered_by words = if length (fault_of poolhost_command words) == 0 then subcommand_of poolhost_command words else None

-- the run that its matches ask for, if its numbers are those of a configuration: several workers have slots to share
abbrev pub run_in : List Row → Option Command
run_in rows = if is_none (bad_number (numbers_in rows))
    then Some (Run (numbers_in rows) (is_set (codes "summary") rows) (number_in (codes "slice") rows)) else None

-- what this subcommand, which is `make` or `run`, asks for by its matches
abbrev pub command_in : Text × List Row → Option Command
command_in entered = if bytes_eq entered.0 (codes "make")
    then Some (Make (number_in (codes "seed") entered.1) (number_in (codes "count") entered.1))
    else run_in entered.1

-- the command that the words give, if clap finds no fault in them and the subcommand that they enter asks for one
unfoldable pub command_of : List Text → Option Command
command_of words = option_and_then command_in (entered_by words)
