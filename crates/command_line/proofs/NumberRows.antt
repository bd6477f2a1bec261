-- A command that gets an option for each row of a table.
use Rattle.std.proofs.Common.{◌≡◌, ℕ, ◌+◌, ◌<◌, false, List, length, map, drop, get_or, ap, ◌∙◌, Bor}
use Rattle.std.proofs.lemmas.List.{drop_more}
use Rattle.clap.specs.Words.{Text, app_of, with_rule}
use Rattle.clap.specs.declared.builder.command.Command.{Command}
use Rattle.clap.specs.declared.builder.command.Command.TheViews.{out-Command as fields_of}
use Rattle.command_line.specs.Command.{number_row, with_rules}

abbrev Row : Type 0
Row = Bor Text × ℕ × ℕ × Bor Text

-- with the options of the rows that are left, the command is the first with those of all
pub record LacksRows (all : List Row) (first : Command) (left : List Row) (command : Command) : Type 0 where
  pub app : with_rules (app_of command) (map number_row left) ≡ with_rules (app_of first) (map number_row all)
  pub local : (fields_of command).has_globals ≡ false

pub one_row_more : (all : List Row) (first : Command) (i : ℕ) (none : Row) (before after : Command) → LacksRows all first (drop i all) before → i < length all
    → app_of after ≡ with_rule (app_of before) (number_row (get_or all i none)) → (fields_of after).has_globals ≡ false → LacksRows all first (drop (i + 1) all) after
one_row_more all first i none before after h within added local =
    let rest : List Row = drop (i + 1) all in record {
      app = ap (λ a. with_rules a (map number_row rest)) added ∙ (rw (drop_more all i none within) at h.app);
      local = local;
    }
