-- From the clauses of a parse to the command.
use Rattle.std.proofs.Common.{◌≡◌, ◌≢◌, ◌≤◌, ◌∙◌, ◌==◌, ℕ, true, false, List, [], ◌∷◌, Option, Some, None, refl, ap, subst, arith, length, inl, inr}
use Rattle.std.specs.Prelude.{IfOk, IsErrOf, IsSomeAnd, Result, option_and_then}
use Rattle.std.specs.Option.{ok_or}
use Rattle.std.proofs.lemmas.Bool.{ne_eqb}
use Rattle.clap.specs.Kinds.{HasKind, IsAmong, Kinds}
use Rattle.clap.specs.Words.{App, HasMatchesOf, Row, Shape, Text, built, fault_of, found_of, is_simple, is_simple_and_free, kind_of, matches_of, rows_of, subcommand_of, subcommand_rows_of}
use Rattle.clap.specs.Faults.{level_fault}
use Rattle.clap.specs.Walk.{nothing_held, rows_after}
use Rattle.clap.specs.declared.error.Error.{Error}
use Rattle.clap.specs.declared.error.kind.ErrorKind.{ErrorKind}
use Rattle.clap.specs.declared.error.kind.ErrorKind.TheVariants.{OutOfMemory}
use Rattle.clap.specs.declared.parser.matches.ArgMatches.{ArgMatches}
use Rattle.command_line.specs.Command.{poolhost_command}
use Rattle.command_line.specs.Matches.{IsComplete}
use Rattle.command_line.specs.Words.{command_in, command_of, entered_by}
use Rattle.command_line.specs.declared.words.Command.{Command}
use Rattle.command_line.specs.declared.words.Command.TheVariants.{Make}
use Rattle.command_line.specs.declared.words.WordsFault.{WordsFault}
use Rattle.command_line.specs.declared.words.WordsFault.TheVariants.{Refused}
use Rattle.command_line.proofs.CommandLevels.{make_complete, make_level, run_complete, run_level}
use Rattle.command_line.proofs.SubcommandFacts.{IsOneOf, enters}

-- what a clause on a simple command without rules of one argument on another says of this one
pub at_poolhost : (a : App) (P : App → Type 0) → a ≡ poolhost_command → (is_simple_and_free a ≡ true → P a) → P poolhost_command
at_poolhost a P is f = subst (λ (b : App). is_simple_and_free b ≡ true → P b) is f refl

-- what a clause on a simple command says of this one
rows_at_poolhost : (a : App) (P : App → Type 0) → a ≡ poolhost_command → (is_simple a ≡ true → P a) → P poolhost_command
rows_at_poolhost a P is f = subst (λ (b : App). is_simple b ≡ true → P b) is f refl

length-among : (k : ErrorKind) (ks : Kinds) → IsAmong k ks → (length ks == 0) ≡ false
length-among k [] h = absurd h
length-among k (x ∷ xs) h = ne_eqb _ _ (λ e. omega arith)

-- an error of another kind than want of memory comes from a fault
pub no_command : (words : List Text) (e : Error) → HasKind (fault_of poolhost_command words) e → kind_of e ≢ OutOfMemory → command_of words ≡ None
unfolding command_of entered_by
no_command words e (inl memory) other = absurd (other memory)
no_command words e (inr among) other =
    let some : (length (fault_of poolhost_command words) == 0) ≡ false = length-among _ _ among in
    rw some refl

-- the words have no fault, and their command is that of the matches
pub record IsParsed (words : List Text) (m : ArgMatches) : Type 0 where
  pub complete : IsSomeAnd (subcommand_rows_of m) IsComplete
  pub command : command_of words ≡ option_and_then command_in (subcommand_rows_of m)

entered_complete : (sub : Shape) (rest : List Text) → IsOneOf sub (built poolhost_command).subs → level_fault sub [] nothing_held rest false [] ≡ []
    → IsComplete (sub.name, rows_after sub.rules [] rest)
entered_complete sub rest (inl is) none =
    let quiet : level_fault run_level [] nothing_held rest false [] ≡ [] = rw is at none in
    rw is (inl (refl, run_complete rest quiet))
entered_complete sub rest (inr (inl is)) none =
    let quiet : level_fault make_level [] nothing_held rest false [] ≡ [] = rw is at none in
    rw is (inr (refl, make_complete rest quiet))
entered_complete sub rest (inr (inr other)) none = absurd other

command_when_free : (words : List Text) (o : Option (Text × List Row)) → fault_of poolhost_command words ≡ [] → o ≡ subcommand_of poolhost_command words
    → command_of words ≡ option_and_then command_in o
unfolding command_of entered_by
command_when_free words o none same =
    let free : (length (fault_of poolhost_command words) == 0) ≡ true = rw none refl in
    rw (free, ← same) refl

-- by the clauses of a parse
pub parsed : (words : List Text) (a : App) (m : ArgMatches) → a ≡ poolhost_command → (is_simple_and_free a ≡ true → fault_of a words ≡ [])
    → HasMatchesOf a words m → IsParsed words m
parsed words a m is kinds rows =
    let none = at_poolhost a (λ b. fault_of b words ≡ []) is kinds in
    let same = (rows_at_poolhost a (λ b. (rows_of (found_of m) ≡ matches_of b words) × (subcommand_rows_of m ≡ subcommand_of b words)) is rows).1 in
    let met = enters poolhost_command words refl none in
    let entered : subcommand_rows_of m ≡ Some (met.sub.name, rows_after met.sub.rules [] met.rest) = same ∙ met.rows in
    record {
      complete = rw entered (entered_complete met.sub met.rest met.is_sub met.no_fault);
      command = command_when_free words (subcommand_rows_of m) none same;
    }

-- ---- what is answered for what the matches ask for, or a refusal where they ask for nothing

pub taken : (words : List Text) (asked : Option Command) (result : Result Command WordsFault) → command_of words ≡ asked → result ≡ ok_or asked Refused → IfOk result (λ c. command_of words ≡ Some c)
taken words None result is answered = rw answered tt
taken words (Some c) result is answered = rw answered is

pub refused : (words : List Text) (asked : Option Command) (result : Result Command WordsFault) → command_of words ≡ asked → result ≡ ok_or asked Refused → IsErrOf result Refused → command_of words ≡ None
refused words None result is answered refusal = is
refused words (Some c) result is answered refusal = cc

pub few_calls : (asked : Option Command) (result : Result Command WordsFault) → result ≡ ok_or asked Refused
    → ((seed count : ℕ) → asked ≡ Some (Make seed count) → (1 ≤ count) × (count ≤ 100000)) → IfOk result (λ c. (seed count : ℕ) → c ≡ Make seed count → (1 ≤ count) × (count ≤ 100000))
few_calls None result answered few = rw answered tt
few_calls (Some c) result answered few = rw answered (λ seed count is. few seed count (ap Some is))
