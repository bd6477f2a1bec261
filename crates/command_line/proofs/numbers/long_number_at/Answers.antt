use Rattle.std.proofs.Common.{◌≡◌, Some, arith, rules}
use Rattle.std.specs.Str.Parse.{ParsesUnsigned, ExplainsUnsignedError, HasUnsignedDigitsIfOk}
use Rattle.clap.specs.Words.{found_of, rows_of}
use Rattle.command_line.specs.Matches.{number_in}
use Rattle.command_line.proofs.NumberTexts.{reads_number}
use Rattle.command_line.proofs.numbers.long_number_at.Goals as goal

pub unwrap-requires : goal.unwrap-requires
unwrap-requires c =
    let read : c.get_one.result ≡ Some (number_in c.args.id.now (rows_of (found_of c.args.matches.now))) =
    reads_number 64 18446744073709551615 (λ bs r. ParsesUnsigned 64 10 bs r × ExplainsUnsignedError 10 bs r × HasUnsignedDigitsIfOk bs r) (found_of c.args.matches.now) c.args.id.now c.get_one.result (omega arith) (λ u x g. g.0) c.get_one.ensures.value c.requires in
    rw read (search rules)

pub returns : goal.returns
returns c =
    let read : c.get_one.result ≡ Some (number_in c.args.id.now (rows_of (found_of c.args.matches.now))) =
    reads_number 64 18446744073709551615 (λ bs r. ParsesUnsigned 64 10 bs r × ExplainsUnsignedError 10 bs r × HasUnsignedDigitsIfOk bs r) (found_of c.args.matches.now) c.args.id.now c.get_one.result (omega arith) (λ u x g. g.0) c.get_one.ensures.value c.requires in
    cc
