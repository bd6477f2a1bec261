use Rattle.clap.specs.Words.{found_of}
use Rattle.command_line.proofs.NumberTexts.{reads_flag}
use Rattle.command_line.proofs.numbers.flag_at.Goals as goal

pub returns : goal.returns
returns c = reads_flag (found_of c.args.matches.now) c.args.id.now c.get_flag.result c.get_flag.ensures.value c.get_flag.ensures.other c.requires
