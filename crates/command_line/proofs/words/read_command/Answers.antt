use Rattle.std.proofs.Common.{◌≡◌, ◌∙◌, List, map, rules, sym}
use Rattle.clap.specs.Words.{App, HasKind, Text, app_of, fault_of}
use Rattle.command_line.specs.declared.words.WordsFault.TheVariants.{NoMemory, Refused}
use Rattle.command_line.proofs.ParsedWords.{at_poolhost, few_calls, no_command, parsed, refused, taken}
use Rattle.command_line.proofs.words.read_command.Goals as goal

pub returns-in-Err-clause-refused : goal.returns-in-Err-clause-refused
returns-in-Err-clause-refused c h =
    let words : List Text = map (λ w. w.now) c.args.words.now in
    no_command words c.in-Err.error
    (at_poolhost (app_of c.in_ok-syntax.syntax) (λ (a : App). HasKind (fault_of a words) c.in-Err.error) c.in_ok-syntax.ensures.app c.in-Err.ensures.kinds)
    (λ memory.
    let refused : c.fault_of_kind.result ≡ Refused = search rules in
    let short : c.fault_of_kind.result ≡ NoMemory = c.fault_of_kind.ensures.1 (c.kind.ensures ∙ memory) in cc)

pub command_at-requires : goal.command_at-requires
command_at-requires c =
    (parsed (map (λ w. w.now) c.args.words.now) (app_of c.in_ok-syntax.syntax) c.in-Ok.matches c.in_ok-syntax.ensures.app c.in-Ok.ensures.kinds c.in-Ok.ensures.matches).complete

pub returns-in-Ok-clause-command : goal.returns-in-Ok-clause-command
returns-in-Ok-clause-command c =
    let parse = parsed (map (λ w. w.now) c.args.words.now) (app_of c.in_ok-syntax.syntax) c.in-Ok.matches c.in_ok-syntax.ensures.app c.in-Ok.ensures.kinds c.in-Ok.ensures.matches in
    taken (map (λ w. w.now) c.args.words.now) c.command_at.result c.ok_or.result (parse.command ∙ sym c.command_at.ensures.command) c.ok_or.ensures.value

pub returns-in-Ok-clause-count : goal.returns-in-Ok-clause-count
returns-in-Ok-clause-count c = few_calls c.command_at.result c.ok_or.result c.ok_or.ensures.value c.command_at.ensures.count

pub returns-in-Ok-clause-refused : goal.returns-in-Ok-clause-refused
returns-in-Ok-clause-refused c h =
    let parse = parsed (map (λ w. w.now) c.args.words.now) (app_of c.in_ok-syntax.syntax) c.in-Ok.matches c.in_ok-syntax.ensures.app c.in-Ok.ensures.kinds c.in-Ok.ensures.matches in
    refused (map (λ w. w.now) c.args.words.now) c.command_at.result c.ok_or.result (parse.command ∙ sym c.command_at.ensures.command) c.ok_or.ensures.value h
