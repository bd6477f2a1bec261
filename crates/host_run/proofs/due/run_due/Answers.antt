use Rattle.host_run.proofs.OwedLemmas.{owes_file, was_made}
use Rattle.host_run.proofs.due.run_due.Goals as goal

pub returns-clause-owes : goal.returns-clause-owes
returns-clause-owes g c =
    owes_file g.S.Source.left g.S.Source.faults c.args.config c.args.summary c.args.slice c.args.source.now c.read_input.new.source _ _ c.in_ok-answer.field-0
    c.in_ok-bytes.ensures.bytes c.in_ok-bytes.ensures.quiet c.deref.ensures.value c.in_ok-answer.ensures.answer

pub returns-clause-made : goal.returns-clause-made
returns-clause-made g c =
    was_made c.args.config c.args.summary c.args.slice _ _ _ _ _ c.in_ok-bytes.ensures.bytes c.deref.ensures.value c.in_ok-answer.ensures.made
