use Rattle.host_run.specs.Serving.{IsDue, due_answer, texts_of}
use Rattle.host_run.proofs.DeliveryLemmas.{part_delivered, whole_delivered}
use Rattle.host_run.proofs.service.serve.Goals as goal

pub returns-in-Ok-write_text-clause-taken : goal.returns-in-Ok-write_text-clause-taken
returns-in-Ok-write_text-clause-taken g c = λ _.
    let due = due_answer c.in-Ok.due in
    let taken = c.in-Ok.ensures.taken in
    (taken.0, taken.1, whole_delivered (IsDue (texts_of c.args.words.now) taken.0) _ _ due taken.2 c.in-Ok.ensures.status (rw c.bytes.ensures at c.in-Ok-write_text.ensures.whole))

pub returns-in-Ok-clause-taken : goal.returns-in-Ok-clause-taken
returns-in-Ok-clause-taken g c = λ _.
    let due = due_answer c.in-Ok.due in
    let taken = c.in-Ok.ensures.taken in
    (taken.0, taken.1, part_delivered (IsDue (texts_of c.args.words.now) taken.0) _ _ due _ taken.2 c.code.ensures (rw c.bytes.ensures at c.in-Err.ensures.part))
