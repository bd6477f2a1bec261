use Rattle.call_jobs.proofs.EntryLemmas.{number_of_due}
use Rattle.call_jobs.proofs.calls.due_at.Goals as goal
