use Rattle.job_queue.proofs.jobs.Jobs.open.Given as goal

abbrev pub ghosts-tell : goal.ghosts-tell
ghosts-tell g a = record { terms = a.terms }
