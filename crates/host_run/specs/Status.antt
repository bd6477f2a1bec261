-- The exit statuses of a run.
use Rattle.std.specs.Prelude.{ℕ}
use Rattle.host_run.specs.declared.status.Status.{Status}
use Rattle.host_run.specs.declared.status.Status.TheVariants.{NoMemory, Refused, Reported, SinkFailed, SourceFailed}

abbrev pub code_of : Status → ℕ
code_of Reported = 0
code_of Refused = 2
code_of SourceFailed = 3
code_of SinkFailed = 4
code_of NoMemory = 5
