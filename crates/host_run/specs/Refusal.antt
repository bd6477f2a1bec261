-- Why a request file is refused.
use Rattle.request_text.specs.Text.{BadLine, FileRefusal, FileTooLong}
use Rattle.host_run.specs.declared.answer.Refusal.{Refusal}
use Rattle.host_run.specs.declared.answer.Refusal.TheVariants.{Line, TooLong}

-- the refusal that is told
abbrev pub told : Refusal → FileRefusal
told TooLong = FileTooLong
told (Line line reason) = BadLine line reason
