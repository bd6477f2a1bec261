-- What is owed before the first byte is written.
use Rattle.std.specs.Prelude.{◌≡◌, ◌⊎◌, ◌≤◌, ℕ, false, true, List, length, Option, Some, None, IfSome, is_some, Result, IfOk, IsErrOf, OnErr, OnOk}
use Rattle.std.specs.Io.KnownBytes.{Consumes, IsAtEnd}
use Rattle.host_edge.specs.Streams.{Rose}
use Rattle.command_line.specs.declared.words.Command.{Command}
use Rattle.command_line.specs.declared.words.Command.TheVariants.{Make}
use Rattle.host_run.specs.Serving.{IsOwed, load_of, reads_source, refused_words, due_answer}
use Rattle.host_run.specs.Streams.{TakesAtMost}
use Rattle.host_run.specs.declared.due.RunOutput.{RunOutput}
use Rattle.host_run.specs.declared.streams.InputFault.{InputFault}
use Rattle.host_run.specs.declared.streams.InputFault.TheVariants.{Failed, NoMemory}

-- The answer to this command, if there is one, or the fault that kept it from being found. The source was as `before`, and
-- is as `after`.
pub record Owes {S : Type 0} (left : S → Option (List ℕ)) (faults : S → ℕ) (asked : Option Command) (before after : S) (result : Result RunOutput InputFault) : Type 0 where
  -- the answer that is due for all bytes that the source had left, and for those that were taken
  pub due : IfOk result (λ due. IfSome (left before) (λ bytes. IsOwed asked bytes (due_answer due)))
  pub taken : IfOk result (λ due. (bytes : List ℕ) × Consumes (left before) (left after) bytes × IsOwed asked bytes (due_answer due))
  pub refused : IfOk result (λ due. asked ≡ None → due_answer due ≡ refused_words)
  pub load : IfOk result (λ due. (seed count : ℕ) → asked ≡ Some (Make seed count) → due_answer due ≡ load_of seed count)
  pub status : IfOk result (λ due. (due.status ≡ 0) ⊎ (due.status ≡ 2))
  pub accepted : IfOk result (λ due. due.status ≡ 0 → is_some asked ≡ true)
  -- how much is read
  pub unread : reads_source asked ≡ false → after ≡ before
  pub end : IfOk result (λ due. due.status ≡ 0 → reads_source asked ≡ true → IsAtEnd (left after))
  pub all_read : IfOk result (λ _. reads_source asked ≡ true → IfSome (left before) (λ bytes. length bytes ≤ 67108864 → IsAtEnd (left after)))
  pub at_most : TakesAtMost (left before) (left after) 67108865
  pub short : OnErr result (TakesAtMost (left before) (left after) 67108864)
  -- the cause of a fault
  pub failed : IsErrOf result Failed → Rose (faults before) (faults after) × (reads_source asked ≡ true)
  pub spared : IsErrOf result NoMemory → faults after ≡ faults before
  pub quiet : OnOk result (faults after ≡ faults before)
  pub later : faults before ≤ faults after
