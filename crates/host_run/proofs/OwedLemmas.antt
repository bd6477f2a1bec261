-- What is owed once a file was read.
use Rattle.std.proofs.Common.{◌≡◌, ◌≤◌, ◌⊎◌, ℕ, Bool, List, length, Option, Some, None, Ok, Err, refl, ap, subst, inl, inr, arith, IfSome}
use Rattle.std.specs.Prelude.{Result}
use Rattle.std.specs.Io.KnownBytes.{IsAtEnd}
use Rattle.pool_limits.specs.declared.numbers.Numbers.{Numbers}
use Rattle.request_text.specs.Text.{Asked, FileRefusal, requests_of}
use Rattle.command_line.specs.declared.words.Command.TheVariants.{Run}
use Rattle.host_run.specs.declared.due.RunOutput.{RunOutput}
use Rattle.host_run.specs.Made.{FileWasMade, WasMade}
use Rattle.host_run.specs.Owed.{Owes}
use Rattle.host_run.specs.Serving.{DueAnswer, IsFileAnswer, due_answer}
use Rattle.host_run.specs.Streams.{ReadsInput}
use Rattle.host_run.proofs.DueLemmas.{at_end_of_report, due_of_all, no_longer}

-- the answer to a file has status 0 or 2
file_status : (numbers : Numbers) (summary : Bool) (bytes : List ℕ) (answer : DueAnswer) (requests : Result Asked FileRefusal) → requests_of numbers bytes ≡ requests
    → IsFileAnswer numbers summary bytes answer → (answer.status ≡ 0) ⊎ (answer.status ≡ 2)
file_status numbers summary bytes answer (Ok requests) asks is = let report = rw asks at is in inl report.status
file_status numbers summary bytes answer (Err why) asks is = let refusal = rw asks at is in inr (ap (λ a. a.status) refusal)

-- a file of 64 MiB at most is read to its end
all_read : (before after : Option (List ℕ)) (bytes : List ℕ) → ReadsInput before after bytes → IfSome before (λ all. length all ≤ 67108864 → IsAtEnd after)
all_read None after bytes read = tt
all_read (Some all) after bytes read = λ few. let fewer = no_longer all bytes after read.taken in read.end (omega arith)

-- the answer to a file that was read; `text` is its bytes as they were handed on
pub owes_file : {S : Type 0} (left : S → Option (List ℕ)) (faults : S → ℕ) (numbers : Numbers) (summary : Bool) (slice : ℕ) (before after : S) (bytes text : List ℕ) (due : RunOutput)
    → ReadsInput (left before) (left after) bytes → faults after ≡ faults before → text ≡ bytes → IsFileAnswer numbers summary text (due_answer due)
    → Owes left faults (Some (Run numbers summary slice)) before after (Ok due)
owes_file left faults numbers summary slice before after bytes text due read quiet same is =
    let answer : IsFileAnswer numbers summary bytes (due_answer due) = subst (λ (b : List ℕ). IsFileAnswer numbers summary b (due_answer due)) same is in
    record {
      due = due_of_all numbers summary (left before) (left after) bytes text (due_answer due) read same is;
      taken = (bytes, read.taken, answer);
      refused = λ none. absurd (cc);
      load = λ seed count load. absurd (cc);
      status = file_status numbers summary bytes (due_answer due) (requests_of numbers bytes) refl answer;
      accepted = λ _. refl;
      unread = λ reads. absurd (cc);
      end = λ zero reads. at_end_of_report numbers summary (left before) (left after) bytes text (due_answer due) read same is zero;
      all_read = λ reads. all_read (left before) (left after) bytes read;
      at_most = (bytes, read.taken, read.size);
      short = tt;
      failed = λ is. absurd (cc);
      spared = λ is. absurd (cc);
      quiet = quiet;
      later = omega arith;
    }

-- and what it is answered came about as it is said of those bytes
pub was_made : (numbers : Numbers) (summary : Bool) (slice : ℕ) (before after : Option (List ℕ)) (bytes text : List ℕ) (answer : DueAnswer)
    → ReadsInput before after bytes → text ≡ bytes → FileWasMade numbers summary slice text answer → WasMade (Run numbers summary slice) before after answer
was_made numbers summary slice before after bytes text answer read same made = (bytes, read.taken, subst (λ (b : List ℕ). FileWasMade numbers summary slice b answer) same made)
