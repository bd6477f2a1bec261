-- What the board has of the calls.
use Rattle.std.specs.Prelude.{◌≡◌, ◌⊎◌, ℕ, ◌+◌, ◌-◌, ◌<◌, ◌≤◌, ◌==◌, zero, suc, Bool, true, false, List, [], ◌∷◌, All, length, count_by, slice_get, Option, Some, None, IfSome}
use Rattle.std.specs.Option.{option_map_or}
use Rattle.pool_host.specs.declared.answers.Answer.{Answer}
use Rattle.pool_host.specs.declared.answers.Answer.TheVariants as answer
use Rattle.request_text.specs.declared.request.Directive.{Directive}
use Rattle.request_text.specs.declared.request.Directive.TheVariants.{Module, Call, Retire}
use Rattle.report_text.specs.declared.report.CallLine.{CallLine}
use Rattle.report_text.specs.declared.report.CallLine.TheVariants as call_line
use Rattle.request_text.specs.Text.{call_count, modules_of}
use Rattle.call_jobs.specs.declared.calls.Due.{Due}
use Rattle.call_jobs.specs.declared.entries.Worked.{Worked}
use Rattle.pool_host.specs.declared.lane.LaneAnswer.{LaneAnswer}
use Rattle.pool_host.specs.declared.lane.LaneAnswer.TheVariants as lane
use Rattle.run_books.specs.Lines.{GoesAs, Limits, end_line}

-- the line of a call that the lane answered so, where this is shown of its bytes
abbrev pub answer_line : LaneAnswer → (shown : Option (List ℕ)) → CallLine
answer_line (lane.Done outcome) shown = end_line outcome shown
answer_line lane.NoExport shown = call_line.NoExport
answer_line lane.BadArgs shown = call_line.BadArgs
answer_line lane.Retired shown = call_line.Retired

-- The line of a call that was answered so by a host, or without a module, where this is shown of its bytes. Where its module is retired before it,
-- that is its line, whatever it was answered. There is none where it was answered Full, or Retired before a retire line of its module.
abbrev pub line_of : (retired : Bool) → Option Answer → (shown : Option (List ℕ)) → Option CallLine
line_of retired None shown = Some call_line.NoModule
line_of true (Some how) shown = Some call_line.Retired
line_of false (Some (answer.Done outcome)) shown = Some (end_line outcome shown)
line_of false (Some answer.NoExport) shown = Some call_line.NoExport
line_of false (Some answer.BadArgs) shown = Some call_line.BadArgs
line_of false (Some answer.Retired) shown = None
line_of false (Some (answer.Full kind)) shown = None

-- the line of what a worker made of one of these calls
abbrev pub line_made : List Due → Worked → Option CallLine
line_made calls one = line_of (option_map_or (λ due. due.retired) (slice_get calls (one.number - 1)) false) one.answer one.bytes

-- the call that comes after so many others
abbrev pub call_at : List Directive → ℕ → Option Directive
call_at [] at = None
call_at (Module name bytes ∷ requests) at = call_at requests at
call_at (Retire place name ∷ requests) at = call_at requests at
call_at (Call tenant place retired invocation ∷ requests) zero = Some (Call tenant place retired invocation)
call_at (Call tenant place retired invocation ∷ requests) (suc at) = call_at requests at

-- the line tells how this call goes
abbrev pub Tells : Limits → (modules : List (List ℕ)) → Directive → CallLine → Type 0
Tells limits modules (Module name bytes) line = ⊥
Tells limits modules (Call tenant place retired invocation) line = GoesAs limits modules place retired invocation line
Tells limits modules (Retire place name) line = ⊥

-- the line tells how the call goes that comes after so many others
abbrev pub IsLineOf : Limits → List Directive → ℕ → CallLine → Type 0
IsLineOf limits requests at line = IfSome (call_at requests at) (λ call. Tells limits (modules_of requests) call line)

-- a board for these calls, on which each line tells how its call goes
pub record IsBoard (limits : Limits) (requests : List Directive) (board : List (Option CallLine)) : Type 0 where
  pub many : length board ≡ call_count requests
  pub right : (at : ℕ) (line : CallLine) → slice_get board at ≡ Some (Some line) → IsLineOf limits requests at line

-- the line of the call that comes after so many others stands on the board
abbrev pub HasLine : (board : List (Option CallLine)) → ℕ → Type 0
HasLine board calls = (how : CallLine) × (slice_get board calls ≡ Some (Some how))

-- 1 where a line stands
abbrev pub stands : Option (Option CallLine) → ℕ
stands None = 0
stands (Some None) = 0
stands (Some (Some line)) = 1

-- these entries can be collected: each is of a call of the board, and no call has two, or one beside a line
pub record AreToCollect (board : List (Option CallLine)) (worked : List Worked) : Type 0 where
  pub counted : All (λ one. (0 < one.number) × (one.number ≤ length board)) worked
  pub once : (number : ℕ) → 0 < number → stands (slice_get board (number - 1)) + count_by (λ one. one.number == number) worked ≤ 1

-- the line at this place of the board is that of one of these entries of these calls
pub record IsOfWorked (calls : List Due) (worked : List Worked) (at : ℕ) (line : CallLine) : Type 0 where
  pub place : ℕ
  pub one : Worked
  pub one_is : slice_get worked place ≡ Some one
  pub number_is : one.number ≡ at + 1
  pub line_is : line_made calls one ≡ Some line

-- each of these entries that has a line has it on the board, at its call's place
abbrev pub HasLinesOf : List Due → List Worked → (board : List (Option CallLine)) → Type 0
HasLinesOf calls worked board = (place : ℕ) (one : Worked) (line : CallLine) → slice_get worked place ≡ Some one → line_made calls one ≡ Some line
    → slice_get board (one.number - 1) ≡ Some (Some line)

-- A board onto which these entries were collected: it has the lines that it had and theirs, and no other.
pub record IsCollected (calls : List Due) (worked : List Worked) (before after : List (Option CallLine)) : Type 0 where
  pub many : length after ≡ length before
  pub kept : (at : ℕ) (line : CallLine) → slice_get before at ≡ Some (Some line) → slice_get after at ≡ Some (Some line)
  pub lines : (at : ℕ) (line : CallLine) → slice_get after at ≡ Some (Some line) → (slice_get before at ≡ Some (Some line)) ⊎ IsOfWorked calls worked at line
  pub all : HasLinesOf calls worked after
