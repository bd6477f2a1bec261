-- What each line keeps holds of a file that is read.
use Rattle.std.proofs.Common.{ℕ, ◌+◌, List, [], ◌∷◌, length}
use Rattle.std.specs.Prelude.{Result, Ok, Err, IfOk, nat_lt}
use Rattle.std.specs.List.{list_all}
use Rattle.std.proofs.lemmas.Bool.{cond_both}
use Rattle.pool_limits.specs.declared.numbers.Numbers.{Numbers}
use Rattle.request_text.specs.declared.request.Reason.{Reason}
use Rattle.request_text.specs.declared.request.Reason.TheVariants as why
use Rattle.request_text.specs.Ladder.{demand}
use Rattle.request_words.specs.Words.{is_comment, is_printable, line_words, text_lines}
use Rattle.request_text.specs.Text.{Asked, FileRefusal, ReadLines, asked_by, at_line, nothing_read, requests_after, requests_from, requests_of, words_after}
use Rattle.request_text.proofs.TenantLemmas.{any-IfOk, step-IfOk}

-- the words of each line keep this of what was read before
abbrev pub AreKeeping : Numbers → (ReadLines → Type 0) → Type 0
AreKeeping n P = (before : ReadLines) (words : List (List ℕ)) → P before → IfOk (words_after n before words) P

line_keeps : (n : Numbers) (P : ReadLines → Type 0) → AreKeeping n P → (before : ReadLines) (line : List ℕ) → P before → IfOk (requests_after n before line) P
unfolding requests_after
line_keeps n P keep before line holds =
    cond_both (is_comment line) _ _ (λ (read : Result ReadLines Reason). IfOk read P) (λ _. holds) (λ _.
    step-IfOk (demand (list_all is_printable line) why.BadByte) _ (λ _. Unit {0}) _ (any-IfOk (demand (list_all is_printable line) why.BadByte)) (λ _ _.
    keep before (line_words line) holds))

at_line_keeps : (P : ReadLines → Type 0) (line : ℕ) (read : Result ReadLines Reason) → IfOk read P → IfOk (at_line line read) P
at_line_keeps P line (Ok read) holds = holds
at_line_keeps P line (Err reason) holds = tt

pub lines_keep : (n : Numbers) (P : ReadLines → Type 0) → AreKeeping n P → (first : ℕ) (before : ReadLines) (lines : List (List ℕ)) → P before → IfOk (requests_from n first before lines) P
lines_keep n P keep first before [] holds = holds
lines_keep n P keep first before (line ∷ lines) holds =
    step-IfOk (at_line first (requests_after n before line)) _ P _ (at_line_keeps P first (requests_after n before line) (line_keeps n P keep before line holds)) (λ read held.
    lines_keep n P keep (first + 1) read lines held)

-- what is asked for by lines of which this holds
pub file_has : (n : Numbers) (P : ReadLines → Type 0) (Q : Asked → Type 0) → AreKeeping n P → P nothing_read → ((read : ReadLines) → P read → Q (asked_by read))
    → (text : List ℕ) → IfOk (requests_of n text) Q
unfolding requests_of
file_has n P Q keep none asks text =
    cond_both (nat_lt 67108864 (length text)) _ _ (λ (asked : Result Asked FileRefusal). IfOk asked Q) (λ _. tt) (λ _.
    step-IfOk (requests_from n 1 nothing_read (text_lines text)) _ P _ (lines_keep n P keep 1 nothing_read (text_lines text) none) asks)
