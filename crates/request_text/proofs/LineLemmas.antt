-- The lines of a file, read one by one.
use Rattle.std.specs.Borrow.{Bor}
use Rattle.std.proofs.Common.{◌≡◌, ◌+◌, ◌<◌, ◌≤◌, ◌&&◌, ℕ, false, true, List, [], ◌∷◌, length, codes, Option, None, Some, MatchOption, refl, sym, subst, ◌∙◌, Result, Ok, arith}
use Rattle.std.proofs.Math.Bool.{and-false}
use Rattle.std.proofs.lemmas.Slice.Eq.{bytes_eq-Decides}
use Rattle.std.specs.List.{list_all}
use Rattle.std.specs.Str.{bytes_eq}
use Rattle.std.specs.Prelude.{IfSome}
use Rattle.request_text.specs.declared.fault.LineFault.{LineFault}
use Rattle.request_text.specs.declared.fault.LineFault.TheVariants.{Refused, NoMemory}
use Rattle.pool_limits.specs.declared.numbers.Numbers.{Numbers}
use Rattle.request_words.specs.Words.{is_printable, text_lines}
use Rattle.request_text.specs.Calls.{with_asked}
use Rattle.request_text.specs.Profiles.{has_tenants, sends}
use Rattle.request_text.specs.Text.{ReadLines, FileRefusal, call_directive_of, declared_by, directive_of, profile_in, requests_after, requests_from, send_directive_of, words_after}
use Rattle.request_text.specs.Reading.{Explains, fault_at, Reports}

-- the lines of the text that is left, if any is
abbrev pub lines_left : Option (Bor (List ℕ)) → List (List ℕ)
lines_left None = []
lines_left (Some text) = text_lines text.now

-- its bytes, and one for its last line
abbrev pub bytes_left : Option (Bor (List ℕ)) → ℕ
bytes_left None = 0
bytes_left (Some text) = length text.now + 1

abbrev pub IsPrintable : List ℕ → Type 0
IsPrintable line = list_all is_printable line ≡ true

pub first_line : (text line : List ℕ) (after : Option (Bor (List ℕ))) → MatchOption after (text_lines text ≡ line ∷ []) (λ rest. text_lines text ≡ line ∷ text_lines rest.now)
    → text_lines text ≡ line ∷ lines_left after
first_line text line None h = h
first_line text line (Some rest) h = h

pub fewer_left : (text : List ℕ) (after : Option (Bor (List ℕ))) → IfSome after (λ rest. length rest.now < length text) → bytes_left after ≤ length text
fewer_left text None h = omega arith
fewer_left text (Some rest) h = omega arith

-- a line that is refused, by its number
refused_here : (numbers : Numbers) (number : ℕ) (before : ReadLines) (line : List ℕ) (lines : List (List ℕ)) (fault : LineFault) → Explains fault (requests_after numbers before line)
    → Reports (fault_at number fault) (requests_from numbers number before (line ∷ lines))
refused_here numbers number before line lines (Refused reason) refused = rw refused refl
refused_here numbers number before line lines NoMemory refused = tt

-- the next line gives `now`
pub one_read : (numbers : Numbers) (n : ℕ) (before now : ReadLines) (line : List ℕ) (lines : List (List ℕ)) (whole : Result ReadLines FileRefusal)
    → whole ≡ requests_from numbers (n + 1) before (line ∷ lines) → requests_after numbers before line ≡ Ok now → whole ≡ requests_from numbers (n + 1 + 1) now lines
one_read numbers n before now line lines whole left read = left ∙ rw read refl

-- the next line is refused
pub one_refused : (numbers : Numbers) (n : ℕ) (before : ReadLines) (line : List ℕ) (lines : List (List ℕ)) (fault : LineFault) (whole : Result ReadLines FileRefusal)
    → whole ≡ requests_from numbers (n + 1) before (line ∷ lines) → Explains fault (requests_after numbers before line) → Reports (fault_at (n + 1) fault) whole
one_refused numbers n before line lines fault whole left refused = rw left (refused_here numbers (n + 1) before line lines fault refused)

-- a line without words asks for nothing
pub nothing_after : (numbers : Numbers) (before : ReadLines) → words_after numbers before [] ≡ Ok before
unfolding words_after
nothing_after numbers before = refl

-- a line whose first word is `call` asks for what the words after it do
pub call_after : (numbers : Numbers) (before : ReadLines) (word : List ℕ) (words : List (List ℕ)) → bytes_eq word (codes "call") ≡ true
    → words_after numbers before (word ∷ words) ≡ with_asked before (call_directive_of (declared_by before) words)
unfolding words_after directive_of
call_after numbers before word words is =
    let e : word ≡ codes "call" = (bytes_eq-Decides word (codes "call")).0 is in
    let no : (has_tenants (profile_in before) && false) ≡ false = and-false (has_tenants (profile_in before)) in
    subst (λ (w : List ℕ). words_after numbers before (w ∷ words) ≡ with_asked before (call_directive_of (declared_by before) words)) (sym e) (rw no refl)

-- one whose first word is `send` too, where the profile has it
pub send_after : (numbers : Numbers) (before : ReadLines) (word : List ℕ) (words : List (List ℕ)) → sends (profile_in before) ≡ true → bytes_eq word (codes "send") ≡ true
    → words_after numbers before (word ∷ words) ≡ with_asked before (send_directive_of (declared_by before) words)
unfolding words_after directive_of
send_after numbers before word words has is =
    let e : word ≡ codes "send" = (bytes_eq-Decides word (codes "send")).0 is in
    let no : (has_tenants (profile_in before) && false) ≡ false = and-false (has_tenants (profile_in before)) in
    subst (λ (w : List ℕ). words_after numbers before (w ∷ words) ≡ with_asked before (send_directive_of (declared_by before) words)) (sym e) (rw (no, has) refl)
