-- What is due for the bytes that were read is due for all bytes of the source.
use Rattle.std.proofs.Common.{◌≡◌, ◌∙◌, Bool, ◌≤◌, ◌<◌, ◌+◌, ℕ, List, ◌++◌, length, Option, Some, None, Err, true, nat_lt, refl, sym, ap, subst, arith, append-nil, length-append, inl, inr, IfSome}
use Rattle.std.proofs.lemmas.Bool.{cases_lt, lt-ltb}
use Rattle.std.specs.Io.KnownBytes.{Consumes, IsAtEnd}
use Rattle.request_text.specs.declared.request.TheConstants.{MOST_BYTES}
use Rattle.host_run.specs.Serving.{DueAnswer, IsFileAnswer}
use Rattle.host_run.specs.Streams.{ReadsInput}
use Rattle.request_text.specs.Refusal.{refusal_line}
use Rattle.request_text.specs.Text.{FileTooLong, requests_of}
use Rattle.pool_limits.specs.declared.numbers.Numbers.{Numbers}

pub too_long : (numbers : Numbers) (text : List ℕ) → MOST_BYTES < length text → requests_of numbers text ≡ Err FileTooLong
unfolding requests_of
too_long numbers text long = let over : nat_lt MOST_BYTES (length text) ≡ true = lt-ltb _ _ long in rw over refl

-- what is answered to a text that is too long
pub answer_too_long : (numbers : Numbers) (summary : Bool) (text : List ℕ) (answer : DueAnswer) → MOST_BYTES < length text
    → IsFileAnswer numbers summary text answer → answer ≡ record { status = 2; text = refusal_line FileTooLong }
answer_too_long numbers summary text answer long is = rw (too_long numbers text long) at is

-- all known bytes were taken
pub all_taken : (all bytes : List ℕ) (after : Option (List ℕ)) → Consumes (Some all) after bytes → IsAtEnd after → all ≡ bytes
all_taken all bytes (Some rest) taken end = taken ∙ ap (λ (l : List ℕ). bytes ++ l) end ∙ append-nil bytes
all_taken all bytes None taken end = absurd taken

pub no_longer : (all bytes : List ℕ) (after : Option (List ℕ)) → Consumes (Some all) after bytes → length bytes ≤ length all
no_longer all bytes (Some rest) taken =
    let size : length all ≡ length bytes + length rest = ap length taken ∙ length-append bytes rest in omega arith
no_longer all bytes None taken = absurd taken

pub answer_of_all : (numbers : Numbers) (summary : Bool) (all bytes : List ℕ) (after : Option (List ℕ)) (answer : DueAnswer)
    → ReadsInput (Some all) after bytes → IsFileAnswer numbers summary bytes answer → IsFileAnswer numbers summary all answer
answer_of_all numbers summary all bytes after answer read is = elim (cases_lt MOST_BYTES (length bytes)) [
  | inr short ↦ subst (λ (b : List ℕ). IsFileAnswer numbers summary b answer) (sym (all_taken all bytes after read.taken (read.end short))) is
  | inl long ↦
      let none_lost = no_longer all bytes after read.taken in
      let longer : MOST_BYTES < length all = omega arith in
      rw (too_long numbers all longer) (answer_too_long numbers summary bytes answer long is)
]

-- in the next two, `text` is the bytes as they were handed on
pub at_end_of_report : (numbers : Numbers) (summary : Bool) (before after : Option (List ℕ)) (bytes text : List ℕ) (answer : DueAnswer)
    → ReadsInput before after bytes → text ≡ bytes → IsFileAnswer numbers summary text answer → answer.status ≡ 0 → IsAtEnd after
at_end_of_report numbers summary before after bytes text answer read same is ok = elim (cases_lt MOST_BYTES (length bytes)) [
  | inr short ↦ read.end short
  | inl long ↦ (let refusal = answer_too_long numbers summary bytes answer long (subst (λ (b : List ℕ). IsFileAnswer numbers summary b answer) same is) in let two : answer.status ≡ 2 = ap (λ a. a.status) refusal in cc)
]

pub due_of_all : (numbers : Numbers) (summary : Bool) (before after : Option (List ℕ)) (bytes text : List ℕ) (answer : DueAnswer)
    → ReadsInput before after bytes → text ≡ bytes → IsFileAnswer numbers summary text answer → IfSome before (λ all. IsFileAnswer numbers summary all answer)
due_of_all numbers summary None after bytes text answer read same is = tt
due_of_all numbers summary (Some all) after bytes text answer read same is =
    answer_of_all numbers summary all bytes after answer read (subst (λ (b : List ℕ). IsFileAnswer numbers summary b answer) same is)
