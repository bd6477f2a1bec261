-- The lines of all calls, where the board has the line of each.
use Rattle.std.proofs.Common.{◌≡◌, ℕ, suc, ◌+◌, ◌<◌, List, [], ◌∷◌, Option, Some, length, get_or, drop, refl, sym, ap, ◌∙◌, subst, arith, drop-cons}
use Rattle.std.specs.Prelude.{slice_get}
use Rattle.request_text.specs.declared.request.Directive.{Directive}
use Rattle.request_text.specs.declared.request.Directive.TheVariants.{Module, Call, Retire}
use Rattle.report_text.specs.declared.report.CallLine.{CallLine}
use Rattle.request_text.specs.Text.{call_count, modules_of}
use Rattle.run_books.specs.Books.{HasLines}
use Rattle.run_books.specs.Collected.{Tells, call_at}
use Rattle.run_books.specs.Lines.{Limits}
use Rattle.run_books.proofs.BoardLemmas.{call_within}
use Rattle.run_books.proofs.PlaceLemmas.{call_count-call, call_count-module, call_count-retire}
use Rattle.host_report.specs.Answers.{AreAnswers, AreCollected, lines_on}

-- the first of the directives that are left
pub next_directive : (ds : List Directive) (i : ℕ) (d : Directive) → i < length ds → d ≡ get_or ds i d → drop i ds ≡ d ∷ drop (i + 1) ds
next_directive ds i d lt is =
    let one : suc i ≡ i + 1 = omega arith in
    drop-cons ds i d lt ∙ ap (λ (x : Directive). x ∷ drop (suc i) ds) (sym is) ∙ ap (λ (k : ℕ). d ∷ drop k ds) one

abbrev Lines : Type 0
Lines = List (Option CallLine)

-- these lines are those of these calls, one of each
pub record AreAll (limits : Limits) (modules : List (List ℕ)) (ds : List Directive) (board : Lines) : Type 0 where
  pub all : AreCollected board (lines_on board)
  pub right : AreAnswers limits modules ds (lines_on board)

-- each call has its line at its place, and there is no other
pub record HasEach (limits : Limits) (modules : List (List ℕ)) (ds : List Directive) (board : Lines) : Type 0 where
  pub many : length board ≡ call_count ds
  pub each : (at : ℕ) (d : Directive) → call_at ds at ≡ Some d → (line : CallLine) × (slice_get board at ≡ Some (Some line)) × Tells limits modules d line

pub all_told : (limits : Limits) (modules : List (List ℕ)) (ds : List Directive) (board : Lines) → HasEach limits modules ds board → AreAll limits modules ds board
all_told limits modules [] [] h = record { all = refl; right = refl }
all_told limits modules [] (slot ∷ board) h = let none : suc (length board) ≡ 0 = h.many in absurd (omega arith)
all_told limits modules (Module name bytes ∷ ds) board h =
    let rest = all_told limits modules ds board (record { many = h.many ∙ call_count-module name bytes ds; each = h.each }) in
    record { all = rest.all; right = rest.right }
all_told limits modules (Retire place name ∷ ds) board h =
    let rest = all_told limits modules ds board (record { many = h.many ∙ call_count-retire place name ds; each = h.each }) in
    record { all = rest.all; right = rest.right }
all_told limits modules (Call tenant place retired invocation ∷ ds) [] h = let m : 0 ≡ call_count (Call tenant place retired invocation ∷ ds) = h.many in absurd (omega (arith, call_count-call tenant place retired invocation ds))
all_told limits modules (Call tenant place retired invocation ∷ ds) (slot ∷ board) h =
    let (line, stands, tells) = h.each 0 (Call tenant place retired invocation) refl in
    let slot_is : slot ≡ Some line = cc in
    let rest = all_told limits modules ds board (record {
      many = (let m : suc (length board) ≡ call_count (Call tenant place retired invocation ∷ ds) = h.many in omega (arith, call_count-call tenant place retired invocation ds));
      each = λ at d got. h.each (suc at) d got;
    }) in
    subst (λ (s : Option CallLine). AreAll limits modules (Call tenant place retired invocation ∷ ds) (s ∷ board)) (sym slot_is)
    (record { all = ap (λ (slots : Lines). Some line ∷ slots) rest.all; right = (tells, rest.right) })

module _ (limits : Limits) (all : List Directive) where
  -- each call has its line
  pub lines_all : (number last : ℕ) (board : Lines) → number ≡ call_count all → HasLines limits all number last board → HasEach limits (modules_of all) all board
  lines_all number last board is h = record {
    many = h.board_is.many;
    each = λ at d got.
        let (line, stands) = h.done at (let w = call_within all at d got in omega arith) in
        (line, stands, rw got at (h.board_is.right at line stands));
  }
