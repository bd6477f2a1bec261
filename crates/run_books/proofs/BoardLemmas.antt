-- The board, from which the answers of all calls are taken.
use Rattle.std.proofs.Common.{◌≡◌, ◌≢◌, ◌⊎◌, inl, inr, ⊎_elim, ℕ, zero, suc, ◌+◌, ◌-◌, ◌<◌, ◌≤◌, ◌==◌, Bool, true, false, true≢false, List, [], ◌∷◌, ◌++◌, Option, Some, None, length, get_or, replicate, take, refl, sym, ap, ◌∙◌, subst, arith, cond, length-set}
use Rattle.std.specs.Prelude.{slice_get, slice_set, count_by, IfSome, MatchOption, is_none}
use Rattle.std.proofs.lemmas.Option.{get_or_from_slice_get, slice_get_within}
use Rattle.std.specs.List.{All}
use Rattle.std.proofs.lemmas.Bool.{cases_eq}
use Rattle.std.proofs.lemmas.Bool.Decides.{nat_tests}
use Rattle.std.proofs.lemmas.List.{length-replicate}
use Rattle.std.proofs.lemmas.List.Elements.{All-head, All-tail}
use Rattle.std.proofs.lemmas.List.Sums.{sum_by-cons}
use Rattle.request_calls.specs.declared.invocation.Invocation.{Invocation}
use Rattle.job_queue.specs.Boards.{IsOpen}
use Rattle.request_text.specs.declared.request.Directive.{Directive}
use Rattle.request_text.specs.declared.request.Directive.TheVariants.{Module, Call, Retire}
use Rattle.report_text.specs.declared.report.CallLine.{CallLine}
use Rattle.request_text.specs.Text.{call_count, modules_of}
use Rattle.call_jobs.specs.declared.calls.Due.{Due}
use Rattle.call_jobs.specs.declared.entries.Worked.{Worked}
use Rattle.run_books.specs.Collected.{AreToCollect, IsBoard, IsCollected, IsLineOf, IsOfWorked, call_at, line_made, stands}
use Rattle.run_books.specs.Lines.{GoesAs, Limits}
use Rattle.run_books.specs.Books.{HasLines}
use Rattle.run_books.proofs.PlaceLemmas.{call_count-call, call_count-module, call_count-retire, call_here}

-- ---- a line more

got_set_same : {A : Type 0} (xs : List A) (i : ℕ) (x : A) → i < length xs → slice_get (slice_set xs i x) i ≡ Some x
got_set_same [] i x lt = absurd (omega arith)
got_set_same (y ∷ xs) zero x lt = refl
got_set_same (y ∷ xs) (suc i) x lt = got_set_same xs i x (omega arith)

pub got_set_other : {A : Type 0} (xs : List A) (i j : ℕ) (x : A) → i ≢ j → slice_get (slice_set xs i x) j ≡ slice_get xs j
got_set_other [] i j x apart = refl
got_set_other (y ∷ xs) zero zero x apart = absurd (apart refl)
got_set_other (y ∷ xs) zero (suc j) x apart = refl
got_set_other (y ∷ xs) (suc i) zero x apart = refl
got_set_other (y ∷ xs) (suc i) (suc j) x apart = got_set_other xs i j x (λ is. apart (ap suc is))

pub got_within : {A : Type 0} (xs : List A) (i : ℕ) → i < length xs → (x : A) × (slice_get xs i ≡ Some x)
got_within [] i lt = absurd (omega arith)
got_within (x ∷ xs) zero lt = (x, refl)
got_within (x ∷ xs) (suc i) lt = got_within xs i (omega arith)

abbrev Lines : Type 0
Lines = List (Option CallLine)

pub board_more : (limits : Limits) (whole : List Directive) (board : Lines) (at : ℕ) (line : CallLine) → IsBoard limits whole board → at < length board → IsLineOf limits whole at line
    → IsBoard limits whole (slice_set board at (Some line))
board_more limits whole board at line h within right = record {
  many = length-set board at (Some line) ∙ h.many;
  right = λ at' line' stands. ⊎_elim
      (λ (is : at ≡ at').
      let here : Some (Some line) ≡ Some (Some line') = sym (got_set_same board at (Some line) within) ∙ (ap (λ (k : ℕ). slice_get (slice_set board at (Some line)) k) is ∙ stands) in
      let same : line ≡ line' = cc in
      subst (λ (k : ℕ). IsLineOf limits whole k line') is (subst (λ (l : CallLine). IsLineOf limits whole at l) same right))
      (λ (isnt : at ≢ at'). h.right at' line' (sym (got_set_other board at at' (Some line) isnt) ∙ stands))
      (cases_eq at at');
}

pub none_there : (board : Lines) (i : ℕ) (left : Bool) → i < length board → IfSome (slice_get board i) (λ (slot : Option CallLine). left ≡ is_none slot) → left ≡ true → slice_get board i ≡ Some None
none_there board i left within is holds = slot (got_within board i within).0 (got_within board i within).1
  where
    slot : (o : Option CallLine) → slice_get board i ≡ Some o → slice_get board i ≡ Some None
    slot None got = got
    slot (Some line) got = absurd (true≢false (sym holds ∙ (rw got at is)))

pub some_there : (board : Lines) (i : ℕ) (left : Bool) → i < length board → IfSome (slice_get board i) (λ (slot : Option CallLine). left ≡ is_none slot) → left ≡ false
    → (line : CallLine) × (slice_get board i ≡ Some (Some line))
some_there board i left within is fails = slot (got_within board i within).0 (got_within board i within).1
  where
    slot : (o : Option CallLine) → slice_get board i ≡ Some o → (line : CallLine) × (slice_get board i ≡ Some (Some line))
    slot None got = absurd (true≢false (sym (rw got at is) ∙ fails))
    slot (Some line) got = (line, got)

pub open_here : (board : Lines) (number : ℕ) → number < length board → slice_get board number ≡ Some None → IsOpen board (number + 1)
open_here board number there none =
    let at : number + 1 - 1 ≡ number = omega arith in
    record { above = omega arith; within = omega arith; free = rw (at, get_or_from_slice_get board number None None none) refl }

abbrev nothing : Option CallLine
nothing = None

-- a board without lines
abbrev empty : ℕ → Lines
empty n = replicate n nothing

got_none : (n i : ℕ) (line : CallLine) → slice_get (empty n) i ≡ Some (Some line) → ⊥
got_none zero i line got = cc
got_none (suc n) zero line got = cc
got_none (suc n) (suc i) line got = got_none n i line got

open_slots : (n i : ℕ) → i < n → slice_get (empty n) i ≡ Some None
open_slots zero i lt = absurd (omega arith)
open_slots (suc n) zero lt = refl
open_slots (suc n) (suc i) lt = open_slots n i (omega arith)

some_none : (line : CallLine) → ◌≡◌ {A = Option (Option CallLine)} (Some (Some line)) (Some None) → ⊥
some_none line same = cc

-- a place among the calls is one of as many as there are
pub call_within : (ds : List Directive) (at : ℕ) (d : Directive) → call_at ds at ≡ Some d → at < call_count ds
call_within [] at d got = cc
call_within (Module name bytes ∷ ds) at d got = let w = call_within ds at d got in omega (arith, call_count-module name bytes ds)
call_within (Retire place name ∷ ds) at d got = let w = call_within ds at d got in omega (arith, call_count-retire place name ds)
call_within (Call tenant place retired invocation ∷ ds) zero d got = omega (arith, call_count-call tenant place retired invocation ds)
call_within (Call tenant place retired invocation ∷ ds) (suc at) d got = let w = call_within ds at d got in omega (arith, call_count-call tenant place retired invocation ds)

module _ (limits : Limits) (all : List Directive) where
  -- what the line of the call at a place tells
  pub line_of_call : (at number tenant place : ℕ) (retired : Bool) (invocation : Invocation) (how : CallLine) → slice_get all at ≡ Some (Call tenant place retired invocation) → number ≡ call_count (take at all)
      → GoesAs limits (modules_of all) place retired invocation how → IsLineOf limits all number how
  line_of_call at number tenant place retired invocation how got number_is goes =
      let here : call_at all number ≡ Some (Call tenant place retired invocation) = ap (call_at all) number_is ∙ call_here all at tenant place retired invocation got in rw here goes

  -- the board before the first call
  pub lines_none : (board : Lines) → board ≡ replicate (call_count all) None → HasLines limits all 0 0 board
  lines_none board is = subst (HasLines limits all 0 0) (sym is) (record {
    board_is = record { many = length-replicate (call_count all) nothing; right = λ at line got. absurd (got_none (call_count all) at line got) };
    done = λ at before. absurd (omega arith);
    free = λ at above within. open_slots (call_count all) at (let l = length-replicate (call_count all) nothing in omega arith);
  })

  module _ (number last : ℕ) (board : Lines) (h : HasLines limits all number last board) where
    -- the next call has its line
    pub lines_had : (line : CallLine) → slice_get board number ≡ Some (Some line) → HasLines limits all (number + 1) last board
    lines_had line stands = record {
      board_is = h.board_is;
      done = λ at before. ⊎_elim
          (λ (same : at ≡ number). (line, ap (slice_get board) same ∙ stands))
          (λ (apart : at ≢ number). h.done at (omega arith))
          (cases_eq at number);
      free = h.free;
    }

    -- it was made now
    pub lines_made : (how : CallLine) (board' : Lines) → number < length board → number < last → IsLineOf limits all number how → board' ≡ slice_set board number (Some how)
        → HasLines limits all (number + 1) last board'
    lines_made how board' within before_last right collected = subst (HasLines limits all (number + 1) last) (sym collected) (record {
      board_is = board_more limits all board number how h.board_is within right;
      done = λ at before. ⊎_elim
          (λ (same : at ≡ number). (how, ap (slice_get (slice_set board number (Some how))) same ∙ got_set_same board number (Some how) within))
          (λ (apart : at ≢ number). let (line, stands) = h.done at (omega arith) in (line, got_set_other board number at (Some how) (λ same. apart (sym same)) ∙ stands))
          (cases_eq at number);
      free = λ at above inside.
          let few = length-set board number (Some how) in
          got_set_other board number at (Some how) (λ (same : number ≡ at). absurd (omega arith)) ∙ h.free at above (omega arith);
    })

  -- where lines may stand further on
  pub lines_wider : (made last last' : ℕ) (board : Lines) → HasLines limits all made last board → last ≤ last' → HasLines limits all made last' board
  lines_wider made last last' board h order = record { board_is = h.board_is; done = h.done; free = λ at above within. h.free at (omega arith) within }

  -- the lines of entries of calls up to a number were collected
  pub lines_collected : (calls : List Due) (worked : List Worked) (made last : ℕ) (board board' : Lines) → HasLines limits all made made board → made ≤ last
      → IsCollected calls worked board board' → All (λ (one : Worked). one.number ≤ last) worked → ((at : ℕ) (line : CallLine) → IsOfWorked calls worked at line → IsLineOf limits all at line)
      → HasLines limits all made last board'
  lines_collected calls worked made last board board' h order c below right = record {
    board_is = record {
      many = c.many ∙ h.board_is.many;
      right = λ at line got. ⊎_elim
          (λ (stood : slice_get board at ≡ Some (Some line)). h.board_is.right at line stood)
          (λ (own : IsOfWorked calls worked at line). right at line own)
          (c.lines at line got);
    };
    done = λ at before. let (line, stands) = h.done at before in (line, c.kept at line stands);
    free = λ at above within. free at above (got_within board' at within).0 (got_within board' at within).1;
  }
    where
      free : (at : ℕ) → last ≤ at → (o : Option CallLine) → slice_get board' at ≡ Some o → slice_get board' at ≡ Some None
      free at above None got = got
      free at above (Some line) got = ⊎_elim
          (λ (stood : slice_get board at ≡ Some (Some line)).
          let none = h.free at (omega arith) (slice_get_within board at (Some line) stood) in
          let clash : Some (Some line) ≡ Some None = sym stood ∙ none in absurd (some_none line clash))
          (λ (own : IsOfWorked calls worked at line).
          let n = own.number_is in
          let most : (get_or worked own.place own.one).number ≤ last = below own.place own.one (slice_get_within worked own.place own.one own.one_is) in
          let same : get_or worked own.place own.one ≡ own.one = get_or_from_slice_get worked own.place own.one own.one own.one_is in
          let bound : own.one.number ≤ last = subst (λ (w : Worked). w.number ≤ last) same most in absurd (omega arith))
          (c.lines at line got)

-- ---- collecting

-- Some entries are collected: what the board has is theirs, and no number of those that are left was collected.
pub record CollectedLeft (calls : List Due) (all rest : List Worked) (first board : Lines) : Type 0 where
  pub many : length board ≡ length first
  pub counted : All (λ (one : Worked). (0 < one.number) × (one.number ≤ length first)) rest
  pub once : (number : ℕ) → 0 < number → stands (slice_get board (number - 1)) + count_by (λ (one : Worked). one.number == number) rest ≤ 1
  pub kept : (at : ℕ) (line : CallLine) → slice_get first at ≡ Some (Some line) → slice_get board at ≡ Some (Some line)
  pub lines : (at : ℕ) (line : CallLine) → slice_get board at ≡ Some (Some line) → (slice_get first at ≡ Some (Some line)) ⊎ IsOfWorked calls all at line
  pub done : (place : ℕ) (one : Worked) (line : CallLine) → place + length rest < length all → slice_get all place ≡ Some one → line_made calls one ≡ Some line
      → slice_get board (one.number - 1) ≡ Some (Some line)

pub collected_begin : (calls : List Due) (all : List Worked) (board : Lines) → AreToCollect board all → CollectedLeft calls all all board board
collected_begin calls all board h = record {
  many = refl;
  counted = h.counted;
  once = h.once;
  kept = λ at line got. got;
  lines = λ at line got. inl got;
  done = λ place one line before one_is line_is. absurd (omega arith);
}

pub collected_end : (calls : List Due) (all rest : List Worked) (first board : Lines) → rest ≡ [] → CollectedLeft calls all rest first board → IsCollected calls all first board
collected_end calls all rest first board none h = record {
  many = h.many;
  kept = h.kept;
  lines = h.lines;
  all = λ place one line one_is line_is.
      let no_more : length rest ≡ 0 = ap length none in
      let within = slice_get_within all place one one_is in
      h.done place one line (omega arith) one_is line_is;
}

open_slot : (o : Option CallLine) → stands (Some o) ≡ 0 → Some o ≡ Some None
open_slot None is = refl
open_slot (Some line) is = absurd (let one : ◌≡◌ {A = ℕ} 1 0 = is in omega arith)

module _ (calls : List Due) (all rest more : List Worked) (first_board board : Lines) (one : Worked) (is : rest ≡ one ∷ more) (h : CollectedLeft calls all rest first_board board) where
  here : CollectedLeft calls all (one ∷ more) first_board board
  here = subst (λ (r : List Worked). CollectedLeft calls all r first_board board) is h

  pub is_there : (0 < one.number) × (one.number ≤ length first_board)
  is_there = All-head (λ (w : Worked). (0 < w.number) × (w.number ≤ length first_board)) one more here.counted

  others : All (λ (w : Worked). (0 < w.number) × (w.number ≤ length first_board)) more
  others = All-tail (λ (w : Worked). (0 < w.number) × (w.number ≤ length first_board)) one more here.counted

  times : (number : ℕ) → count_by (λ (w : Worked). w.number == number) (one ∷ more) ≡ cond (one.number == number) 1 0 + count_by (λ (w : Worked). w.number == number) more
  times number = sum_by-cons (λ (w : Worked). cond (w.number == number) 1 0) one more

  slot_is_none : slice_get board (one.number - 1) ≡ Some None
  slot_is_none =
      let (o, got) = got_within board (one.number - 1) (let f = is_there in let m = here.many in omega (arith, f.0, f.1)) in
      let b : (one.number == one.number) ≡ true = grind (arith, nat_tests) in
      let this : ◌≡◌ {A = ℕ} (cond (one.number == one.number) 1 0) 1 = rw b refl in
      let most = here.once one.number is_there.0 in
      let nought : stands (slice_get board (one.number - 1)) ≡ 0 = omega (arith, times one.number) in
      got ∙ open_slot o (ap stands (sym got) ∙ nought)

  pub is_open : IsOpen board one.number
  is_open = record {
    above = is_there.0;
    within = (let f = is_there in let m = here.many in omega (arith, f.1));
    free = rw (get_or_from_slice_get board (one.number - 1) None None slot_is_none) refl;
  }

  -- the entries before this one, and this one
  before_or_here : (place at : ℕ) → place + length rest ≡ length all → at + length more < length all → (at + length rest < length all) ⊎ (at ≡ place)
  before_or_here place at this within =
      let one_more : length rest ≡ suc (length more) = ap length is in ⊎_elim
      (λ (same : at ≡ place). inr same)
      (λ (apart : at ≢ place). inl (omega arith))
      (cases_eq at place)

  pub collected_none : (place : ℕ) → place + length rest ≡ length all → slice_get all place ≡ Some one → line_made calls one ≡ None → CollectedLeft calls all more first_board board
  collected_none place this one_is no_line = record {
    many = h.many;
    counted = others;
    once = λ number some. let most = here.once number some in omega (arith, times number);
    kept = h.kept;
    lines = h.lines;
    done = λ at w line within w_is line_is. ⊎_elim
        (λ (before : at + length rest < length all). h.done at w line before w_is line_is)
        (λ (same : at ≡ place).
        let both : Some w ≡ Some one = sym w_is ∙ (ap (slice_get all) same ∙ one_is) in
        let this_one : w ≡ one = cc in
        let clash : Some line ≡ None = sym line_is ∙ (ap (λ (x : Worked). line_made calls x) this_one ∙ no_line) in cc)
        (before_or_here place at this within);
  }

  -- what stands on the board stands there with a line more
  stays : (at : ℕ) (line line' : CallLine) → slice_get board at ≡ Some (Some line') → slice_get (slice_set board (one.number - 1) (Some line)) at ≡ Some (Some line')
  stays at line line' stood = ⊎_elim
      (λ (same : one.number - 1 ≡ at). let clash : Some (Some line') ≡ Some None = sym stood ∙ (ap (slice_get board) (sym same) ∙ slot_is_none) in cc)
      (λ (apart : one.number - 1 ≢ at). got_set_other board (one.number - 1) at (Some line) apart ∙ stood)
      (cases_eq (one.number - 1) at)

  pub collected_more : (place : ℕ) (line : CallLine) (board' : Lines) → place + length rest ≡ length all → slice_get all place ≡ Some one → line_made calls one ≡ Some line
      → board' ≡ slice_set board (one.number - 1) (Some line) → CollectedLeft calls all more first_board board'
  collected_more place line board' this one_is line_is set_is =
      let within : one.number - 1 < length board = let f = is_there in let m = here.many in omega (arith, f.0, f.1) in
      subst (CollectedLeft calls all more first_board) (sym set_is) (record {
        many = length-set board (one.number - 1) (Some line) ∙ h.many;
        counted = others;
        once = λ number some.
            let most = here.once number some in
            let t = times number in ⊎_elim
            (λ (same : one.number ≡ number).
            let b : (one.number == number) ≡ true = grind (arith, nat_tests) in
            let this : ◌≡◌ {A = ℕ} (cond (one.number == number) 1 0) 1 = rw b refl in
            let now : stands (slice_get (slice_set board (one.number - 1) (Some line)) (number - 1)) ≡ 1 =
            ap (λ (n : ℕ). stands (slice_get (slice_set board (one.number - 1) (Some line)) (n - 1))) (sym same) ∙ ap stands (got_set_same board (one.number - 1) (Some line) within) in omega arith)
            (λ (apart : one.number ≢ number).
            let away : one.number - 1 ≢ number - 1 = λ same. apart (let f = is_there in omega (arith, f.0)) in
            let now : stands (slice_get (slice_set board (one.number - 1) (Some line)) (number - 1)) ≡ stands (slice_get board (number - 1)) =
            ap stands (got_set_other board (one.number - 1) (number - 1) (Some line) away) in omega arith)
            (cases_eq one.number number);
        kept = λ at line' stood. stays at line line' (h.kept at line' stood);
        lines = λ at line' got. ⊎_elim
            (λ (same : one.number - 1 ≡ at).
            let both : Some (Some line) ≡ Some (Some line') = sym (got_set_same board (one.number - 1) (Some line) within) ∙ (ap (λ (k : ℕ). slice_get (slice_set board (one.number - 1) (Some line)) k) same ∙ got) in
            let lines_same : line ≡ line' = cc in
            inr (record { place = place; one = one; one_is = one_is; number_is = (let f = is_there in omega (arith, f.0)); line_is = line_is ∙ ap (λ (l : CallLine). Some l) lines_same }))
            (λ (apart : one.number - 1 ≢ at). h.lines at line' (sym (got_set_other board (one.number - 1) at (Some line) apart) ∙ got))
            (cases_eq (one.number - 1) at);
        done = λ at w line' before w_is line'_is. ⊎_elim
            (λ (earlier : at + length rest < length all). stays (w.number - 1) line line' (h.done at w line' earlier w_is line'_is))
            (λ (same : at ≡ place).
            let both : Some w ≡ Some one = sym w_is ∙ (ap (slice_get all) same ∙ one_is) in
            let this_one : w ≡ one = cc in
            let lines_same : Some line ≡ Some line' = sym line_is ∙ (ap (λ (x : Worked). line_made calls x) (sym this_one) ∙ line'_is) in
            ap (λ (x : Worked). slice_get (slice_set board (one.number - 1) (Some line)) (x.number - 1)) this_one ∙ (got_set_same board (one.number - 1) (Some line) within ∙ ap (λ (o : Option CallLine). Some o) lines_same))
            (before_or_here place at this before);
      })

  by_line : (place : ℕ) (board' : Lines) → place + length rest ≡ length all → slice_get all place ≡ Some one → (o : Option CallLine) → line_made calls one ≡ o
      → MatchOption o (board' ≡ board) (λ line. board' ≡ slice_set board (one.number - 1) (Some line)) → CollectedLeft calls all more first_board board'
  by_line place board' this one_is None line_is same = subst (CollectedLeft calls all more first_board) (sym same) (collected_none place this one_is line_is)
  by_line place board' this one_is (Some line) line_is set_is = collected_more place line board' this one_is line_is set_is

  pub collected_next : (place : ℕ) (board' : Lines) → place + length rest ≡ length all → slice_get all place ≡ Some one
      → MatchOption (line_made calls one) (board' ≡ board) (λ line. board' ≡ slice_set board (one.number - 1) (Some line)) → CollectedLeft calls all more first_board board'
  collected_next place board' this one_is same = by_line place board' this one_is (line_made calls one) refl same

-- what stands behind others
pub got_behind : {A : Type 0} (xs ys : List A) (x : A) → slice_get (xs ++ x ∷ ys) (length xs) ≡ Some x
got_behind [] ys x = refl
got_behind (y ∷ xs) ys x = got_behind xs ys x
