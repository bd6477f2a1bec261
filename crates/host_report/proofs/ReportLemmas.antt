-- The lines of a report, one after the other.
use Rattle.std.proofs.Common.{◌≡◌, ℕ, zero, suc, ◌+◌, ◌<◌, ◌≤◌, Bool, List, [], ◌∷◌, ◌++◌, Option, None, Some, Ok, Err, length, map, drop, refl, sym, ap, ◌∙◌, subst, arith, append_assoc, append-nil, length-drop}
use Rattle.std.proofs.lemmas.List.{flat_map_more}
use Rattle.std.specs.Prelude.{slice_get}
use Rattle.request_calls.specs.declared.invocation.Invocation.{Invocation}
use Rattle.request_text.specs.declared.request.Directive.{Directive}
use Rattle.request_text.specs.declared.request.Directive.TheVariants.{Module, Call, Retire}
use Rattle.request_text.specs.declared.request.TheConstants.{MOST_CALLS}
use Rattle.report_text.specs.declared.report.CallLine.{CallLine}
use Rattle.report_text.specs.declared.report.ReportLine.{ReportLine}
use Rattle.request_text.specs.Text.{call_count, modules_of}
use Rattle.host_report.specs.Answers.{AreAnswers, AreCollected}
use Rattle.host_report.specs.Made.{call_shown, calls_shown}
use Rattle.host_report.specs.Report.{AreLines, IsModuleLine}
use Rattle.run_books.specs.Lines.{Limits}
use Rattle.run_books.specs.Entries.{AreEntries, Entry, IsEntry, entry_line}
use Rattle.host_report.specs.NextLine.{HasSource, ShowsNext, board_after, counts_after}
use Rattle.host_report.specs.declared.file_report.Counts.{Counts}
use Rattle.report_text.specs.declared.report.ReportLine.TheVariants as report
use Rattle.run_books.proofs.BoardLemmas.{got_set_other}
use Rattle.run_books.proofs.PlaceLemmas.{call_count-call, call_count-module, call_count-retire, drop_got}

-- the line that an entry shows is that of its module line
pub entry_told : (limits : Limits) (bytes : List ℕ) (e : Entry) → IsEntry limits bytes e → IsModuleLine limits bytes (entry_line e)
entry_told limits bytes (Ok named) h = record { loaded = Ok named.tree; loads = h; shows = refl }
entry_told limits bytes (Err line) h = record { loaded = Err h.0; loads = h.1; shows = h.2 }

within : {A : Type 0} (xs : List A) (n : ℕ) → 0 < length (drop n xs) → n < length xs
within xs n some = omega (arith, length-drop n xs)

some_entries : (limits : Limits) (bytes : List ℕ) (modules : List (List ℕ)) (entries : List Entry) → AreEntries limits (bytes ∷ modules) entries → 0 < length entries
some_entries limits bytes modules [] h = absurd h
some_entries limits bytes modules (e ∷ entries) h = omega arith

some_answers : (limits : Limits) (modules : List (List ℕ)) (tenant place : ℕ) (retired : Bool) (invocation : Invocation) (ds : List Directive) (answers : List CallLine)
    → AreAnswers limits modules (Call tenant place retired invocation ∷ ds) answers → 0 < length answers
some_answers limits modules tenant place retired invocation ds [] h = absurd h
some_answers limits modules tenant place retired invocation ds (how ∷ answers) h = omega arith

-- each of these lines on a board that has all
lines_at : (lines : List CallLine) (i : ℕ) → i < length lines → (line : CallLine) × (slice_get (map (λ (l : CallLine). Some l) lines) i ≡ Some (Some line)) × (slice_get lines i ≡ Some line)
lines_at [] i within = absurd (omega arith)
lines_at (line ∷ lines) zero within = (line, refl, refl)
lines_at (line ∷ lines) (suc i) within = lines_at lines i (omega arith)

-- the calls that one line more shows
shown_more : (lines : List ReportLine) (line : ReportLine) → calls_shown (lines ++ line ∷ []) ≡ calls_shown lines ++ call_shown line
shown_more lines line = sym (flat_map_more call_shown [] lines line)

-- a line that shows no call leaves what is to be shown, and one that shows the next call takes it
shown_as_before : (lines : List ReportLine) (line : ReportLine) (left answers : List CallLine) → call_shown line ≡ [] → calls_shown lines ++ left ≡ answers → calls_shown (lines ++ line ∷ []) ++ left ≡ answers
shown_as_before lines line left answers none h =
    let same : calls_shown (lines ++ line ∷ []) ≡ calls_shown lines = shown_more lines line ∙ ap (λ (l : List CallLine). calls_shown lines ++ l) none ∙ append-nil (calls_shown lines) in
    ap (λ (l : List CallLine). l ++ left) same ∙ h

shown_next : (lines : List ReportLine) (line : ReportLine) (how : CallLine) (left answers : List CallLine) → call_shown line ≡ how ∷ [] → calls_shown lines ++ (how ∷ left) ≡ answers
    → calls_shown (lines ++ line ∷ []) ++ left ≡ answers
shown_next lines line how left answers one h =
    let more : calls_shown (lines ++ line ∷ []) ≡ calls_shown lines ++ how ∷ [] = shown_more lines line ∙ ap (λ (l : List CallLine). calls_shown lines ++ l) one in
    ap (λ (l : List CallLine). l ++ left) more ∙ append_assoc (calls_shown lines) (how ∷ []) left ∙ h

abbrev Lines : Type 0
Lines = List (Option CallLine)

-- So many module lines and calls have been reported on by these lines: whatever are the lines of the directives that are
-- left completes them. The lines of the calls that are left stand on the board.
pub record LinesLeft (limits : Limits) (whole rest : List Directive) (entries : List Entry) (answers : List CallLine) (board : Lines) (counts : Counts) (lines : List ReportLine) : Type 0 where
  pub entries_left : AreEntries limits (modules_of rest) (drop counts.modules entries)
  pub answers_left : AreAnswers limits (modules_of whole) rest (drop counts.calls answers)
  pub on_board : (j : ℕ) → counts.calls ≤ j → slice_get board j ≡ slice_get (map (λ (l : CallLine). Some l) answers) j
  pub few : counts.calls + call_count rest ≤ MOST_CALLS
  pub shown : calls_shown lines ++ drop counts.calls answers ≡ answers
  pub completes : (more : List ReportLine) → AreLines limits (modules_of whole) (counts.calls + 1) rest more → AreLines limits (modules_of whole) 1 whole (lines ++ more)

module _ (limits : Limits) (whole : List Directive) (entries : List Entry) (answers : List CallLine) where
  pub lines_begin : (board : Lines) → AreCollected board answers → AreEntries limits (modules_of whole) entries → AreAnswers limits (modules_of whole) whole answers → call_count whole ≤ MOST_CALLS
      → LinesLeft limits whole whole entries answers board (record { modules = 0; calls = 0 }) []
  lines_begin board all are answered few = record {
    entries_left = are;
    answers_left = answered;
    on_board = λ j above. ap (λ (b : Lines). slice_get b j) all;
    few = omega arith;
    shown = refl;
    completes = λ more h. h;
  }

  pub lines_end : (rest : List Directive) (board : Lines) (counts : Counts) (lines : List ReportLine) → rest ≡ [] → LinesLeft limits whole rest entries answers board counts lines
      → AreLines limits (modules_of whole) 1 whole lines
  lines_end rest board counts lines none h =
      let k : LinesLeft limits whole [] entries answers board counts lines = rw none at h in
      rw append-nil at (k.completes [] refl)

  -- and so they show all calls
  pub shown_end : (rest : List Directive) (board : Lines) (counts : Counts) (lines : List ReportLine) → rest ≡ [] → LinesLeft limits whole rest entries answers board counts lines
      → calls_shown lines ≡ answers
  shown_end rest board counts lines none h =
      let k : LinesLeft limits whole [] entries answers board counts lines = rw none at h in
      let end : drop counts.calls answers ≡ [] = k.answers_left in
      sym (append-nil (calls_shown lines)) ∙ ap (λ (l : List CallLine). calls_shown lines ++ l) (sym end) ∙ k.shown

  -- the line of the next call, on the board and among all
  call_here : (tenant place : ℕ) (retired : Bool) (invocation : Invocation) (more : List Directive) (board : Lines) (counts : Counts) (lines : List ReportLine) → LinesLeft limits whole (Call tenant place retired invocation ∷ more) entries answers board counts lines
      → (how : CallLine) × (slice_get board counts.calls ≡ Some (Some how)) × (slice_get answers counts.calls ≡ Some how)
  call_here tenant place retired invocation more board counts lines h =
      let (how, on, among) = lines_at answers counts.calls (within answers counts.calls (some_answers limits (modules_of whole) tenant place retired invocation more (drop counts.calls answers) h.answers_left)) in
      (how, h.on_board counts.calls (omega arith) ∙ on, among)

  source_here : (d : Directive) (more : List Directive) (board : Lines) (counts : Counts) (lines : List ReportLine) → LinesLeft limits whole (d ∷ more) entries answers board counts lines
      → HasSource counts entries board d
  source_here (Module name bytes) more board counts lines h = within entries counts.modules (some_entries limits bytes (modules_of more) (drop counts.modules entries) h.entries_left)
  source_here (Retire place name) more board counts lines h = tt
  source_here (Call tenant place retired invocation) more board counts lines h =
      let (how, on, among) = call_here tenant place retired invocation more board counts lines h in
      let f = h.few in ((how, on), omega (arith, call_count-call tenant place retired invocation more))

  line_here : (d : Directive) (more : List Directive) (board : Lines) (counts : Counts) (lines : List ReportLine) (line : ReportLine) → ShowsNext counts entries board d line
      → LinesLeft limits whole (d ∷ more) entries answers board counts lines → LinesLeft limits whole more entries answers (board_after counts board d) (counts_after counts d) (lines ++ line ∷ [])
  line_here (Module name bytes) more board counts lines line (entry, got, is) h =
      let left : AreEntries limits (bytes ∷ modules_of more) (entry ∷ drop (counts.modules + 1) entries) =
      subst (λ (es : List Entry). AreEntries limits (bytes ∷ modules_of more) es) (drop_got entries counts.modules entry got) h.entries_left in
      record {
        entries_left = left.1;
        answers_left = h.answers_left;
        on_board = h.on_board;
        few = (let f = h.few in omega (arith, call_count-module name bytes more));
        shown = shown_as_before lines line _ answers (ap call_shown is) h.shown;
        completes = λ others g. rw append_assoc (h.completes (line ∷ others) ((entry_line entry, entry_told limits bytes entry left.0, is), g));
      }
  line_here (Retire place name) more board counts lines line is h = record {
    entries_left = h.entries_left;
    answers_left = h.answers_left;
    on_board = h.on_board;
    few = (let f = h.few in omega (arith, call_count-retire place name more));
    shown = shown_as_before lines line _ answers (ap call_shown is) h.shown;
    completes = λ others g. rw append_assoc (h.completes (line ∷ others) (is, g));
  }
  line_here (Call tenant place retired invocation) more board counts lines line (how, got, is) h =
      let (how', on, among) = call_here tenant place retired invocation more board counts lines h in
      let both : Some (Some how') ≡ Some (Some how) = sym on ∙ got in
      let same : how' ≡ how = cc in
      let rest_is = drop_got answers counts.calls how' among in
      let left : AreAnswers limits (modules_of whole) (Call tenant place retired invocation ∷ more) (how' ∷ drop (counts.calls + 1) answers) =
      subst (λ (hs : List CallLine). AreAnswers limits (modules_of whole) (Call tenant place retired invocation ∷ more) hs) rest_is h.answers_left in
      let is' : line ≡ report.Call (counts.calls + 1) how' = is ∙ ap (λ (l : CallLine). report.Call (counts.calls + 1) l) (sym same) in
      record {
        entries_left = h.entries_left;
        answers_left = left.1;
        shown = shown_next lines line how' _ answers (ap call_shown is') (subst (λ (hs : List CallLine). calls_shown lines ++ hs ≡ answers) rest_is h.shown);
        on_board = λ j above. got_set_other board counts.calls j None (λ (e : counts.calls ≡ j). absurd (omega arith)) ∙ h.on_board j (omega arith);
        few = (let f = h.few in omega (arith, call_count-call tenant place retired invocation more));
        completes = λ others g. rw append_assoc (h.completes (line ∷ others) ((how', left.0, is'), g));
      }

  module _ (rest more : List Directive) (board : Lines) (counts : Counts) (lines : List ReportLine) (d : Directive) (is : rest ≡ d ∷ more) (h : LinesLeft limits whole rest entries answers board counts lines) where
    here : LinesLeft limits whole (d ∷ more) entries answers board counts lines
    here = subst (λ (r : List Directive). LinesLeft limits whole r entries answers board counts lines) is h

    pub has_source : HasSource counts entries board d
    has_source = source_here d more board counts lines here

    pub next_told : (line : ReportLine) (board' : Lines) (counts' : Counts) (lines' : List ReportLine) → ShowsNext counts entries board d line → board' ≡ board_after counts board d
        → counts' ≡ counts_after counts d → lines' ≡ lines ++ line ∷ [] → LinesLeft limits whole more entries answers board' counts' lines'
    next_told line board' counts' lines' shows taken counted pushed = rw (taken, counted, pushed) (line_here d more board counts lines line shows here)
