-- What workers made of the calls of a round are their lines.
use Rattle.std.proofs.Common.{◌≡◌, ℕ, zero, suc, ◌+◌, ◌-◌, ◌<◌, ◌≤◌, ◌==◌, Bool, true, false, not, List, [], ◌∷◌, ◌++◌, inl, inr, Option, Some, None, Ok, Err, length, min, refl, sym, ap, ◌∙◌, subst, arith, cond}
use Rattle.std.specs.Prelude.{IfOk, Result, slice_get, count_by}
use Rattle.std.specs.List.{All, AllZip}
use Rattle.std.specs.Option.{option_map_or}
use Rattle.std.proofs.lemmas.Bool.{cases_lt}
use Rattle.std.proofs.Math.Nat.{zero-min}
use Rattle.std.proofs.lemmas.Option.{none-some, same_Some, slice_get_past}
use Rattle.std.proofs.lemmas.List.Elements.{All-cons, All-filter, All-head, All-nil, All-tail}
use Rattle.std.proofs.lemmas.List.Sorted.{All-permutation, IsPermutation-refl, sum_by-IsPermutation}
use Rattle.std.proofs.lemmas.List.Sums.{sum_by-cons}
use Rattle.request_calls.specs.declared.invocation.Invocation.{Invocation}
use Rattle.wasm_values.specs.declared.profile.Profile.{Profile}
use Rattle.module_store.specs.declared.naming.Naming.{Ghosts}
use Rattle.pool_limits.specs.declared.numbers.Numbers.{Numbers}
use Rattle.pool_model.specs.Contents.{Named}
use Rattle.pool_host.specs.declared.answers.Answer.{Answer}
use Rattle.pool_host.specs.declared.answers.Answer.TheVariants as answer
use Rattle.pool_host.specs.declared.lane.LaneAnswer.TheVariants as lane
use Rattle.request_text.specs.declared.request.Directive.{Directive}
use Rattle.request_text.specs.declared.request.Directive.TheVariants.{Call}
use Rattle.report_text.specs.declared.report.CallLine.{CallLine}
use Rattle.report_text.specs.declared.report.CallLine.TheVariants as call_line
use Rattle.call_jobs.specs.declared.calls.Due.{Due}
use Rattle.call_jobs.specs.declared.entries.Worked.{Worked}
use Rattle.call_jobs.specs.Entries as worked
use Rattle.call_jobs.specs.Entries.{AnswersAll, IsAnswered, Pair, called}
use Rattle.call_jobs.proofs.EntryLemmas.{called_counted}
use Rattle.request_text.specs.Text.{Asked}
use Rattle.call_workers.specs.declared.members.Crew.{Crew}
use Rattle.run_books.specs.declared.books.Books.{Books}
use Rattle.run_books.specs.declared.books.Span.{Span}
use Rattle.run_books.specs.Collected.{AreToCollect, IsCollected, IsLineOf, IsOfWorked, answer_line, call_at, line_made, line_of, stands}
use Rattle.run_books.specs.Due.{due_of, dues_from}
use Rattle.run_books.specs.Entries.{Entry, IsEntry}
use Rattle.run_books.specs.Put.{module_of, pairs_put, round_pairs}
use Rattle.run_books.specs.Lines.{IsCallLine, Limits, limits_in}
use Rattle.module_store.specs.declared.desk.DeskCounts.{DeskCounts}
use Rattle.run_books.specs.Books.{AreEntered, HasLines, IsSpan, calls_in, directives_in}
use Rattle.call_rounds.specs.Rounds.{calls_to}
use Rattle.call_rounds.specs.Worked.{AnsweredByCrew, AnswersRound, AreOfWorkers, MadeByCrew, workers_for}
use Rattle.run_books.proofs.BoardLemmas.{got_within}
use Rattle.run_books.proofs.CallLemmas.{accepted_call, refused_call, retired_call}
use Rattle.run_books.proofs.DueLemmas.{due_at_call}
use Rattle.run_books.proofs.EntryLemmas.{entry_of_place}
use Rattle.run_books.proofs.PutLemmas.{IsPair, IsPairAt, calls_of_span, put_before, put_below, put_no_calls, put_once, put_pairs}

-- ---- the line of one call

no_module_line : (retired : Bool) (shown : Option (List ℕ)) (line : CallLine) → line_of retired None shown ≡ Some line → call_line.NoModule ≡ line
no_module_line true shown line told = cc
no_module_line false shown line told = cc

module _ (profile : Profile) (config : Numbers) (bytes : List ℕ) (asked : Invocation) (line : CallLine) where
  answered_line : (retired : Bool) (named : Named) (a : Option Answer) (shown : Option (List ℕ)) → IsEntry (limits_in profile config) bytes (Ok named) → IsAnswered config asked (Some named) a shown
      → line_of retired a shown ≡ Some line → IsCallLine (limits_in profile config) bytes retired asked line
  answered_line true named None shown entry answered told = absurd answered
  answered_line false named None shown entry answered told = absurd answered
  answered_line true named (Some how) shown entry answered told =
      let is_line : call_line.Retired ≡ line = cc in
      subst (λ (l : CallLine). IsCallLine (limits_in profile config) bytes true asked l) is_line (retired_call (limits_in profile config) bytes (Ok named) named asked refl entry)
  answered_line false named (Some (answer.Done outcome)) shown entry (said, answered, is) told =
      accepted_call (limits_in profile config) bytes (Ok named) named asked (lane.Done outcome) said line refl entry answered refl
      (let same : answer_line (lane.Done outcome) shown ≡ line = cc in sym same ∙ ap (λ (s : Option (List ℕ)). answer_line (lane.Done outcome) s) is)
  answered_line false named (Some answer.NoExport) shown entry (said, answered, is) told =
      accepted_call (limits_in profile config) bytes (Ok named) named asked lane.NoExport said line refl entry answered refl (cc)
  answered_line false named (Some answer.BadArgs) shown entry (said, answered, is) told =
      accepted_call (limits_in profile config) bytes (Ok named) named asked lane.BadArgs said line refl entry answered refl (cc)
  answered_line false named (Some answer.Retired) shown entry answered told = cc
  answered_line false named (Some (answer.Full kind)) shown entry answered told = cc

  worked_line : (retired : Bool) (entry : Entry) (m : Option Named) (a : Option Answer) (shown : Option (List ℕ)) → IsEntry (limits_in profile config) bytes entry → m ≡ module_of entry
      → IsAnswered config asked m a shown → line_of retired a shown ≡ Some line → IsCallLine (limits_in profile config) bytes retired asked line
  worked_line retired (Ok named) m a shown entry is answered told =
      answered_line retired named a shown entry (subst (λ (x : Option Named). IsAnswered config asked x a shown) is answered) told
  worked_line retired (Err why) m a shown entry is answered told =
      let none : a ≡ None = (subst (λ (x : Option Named). IsAnswered config asked x a shown) is answered).0 in
      let shows : line_of retired None shown ≡ Some line = ap (λ (x : Option Answer). line_of retired x shown) (sym none) ∙ told in
      subst (λ (l : CallLine). IsCallLine (limits_in profile config) bytes retired asked l) (no_module_line retired shown line shows)
      (refused_call (limits_in profile config) bytes (Err why) why retired asked refl entry)

module _ (profile : Profile) (config : Numbers) (all : List Directive) (place : ℕ) (entries : List Entry) (desk : DeskCounts) (entered : AreEntered (limits_in profile config) all place entries desk) where
  line_right : (at : ℕ) (m : Option Named) (due : Due) (a : Option Answer) (shown : Option (List ℕ)) (line : CallLine) → IsPairAt entries all at m
      → slice_get (dues_from 1 all) at ≡ Some due → IsAnswered config due.invocation m a shown → line_of due.retired a shown ≡ Some line → IsLineOf (limits_in profile config) all at line
  line_right at m due a shown line p due_is answered told =
      let limits = limits_in profile config in
      let due_here = due_at_call 1 all at p.tenant p.place p.retired p.invocation p.call in
      let same : due ≡ due_of (1 + at) p.tenant p.retired p.invocation = same_Some due (due_of (1 + at) p.tenant p.retired p.invocation) (sym due_is ∙ due_here) in
      let (entry, stood) = got_within entries p.place p.there in
      let (bytes, there, is_entry) = entry_of_place limits all place entries desk entered p.place entry stood in
      let module_is : m ≡ module_of entry = p.module_is ∙ rw stood refl in
      let goes = worked_line profile config bytes p.invocation line p.retired entry m a shown is_entry module_is
      (subst (λ (d : Due). IsAnswered config d.invocation m a shown) same answered) (subst (λ (d : Due). line_of d.retired a shown ≡ Some line) same told) in
      rw p.call (record { bytes = bytes; there = there; goes = goes })

  -- ---- entries and pairs

  found : (pairs : List Pair) (entered_calls : List Worked) → AllZip (worked.IsEntry config (dues_from 1 all)) pairs entered_calls → All (λ (pair : Pair). 0 < pair.0) pairs → All (IsPair entries all) pairs
      → (at : ℕ) (line : CallLine) (i : ℕ) (one : Worked) → slice_get entered_calls i ≡ Some one → one.number ≡ at + 1 → line_made (dues_from 1 all) one ≡ Some line → IsLineOf (limits_in profile config) all at line
  found [] [] zip counted known at line i one one_is number_is line_is = cc
  found [] (w ∷ ws) zip counted known at line i one one_is number_is line_is = absurd zip
  found (pair ∷ pairs) [] zip counted known at line i one one_is number_is line_is = absurd zip
  found (pair ∷ pairs) (w ∷ ws) zip counted known at line zero one one_is number_is line_is =
      let same : w ≡ one = same_Some w one one_is in
      let e : worked.IsEntry config (dues_from 1 all) pair one = subst (λ (x : Worked). worked.IsEntry config (dues_from 1 all) pair x) same zip.0 in
      let number : pair.0 - 1 ≡ at = let n = e.number_is in omega arith in
      let number' : one.number - 1 ≡ at = omega arith in
      let due_is : slice_get (dues_from 1 all) at ≡ Some e.due = subst (λ (n : ℕ). slice_get (dues_from 1 all) n ≡ Some e.due) number e.due_is in
      let flag : option_map_or (λ (due : Due). due.retired) (slice_get (dues_from 1 all) (one.number - 1)) false ≡ e.due.retired =
      ap (λ (n : ℕ). option_map_or (λ (due : Due). due.retired) (slice_get (dues_from 1 all) n) false) number' ∙ rw due_is refl in
      let told : line_of e.due.retired one.answer one.bytes ≡ Some line = ap (λ (b : Bool). line_of b one.answer one.bytes) (sym flag) ∙ line_is in
      let p = All-head (IsPair entries all) pair pairs known (All-head (λ (x : Pair). 0 < x.0) pair pairs counted) in
      line_right at pair.1 e.due one.answer one.bytes line (subst (λ (n : ℕ). IsPairAt entries all n pair.1) number p) due_is e.answered told
  found (pair ∷ pairs) (w ∷ ws) zip counted known at line (suc i) one one_is number_is line_is =
      found pairs ws zip.1 (All-tail (λ (x : Pair). 0 < x.0) pair pairs counted) (All-tail (IsPair entries all) pair pairs known) at line i one one_is number_is line_is

-- ---- the numbers of entries

numbers_zip : (config : Numbers) (calls : List Due) (k : ℕ) (pairs : List Pair) (all : List Worked) → AllZip (worked.IsEntry config calls) pairs all
    → count_by (λ (one : Worked). one.number == k) all ≡ count_by (λ (pair : Pair). pair.0 == k) pairs
numbers_zip config calls k [] [] zip = refl
numbers_zip config calls k [] (w ∷ all) zip = absurd zip
numbers_zip config calls k (pair ∷ pairs) [] zip = absurd zip
numbers_zip config calls k (pair ∷ pairs) (w ∷ all) zip =
    let a : count_by (λ (one : Worked). one.number == k) (w ∷ all) ≡ cond (w.number == k) 1 0 + count_by (λ (one : Worked). one.number == k) all =
    sum_by-cons (λ (one : Worked). cond (one.number == k) 1 0) w all in
    let b : count_by (λ (x : Pair). x.0 == k) (pair ∷ pairs) ≡ cond (pair.0 == k) 1 0 + count_by (λ (x : Pair). x.0 == k) pairs =
    sum_by-cons (λ (x : Pair). cond (x.0 == k) 1 0) pair pairs in
    let same : ◌≡◌ {A = ℕ} (cond (w.number == k) 1 0) (cond (pair.0 == k) 1 0) = ap (λ (n : ℕ). cond {A = ℕ} (n == k) 1 0) zip.0.number_is in
    let rest = numbers_zip config calls k pairs all zip.1 in omega arith

all_zip : (config : Numbers) (calls : List Due) (count : ℕ) (pairs : List Pair) (all : List Worked) → AllZip (worked.IsEntry config calls) pairs all
    → All (λ (pair : Pair). 0 < pair.0) pairs → All (λ (pair : Pair). pair.0 ≤ count) pairs → All (λ (one : Worked). (0 < one.number) × (one.number ≤ count)) all
all_zip config calls count [] [] zip counted below = All-nil (λ (one : Worked). (0 < one.number) × (one.number ≤ count))
all_zip config calls count [] (w ∷ all) zip counted below = absurd zip
all_zip config calls count (pair ∷ pairs) [] zip counted below = absurd zip
all_zip config calls count (pair ∷ pairs) (w ∷ all) zip counted below =
    let n = zip.0.number_is in
    let c : 0 < pair.0 = All-head (λ (x : Pair). 0 < x.0) pair pairs counted in
    let b : pair.0 ≤ count = All-head (λ (x : Pair). x.0 ≤ count) pair pairs below in
    All-cons (λ (one : Worked). (0 < one.number) × (one.number ≤ count)) w all (omega arith, omega arith)
    (all_zip config calls count pairs all zip.1 (All-tail (λ (x : Pair). 0 < x.0) pair pairs counted) (All-tail (λ (x : Pair). x.0 ≤ count) pair pairs below))

abbrev times : ℕ → List Pair → ℕ
times k pairs = count_by (λ (pair : Pair). pair.0 == k) pairs

times_more : (k : ℕ) (pair : Pair) (pairs : List Pair) (zeroed : Bool) → (pair.0 == 0) ≡ zeroed → times k (called pairs) ≤ times k pairs → times k (called (pair ∷ pairs)) ≤ times k (pair ∷ pairs)
times_more k pair pairs true is h =
    let b : times k (pair ∷ pairs) ≡ cond (pair.0 == k) 1 0 + times k pairs = sum_by-cons (λ (x : Pair). cond (x.0 == k) 1 0) pair pairs in
    let t : times k (called pairs) ≤ times k (pair ∷ pairs) = omega arith in rw is t
times_more k pair pairs false is h =
    let b : times k (pair ∷ pairs) ≡ cond (pair.0 == k) 1 0 + times k pairs = sum_by-cons (λ (x : Pair). cond (x.0 == k) 1 0) pair pairs in
    let a : times k (pair ∷ called pairs) ≡ cond (pair.0 == k) 1 0 + times k (called pairs) = sum_by-cons (λ (x : Pair). cond (x.0 == k) 1 0) pair (called pairs) in
    let t : times k (pair ∷ called pairs) ≤ times k (pair ∷ pairs) = omega arith in rw is t

times_called : (k : ℕ) (pairs : List Pair) → times k (called pairs) ≤ times k pairs
times_called k [] = omega arith
times_called k (pair ∷ pairs) = times_more k pair pairs (pair.0 == 0) refl (times_called k pairs)

-- ---- all entries of a round

no_line : (o : Option (Option CallLine)) → o ≡ Some None → stands o ≡ 0
no_line o is = ap stands is

one_line : (o : Option (Option CallLine)) → stands o ≤ 1
one_line None = omega arith
one_line (Some None) = omega arith
one_line (Some (Some line)) = omega arith

module _ (profile : Profile) (config : Numbers) (all : List Directive) (span : Span) (is_span : IsSpan all span) (entries : List Entry) (workers : ℕ) (made : List Worked)
    (h : AnswersAll config (dues_from 1 all) (pairs_put entries (span.calls + 1) (directives_in all span) workers) made) where
  same_times : (k : ℕ) → 0 < k → count_by (λ (one : Worked). one.number == k) made ≤ count_by (λ (pair : Pair). pair.0 == k) (pairs_put entries (span.calls + 1) (directives_in all span) workers)
  same_times k some =
      let a = numbers_zip config (dues_from 1 all) k (called h.given) made h.made in
      let b = times_called k h.given in
      let c : count_by (λ (pair : Pair). pair.0 == k) h.given ≡ count_by (λ (pair : Pair). pair.0 == k) (pairs_put entries (span.calls + 1) (directives_in all span) workers) =
      sum_by-IsPermutation (λ (pair : Pair). cond (pair.0 == k) 1 0) (pairs_put entries (span.calls + 1) (directives_in all span) workers) h.given h.all in omega arith

  pub of_calls : All (λ (one : Worked). (0 < one.number) × (one.number ≤ calls_to all span)) made
  of_calls =
      all_zip config (dues_from 1 all) (calls_to all span) (called h.given) made h.made (called_counted h.given)
      (All-filter (λ (pair : Pair). not (pair.0 == 0)) (λ (pair : Pair). pair.0 ≤ calls_to all span) h.given
      (All-permutation (λ (pair : Pair). pair.0 ≤ calls_to all span) (pairs_put entries (span.calls + 1) (directives_in all span) workers) h.given h.all
      (λ i d lt. let b = put_below entries (span.calls + 1) (directives_in all span) workers (omega arith) i d lt in omega (arith, calls_of_span all span is_span))))

  pub to_collect : (limits : Limits) (last : ℕ) (board : List (Option CallLine)) → HasLines limits all span.calls last board → last ≡ span.calls → calls_to all span ≤ length board → AreToCollect board made
  to_collect limits last board lines last_is room = record {
    counted = λ i d lt. let o = of_calls i d lt in (o.0, (let m = o.1 in omega arith));
    once = λ k some. elim (cases_lt k (span.calls + 1)) [
      | inl before ↦ (
          let none = put_before entries (span.calls + 1) (directives_in all span) workers k some before in
          let most = same_times k some in
          let slot = one_line (slice_get board (k - 1)) in omega arith
          )
      | inr from ↦ (
          let free : stands (slice_get board (k - 1)) ≡ 0 = elim (cases_lt (k - 1) (length board)) [
            | inr past ↦ ap stands (slice_get_past board (k - 1) past)
            | inl within ↦ no_line (slice_get board (k - 1)) (lines.free (k - 1) (omega arith) within)
          ] in
          let most = same_times k some in
          let one = put_once entries (span.calls + 1) (directives_in all span) workers k some in omega arith
          )
    ];
  }

  pub lines_of_calls : (place : ℕ) (desk : DeskCounts) → AreEntered (limits_in profile config) all place entries desk
      → ((at tenant module_place : ℕ) (retired : Bool) (invocation : Invocation) → call_at (directives_in all span) at ≡ Some (Call tenant module_place retired invocation) → module_place < length entries)
      → (at : ℕ) (line : CallLine) → IsOfWorked (dues_from 1 all) made at line → IsLineOf (limits_in profile config) all at line
  lines_of_calls place desk entered placed at line w =
      found profile config all place entries desk entered (called h.given) made h.made (called_counted h.given)
      (All-filter (λ (pair : Pair). not (pair.0 == 0)) (IsPair entries all) h.given
      (All-permutation (IsPair entries all) (pairs_put entries (span.calls + 1) (directives_in all span) workers) h.given h.all (put_pairs entries all span workers is_span placed)))
      at line w.place w.one w.one_is w.number_is w.line_is

-- ---- what workers made of a round

pub answered_by_crew : {N : Type 0} {G : Ghosts N} (config : Numbers) (asked : Asked) (span : Span) (crew : Crew N G) (before after : Books N) (entries : List Worked)
    → AnswersRound config asked span (workers_for asked.directives span crew) after.registry entries → IsCollected (dues_from 1 asked.directives) entries before.board after.board
    → AreOfWorkers config asked.directives span crew (workers_for asked.directives span crew) entries → AnsweredByCrew config asked span crew before after
answered_by_crew config asked span crew before after entries answers collected work = record {
  answered = record { entries = entries; answers = answers; collected = collected };
  work = λ some. work;
}

-- ---- a round without a call

collected_none : (calls : List Due) (board board' : List (Option CallLine)) → board' ≡ board → IsCollected calls [] board board'
collected_none calls board board' same = rw same (record { many = refl; kept = λ at line got. got; lines = λ at line got. inl got; all = λ place one line got. absurd (none-some one got) })

module _ {N E : Type 0} {G : Ghosts N} (config : Numbers) (asked : Asked) (span : Span) (crew : Crew N G) (before : Books N) where
  -- its workers make no entry
  pub made_by_none : (r : Result (Books N) E) → calls_in asked.directives span ≡ 0 → IfOk r (λ after. after.board ≡ before.board) → IfOk r (MadeByCrew config asked span (Some crew) before)
  made_by_none (Err e) none same = tt
  made_by_none (Ok after) none same =
      let workers : workers_for asked.directives span crew ≡ 0 = ap (λ n. min n (length crew.callers.items)) none ∙ zero-min (length crew.callers.items) in
      let pairs : round_pairs after.registry asked span (workers_for asked.directives span crew) ≡ [] =
      ap (λ n. round_pairs after.registry asked span n) workers ∙ ap (λ (ps : List Pair). ps ++ []) (put_no_calls after.registry.entries.items (span.calls + 1) (directives_in asked.directives span) none) in record {
        answered = record {
          entries = [];
          answers = subst (λ ps. AnswersAll config (dues_from 1 asked.directives) ps []) (sym pairs) (record { given = []; all = IsPermutation-refl []; made = tt });
          collected = collected_none (dues_from 1 asked.directives) before.board after.board same;
        };
        work = λ some. absurd (omega (arith, some, none));
      }
