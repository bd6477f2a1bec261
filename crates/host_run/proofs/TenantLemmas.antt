-- The line of a call in two reports.
use Rattle.std.proofs.Common.{◌≡◌, ◌∙◌, ◌++◌, ℕ, Bool, zero, suc, List, [], ◌∷◌, Some, ap, subst, take, drop, append_assoc, add-one, arith}
use Rattle.std.specs.Prelude.{slice_get}
use Rattle.std.specs.List.{flat_map}
use Rattle.request_calls.specs.declared.invocation.Invocation.{Invocation}
use Rattle.pool_limits.specs.declared.numbers.Numbers.{Numbers}
use Rattle.request_text.specs.declared.request.Directive.TheVariants.{Call}
use Rattle.report_text.specs.declared.report.CallLine.{CallLine}
use Rattle.report_text.specs.declared.report.ReportLine.{ReportLine}
use Rattle.report_text.specs.Lines.{call_text, line_text}
use Rattle.request_text.specs.Text.{Asked, modules_of}
use Rattle.run_books.specs.Lines.{IsCallLine, Limits, limits_in}
use Rattle.host_report.specs.Report.{IsReport}
use Rattle.host_run.specs.Tenants.{CallsAt, HasReport, TellsAt, WritesAt}

-- a call has its line in a report, and one line only
abbrev pub CallsTold : Type 0
CallsTold = (numbers : Numbers) (requests : Asked) (lines : List ReportLine) (at tenant place : ℕ) (retired : Bool) (bytes : List ℕ) (invocation : Invocation)
    → IsReport numbers requests lines → slice_get requests.directives at ≡ Some (Call tenant place retired invocation) → slice_get (modules_of requests.directives) place ≡ Some bytes
    → (how : CallLine) × IsCallLine (limits_in requests.profile numbers) bytes retired invocation how × TellsAt requests lines at how

abbrev pub CallsOnce : Type 0
CallsOnce = (limits : Limits) (bytes : List ℕ) (retired : Bool) (invocation : Invocation) (a b : CallLine)
    → IsCallLine limits bytes retired invocation a → IsCallLine limits bytes retired invocation b → a ≡ b

pub same_told : CallsTold → CallsOnce → (words words' : List (List ℕ)) (numbers numbers' : Numbers) (bytes bytes' : List ℕ) (requests requests' : Asked) (lines lines' : List ReportLine)
    (at at' : ℕ) (module_bytes : List ℕ) (retired : Bool) (invocation : Invocation) → limits_in requests.profile numbers ≡ limits_in requests'.profile numbers'
    → HasReport words numbers bytes requests lines → HasReport words' numbers' bytes' requests' lines'
    → CallsAt requests at module_bytes retired invocation → CallsAt requests' at' module_bytes retired invocation
    → (how : CallLine) × TellsAt requests lines at how × TellsAt requests' lines' at' how
same_told call_told one_call words words' numbers numbers' bytes bytes' requests requests' lines lines' at at' module_bytes retired invocation limits r r' c c' =
    let (how, told, is) = call_told numbers requests lines at c.tenant c.place retired module_bytes invocation r.report c.call c.module_bytes in
    let (how', told', is') = call_told numbers' requests' lines' at' c'.tenant c'.place retired module_bytes invocation r'.report c'.call c'.module_bytes in
    let same : how' ≡ how = one_call (limits_in requests'.profile numbers') module_bytes retired invocation how' how told'
    (subst (λ (l : Limits). IsCallLine l module_bytes retired invocation how) limits told) in
    (how, is, subst (λ (l : CallLine). TellsAt requests' lines' at' l) same is')

-- ---- the bytes of a line

-- the texts of a list are those before a place, that of the item there, and the rest
texts-at : {X A : Type 0} (text : X → List A) (xs : List X) (at : ℕ) (x : X) → slice_get xs at ≡ Some x
    → flat_map text xs ≡ flat_map text (take at xs) ++ text x ++ flat_map text (drop (suc at) xs)
texts-at text [] at x is = absurd (cc)
texts-at text (y ∷ ys) zero x is = let same : y ≡ x = cc in ap (λ z. text z ++ flat_map text ys) same
texts-at text (y ∷ ys) (suc at) x is =
    let more = texts-at text ys at x is in
    ap (λ l. text y ++ l) more ∙ grind (arith, append_assoc)

pub written : (requests : Asked) (lines : List ReportLine) (at : ℕ) (how : CallLine) → TellsAt requests lines at how → WritesAt requests lines at (call_text how)
unfolding line_text
written requests lines at how is = rw (add-one at) (texts-at line_text lines at _ is)

pub same_written : CallsTold → CallsOnce → (words words' : List (List ℕ)) (numbers numbers' : Numbers) (bytes bytes' : List ℕ) (requests requests' : Asked) (lines lines' : List ReportLine)
    (at at' : ℕ) (module_bytes : List ℕ) (retired : Bool) (invocation : Invocation) → limits_in requests.profile numbers ≡ limits_in requests'.profile numbers'
    → HasReport words numbers bytes requests lines → HasReport words' numbers' bytes' requests' lines'
    → CallsAt requests at module_bytes retired invocation → CallsAt requests' at' module_bytes retired invocation
    → (told : List ℕ) × WritesAt requests lines at told × WritesAt requests' lines' at' told
same_written call_told one_call words words' numbers numbers' bytes bytes' requests requests' lines lines' at at' module_bytes retired invocation limits r r' c c' =
    let (how, is, is') = same_told call_told one_call words words' numbers numbers' bytes bytes' requests requests' lines lines' at at' module_bytes retired invocation limits r r' c c' in
    (call_text how, written requests lines at how is, written requests' lines' at' how is')
