-- The lines of a summary in turn, and what their counts add to.
use Rattle.std.proofs.Common.{◌≡◌, ℕ, suc, ◌+◌, List, [], ◌∷◌, ◌++◌, ◌∙◌, ap, append_assoc, codes, length, refl, sym, arith, cond, Bool, Result, Ok, Err}
use Rattle.std.specs.Prelude.{OnOk, count_by}
use Rattle.std.proofs.lemmas.List.{append-nil}
use Rattle.std.proofs.lemmas.List.Sums.{sum_by-cons}
use Rattle.std.specs.Fmt.{decimal}
use Rattle.std.specs.List.{flat_map, sum_by}
use Rattle.wasm_values.specs.declared.outcome.Outcome.TheVariants as outcome
use Rattle.report_text.specs.declared.report.ModuleLine.TheVariants as loading
use Rattle.report_text.specs.declared.report.CallLine.TheVariants as call
use Rattle.report_text.specs.declared.report.ReportLine.{ReportLine}
use Rattle.report_text.specs.declared.report.ReportLine.TheVariants as report
use Rattle.report_text.specs.Summary.{count_line, count_of, counts_under, is_retirement, labels, summary_text}

-- six texts, each appended to those before, the last if memory lasts
pub six_in_turn : {E : Type 0} (text : List ℕ → List ℕ) (a b c d e f : List ℕ) (t0 t1 t2 t3 t4 t5 t6 : List ℕ) (r : Result (Unit {0}) E) → t1 ≡ t0 ++ text a → t2 ≡ t1 ++ text b
    → t3 ≡ t2 ++ text c → t4 ≡ t3 ++ text d → t5 ≡ t4 ++ text e → OnOk r (t6 ≡ t5 ++ text f) → OnOk r (t6 ≡ t0 ++ flat_map text (a ∷ b ∷ c ∷ d ∷ e ∷ f ∷ []))
six_in_turn text a b c d e f t0 t1 t2 t3 t4 t5 t6 (Ok u) e1 e2 e3 e4 e5 e6 =
    let in_turn : t6 ≡ t0 ++ text a ++ text b ++ text c ++ text d ++ text e ++ text f = cc in
    in_turn ∙ simp (append_assoc, append-nil)
six_in_turn text a b c d e f t0 t1 t2 t3 t4 t5 t6 (Err x) e1 e2 e3 e4 e5 e6 = tt

-- 1 for the label under which the line counts, and 0 for another
abbrev one_under : ReportLine → List ℕ → ℕ
one_under line label = cond (counts_under label line) 1 0

-- 1 for the line of a retirement
abbrev one_retired : ReportLine → ℕ
one_retired line = cond (is_retirement line) 1 0

one_label : (line : ReportLine) → sum_by (one_under line) labels + one_retired line ≡ 1
one_label (report.Module name loading.Accepted) = refl
one_label (report.Module name loading.Malformed) = refl
one_label (report.Module name loading.Unsupported) = refl
one_label (report.Module name loading.Invalid) = refl
one_label (report.Module name loading.Limit) = refl
one_label (report.Module name loading.Segment) = refl
one_label (report.Retired name) = refl
one_label (report.Call number (call.Done (outcome.Done value))) = refl
one_label (report.Call number (call.Done (outcome.Trap kind))) = refl
one_label (report.Call number (call.Done outcome.Fuel)) = refl
one_label (report.Call number (call.Sent value bytes)) = refl
one_label (report.Call number call.NoModule) = refl
one_label (report.Call number call.Retired) = refl
one_label (report.Call number call.NoExport) = refl
one_label (report.Call number call.BadArgs) = refl

regrouped : (t a b h s x y f g : ℕ) → t ≡ h + s → h ≡ a + b → s ≡ x + y → f ≡ a + x → g ≡ b + y → t ≡ f + g
regrouped t a b h s x y f g e is rest both others = omega arith

sum_of_sums : (f g h : List ℕ → ℕ) → ((l : List ℕ) → h l ≡ f l + g l) → (ls : List (List ℕ)) → sum_by h ls ≡ sum_by f ls + sum_by g ls
sum_of_sums f g h is [] = refl
sum_of_sums f g h is (l ∷ ls) =
    regrouped _ (f l) (g l) (h l) (sum_by h ls) (sum_by f ls) (sum_by g ls) _ _ (sum_by-cons h l ls) (is l) (sum_of_sums f g h is ls) (sum_by-cons f l ls) (sum_by-cons g l ls)

one_more : (counted ones others retired one others_retired len : ℕ) → counted ≡ ones + others → retired ≡ one + others_retired → ones + one ≡ 1 → others + others_retired ≡ len → counted + retired ≡ suc len
one_more counted ones others retired one others_retired len counts retires once same = omega arith

pub all_counted : (lines : List ReportLine) → sum_by (λ label. count_of lines label) labels + count_by is_retirement lines ≡ length lines
all_counted [] = refl
all_counted (line ∷ lines) =
    let counted = λ (label : List ℕ). sum_by-cons (λ (r : ReportLine). one_under r label) line lines in
    one_more _ (sum_by (one_under line) labels) _ _ (one_retired line) _ _ (sum_of_sums (one_under line) (λ label. count_of lines label) (λ label. count_of (line ∷ lines) label) counted labels) (sum_by-cons one_retired line lines)
    (one_label line) (all_counted lines)

-- ---- reports with the same summary

-- under each label as many of these lines count as of those
abbrev pub CountAlike : (lines others : List ReportLine) → Type 0
CountAlike lines others = (label : List ℕ) → count_of lines label ≡ count_of others label

-- so it is with one line more that counts under the same label
pub alike-cons : (line other : ReportLine) (lines others : List ReportLine) → ((label : List ℕ) → counts_under label line ≡ counts_under label other) → CountAlike lines others
    → CountAlike (line ∷ lines) (other ∷ others)
alike-cons line other lines others same alike label =
    sum_by-cons (λ (r : ReportLine). one_under r label) line lines ∙ ap (λ (under : Bool). cond under 1 0 + count_of lines label) (same label)
    ∙ ap (λ (count : ℕ). one_under other label + count) (alike label) ∙ sym (sum_by-cons (λ (r : ReportLine). one_under r label) other others)

same_counts : (lines others : List ReportLine) (ls : List (List ℕ)) → CountAlike lines others → flat_map (λ label. count_line lines label) ls ≡ flat_map (λ label. count_line others label) ls
unfolding count_line
same_counts lines others [] alike = refl
same_counts lines others (label ∷ ls) alike =
    ap (λ (count : ℕ). (label ++ codes " " ++ decimal count ++ codes "\n") ++ flat_map (λ l. count_line lines l) ls) (alike label)
    ∙ ap (λ (rest : List ℕ). count_line others label ++ rest) (same_counts lines others ls alike)

-- they have the same summary
pub same_summary : (lines others : List ReportLine) → CountAlike lines others → summary_text lines ≡ summary_text others
same_summary lines others alike = same_counts lines others labels alike
