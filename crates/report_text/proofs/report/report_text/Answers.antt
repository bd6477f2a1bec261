use Rattle.std.proofs.Common.{◌≡◌, ◌+◌, ◌∷◌, [], ◌++◌, ◌∙◌, List, ℕ, length, sym, ap, arith, append_assoc, rules}
use Rattle.std.specs.Vec.Iter.{into_iter_items}
use Rattle.std.proofs.lemmas.List.{append-nil, nil_from_length}
use Rattle.report_text.specs.declared.report.ReportLine.{ReportLine}
use Rattle.report_text.specs.Lines.{line_text, report_text}
use Rattle.report_text.proofs.report.report_text.Goals as goal

pub loop-line-init : goal.loop-line-init
loop-line-init c =
    let gives = c.into_iter-line-iterator.ensures.into_iter_gives in record {
      text = ap (λ (t : List ℕ). t ++ report_text (into_iter_items c.into_iter-line-iterator.result)) c.new-text.ensures.items ∙ ap report_text gives.0;
      len = search rules;
    }

pub loop-line-preserved : goal.loop-line-preserved
loop-line-preserved c =
    let at = c.loop-line in
    let line = c.in-Some.line in
    let rest : List ReportLine = into_iter_items c.next.new.self in
    let steps : into_iter_items at.line-iterator ≡ line ∷ rest = c.in-Some.ensures.steps.0 in
    let more : c.push_line.new.text.items ≡ at.text.items ++ line_text line = search rules in
    record {
      text = ap (λ (t : List ℕ). t ++ report_text rest) more
          ∙ append_assoc at.text.items (line_text line) (report_text rest)
          ∙ ap (λ (ls : List ReportLine). at.text.items ++ report_text ls) (sym steps)
          ∙ at.invariant.text;
      len = let was = at.invariant.len in let gone = c.in-Some.ensures.steps.1 in let short = ap length steps in omega arith;
    }

pub returns : goal.returns
returns c =
    let none = c.in-None.ensures.steps in
    let end = nil_from_length _ (sym c.loop-line.invariant.len ∙ none.0) in
    sym (append-nil c.loop-line.text.items) ∙ ap (λ (ls : List ReportLine). c.loop-line.text.items ++ report_text ls) (sym end) ∙ c.loop-line.invariant.text
