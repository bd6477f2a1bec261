use Rattle.std.proofs.Common.{codes}
use Rattle.report_text.specs.Summary.{count_line}
use Rattle.report_text.proofs.SummaryLemmas.{six_in_turn}
use Rattle.report_text.proofs.summary.push_summary.Goals as goal

pub returns : goal.returns
returns c =
    six_in_turn (λ label. count_line c.args.lines.now label) (codes "modules ok") (codes "modules refused") (codes "calls ok") (codes "calls trap") (codes "calls fuel") (codes "calls refused")
    _ _ _ _ _ _ _ _ c.in_ok-push_count.ensures c.in_ok-push_count-2.ensures c.in_ok-push_count-3.ensures c.in_ok-push_count-4.ensures c.in_ok-push_count-5.ensures c.push_count-6.ensures
