use Rattle.host_report.proofs.file_report.report.Given as goal

abbrev pub ghosts-report_in : goal.ghosts-report_in
ghosts-report_in g a = record { shelves = a.opened.modules; config = a.opened.config; most = a.opened.most }
