use Rattle.std.proofs.Common.{◌≡◌, ◌+◌, ◌≤◌, true}
use Rattle.std.specs.List.{All}
use Rattle.request_words.specs.Words.{text_lines}
use Rattle.request_text.specs.declared.request.TheConstants.{MOST_BYTES}
use Rattle.request_text.specs.Text.{nothing_read, requests_from}
use Rattle.request_text.proofs.LineLemmas.{IsPrintable, bytes_left, lines_left}
use Rattle.request_text.proofs.parser.read_lines.Given as goal

-- the lines that are left give, after what was read, what all lines give
abbrev pub invariant-loop-left : goal.invariant-loop-left
invariant-loop-left l = record {
  lines : requests_from l.config 1 nothing_read (text_lines l.text) ≡ requests_from l.config (l.number + 1) l.reading (lines_left l.left);
  room : l.number + bytes_left l.left ≤ MOST_BYTES + 1;
  printable : l.printable ≡ true → All IsPrintable (lines_left l.left);
}

abbrev pub decreases-loop-left : goal.decreases-loop-left
decreases-loop-left l = bytes_left l.left
