use Rattle.std.proofs.Common.{◌≡◌, ◌==◌, ◌≤◌, take, true}
use Rattle.std.specs.Char.{is_ascii_digit}
use Rattle.std.specs.List.{list_all, position_or_len}
use Rattle.std.specs.Str.Parse.{digits_value}
use Rattle.request_words.specs.FirstWords.{first_word}
use Rattle.request_words.proofs.numbers.leading_number.Given as goal

abbrev pub invariant-loop-end : goal.invariant-loop-end
invariant-loop-end l = record {
  within : l.end ≤ position_or_len (λ b. b == 32) l.text;
  digits : list_all is_ascii_digit (take l.end (first_word l.text)) ≡ true;
  value : l.number ≡ digits_value 10 (take l.end (first_word l.text));
}
