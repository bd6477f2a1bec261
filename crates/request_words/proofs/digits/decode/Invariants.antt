use Rattle.std.proofs.Common.{◌≡◌, ◌*◌, length}
use Rattle.request_words.proofs.DigitLemmas.{SpellsSoFar}
use Rattle.request_words.proofs.digits.decode.Given as goal

abbrev pub invariant-loop-place : goal.invariant-loop-place
invariant-loop-place l = record { room : length l.digits ≡ 2 * length l.bytes; spells : SpellsSoFar l.digits l.bytes l.place l.all }
