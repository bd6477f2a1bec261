use Rattle.std.proofs.Common.{◌+◌, ◌*◌, ◌%◌, arith}
use Rattle.std.proofs.lemmas.List.{length-set}
use Rattle.request_words.proofs.DigitLemmas.{spells_all, spells_more, spells_none}
use Rattle.request_words.proofs.digits.decode.Goals as goal

pub loop-place-init : goal.loop-place-init
loop-place-init c = record { room = c.requires; spells = spells_none c.args.digits.now c.args.bytes.now }

pub loop-place-preserved : goal.loop-place-preserved
loop-place-preserved c =
    let same = length-set c.loop-place.bytes c.loop-place.place (c.digit_value-high.result % 16 * 16 + c.digit_value-low.result % 16) in record {
      room = omega (arith, same, c.loop-place.invariant.room);
      spells = spells_more c.args.digits.now c.loop-place.bytes c.loop-place.place c.loop-place.all c.digit_value-high.result c.digit_value-low.result (omega arith) (omega arith)
          c.digit_value-high.ensures c.digit_value-low.ensures c.loop-place.invariant.spells;
    }

pub returns : goal.returns
returns c = spells_all c.args.digits.now c.loop-place.bytes c.loop-place.place c.loop-place.all (omega arith) (omega arith) c.loop-place.invariant.spells
