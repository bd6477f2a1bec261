use Rattle.std.proofs.Common.{◌∙◌, arith}
use Rattle.std.proofs.lemmas.List.{length-set}
use Rattle.hex.specs.Hex.{lower_digits}
use Rattle.hex.proofs.Pairs.{encode_step, encode_done}
use Rattle.report_text.proofs.digits.encode.Goals as goal

pub loop-place-preserved : goal.loop-place-preserved
loop-place-preserved c = record {
  room = length-set _ _ _ ∙ length-set _ _ _ ∙ c.loop-place.invariant.room;
  text = encode_step lower_digits c.args.bytes.now c.loop-place.digits c.loop-place.place _ _ (omega arith) (omega arith) c.lower_digit.ensures c.lower_digit-in-loop-place.ensures c.loop-place.invariant.text;
}

pub returns : goal.returns
returns c = encode_done lower_digits c.args.bytes.now _ c.loop-place.place (omega arith) (omega arith) c.loop-place.invariant.text
