use Rattle.std.proofs.Common.{arith}
use Rattle.wasm_types.proofs.SequenceLemmas.{named_before, named_later}
use Rattle.wasm_types.proofs.sequences.named.Goals as goal

pub returns-then-inner-sequence : goal.returns-then-inner-sequence
returns-then-inner-sequence c = named_before c.args.body.now c.args.sequence c.args.inner c.if-inner-sequence.true

pub returns-else-inner-sequence : goal.returns-else-inner-sequence
returns-else-inner-sequence c = named_later c.args.body.now c.args.sequence c.args.inner c.len.result c.if-inner-sequence.false (omega (arith, c.len.ensures))
