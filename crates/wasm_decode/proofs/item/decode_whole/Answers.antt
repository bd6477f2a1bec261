use Rattle.instr_decode.proofs.Decoding.{exits, whole-none}
use Rattle.wasm_decode.proofs.item.decode_whole.Goals as goal

pub returns-in_err-item-clause-read : goal.returns-in_err-item-clause-read
returns-in_err-item-clause-read g c =
    let h = c.in_err-item.ensures.read in
    exits c.from_residual.result _ _ c.in_err-item.field-0.0 c.from_residual.ensures.1
    (whole-none (g.T.Item.Takes c.args.profile) c.args.bytes.now c.in_err-item.field-0.0 (rw c.new-cursor.ensures at h))
