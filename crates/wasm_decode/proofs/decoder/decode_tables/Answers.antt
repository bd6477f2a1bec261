use Rattle.std.proofs.Common.{◌<◌, length, map, ap, arith}
use Rattle.std.proofs.lemmas.List.{length-map}
use Rattle.instr_decode.specs.declared.fault.DecodeFault.TheVariants.{NoMemory}
use Rattle.instr_decode.proofs.Decoding.{exits}
use Rattle.wasm_decode.proofs.Fields.{exits-wanted, spelled-some, wants-some}
use Rattle.wasm_decode.specs.declared.types.TableType.{TableType}
use Rattle.wasm_decode.proofs.decoder.decode_tables.Goals as goal

pub returns-in_err-tables-clause-wanted : goal.returns-in_err-tables-clause-wanted
returns-in_err-tables-clause-wanted c e = wants-some _ _ 4 c.args.sections.now (exits-wanted c.from_residual.result c.in_err-tables.field-0.0 _ c.from_residual.ensures.1 c.in_err-tables.ensures.wanted e)

pub returns-in_err-limits-clause-read : goal.returns-in_err-limits-clause-read
returns-in_err-limits-clause-read c = exits c.from_residual-in_err-limits.result _ _ NoMemory c.from_residual-in_err-limits.ensures.1 tt

pub returns-in_err-limits-clause-wanted : goal.returns-in_err-limits-clause-wanted
returns-in_err-limits-clause-wanted c e =
    let some : 0 < length (map (λ (t : TableType). t.limits) c.in_ok-tables.tables) = omega (arith, length-map c.in_ok-tables.tables (λ (t : TableType). t.limits), ap length c.as_slice.ensures, c.in_err-limits.ensures.wanted) in
    spelled-some _ 4 c.args.sections.now _ c.in_ok-tables.ensures.read some

pub returns-clause-read : goal.returns-clause-read
returns-clause-read c = rw (c.in_ok-limits.ensures.limits, c.as_slice.ensures) c.in_ok-tables.ensures.read
