use Rattle.std.proofs.lemmas.List.{map-id}
use Rattle.wasm_spec.specs.Numbers.{TakesUnsigned, TakesVec}
use Rattle.wasm_spec.specs.InstrGrammar.{TakesExpr}
use Rattle.wasm_spec.specs.Grammar.{TakesElement}
use Rattle.leb_read.specs.Reading.{rest}
use Rattle.wasm_decode.specs.Pairs.{TakesPair}
use Rattle.instr_decode.proofs.Decoding.{exits-as}
use Rattle.wasm_decode.proofs.module.ElementSegmentItem.decode.Goals as goal

pub returns-in_err-table-clause-read : goal.returns-in_err-table-clause-read
returns-in_err-table-clause-read c =
    exits-as (TakesPair (TakesUnsigned 32) (TakesPair (TakesExpr c.args.profile) (TakesVec (TakesUnsigned 32)))) (TakesElement c.args.profile) c.from_residual.result _ (rest c.args.cursor.now) c.in_err-table.field-0.0 c.from_residual.ensures.1 c.in_err-table.ensures.read
    (λ e after h. ((e.table, (e.offset, e.functions)), (h.after_table, h.table, (h.after_offset, h.offset, h.functions))))

pub returns-clause-read : goal.returns-clause-read
returns-clause-read c =
    let r = simp map-id at c.in_ok-table.ensures.read in
    let s = r.spelled in
    record {
      whole = r.whole;
      forth = r.forth;
      within = r.within;
      spelled = record { after_table = s.0; after_offset = s.2.0; table = s.1; offset = s.2.1; functions = s.2.2 };
    }
