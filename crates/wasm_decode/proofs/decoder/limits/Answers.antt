use Rattle.std.proofs.Common.{List, [], ◌∷◌, ◌++◌, None, get_or, map, take_all, ap, sym, ◌∙◌, arith}
use Rattle.std.proofs.lemmas.List.{map_more}
use Rattle.std.proofs.lemmas.Result.{IfOk-from_err}
use Rattle.wasm_types.specs.declared.types.Limits.{Limits}
use Rattle.wasm_decode.specs.declared.types.TableType.{TableType}
use Rattle.wasm_decode.proofs.decoder.limits.Goals as goal

pub returns-in_err-push-clause-limits : goal.returns-in_err-push-clause-limits
returns-in_err-push-clause-limits c = IfOk-from_err c.from_residual.result _ c.from_residual.ensures.0

pub loop-table-preserved : goal.loop-table-preserved
loop-table-preserved c =
    let tables = c.args.tables.now in
    let i = c.loop-table.table-index in
    let none : TableType = record { limits = record { min = 0; max = None } } in
    c.in_ok-push.ensures.items ∙ ap (λ (l : List Limits). l ++ (get_or tables i none).limits ∷ []) c.loop-table.invariant
    ∙ sym (map_more (λ (t : TableType). t.limits) tables i none (omega (arith, c.loop-table-test.true)))

pub returns-clause-limits : goal.returns-clause-limits
returns-clause-limits c =
    let tables = c.args.tables.now in
    let all = take_all c.loop-table.table-index tables (omega (arith, c.loop-table-test.false)) in
    c.new.ensures ∙ c.loop-table.invariant ∙ ap (map (λ (t : TableType). t.limits)) all
