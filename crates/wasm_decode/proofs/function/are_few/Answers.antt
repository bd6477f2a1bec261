use Rattle.std.proofs.Common.{◌≡◌, get_or, false, true, arith}
use Rattle.std.proofs.lemmas.List.{length-replicate}
use Rattle.std.proofs.lemmas.List.Folds.{length-flat_map-take}
use Rattle.wasm_types.specs.declared.types.ValType.TheVariants.{I32}
use Rattle.wasm_types.specs.Tree.{locals_of}
use Rattle.wasm_decode.proofs.function.are_few.Goals as goal

pub returns-then-total : goal.returns-then-total
returns-then-total c =
    let runs = c.args.runs.now in
    let run = get_or runs c.loop-run.run-index (record { count = 0; value = I32 }) in
    let most = length-flat_map-take locals_of runs c.loop-run.run-index (record { count = 0; value = I32 }) c.loop-run-test.true in
    let long = length-replicate run.count run.value in (
      λ e. absurd (let f : false ≡ true = e in cc),
      λ few. absurd (omega (arith, most, long, few, c.loop-run.invariant.total, c.from-total.ensures, c.if-total.true)),
    )
