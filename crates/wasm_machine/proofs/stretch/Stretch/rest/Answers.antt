use Rattle.std.proofs.Common.{◌-◌, drop, length, length-drop, refl, arith}
use Rattle.std.proofs.lemmas.List.{take_all}
use Rattle.wasm_machine.proofs.StretchLemmas.{rest_lies}
use Rattle.wasm_machine.proofs.stretch.Stretch.rest.Goals as goal

pub returns-clause-lies : goal.returns-clause-lies
returns-clause-lies c sequence lies =
    let ops = c.args.self.ops.now in
    rest_lies sequence c.args.self _ lies c.requires (take_all (length ops - 1) (drop 1 ops) (omega (arith, length-drop 1 ops))) refl
