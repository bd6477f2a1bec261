use Rattle.std.proofs.Common.{ap, arith, length}
use Rattle.std.proofs.lemmas.Option.{slice_get_past}
use Rattle.wasm_machine.specs.Simulation.{placed, sequence_at}
use Rattle.wasm_machine.proofs.FunctionLemmas.{stands_in}
use Rattle.wasm_machine.proofs.interpreter.settle.Goals as goal

pub sequence_of-ops-requires : goal.sequence_of-ops-requires
sequence_of-ops-requires c =
    let s = c.requires.simulates in
    stands_in c.args.m.now s.configuration (placed c.args.machine.now c.args.place) s.represents s.typed.around.there

pub end_sequences-requires-clause-over : goal.end_sequences-requires-clause-over
end_sequences-requires-clause-over c =
    slice_get_past (sequence_at c.args.m.now (placed c.args.machine.now c.args.place)) c.args.place (omega (arith, ap length c.sequence_of-ops.ensures, c.if-machine-ops.false))
