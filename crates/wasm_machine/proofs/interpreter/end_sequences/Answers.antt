use Rattle.std.proofs.Common.{ap, arith, length}
use Rattle.std.proofs.lemmas.Option.{slice_get_past}
use Rattle.wasm_machine.specs.Simulation.{sequence_at}
use Rattle.wasm_machine.proofs.BlockLemmas.{at_end}
use Rattle.wasm_machine.proofs.FunctionLemmas.{stands_in}
use Rattle.wasm_machine.proofs.interpreter.end_sequences.Goals as goal

pub end_sequence-requires : goal.end_sequence-requires
end_sequence-requires c =
    let e = c.requires.can in
    record { limits = e.limits; frame = e.frame; store = e.store; to = e.to; exits = at_end c.args.m.now e.limits e.frame c.loop-ops.machine e.store e.to (c.loop-ops.invariant.simulates e.limits e.frame e.store e.to e.simulates) c.loop-ops.invariant.over }

pub returns-then-end_sequence-clause-steps : goal.returns-then-end_sequence-clause-steps
returns-then-end_sequence-clause-steps c limits frame store r e =
    c.if-end_sequence.ensures.steps limits frame store r (at_end c.args.m.now limits frame c.loop-ops.machine store r (c.loop-ops.invariant.simulates limits frame store r e) c.loop-ops.invariant.over)

pub returns-then-machine-ops-clause-steps : goal.returns-then-machine-ops-clause-steps
returns-then-machine-ops-clause-steps c limits frame store r e =
    c.if-end_sequence.ensures.steps limits frame store r (at_end c.args.m.now limits frame c.loop-ops.machine store r (c.loop-ops.invariant.simulates limits frame store r e) c.loop-ops.invariant.over)

pub loop-ops-preserved : goal.loop-ops-preserved
loop-ops-preserved c = record {
  over = slice_get_past (sequence_at c.args.m.now c.end_sequence.new.machine) c.end_sequence.new.machine.at.place (omega (arith, ap length c.sequence_of-ops.ensures, c.if-machine-ops.false));
  simulates = λ limits frame store r e.
      c.if-end_sequence.ensures.steps limits frame store r (at_end c.args.m.now limits frame c.loop-ops.machine store r (c.loop-ops.invariant.simulates limits frame store r e) c.loop-ops.invariant.over);
  room = record {
    values = omega (arith, c.if-end_sequence.ensures.room.values);
    labels = omega (arith, c.if-end_sequence.ensures.room.labels);
    frames = omega (arith, c.if-end_sequence.ensures.room.frames);
  };
}

pub sequence_of-ops-requires : goal.sequence_of-ops-requires
sequence_of-ops-requires c =
    let e = c.requires.can in
    let s = c.if-end_sequence.ensures.steps e.limits e.frame e.store e.to (at_end c.args.m.now e.limits e.frame c.loop-ops.machine e.store e.to (c.loop-ops.invariant.simulates e.limits e.frame e.store e.to e.simulates) c.loop-ops.invariant.over) in
    stands_in c.args.m.now s.configuration c.end_sequence.new.machine s.represents s.typed.around.there
