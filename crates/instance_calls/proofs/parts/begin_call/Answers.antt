use Rattle.std.proofs.Common.{ap, arith}
use Rattle.std.specs.Prelude.{vec_capacity}
use Rattle.wasm_spec.specs.Execution.{terms_of}
use Rattle.wasm_machine.specs.Room.{Room}
use Rattle.wasm_machine.specs.TypedConfiguration.{IsRunnable}
use Rattle.instance_calls.specs.CallWords.{run_limits}
use Rattle.instance_calls.proofs.PausedLemmas.{args_within}
use Rattle.instance_calls.proofs.parts.begin_call.Goals as goal

pub unreachable-requires : goal.unreachable-requires
unreachable-requires g c =
    let m = c.args.valid.now in
    let frame = g.N.Naming.config.frame in
    let run : IsRunnable m frame = record {
      supported = c.module.ensures.supported;
      valid = c.module.ensures.valid;
      needs = c.requires.frame;
      locals = c.module.ensures.locals;
    } in
    let few = args_within m frame c.args.function c.args.call.now.args.now (vec_capacity c.ticket.inside.args) run c.requires.call c.ticket.invariant.args_fit c.ticket.invariant.imports_fit in
    absurd (omega (arith, few, c.clear.ensures.len, c.clear.ensures.capacity, c.in-Err.ensures.full))

pub returns-clause-stands : goal.returns-clause-stands
returns-clause-stands g c request store typed =
    let depth = ap (λ (r : Room). r.depth) c.ticket.invariant.stacks_are in
    c.begin.ensures.stands (terms_of (run_limits g.N.Naming.config) request) c.args.call.now.args.now c.ticket.inside.stacks store c.requires.call c.ticket.invariant.deep (omega (arith, depth)) typed
