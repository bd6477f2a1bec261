use Rattle.std.proofs.Common.{ap, length, ◌∙◌, arith}
use Rattle.std.proofs.lemmas.List.{length-replicate}
use Rattle.wasm_values.specs.declared.outcome.Val.TheVariants.{I32}
use Rattle.wasm_machine.specs.Room.{Room}
use Rattle.pool_limits.specs.declared.over.TheConstants.{MOST_GLOBALS}
use Rattle.pool_limits.specs.declared.numbers.Numbers.{Numbers}
use Rattle.instance_slots.proofs.ticket.Ticket.open.Goals as goal

pub invariant_of-result : goal.invariant_of-result
invariant_of-result g c =
    let room : Numbers → Room = λ n. record { depth = n.depth; frame = n.frame } in record {
      globals_are = ap length c.in_ok-globals.ensures ∙ length-replicate MOST_GLOBALS (I32 0);
      args_fit = omega (arith, c.in_ok-args.ensures, c.most_args.ensures.own, ap (λ (n : Numbers). n.frame) (c.numbers-numbers.ensures.same ∙ c.config.ensures.name));
      imports_fit = omega (arith, c.in_ok-args.ensures, c.most_args.ensures.imports);
      stacks_are = c.in_ok-stacks.ensures ∙ ap room (c.numbers-numbers.ensures.same ∙ c.config.ensures.name);
      deep = omega (arith, c.numbers-numbers.ensures.in_range.depth.0, ap (λ (n : Numbers). n.depth) (c.numbers-numbers.ensures.same ∙ c.config.ensures.name));
      memory_is = c.in_ok-memory.ensures.memory;
      no_bytes = ap length c.in_ok-memory.ensures.zeroed.bytes;
    }
