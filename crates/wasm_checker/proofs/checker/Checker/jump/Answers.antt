use Rattle.std.proofs.Common.{◌≡◌, Some, None}
use Rattle.wasm_spec.specs.Typing.{result_types}
use Rattle.wasm_checker.specs.Check.{pop_types, set_unreachable}
use Rattle.wasm_checker.specs.Position.{with_stack, base_of}
use Rattle.wasm_checker.proofs.Steps.{exits, then_some, then_none}
use Rattle.wasm_checker.proofs.checker.Checker.jump.Goals as goal

pub returns-in_err-pop_result : goal.returns-in_err-pop_result
returns-in_err-pop_result c k s =
    let first = pop_types (result_types c.args.t) k.stack in
    exits _ (first ≡ None) _ _ c.in_err-pop_result.field-0.0 c.from_residual.ensures.1 (c.in_err-pop_result.ensures k s) (then_none first (λ t. Some (set_unreachable (base_of k.blocks) t)))

pub returns : goal.returns
returns c k s =
    let x = c.in_ok-pop_result.ensures k s in
    record {
      stack = set_unreachable (base_of k.blocks) x.stack;
      is = then_some (pop_types (result_types c.args.t) k.stack) x.stack (λ t. Some (set_unreachable (base_of k.blocks) t)) x.is;
      shows = c.set_unreachable.ensures (with_stack k x.stack) x.shows;
    }
