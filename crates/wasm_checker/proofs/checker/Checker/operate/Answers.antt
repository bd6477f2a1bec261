use Rattle.std.proofs.Common.{◌≡◌, Some, None, Option, reverse}
use Rattle.wasm_spec.specs.Typing.{result_types}
use Rattle.wasm_checker.specs.Check.{Stack, and_then, pop_types, push_types}
use Rattle.wasm_checker.specs.Position.{with_stack, base_of}
use Rattle.wasm_checker.proofs.Steps.{exits, goes_on, then_some, then_none}
use Rattle.wasm_checker.proofs.checker.Checker.operate.Goals as goal

pub returns-in_err-pop_types : goal.returns-in_err-pop_types
returns-in_err-pop_types c k s =
    let first = pop_types (reverse c.args.takes.now) k.stack in
    exits _ (first ≡ None) _ _ c.in_err-pop_types.field-0.0 c.from_residual.ensures.1 (c.in_err-pop_types.ensures k s) (then_none first (λ t. Some (push_types (base_of k.blocks) (result_types c.args.t) t)))

pub returns : goal.returns
returns c k s =
    let x = c.in_ok-pop_types.ensures k s in
    let first = pop_types (reverse c.args.takes.now) k.stack in
    let go : Stack → Option Stack = λ t. Some (push_types (base_of k.blocks) (result_types c.args.t) t) in
    goes_on k x.stack (go x.stack) (and_then first go) c.push_result.new.self c.push_result.result (then_some first x.stack go x.is) (c.push_result.ensures (with_stack k x.stack) x.shows)
