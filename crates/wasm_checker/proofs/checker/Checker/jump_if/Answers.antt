use Rattle.std.proofs.Common.{◌≡◌, ◌∷◌, Some, None, ◌∙◌, Option}
use Rattle.wasm_types.specs.declared.types.ValType.TheVariants.{I32}
use Rattle.wasm_spec.specs.Typing.{result_types}
use Rattle.wasm_checker.specs.Check.{Stack, and_then, pop_type, pop_types, push_types}
use Rattle.wasm_checker.specs.Position.{with_stack, base_of}
use Rattle.wasm_checker.proofs.Steps.{exits, goes_on, then_some, then_none}
use Rattle.wasm_checker.proofs.checker.Checker.jump_if.Goals as goal

pub returns-in_err-pop_result : goal.returns-in_err-pop_result
returns-in_err-pop_result c k s =
    let x = c.in_ok-pop_type.ensures k s in
    let go : Stack → Option Stack = λ t. Some (push_types (base_of k.blocks) (result_types c.args.t) t) in
    exits _ (pop_types (result_types c.args.t) x.stack ≡ None) _ _ c.in_err-pop_result.field-0.0 c.from_residual-in_err-pop_result.ensures.1 (c.in_err-pop_result.ensures (with_stack k x.stack) x.shows)
    (λ none. then_none (pop_types (I32 ∷ result_types c.args.t) k.stack) go (then_some (pop_type I32 k.stack) x.stack (pop_types (result_types c.args.t)) x.is ∙ none))

pub returns : goal.returns
returns c k s =
    let x = c.in_ok-pop_type.ensures k s in
    let y = c.in_ok-pop_result.ensures (with_stack k x.stack) x.shows in
    let both = pop_types (I32 ∷ result_types c.args.t) k.stack in
    let go : Stack → Option Stack = λ t. Some (push_types (base_of k.blocks) (result_types c.args.t) t) in
    let whole : and_then both go ≡ go y.stack = then_some both y.stack go (then_some (pop_type I32 k.stack) x.stack (pop_types (result_types c.args.t)) x.is ∙ y.is) in
    goes_on k y.stack (go y.stack) (and_then both go) c.push_result.new.self c.push_result.result whole (c.push_result.ensures (with_stack k y.stack) y.shows)
