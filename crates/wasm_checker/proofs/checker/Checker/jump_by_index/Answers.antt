use Rattle.std.proofs.Common.{◌∷◌, Some, Option, ap}
use Rattle.wasm_types.specs.declared.types.ValType.TheVariants.{I32}
use Rattle.wasm_spec.specs.Typing.{result_types, Diverges}
use Rattle.wasm_checker.specs.Check.{Stack, and_then, pop_type, pop_types, set_unreachable, apply}
use Rattle.wasm_checker.specs.Position.{with_stack, base_of}
use Rattle.wasm_checker.proofs.Steps.{goes_on, then_some}
use Rattle.wasm_checker.proofs.checker.Checker.jump_by_index.Goals as goal

pub returns : goal.returns
returns c k s =
    let x = c.in_ok-pop_type.ensures k s in
    let base = base_of k.blocks in
    let go : Stack → Option Stack = λ t. Some (set_unreachable base t) in
    goes_on k x.stack (apply base (Diverges (result_types c.args.t)) x.stack) (apply base (Diverges (I32 ∷ result_types c.args.t)) k.stack) c.jump.new.self c.jump.result
    (ap (λ (o : Option Stack). and_then o go) (then_some (pop_type I32 k.stack) x.stack (pop_types (result_types c.args.t)) x.is)) (c.jump.ensures (with_stack k x.stack) x.shows)
