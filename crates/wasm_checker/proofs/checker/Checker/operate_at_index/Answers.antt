use Rattle.std.proofs.Common.{◌∷◌, Some, Option, reverse, ap}
use Rattle.wasm_types.specs.declared.types.ValType.TheVariants.{I32}
use Rattle.wasm_spec.specs.Typing.{result_types, Fixed}
use Rattle.wasm_checker.specs.Check.{Stack, and_then, pop_type, pop_types, push_types, apply}
use Rattle.wasm_checker.specs.Position.{with_stack, base_of}
use Rattle.wasm_checker.proofs.Steps.{goes_on, then_some}
use Rattle.wasm_checker.proofs.checker.Checker.operate_at_index.Goals as goal

pub returns : goal.returns
returns c k s =
    let x = c.in_ok-pop_type.ensures k s in
    let base = base_of k.blocks in
    let ps = reverse c.args.takes.now in
    let go : Stack → Option Stack = λ t. Some (push_types base (result_types c.args.t) t) in
    goes_on k x.stack (apply base (Fixed ps (result_types c.args.t)) x.stack) (apply base (Fixed (I32 ∷ ps) (result_types c.args.t)) k.stack) c.operate.new.self c.operate.result
    (ap (λ (o : Option Stack). and_then o go) (then_some (pop_type I32 k.stack) x.stack (pop_types ps) x.is)) (c.operate.ensures (with_stack k x.stack) x.shows)
