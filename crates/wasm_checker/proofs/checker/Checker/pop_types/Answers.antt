use Rattle.std.proofs.Common.{◌≡◌, ◌-◌, None, refl, arith, length, get_or}
use Rattle.wasm_checker.specs.Check.{pop_type}
use Rattle.wasm_checker.specs.Position.{with_stack}
use Rattle.wasm_types.specs.declared.types.ValType.TheVariants.{I32}
use Rattle.wasm_checker.proofs.Steps.{exits, rest_any, rest_more, rest_none, rest_over}
use Rattle.wasm_checker.proofs.checker.Checker.pop_types.Goals as goal

pub loop-rest-init : goal.loop-rest-init
loop-rest-init c k s = record { stack = k.stack; shows = s; same = refl }

pub loop-rest-preserved : goal.loop-rest-preserved
loop-rest-preserved c k s =
    let r = c.loop-rest.invariant k s in
    rest_more c.args.types.now c.loop-rest.rest.now I32 k c.loop-rest.self (omega arith) r c.pop_type.new.self (c.in_ok-pop_type.ensures (with_stack k r.stack) r.shows)

pub returns-in_err-pop_type : goal.returns-in_err-pop_type
returns-in_err-pop_type c k s =
    let r = c.loop-rest.invariant k s in
    let rest = c.loop-rest.rest.now in
    exits _ (pop_type (get_or rest (length rest - 1) I32) r.stack ≡ None) _ _ c.in_err-pop_type.field-0.0 c.from_residual.ensures.1 (c.in_err-pop_type.ensures (with_stack k r.stack) r.shows)
    (rest_none c.args.types.now rest I32 k c.loop-rest.self (omega arith) r)

pub returns : goal.returns
returns c k s = rest_over c.args.types.now c.loop-rest.rest.now k c.loop-rest.self (omega arith) (c.loop-rest.invariant k s)

pub returns-then-has_any : goal.returns-then-has_any
returns-then-has_any c k s =
    let r = c.loop-rest.invariant k s in
    rest_any c.args.types.now c.loop-rest.rest.now k c.loop-rest.self r (c.has_any.ensures (with_stack k r.stack) r.shows c.if-has_any.true)
