use Rattle.std.proofs.Common.{List, ℕ, subst, sym}
use Rattle.std.specs.Prelude.{length}
use Rattle.wasm_validate.specs.ByName.{Rise}
use Rattle.wasm_validate.proofs.ByName.{differ, rise}
use Rattle.wasm_validate.proofs.names.exports_by_name.Goals as goal

pub returns-then-rise-clause-differ : goal.returns-then-rise-clause-differ
returns-then-rise-clause-differ c =
    let exports = c.args.exports.now in
    let numbers = c.in_ok-numbers.numbers.items in
    differ exports numbers c.in_ok-numbers.ensures.all (subst (λ (l : List ℕ). Rise exports l (length l)) c.as_slice.ensures.value (c.rise.ensures.0 c.if-rise.true))

pub returns-else-rise-clause-invalid : goal.returns-else-rise-clause-invalid
returns-else-rise-clause-invalid c e pairs =
    let exports = c.args.exports.now in
    let numbers = c.in_ok-numbers.numbers.items in
    let t = c.rise.ensures.1 (subst (λ (l : List ℕ). Rise exports l (length l)) (sym c.as_slice.ensures.value) (rise exports numbers c.in_ok-numbers.ensures.all c.in_ok-numbers.ensures.sorted pairs)) in
    let f = c.if-rise.false in
    cc (t, f)
