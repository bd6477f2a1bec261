use Rattle.wasm_validate.specs.ByName.{Rise}
use Rattle.wasm_validate.proofs.names.rise.Given as goal

abbrev pub invariant-loop-k : goal.invariant-loop-k
invariant-loop-k l = Rise l.exports l.numbers l.k
