use Rattle.std.proofs.Common.{arith}
use Rattle.wasm_checker.proofs.Stacks.{pops}
use Rattle.wasm_checker.proofs.checker.Checker.pop.Goals as goal

pub returns-in-Some : goal.returns-in-Some
returns-in-Some c k s = pops k c.args.self.now (record c.args.self.now { operands = c.pop.new.self }) c.in-Some.t s (omega arith) c.in-Some.ensures.items
