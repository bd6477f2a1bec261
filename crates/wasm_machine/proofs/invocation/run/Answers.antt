use Rattle.std.proofs.Common.{arith}
use Rattle.wasm_machine.proofs.invocation.run.Goals as goal

pub returns-clause-counted : goal.returns-clause-counted
returns-clause-counted c few =
    let marks = c.invoke.ensures.marks in
    let most = marks.few few in
    let counted = marks.changes.counted in
    omega arith

pub returns-clause-room : goal.returns-clause-room
returns-clause-room c = c.invoke.ensures.marks.changes.room
