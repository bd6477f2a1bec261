use Rattle.std.proofs.Common.{take}
use Rattle.wasm_validate.proofs.FunctionNeeds.{Needs}
use Rattle.wasm_validate.proofs.functions.frame_needs.Given as goal

abbrev pub invariant-loop-f : goal.invariant-loop-f
invariant-loop-f l = Needs l.m (take l.f-index l.m.functions) l.needs.items
