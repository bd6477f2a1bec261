use Rattle.std.proofs.Common.{◌≡◌, false, take}
use Rattle.std.specs.List.{list_any}
use Rattle.wasm_validate.proofs.floats.any_uses_floats.Given as goal

abbrev pub invariant-loop-item : goal.invariant-loop-item
invariant-loop-item g l = list_any g.T.UsesFloats.uses (take l.item-index l.items) ≡ false
