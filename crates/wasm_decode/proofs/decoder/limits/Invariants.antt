use Rattle.std.proofs.Common.{◌≡◌, map, take}
use Rattle.wasm_decode.proofs.decoder.limits.Given as goal

abbrev pub invariant-loop-table : goal.invariant-loop-table
invariant-loop-table l = l.limits.items ≡ map (λ t. t.limits) (take l.table-index l.tables)
