-- Locals in runs.
use Rattle.std.specs.Prelude.{ℕ, ◌+◌, List, [], ◌∷◌}
use Rattle.wasm_types.specs.declared.module.LocalRun.{LocalRun}

-- how many locals there are up to the end of each run, where n stand before the first
abbrev pub ends_from : ℕ → List LocalRun → List ℕ
ends_from n [] = []
ends_from n (run ∷ runs) = (n + run.count) ∷ ends_from (n + run.count) runs
