-- Runs of locals.
use Rattle.std.specs.Prelude.{◌<◌, All}
use Rattle.wasm_types.specs.declared.module.LocalRun.{LocalRun}
use Rattle.wasm_types.specs.declared.module.Function.{Function}
use Rattle.wasm_types.specs.declared.module.Module.{Module}

-- a run of at least one local
abbrev pub HasLocals : LocalRun → Type 0
HasLocals run = 0 < run.count

-- each run of the function has a local, so that it has no more runs than locals
abbrev pub HasNoEmptyRun : Function → Type 0
HasNoEmptyRun f = All HasLocals f.locals

abbrev pub HaveNoEmptyRun : Module → Type 0
HaveNoEmptyRun m = All HasNoEmptyRun m.functions
