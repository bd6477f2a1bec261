-- The code of modules that are told of and never run: no definition of a pool looks at it.
use Rattle.std.specs.Prelude.{[], None}
use Rattle.wasm_types.specs.declared.module.Module.{Module}

abbrev pub no_code : Module
no_code = record { types = []; imports = []; functions = []; tables = []; memories = []; globals = []; exports = []; start = None; element_segments = []; data_segments = [] }
