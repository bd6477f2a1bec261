-- Floats in numbered sequences.
use Rattle.std.specs.Prelude.{List, Bool, false, ◌||◌, get_or}
use Rattle.wasm_types.specs.declared.instr.Op.{Op}
use Rattle.wasm_types.specs.declared.instr.Op.TheVariants as op
use Rattle.wasm_spec.specs.Typing.{result_types}
use Rattle.wasm_spec.specs.Validity.{has_float, is_float_instruction}

-- whether an instruction uses floats, where `earlier` has it of each sequence that it may name
abbrev pub op_uses_floats : List Bool → Op → Bool
op_uses_floats earlier (op.Plain i) = is_float_instruction i
op_uses_floats earlier (op.Block t k) = has_float (result_types t) || get_or earlier k false
op_uses_floats earlier (op.Loop t k) = has_float (result_types t) || get_or earlier k false
op_uses_floats earlier (op.If t k j) = has_float (result_types t) || get_or earlier k false || get_or earlier j false
op_uses_floats earlier (op.Call x) = false
op_uses_floats earlier (op.CallIndirect x) = false
