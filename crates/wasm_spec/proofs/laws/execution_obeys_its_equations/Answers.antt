use Rattle.wasm_spec.proofs.Equations.{exec-End, exec-zero, exec-Plain, exec-Block, exec-Loop, exec-If, exec-Call, exec-CallIndirect}
use Rattle.wasm_spec.proofs.laws.execution_obeys_its_equations.Goals as goal

pub returns : goal.returns
returns c = record {
  end = exec-End;
  without_fuel = exec-zero;
  plain_instruction = exec-Plain;
  block = exec-Block;
  a_loop = exec-Loop;
  an_if = exec-If;
  call = exec-Call;
  call_indirect = exec-CallIndirect;
}
