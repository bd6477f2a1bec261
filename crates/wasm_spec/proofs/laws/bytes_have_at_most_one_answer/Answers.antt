use Rattle.wasm_spec.proofs.Loading.{loads_by-unique}
use Rattle.wasm_spec.proofs.laws.bytes_have_at_most_one_answer.Goals as goal

pub returns : goal.returns
returns g c = λ profile. loads_by-unique (g.P.Hosting.runs profile) profile
