use Rattle.wasm_spec.specs.Store.{fresh_store}
use Rattle.wasm_spec.specs.Instances.{IsInstance}
use Rattle.wasm_spec.proofs.ResultLaws.{result-keeps, instance-kept, fresh-instance}
use Rattle.wasm_spec.proofs.laws.each_store_is_of_the_instance.Goals as goal

pub returns : goal.returns
returns c = λ m limits x arguments fuel r fits size e. result-keeps m limits (IsInstance m limits.pages (fresh_store m).table)
    (instance-kept m limits (fresh_store m).table) x arguments (fresh_store m) fuel r (fresh-instance m fits limits.pages size) e
