use Rattle.std.proofs.Common.{◌≡◌, ℕ, ◌+◌, ◌-◌, ap, ◌∙◌, arith}
use Rattle.wasm_spec.specs.Result.{result_from}
use Rattle.wasm_spec.specs.MoreFuel.{is_fuel_end}
use Rattle.wasm_spec.proofs.MoreFuel.{result-less}
use Rattle.wasm_spec.proofs.laws.less_fuel_ends_for_want_of_it.Goals as goal

pub returns : goal.returns
returns c = λ m limits x arguments store fuel less le e.
    let sum : less + (fuel - less) ≡ fuel = omega arith in
    result-less (fuel - less) m limits x arguments store less (ap (λ (n : ℕ). is_fuel_end (result_from m limits x arguments store n)) sum ∙ e)
