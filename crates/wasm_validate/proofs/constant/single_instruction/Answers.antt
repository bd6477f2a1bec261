use Rattle.std.proofs.Common.{ℕ, ◌-◌, ◌∙◌, sym, ap, arith}
use Rattle.wasm_validate.proofs.Constants.{single_is, not_single}
use Rattle.wasm_validate.proofs.constant.single_instruction.Goals as goal
use Rattle.wasm_validate.proofs.constant.single_instruction.Goals.{in_default-via-in-Some+in-Plain+in_default, in_default-via-in-Some+in_default, in_default-via-in_default}

pub returns-in-Some-Plain-None : goal.returns-in-Some-Plain-None
returns-in-Some-Plain-None c =
    let w = c.in-Some-Plain-None in
    single_is c.args.e.now c.saturating_sub-outermost.result (c.saturating_sub-outermost.ensures ∙ ap (λ (n : ℕ). n - 1) c.len.ensures) w.i (grind arith) (sym w.ensures'.is)

pub returns-in_default : goal.returns-in_default
returns-in_default c = not_single c.args.e.now c.saturating_sub-outermost.result (c.saturating_sub-outermost.ensures ∙ ap (λ (n : ℕ). n - 1) c.len.ensures) (λ i first none. elim c.in_default.branch [
  | in_default-via-in-Some+in-Plain+in_default w ↦ let h = w.in_default.ensures'.is ∙ none in cc (h)
  | in_default-via-in-Some+in_default w ↦ let h = w.in_default.ensures.is ∙ first in grind arith
  | in_default-via-in_default w ↦ let h = w.in_default.ensures.is ∙ first in cc (h)
])
