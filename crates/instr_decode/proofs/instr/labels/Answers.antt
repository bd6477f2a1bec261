use Rattle.std.proofs.Common.{ℕ, List, subst}
use Rattle.std.proofs.lemmas.Result.{err_from_is_err_and}
use Rattle.wasm_spec.specs.Numbers.{TakesUnsigned, TakesVec}
use Rattle.wasm_spec.specs.InstrGrammar.{TakesShape, WithLabels}
use Rattle.wasm_spec.proofs.UnambiguousNumbers.{unsigned-unique, vec-unique}
use Rattle.leb_read.specs.Reading.{rest}
use Rattle.instr_decode.proofs.Decoding.{exits, begins-through}
use Rattle.instr_decode.proofs.instr.labels.Goals as goal

pub returns-in_err-labels-clause-read : goal.returns-in_err-labels-clause-read
returns-in_err-labels-clause-read c =
    exits c.from_residual.result _ _ c.in_err-labels.field-0.0 c.from_residual.ensures.1
    (begins-through (TakesVec (TakesUnsigned 32)) (TakesShape WithLabels) (rest c.args.cursor.now) (rest c.args.cursor.now) c.in_err-labels.field-0.0 c.in_err-labels.ensures.read
    (λ i after h. (h.0, h.2, h.4)))

pub returns-in_err-label-clause-read : goal.returns-in_err-label-clause-read
returns-in_err-label-clause-read c =
    let p = err_from_is_err_and c.from_residual-in_err-label.result c.from_residual-in_err-label.ensures.1 in
    rw (p.1, p.2) (λ i after h.
    let u = vec-unique (TakesUnsigned 32) (unsigned-unique 32) h.0 c.in_ok-labels.labels (rest c.args.cursor.now) h.2 (rest c.indices.new.cursor) h.4 c.in_ok-labels.ensures.read.spelled in
    c.in_err-label.ensures.none h.1 after (subst (λ (l : List ℕ). TakesUnsigned 32 h.1 l after) u.1 h.5))
