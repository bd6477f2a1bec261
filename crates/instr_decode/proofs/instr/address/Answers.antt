use Rattle.std.proofs.Common.{ℕ, List, subst}
use Rattle.std.proofs.lemmas.Result.{err_from_is_err_and}
use Rattle.wasm_spec.specs.Numbers.{TakesUnsigned}
use Rattle.wasm_spec.proofs.UnambiguousNumbers.{unsigned-unique}
use Rattle.leb_read.specs.Reading.{rest}
use Rattle.instr_decode.proofs.instr.address.Goals as goal

pub returns-in_err-offset-clause-read : goal.returns-in_err-offset-clause-read
returns-in_err-offset-clause-read c =
    let p = err_from_is_err_and c.from_residual-in_err-offset.result c.from_residual-in_err-offset.ensures.1 in
    rw (p.1, p.2) (λ m after h.
    let u = unsigned-unique 32 m.align c.in_ok-align.align (rest c.args.cursor.now) h.0 (rest c.u32.new.self) h.1 c.in_ok-align.ensures.spelled in
    c.in_err-offset.ensures.none m.offset after (subst (λ (l : List ℕ). TakesUnsigned 32 m.offset l after) u.1 h.2))
