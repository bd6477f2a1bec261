use Rattle.std.proofs.Common.{◌∷◌, sym}
use Rattle.wasm_spec.proofs.UnambiguousNumbers.{unsigned-unique, same_first}
use Rattle.leb_read.specs.Reading.{rest}
use Rattle.std.proofs.lemmas.Result.{err_from_is_err_and}
use Rattle.instr_decode.proofs.token.call_indirect.Goals as goal

pub returns-in_err-u8-clause-read : goal.returns-in_err-u8-clause-read
returns-in_err-u8-clause-read c =
    let p = err_from_is_err_and c.from_residual-in_err-u8.result c.from_residual-in_err-u8.ensures.1 in
    rw (p.1, p.2) (λ x after h.
    let u = unsigned-unique 32 x c.in_ok-index.index (rest c.args.cursor.now) (0 ∷ after) (rest c.u32.new.self) h c.in_ok-index.ensures.spelled in
    c.in_err-u8.ensures.none 0 after (sym u.1))

pub returns-else-branch-eq0-clause-read : goal.returns-else-branch-eq0-clause-read
returns-else-branch-eq0-clause-read c = λ x after h.
    let u = unsigned-unique 32 x c.in_ok-index.index (rest c.args.cursor.now) (0 ∷ after) (rest c.u32.new.self) h c.in_ok-index.ensures.spelled in
    c.if-branch-eq0.false (same_first c.in_ok-u8.ensures.spelled (sym u.1))
