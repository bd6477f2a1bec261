use Rattle.leb_read.specs.Reading.{rest}
use Rattle.std.proofs.lemmas.Result.{err_from_is_err_and}
use Rattle.instr_decode.proofs.Decoding.{bytes-cut}
use Rattle.wasm_decode.proofs.item.read_bytes.Goals as goal

pub returns-in_err-take-clause-read : goal.returns-in_err-take-clause-read
returns-in_err-take-clause-read c =
    let p = err_from_is_err_and c.from_residual-in_err-take.result c.from_residual-in_err-take.ensures.1 in
    rw (p.1, p.2) (λ xs after t. c.in_err-take.ensures.none xs after (bytes-cut xs (rest c.args.cursor.now) after (rest c.u32.new.self) c.in_ok-size.size t c.in_ok-size.ensures.spelled))
