use Rattle.wasm_values.specs.declared.profile.Profile.{Profile}
use Rattle.std.proofs.Common.{ℕ, List, [], subst}
use Rattle.wasm_spec.specs.Numbers.{TakesBytes}
use Rattle.wasm_spec.specs.Grammar.{TakesBody, TakesSizedBody}
use Rattle.wasm_spec.proofs.UnambiguousNumbers.{bytes-unique}
use Rattle.leb_read.specs.Reading.{rest}
use Rattle.instr_decode.specs.Decoding.{IsNone, BeginsWithNone}
use Rattle.instr_decode.specs.declared.fault.DecodeFault.{DecodeFault}
use Rattle.instr_decode.specs.declared.fault.DecodeFault.TheVariants.{Malformed, NoMemory}
use Rattle.instr_decode.proofs.Decoding.{exits, exits-as}
use Rattle.wasm_decode.proofs.function.SizedBodyItem.decode.Goals as goal

sized-none : (profile : Profile) (contents bytes mid : List ℕ) (fault : DecodeFault) → TakesBytes contents bytes mid → IsNone (λ b. TakesBody profile b contents []) fault → BeginsWithNone (TakesSizedBody profile) bytes fault
sized-none profile contents bytes mid Malformed t none = λ b after h.
    let u = bytes-unique h.contents contents bytes after mid h.sized t in
    none b (subst (λ (l : List ℕ). TakesBody profile b l []) u.0 h.body)
sized-none profile contents bytes mid NoMemory t none = tt

pub returns-in_err-contents-clause-read : goal.returns-in_err-contents-clause-read
returns-in_err-contents-clause-read c =
    exits-as TakesBytes (TakesSizedBody c.args.profile) c.from_residual.result _ (rest c.args.cursor.now) c.in_err-contents.field-0.0 c.from_residual.ensures.1 c.in_err-contents.ensures.read
    (λ b after h. (h.contents, h.sized))

pub returns-in_err-body-clause-read : goal.returns-in_err-body-clause-read
returns-in_err-body-clause-read c =
    exits c.from_residual-in_err-body.result _ _ c.in_err-body.field-0.0 c.from_residual-in_err-body.ensures.1
    (sized-none c.args.profile c.in_ok-contents.contents.now (rest c.args.cursor.now) (rest c.read_bytes.new.cursor) c.in_err-body.field-0.0 c.in_ok-contents.ensures.read.spelled c.in_err-body.ensures.read)
