use Rattle.std.proofs.Common.{◌≡◌, ℕ, List, ◌++◌, take, sym, ap, ◌∙◌}
use Rattle.std.proofs.lemmas.List.{take-append-drop, length-take-le}
use Rattle.std.proofs.lemmas.Result.{err_from_is_err_and}
use Rattle.wasm_types.specs.declared.instr.Instr.TheVariants as instr
use Rattle.wasm_values.specs.declared.profile.Profile.TheVariants.{One}
use Rattle.wasm_spec.specs.InstrGrammar.{WithAddress, WithBytes, TakesShape, shape}
use Rattle.leb_read.specs.Reading.{rest}
use Rattle.instr_decode.specs.Opcodes.{TakesAddress, made_with_address, shape_of}
use Rattle.instr_decode.proofs.Decoding.{exits-as}
use Rattle.instr_decode.proofs.instr.read_common.Goals as goal

pub returns-in_err-arg-in-Address-clause-read : goal.returns-in_err-arg-in-Address-clause-read
returns-in_err-arg-in-Address-clause-read c =
    let s : shape One c.args.opcode ≡ WithAddress (λ m. made_with_address c.in-Address.op m) = c.in-Some.ensures ∙ ap shape_of c.in-Address.is in
    rw s (exits-as TakesAddress (TakesShape (WithAddress (λ m. made_with_address c.in-Address.op m))) c.from_residual-in_err-arg-in-Address.result _ (rest c.args.cursor.now) c.in_err-arg-in-Address.field-0.0
    c.from_residual-in_err-arg-in-Address.ensures.1 c.in_err-arg-in-Address.ensures.read (λ i after h. (h.0, (h.1, h.3, h.4))))

pub returns-in_err-take-in-Bytes-clause-read : goal.returns-in_err-take-in-Bytes-clause-read
returns-in_err-take-in-Bytes-clause-read c =
    let n = c.in-Bytes.count in
    let s : shape One c.args.opcode ≡ WithBytes n instr.Float = c.in-Some.ensures ∙ ap shape_of c.in-Bytes.is in
    let p = err_from_is_err_and c.from_residual-in_err-take-in-Bytes.result c.from_residual-in_err-take-in-Bytes.ensures.1 in
    let bytes = rest c.args.cursor.now in
    rw (p.1, p.2, s) (λ i after h. c.in_err-take-in-Bytes.ensures.none (take n bytes) after
    (length-take-le n bytes h.1, sym (ap (λ (l : List ℕ). take n bytes ++ l) h.2 ∙ take-append-drop n bytes)))
