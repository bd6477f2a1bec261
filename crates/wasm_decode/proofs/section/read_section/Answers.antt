use Rattle.std.proofs.Common.{ℕ, List, subst}
use Rattle.wasm_spec.specs.Numbers.{TakesBytes}
use Rattle.wasm_spec.specs.Grammar.{TakesSection}
use Rattle.wasm_spec.proofs.UnambiguousNumbers.{same_others}
use Rattle.leb_read.specs.Reading.{rest}
use Rattle.instr_decode.proofs.Decoding.{exits, begins-through}
use Rattle.wasm_decode.proofs.section.read_section.Goals as goal

pub returns-in_err-contents-clause-section : goal.returns-in_err-contents-clause-section
returns-in_err-contents-clause-section c =
    exits c.from_residual-in_err-contents.result _ _ c.in_err-contents.field-0.0 c.from_residual-in_err-contents.ensures.1
    (begins-through TakesBytes TakesSection (rest c.u8.new.self) (rest c.args.cursor.now) c.in_err-contents.field-0.0 c.in_err-contents.ensures.read
    (λ s after h. (s.contents, after, subst (λ (l : List ℕ). TakesBytes s.contents l after) (same_others h.id c.in_ok-id.ensures.spelled) h.sized)))
