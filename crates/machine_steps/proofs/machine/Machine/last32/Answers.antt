use Rattle.std.proofs.Common.{sym, ◌∙◌, ap, refl}
use Rattle.wasm_values.specs.declared.outcome.Val.TheVariants as val
use Rattle.wasm_types.specs.declared.instr.Width.TheVariants.{W32}
use Rattle.wasm_spec.specs.Typing.{number}
use Rattle.machine_steps.proofs.KindLemmas.{has_top}
use Rattle.machine_steps.proofs.OperandLemmas.{is_number}
use Rattle.machine_steps.proofs.machine.Machine.last32.Goals as goal

pub last-requires : goal.last-requires
last-requires c =
    let h = c.requires in
    has_top h.configuration c.args.self.now (val.I32 h.top) h.rest h.are h.represents

pub number32-requires : goal.number32-requires
number32-requires c =
    let h = c.requires in
    is_number W32 c.last.result (val.I32 h.top) h.top (c.last.ensures h.configuration (val.I32 h.top) h.rest h.represents h.are) refl

pub returns : goal.returns
returns c k n vs sh are =
    let e = sym c.number32.ensures ∙ ap (λ v. number W32 v) (c.last.ensures k (val.I32 n) vs sh are) in
    cc (e)
