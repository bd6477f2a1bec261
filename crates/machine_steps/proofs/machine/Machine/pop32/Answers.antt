use Rattle.std.proofs.Common.{sym, ◌∙◌, ap, refl}
use Rattle.wasm_values.specs.declared.outcome.Val.TheVariants as val
use Rattle.wasm_types.specs.declared.instr.Width.TheVariants.{W32}
use Rattle.wasm_spec.specs.Typing.{number}
use Rattle.machine_steps.proofs.OperandLemmas.{is_number}
use Rattle.machine_steps.proofs.machine.Machine.pop32.Goals as goal

pub number32-requires : goal.number32-requires
number32-requires c =
    let h = c.requires in
    is_number W32 c.pop.result (val.I32 h.top) h.top (c.pop.ensures.represents h.configuration (val.I32 h.top) h.rest h.represents h.are).0 refl

pub returns-clause-represents : goal.returns-clause-represents
returns-clause-represents c k n vs sh are =
    let p = c.pop.ensures.represents k (val.I32 n) vs sh are in
    let e = sym c.number32.ensures ∙ ap (λ v. number W32 v) p.0 in
    (cc (e), p.1)
