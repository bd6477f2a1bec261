use Rattle.std.proofs.Common.{refl, ap, ◌∙◌}
use Rattle.std.specs.Prelude.{is_some}
use Rattle.wasm_types.specs.declared.module.Module.{Module}
use Rattle.paused_call.proofs.SliceLemmas.{begins_with}
use Rattle.paused_call.proofs.call.PausedCall.begin.Goals as goal

pub returns-clause-stands : goal.returns-clause-stands
returns-clause-stands c limits args stacks store call deep frames typed =
    begins_with c.args.valid.now limits store args _ stacks call deep frames typed refl
    (c.is_some.ensures ∙ ap (λ (m : Module). is_some m.start) c.module.ensures.same) refl
