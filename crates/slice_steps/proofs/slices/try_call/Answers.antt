use Rattle.std.proofs.Common.{◌∙◌, sym}
use Rattle.slice_steps.specs.declared.queued.Queued.TheVariants as queued
use Rattle.slice_steps.proofs.SliceLemmas.{full_is_idle, full_tried}
use Rattle.slice_steps.proofs.slices.try_call.Goals as goal

pub returns-in-None : goal.returns-in-None
returns-in-None g c = λ turns. (c.begin_call-queued.ensures turns, sym c.full_kind.ensures ∙ c.in-None.is)

pub returns-in-Idle : goal.returns-in-Idle
returns-in-Idle g c = λ turns.
    full_tried g.N.Naming.config c.args.shared.now.host c.args.shared.now.calls.items turns c.args.pass (c.args.number, c.args.item.now) c.begin_call-queued.result _ _ c.in-Idle.is
    (sym c.full_kind.ensures ∙ c.in-Some.is) (c.begin_call-queued.ensures turns)

pub unreachable-requires : goal.unreachable-requires
unreachable-requires g c =
    full_is_idle g.N.Naming.config c.args.shared.now.host c.args.shared.now.calls.items 0 (queued.Idle c.args.pass) (c.args.number, c.args.item.now) c.begin_call-queued.result _ _ c.in-Paused.is
    (sym c.full_kind.ensures ∙ c.in-Some.is) (c.begin_call-queued.ensures 0)
