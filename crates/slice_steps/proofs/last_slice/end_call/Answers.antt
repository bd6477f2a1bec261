use Rattle.slice_steps.specs.declared.queued.Queued.TheVariants as queued
use Rattle.slice_steps.specs.Queued.{paused_pair}
use Rattle.slice_steps.proofs.SliceLemmas.{left_idle, never_left}
use Rattle.slice_steps.proofs.last_slice.end_call.Goals as goal

pub returns : goal.returns
returns g c =
    left_idle g.N.Naming.config c.args.shared.now.host c.args.shared.now.calls.items 18446744073709551615 (queued.Paused c.args.paused) _ (paused_pair c.args.paused) _ c.in-Idle.pass c.in-Idle.is
    c.make_to_end-worked.ensures

pub unreachable-requires : goal.unreachable-requires
unreachable-requires g c =
    never_left g.N.Naming.config c.args.shared.now.host c.args.shared.now.calls.items 18446744073709551615 (queued.Paused c.args.paused) _ (paused_pair c.args.paused) _ _ c.in-Paused.is
    c.make_to_end-worked.ensures
