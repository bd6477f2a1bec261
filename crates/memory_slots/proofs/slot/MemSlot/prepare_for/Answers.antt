use Rattle.wasm_spec.proofs.WithinLemmas.{loaded-within}
use Rattle.memory_slots.proofs.KeptLemmas.{fresh_ready, fresh_shown}
use Rattle.memory_slots.proofs.slot.MemSlot.prepare_for.Goals as goal

pub returns-clause-shown : goal.returns-clause-shown
returns-clause-shown g c =
    let is = c.valid-valid.ensures.loaded in
    fresh_shown g.N.Naming.config c.args.loaded.now.module.now c.prepare_uncounted.new.self (loaded-within is.profile is.bytes _ _ is.loads) c.prepare_uncounted.ensures.fresh

pub returns-clause-ready : goal.returns-clause-ready
returns-clause-ready g c =
    let is = c.valid-valid.ensures.loaded in
    fresh_ready g.N.Naming.config c.args.loaded.now.module.now c.prepare_uncounted.new.self (loaded-within is.profile is.bytes _ _ is.loads) c.prepare_uncounted.ensures.fresh
