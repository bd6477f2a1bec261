use Rattle.std.proofs.Common.{◌≡◌, ◌∙◌, Bool, true, subst, sym}
use Rattle.wasm_spec.specs.Store.{fresh_store}
use Rattle.pool_model.specs.Contents.{needs, shown_table}
use Rattle.pool_model.specs.declared.kinds.Kind.TheVariants.{Table}
use Rattle.pool_host.specs.Kinds.{IsTurnedAwayFrom}
use Rattle.slot_pools.proofs.ResultLemmas.{on_err}
use Rattle.pool_host.proofs.slots.take_table.Goals as goal

pub returns-then-not-needs_table-clause-fresh : goal.returns-then-not-needs_table-clause-fresh
returns-then-not-needs_table-clause-fresh g c = c.needs_table.ensures.none c.if-not-needs_table.true

pub returns-in_err-lease-clause-full : goal.returns-in_err-lease-clause-full
returns-in_err-lease-clause-full g c =
    let met = c.in_err-lease.ensures in
    let away : IsTurnedAwayFrom Table c.args.pool.now c.args.loaded.now.module.now c.args.pass.now c.take_for.new.pass =
    record { needed_is = sym c.needs_table.ensures.is ∙ c.if-not-needs_table.false; full = met.full.1; others = met.another } in
    on_err c.from_residual.result away

pub returns-clause-fresh : goal.returns-clause-fresh
returns-clause-fresh g c =
    let tree = c.args.loaded.now.module.now.tree in
    let won = c.in_ok-lease in
    let needed : true ≡ needs Table tree = sym c.if-not-needs_table.false ∙ c.needs_table.ensures.is in record {
      had = needed;
      shown = subst (λ (b : Bool). shown_table b won.lease.value ≡ (fresh_store tree).table) needed won.ensures.table.1;
    }
