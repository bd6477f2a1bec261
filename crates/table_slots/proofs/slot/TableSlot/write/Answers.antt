use Rattle.std.proofs.Common.{◌≡◌, ◌≤◌, ◌∙◌, ◌++◌, ℕ, List, ap, length, drop, sym, subst, arith, length-append}
use Rattle.std.proofs.lemmas.List.{take_at, length-drop}
use Rattle.std.specs.Prelude.{Option, Some, None}
use Rattle.wasm_types.specs.Tree.{ModuleTree}
use Rattle.wasm_spec.specs.Store.{first_misfit, fresh_store, table_size}
use Rattle.wasm_spec.proofs.ResultLaws.{length-fresh_table}
use Rattle.pool_model.specs.Contents.{Named}
use Rattle.wasm_spec.proofs.WithinLemmas.{loaded-within}
use Rattle.table_slots.proofs.TableLemmas.{write_kept}
use Rattle.table_slots.proofs.slot.TableSlot.write.Goals as goal

pub reach-requires : goal.reach-requires
reach-requires g c =
    let is = c.valid-valid.ensures.loaded in
    let least = c.table_length.ensures ∙ ap table_size c.valid-valid.ensures.tree in
    omega (arith, least, (loaded-within is.profile is.bytes _ _ is.loads).elements, c.self.invariant.1)

pub write_table-self-inside-requires-clause-fit : goal.write_table-self-inside-requires-clause-fit
write_table-self-inside-requires-clause-fit g c =
    let is = c.valid-valid.ensures.loaded in
    subst (λ (m : ModuleTree). first_misfit m ≡ None) (sym c.valid-valid.ensures.tree) (loaded-within is.profile is.bytes _ _ is.loads).segments

pub write_table-self-inside-requires-clause-room : goal.write_table-self-inside-requires-clause-room
write_table-self-inside-requires-clause-room g c = omega (arith, c.table_length.ensures, c.reach.ensures.reached, ap length c.deref_mut.ensures.value)

pub invariant_of-self : goal.invariant_of-self
invariant_of-self g c =
    let is = c.valid-valid.ensures.loaded in
    let m : ModuleTree = c.args.loaded.now.module.now.tree in
    let within = loaded-within is.profile is.bytes _ _ is.loads in
    let items : List (Option ℕ) = c.reach.new.entries.items in
    let new : List (Option ℕ) = c.write_table-self-inside.new.entries in
    let count : ℕ = c.write_table-self-inside.result in
    let size : count ≡ table_size m = c.write_table-self-inside.ensures.count ∙ ap table_size c.valid-valid.ensures.tree in
    let reached : count ≤ length items = omega (arith, size, c.table_length.ensures ∙ ap table_size c.valid-valid.ensures.tree, c.reach.ensures.reached) in
    let written : new ≡ (fresh_store m).table ++ drop count items =
    c.write_table-self-inside.ensures.table ∙ ap (λ (t : ModuleTree). (fresh_store t).table ++ drop count c.deref_mut.result.now) c.valid-valid.ensures.tree
    ∙ ap (λ (l : List (Option ℕ)). (fresh_store m).table ++ drop count l) c.deref_mut.ensures.value in
    let room : length items ≤ g.N.Naming.config.elements =
    omega (arith, c.reach.ensures.within, c.table_length.ensures ∙ ap table_size c.valid-valid.ensures.tree, within.elements, c.self.invariant.0.room) in
    let whole = length-fresh_table m within.segments in
    let rest = length-drop count items in
    let long = ap length written ∙ length-append (fresh_store m).table (drop count items) in
    let all : length new ≡ c.reach.new.entries.len = omega (arith, long, rest, whole, size, reached) in (
      write_kept g.N.Naming.config c.args.loaded.now.module.now count items _ within size room reached
          (take_at new (drop (length new) items) c.reach.new.entries.len all ∙ written) (Some c.again.result) (ap (λ (m : Named). Some m) c.again.ensures),
      omega (arith, c.self.invariant.1, c.reach.ensures.capacity),
    )
