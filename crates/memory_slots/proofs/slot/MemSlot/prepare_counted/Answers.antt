use Rattle.std.proofs.Common.{◌≡◌, false, ap, subst, sym, ◌∙◌, arith}
use Rattle.std.specs.Prelude.{Some}
use Rattle.std.proofs.lemmas.Bool.{false≢true}
use Rattle.std.proofs.lemmas.Option.{same_Some}
use Rattle.block_restore.proofs.MarkLemmas.{count_within}
use Rattle.pool_model.specs.Contents.{Named, MemoryContents, belongs_to}
use Rattle.pool_model.proofs.Parts.{belongs_not}
use Rattle.memory_slots.proofs.KeptLemmas.{other_prepared, own_fresh, own_prepared}
use Rattle.memory_slots.proofs.slot.MemSlot.prepare_counted.Given as given
use Rattle.memory_slots.proofs.slot.MemSlot.prepare_counted.Goals as goal
use Rattle.memory_slots.proofs.slot.MemSlot.prepare_counted.Goals.{in-Some+else-same, in_default}

pub returns-then-same-clause-prepared : goal.returns-then-same-clause-prepared
returns-then-same-clause-prepared g c =
    let m = c.args.loaded.now.module.now in
    let same : c.in-Some.own ≡ m = c.same.ensures.module c.if-same.true in
    let own = sym (ap (λ (x : MemoryContents). x.holds) c.self.view_is) ∙ c.in-Some.is ∙ ap (λ (n : Named). Some n) same in
    own_prepared g.N.Naming.config.pages m c.args.self.now c.restore_counted.new.self own c.restore_counted.ensures.restored

pub returns-then-same-clause-fresh : goal.returns-then-same-clause-fresh
returns-then-same-clause-fresh g c =
    let m = c.args.loaded.now.module.now in
    let same : c.in-Some.own ≡ m = c.same.ensures.module c.if-same.true in
    let own = sym (ap (λ (x : MemoryContents). x.holds) c.self.view_is) ∙ c.in-Some.is ∙ ap (λ (n : Named). Some n) same in
    own_fresh g.N.Naming.config.pages m c.args.self.now c.restore_counted.new.self own c.restore_counted.ensures.fresh

-- the marked blocks are among those of each such set
pub returns-then-same-clause-steps : goal.returns-then-same-clause-steps
returns-then-same-clause-steps g c = λ set all.
    let within = count_within set c.args.self.now.marks all.marked in
    omega (arith, c.restore_counted.ensures.steps, within)

-- it did not belong to this module
returns-clause-other : (g : given.Over) (c : goal.After-write g) → belongs_to c.args.loaded.now.module.now c.args.self.now.holds ≡ false
returns-clause-other g c =
    let m = c.args.loaded.now.module.now in
    subst (λ (x : MemoryContents). belongs_to m x.holds ≡ false) c.self.view_is (belongs_not m c.self.inside.holds (λ own is number. elim c.match-self.branch [
      | in-Some+else-same w ↦ absurd (false≢true (sym w.if-same.false ∙ w.same.ensures.number.1 (ap (λ (n : Named). n.number) (same_Some w.in-Some.own own (sym w.in-Some.is ∙ is)) ∙ number)))
      | in_default w ↦ w.in_default.not-Some own is
    ]))

pub returns-clause-prepared : goal.returns-clause-prepared
returns-clause-prepared g c =
    other_prepared g.N.Naming.config.pages c.args.loaded.now.module.now c.args.self.now c.write.new.self (returns-clause-other g c) c.write.ensures.fresh c.write.ensures.marks

pub returns-clause-own : goal.returns-clause-own
returns-clause-own g c = λ own. absurd (false≢true (sym (returns-clause-other g c) ∙ own))
