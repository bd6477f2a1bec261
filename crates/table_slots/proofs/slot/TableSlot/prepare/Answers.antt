use Rattle.std.proofs.Common.{◌≡◌, false, ap, subst, sym, ◌∙◌}
use Rattle.std.specs.Prelude.{Some}
use Rattle.std.proofs.lemmas.Bool.{false≢true}
use Rattle.std.proofs.lemmas.Option.{same_Some}
use Rattle.pool_model.specs.Contents.{Named, TableContents, belongs_to}
use Rattle.pool_model.proofs.Parts.{belongs_not}
use Rattle.table_slots.proofs.TableLemmas.{other_prepared, own_prepared}
use Rattle.table_slots.proofs.slot.TableSlot.prepare.Goals as goal
use Rattle.table_slots.proofs.slot.TableSlot.prepare.Goals.{in-Some+else-same, in_default}

pub returns-then-same-clause-prepared : goal.returns-then-same-clause-prepared
returns-then-same-clause-prepared g c =
    let same : c.in-Some.own ≡ c.args.loaded.now.module.now = c.same.ensures.module c.if-same.true in
    let own = sym (ap (λ (x : TableContents). x.holds) c.self.view_is) ∙ c.in-Some.is ∙ ap (λ (n : Named). Some n) same in
    own_prepared g.N.Naming.config.pages c.args.loaded.now.module.now c.args.self.now own

pub returns-clause-prepared : goal.returns-clause-prepared
returns-clause-prepared g c =
    let m = c.args.loaded.now.module.now in
    let other : belongs_to m c.args.self.now.holds ≡ false =
    subst (λ (x : TableContents). belongs_to m x.holds ≡ false) c.self.view_is (belongs_not m c.self.inside.holds (λ own is number. elim c.match-self.branch [
      | in-Some+else-same w ↦ absurd (false≢true (sym w.if-same.false ∙ w.same.ensures.number.1 (ap (λ (n : Named). n.number) (same_Some w.in-Some.own own (sym w.in-Some.is ∙ is)) ∙ number)))
      | in_default w ↦ w.in_default.not-Some own is
    ])) in
    other_prepared g.N.Naming.config.pages m c.args.self.now c.write.new.self other c.write.ensures
