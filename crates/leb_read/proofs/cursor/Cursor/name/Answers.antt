use Rattle.std.proofs.Common.{List, ℕ, refl, ap, sym, subst}
use Rattle.wasm_spec.specs.Numbers.{TakesName}
use Rattle.leb_read.specs.Reading.{CursorView, IsTail}
use Rattle.leb_read.proofs.Tails.{name-tail}
use Rattle.leb_read.proofs.cursor.Cursor.name.Goals as goal

pub go_to-requires : goal.go_to-requires
go_to-requires c = subst (λ (l : List ℕ). IsTail c.in-Some.left.now l) c.left.ensures
    (name-tail c.in-Some.name.now c.left.result.now c.in-Some.left.now c.in-Some.ensures)

pub returns-in-None : goal.returns-in-None
returns-in-None c = record {
  stays = refl;
  place = ap (λ (p : CursorView). p.place) c.self.view_is;
  none = λ xs after h. c.in-None.ensures xs after (subst (λ (l : List ℕ). TakesName xs l after) (sym c.left.ensures) h);
}
