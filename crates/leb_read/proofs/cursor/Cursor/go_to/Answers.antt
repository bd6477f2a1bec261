use Rattle.std.proofs.Common.{◌-◌, length, subst, sym}
use Rattle.leb_read.specs.Reading.{CursorView, rest, IsTail, IsMoved}
use Rattle.leb_read.proofs.Tails.{goes, shorter}
use Rattle.leb_read.proofs.cursor.Cursor.go_to.Goals as goal

pub overflow_sub-self : goal.overflow_sub-self
overflow_sub-self c =
    let p : CursorView = record { whole = c.self.inside.bytes.now; place = c.self.inside.place } in
    shorter p c.args.left.now (subst (λ (o : CursorView). IsTail c.args.left.now (rest o)) (sym c.self.view_is) c.requires)

pub returns : goal.returns
returns c =
    let p : CursorView = record { whole = c.self.inside.bytes.now; place = c.self.inside.place } in
    let new : CursorView = record { whole = p.whole; place = length p.whole - length c.args.left.now } in
    subst (λ (o : CursorView). IsMoved o new c.args.left.now) c.self.view_is
    (goes p c.args.left.now c.self.invariant (subst (λ (o : CursorView). IsTail c.args.left.now (rest o)) (sym c.self.view_is) c.requires))
