use Rattle.std.proofs.Common.{◌≡◌, [], ◌↔◌, IsTrue, nat_eq, length, subst}
use Rattle.leb_read.specs.Reading.{CursorView, rest}
use Rattle.leb_read.proofs.Tails.{left}
use Rattle.leb_read.proofs.cursor.Cursor.is_at_end.Goals as goal

pub returns : goal.returns
returns c =
    subst (λ (p : CursorView). IsTrue (nat_eq c.self.inside.place (length c.self.inside.bytes.now)) ↔ (rest p ≡ [])) c.self.view_is
    (left (record { whole = c.self.inside.bytes.now; place = c.self.inside.place }) c.self.invariant)
