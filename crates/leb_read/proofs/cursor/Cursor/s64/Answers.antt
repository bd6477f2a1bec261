use Rattle.std.proofs.Common.{List, ℕ, subst}
use Rattle.leb_read.specs.Reading.{IsTail}
use Rattle.leb_read.proofs.Tails.{signed-tail}
use Rattle.leb_read.proofs.cursor.Cursor.s64.Goals as goal

pub go_to-requires : goal.go_to-requires
go_to-requires c = subst (λ (l : List ℕ). IsTail c.in-Some.left.now l) c.left.ensures
    (signed-tail 64 c.in-Some.value c.left.result.now c.in-Some.left.now c.in-Some.ensures.reads)
