use Rattle.std.proofs.Common.{List, ℕ, subst}
use Rattle.wasm_spec.specs.Numbers.{TakesUnsigned}
use Rattle.leb_read.specs.Reading.{IsTail}
use Rattle.leb_read.proofs.Tails.{unsigned-tail, read_is}
use Rattle.leb_read.proofs.cursor.Cursor.u32.Goals as goal

pub go_to-requires : goal.go_to-requires
go_to-requires c = subst (λ (l : List ℕ). IsTail c.in-Some.left.now l) c.left.ensures
    (unsigned-tail 32 c.in-Some.value c.left.result.now c.in-Some.left.now c.in-Some.ensures.reads)

pub returns-in-Some : goal.returns-in-Some
returns-in-Some c =
    read_is (TakesUnsigned 32) c.in-Some.value c.args.self.now c.go_to.new.self c.left.result.now c.in-Some.left.now c.left.ensures c.in-Some.ensures.reads c.go_to.ensures
