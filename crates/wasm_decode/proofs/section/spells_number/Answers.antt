use Rattle.std.proofs.Common.{◌≡◌, ℕ, List, [], nat_eq, true, ap, subst, arith}
use Rattle.std.proofs.lemmas.Bool.Decides.{nat_tests}
use Rattle.wasm_spec.specs.Numbers.{TakesUnsigned}
use Rattle.wasm_spec.proofs.UnambiguousNumbers.{unsigned-unique}
use Rattle.leb_read.specs.Reading.{rest}
use Rattle.wasm_decode.proofs.section.spells_number.Goals as goal

-- the number that stands there, and what follows it
pub returns-then-n-number : goal.returns-then-n-number
returns-then-n-number c =
    let begins : rest c.new-cursor.result ≡ c.args.contents.now = ap rest c.new-cursor.ensures in
    let read : TakesUnsigned 32 c.args.number c.args.contents.now (rest c.u32.new.self) =
    subst (λ (n : ℕ). TakesUnsigned 32 n c.args.contents.now (rest c.u32.new.self)) c.if-n-number.true (subst (λ (l : List ℕ). TakesUnsigned 32 c.in-Ok.n l (rest c.u32.new.self)) begins c.in-Ok.ensures.spelled) in (
      λ t. subst (λ (l : List ℕ). TakesUnsigned 32 c.args.number c.args.contents.now l) (c.is_at_end.ensures.0 t) read,
      λ h. c.is_at_end.ensures.1 (let u = unsigned-unique 32 c.args.number c.args.number c.args.contents.now (rest c.u32.new.self) [] read h in u.1),
    )

pub returns-else-n-number : goal.returns-else-n-number
returns-else-n-number c =
    let begins : rest c.new-cursor.result ≡ c.args.contents.now = ap rest c.new-cursor.ensures in
    let read : TakesUnsigned 32 c.in-Ok.n c.args.contents.now (rest c.u32.new.self) = subst (λ (l : List ℕ). TakesUnsigned 32 c.in-Ok.n l (rest c.u32.new.self)) begins c.in-Ok.ensures.spelled in (
      λ t. absurd (c.if-n-number.false (let e : nat_eq c.in-Ok.n c.args.number ≡ true = t in grind (arith, nat_tests))),
      λ h. absurd (c.if-n-number.false (let u = unsigned-unique 32 c.in-Ok.n c.args.number c.args.contents.now (rest c.u32.new.self) [] read h in u.0)),
    )
