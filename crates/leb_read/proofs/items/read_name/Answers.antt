use Rattle.std.proofs.Common.{subst, IsTrue}
use Rattle.std.specs.Prelude.{IsUtf8, List, ℕ}
use Rattle.wasm_spec.proofs.UnambiguousNumbers.{bytes-unique}
use Rattle.leb_read.proofs.items.read_name.Goals as goal

pub returns-in_err-name : goal.returns-in_err-name
returns-in_err-name c = rw c.from_residual.ensures (λ name rest h. c.in_err-name.ensures name rest h.spelled)

pub returns-else-is_utf8 : goal.returns-else-is_utf8
returns-else-is_utf8 c name rest h =
    let u = bytes-unique name c.in_ok-name.name.now c.args.bytes.now rest c.in_ok-name.rest.now h.spelled c.in_ok-name.ensures in
    let utf8 : IsUtf8 c.in_ok-name.name.now = subst (λ (l : List ℕ). IsUtf8 l) u.0 h.utf8 in
    let holds : IsTrue c.is_utf8.result = c.is_utf8.ensures.1 utf8 in
    cc
