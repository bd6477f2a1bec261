use Rattle.std.proofs.Common.{◌≡◌, true, arith}
use Rattle.std.specs.Prelude.{Result, Ok, Err, OnOk, is_ok}
use Rattle.run_books.proofs.modules.enter.Goals as goal

got_ok : {T E : Type 0} (r : Result T E) (P : Type 0) → true ≡ is_ok r → OnOk r P → P
got_ok (Ok x) P ok p = p
got_ok (Err e) P ok p = cc

pub push_reserved-requires : goal.push_reserved-requires
push_reserved-requires g c = let more = got_ok c.reserve.result _ c.in_ok-map_err.ensures.variant c.reserve.ensures.ok in omega arith
