-- What holds anyway holds of an error.
use Rattle.std.specs.Prelude.{OnErr, Result, Ok, Err}

pub on_err : {T E P : Type 0} (r : Result T E) → P → OnErr r P
on_err (Ok x) p = tt
on_err (Err e) p = p
