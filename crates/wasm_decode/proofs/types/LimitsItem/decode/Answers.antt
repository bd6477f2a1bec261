use Rattle.std.proofs.Common.{◌≡◌, ℕ, List, ◌∷◌, ap, ◌∙◌, subst, arith}
use Rattle.std.specs.Prelude.{Option, Some, None}
use Rattle.std.proofs.lemmas.Result.{err_from_is_err_and}
use Rattle.wasm_spec.specs.Numbers.{TakesUnsigned}
use Rattle.wasm_spec.specs.TypeGrammar.{TakesRange}
use Rattle.wasm_spec.proofs.UnambiguousNumbers.{same_first, same_others, unsigned-unique}
use Rattle.leb_read.specs.Reading.{rest}
use Rattle.wasm_decode.proofs.types.LimitsItem.decode.Goals as goal

-- a range with a maximum, whose minimum has been read
most-is : (low n : ℕ) (high : Option ℕ) (bytes a mid after : List ℕ) → bytes ≡ 1 ∷ a → TakesUnsigned 32 n a mid → TakesRange low high bytes after → (x : ℕ) × TakesUnsigned 32 x mid after
most-is low n None bytes a mid after e count h = absurd (omega (arith, same_first e h.1))
most-is low n (Some x) bytes a mid after e count h =
    let u = unsigned-unique 32 low n a h.2.0 mid (subst (λ (l : List ℕ). TakesUnsigned 32 low l h.2.0) (same_others h.1 e) h.2.1) count in
    (x, subst (λ (l : List ℕ). TakesUnsigned 32 x l after) u.1 h.2.2)

pub returns-in_err-max-in-1-clause-read : goal.returns-in_err-max-in-1-clause-read
returns-in_err-max-in-1-clause-read c =
    let p = err_from_is_err_and c.from_residual-in_err-max-in-1.result c.from_residual-in_err-max-in-1.ensures.1 in
    rw (p.1, p.2) (λ l after h.
    let m = most-is l.min c.in_ok-min.min l.max (rest c.args.cursor.now) (rest c.u8.new.self) (rest c.u32.new.self) after
    (c.in_ok-flag.ensures.spelled ∙ ap (λ (n : ℕ). n ∷ rest c.u8.new.self) (omega arith)) c.in_ok-min.ensures.spelled h in
    c.in_err-max-in-1.ensures.none m.0 after m.1)
