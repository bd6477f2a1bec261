-- A read of a part of what is left.
use Rattle.std.proofs.Common.{◌≡◌, ◌∙◌, ◌<◌, ◌≤◌, ◌+◌, ℕ, List, [], ◌++◌, length, take, drop, sym, ap, arith, length-append, length-drop}
use Rattle.std.specs.List.{slice_range}
use Rattle.std.proofs.lemmas.List.Folds.{drop_split}
use Rattle.std.proofs.Math.Seq.{take-append_seam}
use Rattle.std.proofs.Math.ListN.{drop_of_length-le}

pub read_part : (items buf copied : List ℕ) (at n : ℕ) → at + n ≤ length items → length copied ≡ n → copied ≡ slice_range items at (at + n)
    → (n ≡ 0 → 0 < length buf → length items ≤ at)
    → (drop at items ≡ take n (copied ++ drop n buf) ++ drop (at + n) items) × (n ≡ 0 → 0 < length (copied ++ drop n buf) → drop (at + n) items ≡ [])
read_part items buf copied at n fits size is none = (
  drop_split items at (at + n) (omega arith) ∙ ap (λ (l : List ℕ). l ++ drop (at + n) items) (sym is ∙ sym (take-append_seam copied (drop n buf)) ∙ ap (λ k. take k (copied ++ drop n buf)) size),
  λ zero some. drop_of_length-le items (let room : 0 < length buf = omega (arith, length-append copied (drop n buf), length-drop n buf) in let end = none zero room in omega arith),
)
