-- Lines that are answered one after another.
use Rattle.std.proofs.Common.{◌≡◌, ℕ, ◌<◌, List, [], length, refl, sym, subst, Option, Some, None, IfSome}
use Rattle.std.specs.Io.BufRead.{drop_through, first_piece, DropsThrough}
use Rattle.std.specs.Io.KnownBytes.{IsAtEnd}
use Rattle.wasm_types.specs.Tree.{ModuleTree}
use Rattle.pool_limits.specs.declared.numbers.Numbers.{Numbers}
use Rattle.line_service.specs.Lines.{AreAnswered, Answered, Finished, IsAnswered}

module _ (config : Numbers) (m : ModuleTree) where
  -- of a text whose bytes are told so much is left, and what is then written for that is written for the text
  abbrev pub HasCome : (text left before now : Option (List ℕ)) → Type 0
  HasCome text left before now = IfSome text (λ all. (xs : List ℕ) × (left ≡ Some xs)
      × ((after : Option (List ℕ)) → AreAnswered config m xs now after → AreAnswered config m all before after))

  pub come_first : (text before : Option (List ℕ)) → HasCome text text before before
  come_first None before = tt
  come_first (Some all) before = (all, refl, λ after rest. rest)

  pub come_next : (text left left' before now now' : Option (List ℕ)) (line : List ℕ) → HasCome text left before now
      → IfSome left (λ xs. (0 < length xs) × (line ≡ first_piece 10 xs)) → DropsThrough left left' 10 → IsAnswered config m line now now' → HasCome text left' before now'
  come_next None left left' before now now' line come piece drops answered = tt
  come_next (Some all) None left' before now now' line come piece drops answered = let e = come.1 in absurd (cc)
  come_next (Some all) (Some ys) left' before now now' line come piece drops answered =
      let e : Some ys ≡ Some come.0 = come.1 in
      let same : ys ≡ come.0 = cc in
      let first : IsAnswered config m (first_piece 10 ys) now now' = subst (λ (l : List ℕ). IsAnswered config m l now now') piece.1 answered in
      (drop_through 10 ys, drops, λ after rest. come.2 after (subst (λ (l : List ℕ). AreAnswered config m l now after) same (Answered piece.0 first rest)))

  pub come_last : (text left before now : Option (List ℕ)) → HasCome text left before now → IsAtEnd left → IfSome text (λ all. AreAnswered config m all before now)
  come_last None left before now come end = tt
  come_last (Some all) None before now come end = let e = come.1 in absurd (cc)
  come_last (Some all) (Some ys) before now come end =
      let e : Some ys ≡ Some come.0 = come.1 in
      let none : come.0 ≡ [] = cc in
      come.2 now (subst (λ (xs : List ℕ). AreAnswered config m xs now now) (sym none) Finished)
