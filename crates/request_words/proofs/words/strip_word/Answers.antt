use Rattle.std.proofs.Common.{◌∙◌, ◌≡◌, ◌∷◌, List, ℕ, drop, length, take, true, codes, ap, sym, subst}
use Rattle.std.specs.Str.{bytes_eq}
use Rattle.request_words.specs.Words.{line_words}
use Rattle.request_words.proofs.WordLemmas.{words-stripped}
use Rattle.request_words.proofs.words.strip_word.Goals as goal

pub returns : goal.returns
returns c =
    let line = c.args.line.now in
    let word = c.args.word.now in
    let is = c.in_ok-behind.ensures.cases.1 in
    let space : bytes_eq (take 1 (drop (length word) line)) (codes " ") ≡ true = subst (λ (t : List ℕ). bytes_eq (take 1 t) (codes " ") ≡ true) is c.in_ok-rest.ensures.cases.0 in
    words-stripped word line c.requires c.in_ok-behind.ensures.cases.0 space ∙ ap (λ (t : List ℕ). word ∷ line_words t) (sym (c.in_ok-rest.ensures.cases.1 ∙ ap (drop 1) is))
