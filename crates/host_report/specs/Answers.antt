-- What the calls of a request file are answered.
use Rattle.std.specs.Prelude.{◌≡◌, ℕ, List, [], ◌∷◌, Option, Some, flat_map, map, option_to_list}
use Rattle.request_text.specs.declared.request.Directive.{Directive}
use Rattle.request_text.specs.declared.request.Directive.TheVariants.{Module, Call, Retire}
use Rattle.report_text.specs.declared.report.CallLine.{CallLine}
use Rattle.run_books.specs.Lines.{GoesAs, Limits}

-- how the calls among these directives go, in their order
abbrev pub AreAnswers : Limits → (modules : List (List ℕ)) → List Directive → List CallLine → Type 0
AreAnswers limits modules [] answers = answers ≡ []
AreAnswers limits modules (Module name bytes ∷ requests) answers = AreAnswers limits modules requests answers
AreAnswers limits modules (Retire place name ∷ requests) answers = AreAnswers limits modules requests answers
AreAnswers limits modules (Call tenant place retired invocation ∷ requests) [] = ⊥
AreAnswers limits modules (Call tenant place retired invocation ∷ requests) (how ∷ answers) =
    GoesAs limits modules place retired invocation how × AreAnswers limits modules requests answers

-- the lines that stand on the board, in order
abbrev pub lines_on : (board : List (Option CallLine)) → List CallLine
lines_on board = flat_map option_to_list board

-- the board has these lines, one for each call in order, and none is missing
abbrev pub AreCollected : (board : List (Option CallLine)) → List CallLine → Type 0
AreCollected board lines = board ≡ map (λ line. Some line) lines
