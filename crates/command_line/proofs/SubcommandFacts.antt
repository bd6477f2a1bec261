-- Which subcommand a parse without a fault has entered, where the command wants one.
use Rattle.std.proofs.Common.{◌≡◌, ◌&&◌, ◌⊎◌, Bool, true, false, not, List, [], ◌∷◌, Option, Some, None, cond, refl, sym, ap, inl, inr, true≢false}
use Rattle.std.specs.Prelude.{find, is_some, option_map}
use Rattle.std.specs.Option.{option_map_or}
use Rattle.clap.specs.Kinds.{check_kinds}
use Rattle.clap.specs.Words.{App, Shape, Text, built, fault_of, subcommand_of}
use Rattle.clap.specs.Simple.{argument_words, entered, label_of, names_of, rows_at}
use Rattle.clap.specs.Walk.{answers_to, nothing_held, rows_after, settled, stop_after, walk, walk_from}
use Rattle.clap.specs.Faults.{defaults_fault, entered_fault, level_fault, settle_fault, walk_fault}
use Rattle.command_line.proofs.RowFacts.{cons_nil, or_nil}

-- the command is one of the list
abbrev pub IsOneOf : Shape → List Shape → Type 0
IsOneOf s [] = ⊥
IsOneOf s (t ∷ rest) = (s ≡ t) ⊎ IsOneOf s rest

IsOneOf-find : (p : Shape → Bool) (subs : List Shape) (s : Shape) → find p subs ≡ Some s → IsOneOf s subs
IsOneOf-find p [] s e = cc
IsOneOf-find p (t ∷ rest) s e = go (p t) e (λ f. IsOneOf-find p rest s f)
  where
    go : (b : Bool) → cond b (Some t) (find p rest) ≡ Some s → (find p rest ≡ Some s → IsOneOf s rest) → IsOneOf s (t ∷ rest)
    go true e rec = let same : s ≡ t = cc in inl same
    go false e rec = inr (rec e)

-- the words enter this subcommand of the built command, with the rest of them, and no fault comes at its level
pub record Enters (a : App) (words : List Text) : Type 0 where
  pub sub : Shape
  pub rest : List Text
  pub is_sub : IsOneOf sub (built a).subs
  pub rows : subcommand_of a words ≡ Some (sub.name, rows_after sub.rules [] rest)
  pub no_fault : level_fault sub [] nothing_held rest false [] ≡ []

abbrev stop_of : App → List Text → Option (Text × List Text)
stop_of a words = stop_after (built a).top.rules (names_of (built a)) (argument_words a words)

-- the last check finds a subcommand
has_entered : (has wants_help missing : Bool) → check_kinds (not has && wants_help) (not has && true) missing ≡ [] → has ≡ true
has_entered true wants_help missing e = refl
has_entered false true missing e = absurd (cons_nil _ [] e)
has_entered false false missing e = absurd (cons_nil _ [] e)

-- of the subcommand that the word at which the walk stopped names
enters_found : (a : App) (words rest : List Text) (o : Option Shape) → ((s : Shape) → o ≡ Some s → IsOneOf s (built a).subs)
    → subcommand_of a words ≡ option_map (λ s. rows_at s rest) o → is_some (option_map (λ s. rows_at s rest) o) ≡ true
    → option_map_or (λ s. level_fault s [] nothing_held rest false []) o [] ≡ [] → Enters a words
enters_found a words rest None among rows has e = absurd (true≢false (sym has))
enters_found a words rest (Some s) among rows has e = record { sub = s; rest = rest; is_sub = among s refl; rows = rows; no_fault = e }

enters_stopped : (a : App) (words : List Text) (stop : Option (Text × List Text)) → stop_of a words ≡ stop → is_some (entered (built a) stop) ≡ true
    → entered_fault (built a) stop ≡ [] → Enters a words
enters_stopped a words None is has e = absurd (true≢false (sym has))
enters_stopped a words (Some p) is has e =
    enters_found a words p.1 (find (λ s. answers_to p.0 (label_of s)) (built a).subs) (λ s f. IsOneOf-find _ (built a).subs s f)
    (ap (entered (built a)) is) has e

pub enters : (a : App) (words : List Text) → (built a).top.subcommand_required ≡ true → fault_of a words ≡ [] → Enters a words
enters a words required e =
    let top : Shape = (built a).top in
    let end = (walk top.rules (names_of (built a)) nothing_held (argument_words a words)).held in
    let one = or_nil (walk_fault top (names_of (built a)) (walk_from nothing_held) (argument_words a words)) _ e in
    let two = or_nil (entered_fault (built a) (stop_of a words)) _ one.1 in
    let three = or_nil (settle_fault top.rules top.args_override_self end) _ two.1 in
    let four = or_nil (defaults_fault (settled top.rules end).rows top.rules) _ three.1 in
    let check = rw required at four.1 in
    enters_stopped a words (stop_of a words) refl (has_entered (is_some (entered (built a) (stop_of a words))) _ _ check) two.0
