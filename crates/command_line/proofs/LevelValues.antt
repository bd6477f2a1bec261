-- What a level of a parse holds where no fault comes: each argument that has a default or is required has a value that its parser takes.
use Rattle.std.proofs.Common.{◌≡◌, ◌∙◌, Bool, true, false, cond, refl, sym, ap, subst, List, [], ◌∷◌, ◌++◌, Option, Some, None, ◌&&◌, ◌||◌, not, arith, true≢false, inl, inr, ◌⊎◌}
use Rattle.std.proofs.lemmas.Slice.Eq.{bytes_eq-Decides}
use Rattle.std.proofs.lemmas.Bool.{and_parts, ne_eqb, not-true, or_parts, or_right}
use Rattle.std.specs.Prelude.{find, fold, option_map, option_and_then, slice_get, nat_lt}
use Rattle.std.specs.Option.{option_map_or}
use Rattle.std.specs.List.{list_all, list_any}
use Rattle.std.specs.Str.{bytes_eq}
use Rattle.clap.specs.Facts.{explicit_source, unwrap_or_range}
use Rattle.clap.specs.Values.{read_as}
use Rattle.clap.specs.Kinds.{Kinds, check_kinds, or_else, request_kinds}
use Rattle.clap.specs.Takes.{is_given, value_passes}
use Rattle.clap.specs.Walk.{Names, Row, Rule, Text}
use Rattle.clap.specs.Walk.{action_of, arg_by_id, default_rows, has_row, is_empty, more_values, nothing_held, one_of, reading_by, row_text, rows_after, settled, walk, walk_from, with_default, with_values}
use Rattle.clap.specs.Faults.{check_fault, default_fault, defaults_fault, level_fault, settle_fault, values_fault, walk_fault}
use Rattle.clap.specs.Simple.{Shape}
use Rattle.clap.specs.declared.builder.value_parser.Reading.{Reading}
use Rattle.clap.specs.declared.parser.matches.ValueSource.{ValueSource}
use Rattle.clap.specs.declared.parser.matches.ValueSource.TheVariants.{DefaultValue}
use Rattle.command_line.proofs.RowFacts.{RowsHave, RowsHave-with_values, RuleGives, RulesGive, ValueFact, sets_value, cons_nil, first_passes, or_nil}
use Rattle.command_line.proofs.LevelWalk.{RowsHave-settled, RowsHave-walk}

-- ---- the rows have the fact

RowsHave-with_default : (Q : ValueFact) (rows : List Row) (a : Rule) → RuleGives Q a → default_fault rows a ≡ [] → RowsHave Q rows → RowsHave Q (with_default rows a)
RowsHave-with_default Q rows a ok e k = go (has_row a.id rows) a.defaults e
  where
    go : (b : Bool) (ds : List Text) → cond (b || is_empty ds) [] (or_else (request_kinds (action_of a)) (values_fault a ds)) ≡ []
        → RowsHave Q (cond b rows (default_rows a.id (reading_by a) ds rows))
    go true ds e = k
    go false [] e = k
    go false (d ∷ ds) e =
        let full : is_empty (d ∷ ds) ≡ false = ne_eqb _ _ (λ z. omega arith) in
        RowsHave-with_values Q a.id (reading_by a) DefaultValue d ds rows
        (ok.gives d (first_passes a d ds (or_nil (request_kinds (action_of a)) (values_fault a (d ∷ ds)) (rw full at e)).1)) k

RowsHave-defaults : (Q : ValueFact) (c : List Rule) (rows : List Row) → RulesGive Q c → defaults_fault rows c ≡ [] → RowsHave Q rows → RowsHave Q (fold with_default rows c)
unfolding defaults_fault
RowsHave-defaults Q [] rows ok e k = k
RowsHave-defaults Q (a ∷ c) rows ok e k =
    let both = or_nil (default_fault rows a) (defaults_fault (with_default rows a) c) e in
    RowsHave-defaults Q c (with_default rows a) ok.1 both.1 (RowsHave-with_default Q rows a ok.0 both.0 k)

-- each row of a level on which no fault comes
RowsHave-rows_after : (Q : ValueFact) (s : Shape) (names : Names) (words : List Text) (has : Bool) (below : Kinds) → RulesGive Q s.rules
    → level_fault s names nothing_held words has below ≡ [] → RowsHave Q (rows_after s.rules names words)
RowsHave-rows_after Q s names words has below ok e =
    let end = (walk s.rules names nothing_held words).held in
    let one = or_nil (walk_fault s names (walk_from nothing_held) words) _ e in
    let two = or_nil below _ one.1 in
    let three = or_nil (settle_fault s.rules s.args_override_self end) _ two.1 in
    let four = or_nil (defaults_fault (settled s.rules end).rows s.rules) _ three.1 in
    RowsHave-defaults Q s.rules (settled s.rules end).rows ok four.0
    (RowsHave-settled Q s.rules s.args_override_self end ok three.0 (RowsHave-walk Q s names (walk_from nothing_held) words ok one.0 tt))

-- the last check of such a level
checked : (s : Shape) (names : Names) (words : List Text) (has : Bool) (below : Kinds) → level_fault s names nothing_held words has below ≡ []
    → check_fault s (rows_after s.rules names words) has ≡ []
checked s names words has below e =
    let end = (walk s.rules names nothing_held words).held in
    let one = or_nil (walk_fault s names (walk_from nothing_held) words) _ e in
    let two = or_nil below _ one.1 in
    let three = or_nil (settle_fault s.rules s.args_override_self end) _ two.1 in
    (or_nil (defaults_fault (settled s.rules end).rows s.rules) _ three.1).1

-- ---- an argument with a default has a row

same_id : (x : Text) → bytes_eq x x ≡ true
same_id x = (bytes_eq-Decides x x).1 refl

or_keep : (a b c : Bool) → (b ≡ true → c ≡ true) → (a || b) ≡ true → (a || c) ≡ true
or_keep true b c f e = refl
or_keep false b c f e = f e

has_row-with_values_same : (id : Text) (how : Reading) (s : ValueSource) (values : List Text) (rows : List Row) → has_row id (with_values id how s values rows) ≡ true
has_row-with_values_same id how s values [] = rw same_id refl
has_row-with_values_same id how s values (r ∷ rs) = go (bytes_eq r.id id) refl (has_row-with_values_same id how s values rs)
  where
    go : (b : Bool) → bytes_eq r.id id ≡ b → has_row id (with_values id how s values rs) ≡ true
        → has_row id (cond b (more_values s values r ++ rs) (r ∷ with_values id how s values rs)) ≡ true
    go true is rec = rw is refl
    go false is rec = or_right (bytes_eq r.id id) _ rec

has_row-with_values : (x id : Text) (how : Reading) (s : ValueSource) (values : List Text) (rows : List Row) → has_row x rows ≡ true
    → has_row x (with_values id how s values rows) ≡ true
has_row-with_values x id how s values [] e = absurd (true≢false (sym e))
has_row-with_values x id how s values (r ∷ rs) e = go (bytes_eq r.id id) (has_row-with_values x id how s values rs)
  where
    go : (b : Bool) → (has_row x rs ≡ true → has_row x (with_values id how s values rs) ≡ true)
        → has_row x (cond b (more_values s values r ++ rs) (r ∷ with_values id how s values rs)) ≡ true
    go true rec = e
    go false rec = or_keep (bytes_eq r.id x) _ _ rec e

has_row-with_default : (x : Text) (rows : List Row) (a : Rule) → has_row x rows ≡ true → has_row x (with_default rows a) ≡ true
has_row-with_default x rows a e = go (has_row a.id rows) a.defaults
  where
    go : (b : Bool) (ds : List Text) → has_row x (cond b rows (default_rows a.id (reading_by a) ds rows)) ≡ true
    go true ds = e
    go false [] = e
    go false (d ∷ ds) = has_row-with_values x a.id (reading_by a) DefaultValue (d ∷ ds) rows e

has_row-defaults : (x : Text) (c : List Rule) (rows : List Row) → has_row x rows ≡ true → has_row x (fold with_default rows c) ≡ true
has_row-defaults x [] rows e = e
has_row-defaults x (a ∷ c) rows e = has_row-defaults x c (with_default rows a) (has_row-with_default x rows a e)

-- an option of this id has a default
abbrev pub has_default : Text → List Rule → Bool
has_default x c = list_any (λ a. bytes_eq a.id x && not (is_empty a.defaults)) c

has_row-with_default_same : (x : Text) (rows : List Row) (a : Rule) → (bytes_eq a.id x && not (is_empty a.defaults)) ≡ true → has_row x (with_default rows a) ≡ true
has_row-with_default_same x rows a e =
    let both = and_parts (bytes_eq a.id x) _ e in
    let same : a.id ≡ x = (bytes_eq-Decides a.id x).0 both.0 in
    let P : Text → Type 0 = λ y. has_row y (with_default rows a) ≡ true in
    subst P same (go (has_row a.id rows) refl a.defaults both.1)
  where
    go : (b : Bool) → has_row a.id rows ≡ b → (ds : List Text) → not (is_empty ds) ≡ true
        → has_row a.id (cond b rows (default_rows a.id (reading_by a) ds rows)) ≡ true
    go true is ds some = is
    go false is [] some = absurd (true≢false (sym some))
    go false is (d ∷ ds) some = has_row-with_values_same a.id (reading_by a) DefaultValue (d ∷ ds) rows

has_row-has_default : (x : Text) (c : List Rule) (rows : List Row) → has_default x c ≡ true → has_row x (fold with_default rows c) ≡ true
has_row-has_default x [] rows e = absurd (true≢false (sym e))
has_row-has_default x (a ∷ c) rows e = go (bytes_eq a.id x && not (is_empty a.defaults)) refl e (λ h. has_row-has_default x c (with_default rows a) h)
  where
    go : (b : Bool) → (bytes_eq a.id x && not (is_empty a.defaults)) ≡ b → (b || has_default x c) ≡ true
        → (has_default x c ≡ true → has_row x (fold with_default (with_default rows a) c) ≡ true) → has_row x (fold with_default (with_default rows a) c) ≡ true
    go true is h rec = has_row-defaults x c (with_default rows a) (has_row-with_default_same x rows a is)
    go false is h rec = rec h

has_default_row : (s : Shape) (names : Names) (words : List Text) (x : Text) → has_default x s.rules ≡ true → has_row x (rows_after s.rules names words) ≡ true
has_default_row s names words x e = has_row-has_default x s.rules (settled s.rules (walk s.rules names nothing_held words).held).rows e

-- the text that a getter reads of a row that is there
pub one_read : (Q : ValueFact) (x : Text) (rows : List Row) → RowsHave Q rows → has_row x rows ≡ true
    → (t : Text) × (how : Reading) × (one_of x rows ≡ Some (read_as how t)) × Q x t how
one_read Q x [] ok e = absurd (true≢false (sym e))
one_read Q x (r ∷ rs) ok e = go (bytes_eq r.id x) refl e (λ h. one_read Q x rs ok.1 h)
  where
    go : (b : Bool) → bytes_eq r.id x ≡ b → (b || has_row x rs) ≡ true
        → (has_row x rs ≡ true → (t : Text) × (how : Reading) × (one_of x rs ≡ Some (read_as how t)) × Q x t how)
        → (t : Text) × (how : Reading) × (option_and_then row_text (cond b (Some r) (find (λ r. bytes_eq r.id x) rs)) ≡ Some (read_as how t)) × Q x t how
    go true is h rec =
        let same : r.id ≡ x = (bytes_eq-Decides r.id x).0 is in
        let row = ok.0 in
        (row.0, r.reading, ap (λ (l : List Text). option_map (read_as r.reading) (slice_get l 0)) row.2, subst (λ (y : Text). Q y row.0 r.reading) same row.3)
    go false is h rec = rec h

-- ---- a required argument has a row

has_row-is_given : (x : Text) (rows : List Row) → is_given x rows ≡ true → has_row x rows ≡ true
has_row-is_given x [] e = e
has_row-is_given x (r ∷ rs) e = go (bytes_eq r.id x) e (λ h. has_row-is_given x rs h)
  where
    go : (b : Bool) → option_map_or (λ r. explicit_source r.source) (cond b (Some r) (find (λ r. bytes_eq r.id x) rs)) false ≡ true
        → (is_given x rs ≡ true → has_row x rs ≡ true) → (b || has_row x rs) ≡ true
    go true e rec = refl
    go false e rec = rec e

-- an argument of this id is required
abbrev pub is_required : Text → List Rule → Bool
is_required x c = list_any (λ a. bytes_eq a.id x && a.required) c

has_row-is_required : (x : Text) (rows : List Row) (c : List Rule) → list_any (λ a. a.required && not (is_given a.id rows)) c ≡ false → is_required x c ≡ true
    → has_row x rows ≡ true
has_row-is_required x rows [] e r = absurd (true≢false (sym r))
has_row-is_required x rows (a ∷ c) e r = go (bytes_eq a.id x) refl a.required (is_given a.id rows) refl e r (λ f s. has_row-is_required x rows c f s)
  where
    go : (same : Bool) → bytes_eq a.id x ≡ same → (req given : Bool) → is_given a.id rows ≡ given
        → ((req && not given) || list_any (λ a. a.required && not (is_given a.id rows)) c) ≡ false → ((same && req) || is_required x c) ≡ true
        → (list_any (λ a. a.required && not (is_given a.id rows)) c ≡ false → is_required x c ≡ true → has_row x rows ≡ true) → has_row x rows ≡ true
    go true is true true given e r rec = subst (λ (y : Text). has_row y rows ≡ true) ((bytes_eq-Decides a.id x).0 is) (has_row-is_given a.id rows given)
    go true is true false given e r rec = absurd (true≢false e)
    go true is false given' given e r rec = rec e r
    go false is true true given e r rec = rec e r
    go false is true false given e r rec = absurd (true≢false e)
    go false is false given' given e r rec = rec e r

and_false : (b : Bool) → not (b && false) ≡ true
and_false true = refl
and_false false = refl

-- the last check finds no argument wanting
check_passed : (help wanted missing : Bool) → check_kinds help wanted missing ≡ [] → missing ≡ false
check_passed true wanted missing e = absurd (cons_nil _ [] e)
check_passed false true missing e = absurd (cons_nil _ [] e)
check_passed false false true e = absurd (cons_nil _ [] e)
check_passed false false false e = refl

-- no required argument is left out at a level that enters no subcommand
none_missing : (s : Shape) (rows : List Row) → check_fault s rows false ≡ [] → list_any (λ a. a.required && not (is_given a.id rows)) s.rules ≡ false
none_missing s rows e =
    let is : (not (s.subcommand_negates_reqs && false) && list_any (λ a. a.required && not (is_given a.id rows)) s.rules) ≡ false = check_passed _ _ _ e in
    rw (and_false s.subcommand_negates_reqs) at is

-- ---- the value of an argument

-- each use of the argument gives it a value
abbrev pub gives_value : Rule → Bool
gives_value a = sets_value (action_of a) && (nat_lt 0 (unwrap_or_range a.range).start_inclusive || not (is_empty a.missing))

abbrev pub has_distinct_ids : List Rule → Bool
has_distinct_ids [] = true
has_distinct_ids (a ∷ rest) = not (list_any (λ b. bytes_eq a.id b.id) rest) && has_distinct_ids rest

-- each argument gets values by its uses, and is found by its id
abbrev pub is_readable : List Rule → Bool
is_readable rules = list_all gives_value rules && has_distinct_ids rules

-- the argument has a value after each parse
abbrev pub is_certain : Rule → Bool
is_certain a = not (is_empty a.defaults) || a.required

-- what a getter reads of the argument: a text that its parser took
pub record ReadsValue (a : Rule) (rows : List Row) : Type 0 where
  pub text : Text
  pub passes : value_passes a text ≡ true
  pub reads : one_of a.id rows ≡ Some (read_as (reading_by a) text)

-- the argument takes the text, which is read as the argument says
abbrev IsTakenBy : Option Rule → Text → Reading → Type 0
IsTakenBy None t how = ⊥
IsTakenBy (Some a) t how = (value_passes a t ≡ true) × (how ≡ reading_by a)

abbrev TakenAmong : List Rule → ValueFact
TakenAmong rules id t how = IsTakenBy (arg_by_id rules id) t how

-- each of the later arguments is found by its id among all
abbrev AreFound : List Rule → List Rule → Type 0
AreFound all [] = Unit {0}
AreFound all (a ∷ rest) = (arg_by_id all a.id ≡ Some a) × AreFound all rest

found_under : (a : Rule) (all rest : List Rule) → list_any (λ b. bytes_eq a.id b.id) rest ≡ false → AreFound all rest → AreFound (a ∷ all) rest
found_under a all [] e h = tt
found_under a all (b ∷ rest) e h =
    let both = or_parts (bytes_eq a.id b.id) _ e in
    (rw both.0 h.0, found_under a all rest both.1 h.1)

all_found : (rules : List Rule) → has_distinct_ids rules ≡ true → AreFound rules rules
all_found [] e = tt
all_found (a ∷ rest) e =
    let both = and_parts (not (list_any (λ b. bytes_eq a.id b.id) rest)) _ e in
    (rw (same_id a.id) refl, found_under a rest rest (not-true _ both.0) (all_found rest both.1))

use_value : (b : Bool) (missing : List Text) → (b || not (is_empty missing)) ≡ true → (b ≡ true) ⊎ ((t : Text) × (rest : List Text) × (missing ≡ t ∷ rest))
use_value true missing e = inl refl
use_value false [] e = absurd (true≢false (sym e))
use_value false (t ∷ rest) e = inr (t, rest, refl)

all_give : (all rest : List Rule) → list_all gives_value rest ≡ true → AreFound all rest → RulesGive (TakenAmong all) rest
all_give all [] e h = tt
all_give all (a ∷ rest) e h =
    let both = and_parts (gives_value a) _ e in
    let first = and_parts (sets_value (action_of a)) _ both.0 in (
      record {
        sets = first.0;
        some = use_value (nat_lt 0 (unwrap_or_range a.range).start_inclusive) a.missing first.1;
        gives = λ t passes. rw h.0 (passes, refl);
      },
      all_give all rest both.1 h.1,
    )

-- a test holds of the first that another test finds
find_any : (p q : Rule → Bool) (c : List Rule) (a : Rule) → find p c ≡ Some a → q a ≡ true → list_any (λ b. p b && q b) c ≡ true
find_any p q [] a e h = cc
find_any p q (b ∷ rest) a e h = go (p b) e (λ f. find_any p q rest a f h)
  where
    go : (found : Bool) → cond found (Some b) (find p rest) ≡ Some a → (find p rest ≡ Some a → list_any (λ b. p b && q b) rest ≡ true)
        → ((found && q b) || list_any (λ b. p b && q b) rest) ≡ true
    go true e rec =
        let same : b ≡ a = cc in
        let is : q b ≡ true = rw same h in
        rw is refl
    go false e rec = rec e

certain_row : (s : Shape) (words : List Text) → level_fault s [] nothing_held words false [] ≡ [] → (a : Rule) → arg_by_id s.rules a.id ≡ Some a
    → (default required : Bool) → not (is_empty a.defaults) ≡ default → a.required ≡ required → (default || required) ≡ true
    → has_row a.id (rows_after s.rules [] words) ≡ true
certain_row s words e a found true required is_default is_required h =
    has_default_row s [] words a.id (find_any (λ b. bytes_eq b.id a.id) (λ b. not (is_empty b.defaults)) s.rules a found is_default)
certain_row s words e a found false true is_default is_required h =
    has_row-is_required a.id (rows_after s.rules [] words) s.rules (none_missing s _ (checked s [] words false [] e))
    (find_any (λ b. bytes_eq b.id a.id) (λ b. b.required) s.rules a found is_required)
certain_row s words e a found false false is_default is_required h = absurd (true≢false (sym h))

-- each argument that has a default or is required has a value, where no fault comes at the level
pub reads_value : (s : Shape) (words : List Text) → is_readable s.rules ≡ true → level_fault s [] nothing_held words false [] ≡ []
    → (a : Rule) → arg_by_id s.rules a.id ≡ Some a → is_certain a ≡ true → ReadsValue a (rows_after s.rules [] words)
reads_value s words readable e a found certain =
    let tests = and_parts (list_all gives_value s.rules) _ readable in
    let rows = RowsHave-rows_after (TakenAmong s.rules) s [] words false [] (all_give s.rules s.rules tests.0 (all_found s.rules tests.1)) e in
    let read = one_read (TakenAmong s.rules) a.id (rows_after s.rules [] words) rows (certain_row s words e a found _ _ refl refl certain) in
    let taken : (value_passes a read.0 ≡ true) × (read.1 ≡ reading_by a) = rw found at read.3 in
    record { text = read.0; passes = taken.0; reads = read.2 ∙ ap (λ (how : Reading). Some (read_as how read.0)) taken.1 }
