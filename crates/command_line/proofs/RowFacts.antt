-- A fact of the values that a parse keeps, through one use of an argument.
use Rattle.std.proofs.Common.{◌≡◌, ℕ, Bool, true, false, cond, refl, sym, ap, List, [], ◌∷◌, ◌++◌, Option, Some, None, ◌&&◌, length, true≢false, inl, inr, ◌⊎◌}
use Rattle.std.specs.Prelude.{find, nat_lt}
use Rattle.std.specs.Str.{bytes_eq}
use Rattle.clap.specs.Facts.{unwrap_or_range}
use Rattle.clap.specs.Kinds.{Kinds, or_else, range_kinds}
use Rattle.clap.specs.Takes.{value_passes}
use Rattle.clap.specs.Walk.{Row, Rule, Text}
use Rattle.clap.specs.Walk.{action_of, most_values, at_row, more_values, reading_by, used, used_as, values_or_missing, with_values, without}
use Rattle.clap.specs.Faults.{action_fault, repeat_fault, use_fault, values_fault}
use Rattle.clap.specs.declared.builder.action.ArgAction.{ArgAction}
use Rattle.clap.specs.declared.builder.action.ArgAction.TheVariants.{Set, SetTrue}
use Rattle.clap.specs.declared.builder.value_parser.Reading.{Reading}
use Rattle.clap.specs.declared.error.kind.ErrorKind.{ErrorKind}
use Rattle.clap.specs.declared.parser.matches.ValueSource.{ValueSource}
use Rattle.clap.specs.declared.parser.matches.ValueSource.TheVariants.{CommandLine}

-- a fact of an argument's id, a text that is its value, and how that text is read
abbrev pub ValueFact : Type 1
ValueFact = Text → Text → Reading → Type 0

-- the row has a first value, of which the fact Q holds
abbrev pub RowHas : ValueFact → Row → Type 0
RowHas Q r = (t : Text) × (rest : List Text) × (r.values ≡ t ∷ rest) × Q r.id t r.reading

abbrev pub RowsHave : ValueFact → List Row → Type 0
RowsHave Q [] = Unit {0}
RowsHave Q (r ∷ rs) = RowHas Q r × RowsHave Q rs

-- a use of an argument with this action sets its value
abbrev pub sets_value : ArgAction → Bool
sets_value Set = true
sets_value SetTrue = true
sets_value _ = false

-- a use has a value, its own or one that stands for none
abbrev pub HasUseValue : Rule → Type 0
HasUseValue a = (nat_lt 0 (unwrap_or_range a.range).start_inclusive ≡ true) ⊎ ((t : Text) × (rest : List Text) × (a.missing ≡ t ∷ rest))

-- an option with a value, a flag or a positional: each use sets its value, and Q holds of each text that it takes
pub record RuleGives (Q : ValueFact) (a : Rule) : Type 0 where
  pub sets : sets_value (action_of a) ≡ true
  pub some : HasUseValue a
  pub gives : (t : Text) → value_passes a t ≡ true → Q a.id t (reading_by a)

abbrev pub RulesGive : ValueFact → List Rule → Type 0
RulesGive Q [] = Unit {0}
RulesGive Q (a ∷ rest) = RuleGives Q a × RulesGive Q rest

abbrev pub FoundGives : ValueFact → Option Rule → Type 0
FoundGives Q None = Unit {0}
FoundGives Q (Some a) = RuleGives Q a

pub FoundGives-find : (Q : ValueFact) (p : Rule → Bool) (c : List Rule) → RulesGive Q c → FoundGives Q (find p c)
FoundGives-find Q p [] h = tt
FoundGives-find Q p (a ∷ rest) h = go (p a) (FoundGives-find Q p rest h.1)
  where
    go : (b : Bool) → FoundGives Q (find p rest) → FoundGives Q (cond b (Some a) (find p rest))
    go true r = h.0
    go false r = r

pub or_nil : (x y : Kinds) → or_else x y ≡ [] → (x ≡ []) × (y ≡ [])
or_nil [] y e = (refl, e)
or_nil (k ∷ ks) y e = (e, cc)

pub cons_nil : (k : ErrorKind) (ks : Kinds) → k ∷ ks ≡ [] → ⊥
cons_nil k ks e =
    let bad : true ≡ false = ap (λ (l : Kinds). elim l as (λ _. Bool) [ [] ↦ false | x ∷ xs ↦ true ]) e in
    cc

-- ---- rows

RowsHave-append : (Q : ValueFact) (xs ys : List Row) → RowsHave Q xs → RowsHave Q ys → RowsHave Q (xs ++ ys)
RowsHave-append Q [] ys h k = k
RowsHave-append Q (x ∷ xs) ys h k = (h.0, RowsHave-append Q xs ys h.1 k)

RowsHave-at_row : (Q : ValueFact) (id : Text) (change : Row → List Row) (missing rows : List Row) → ((r : Row) → RowHas Q r → RowsHave Q (change r)) → RowsHave Q missing
    → RowsHave Q rows → RowsHave Q (at_row id change missing rows)
RowsHave-at_row Q id change missing [] step m h = m
RowsHave-at_row Q id change missing (r ∷ rs) step m h = go (bytes_eq r.id id) (RowsHave-at_row Q id change missing rs step m h.1)
  where
    go : (b : Bool) → RowsHave Q (at_row id change missing rs) → RowsHave Q (cond b (change r ++ rs) (r ∷ at_row id change missing rs))
    go true k = RowsHave-append Q (change r) rs (step r h.0) h.1
    go false k = (h.0, k)

RowsHave-without : (Q : ValueFact) (id : Text) (rows : List Row) → RowsHave Q rows → RowsHave Q (without id rows)
RowsHave-without Q id rows h = RowsHave-at_row Q id (λ _. []) [] rows (λ r k. tt) tt h

pub RowsHave-with_values : (Q : ValueFact) (id : Text) (how : Reading) (s : ValueSource) (v : Text) (vs : List Text) (rows : List Row) → Q id v how → RowsHave Q rows
    → RowsHave Q (with_values id how s (v ∷ vs) rows)
RowsHave-with_values Q id how s v vs rows q h =
    RowsHave-at_row Q id (more_values s (v ∷ vs)) _ rows
    (λ r k. ((k.0, k.1 ++ v ∷ vs, ap (λ (l : List Text). l ++ v ∷ vs) k.2, k.3), tt))
    ((v, vs, refl, q), tt) h

-- ---- one use

test_true : (b : Bool) (k : ErrorKind) → cond b [] (k ∷ []) ≡ [] → b ≡ true
test_true true k e = refl
test_true false k e = absurd (cons_nil k [] e)

none_fault : (b : Bool) (k : ErrorKind) (rest : Kinds) → b ≡ true → cond (b && true) (k ∷ []) rest ≡ [] → ⊥
none_fault true k rest is e = cons_nil k [] e
none_fault false k rest is e = cc

pub first_passes : (a : Rule) (v : Text) (vs : List Text) → values_fault a (v ∷ vs) ≡ [] → value_passes a v ≡ true
first_passes a v vs e = test_true (value_passes a v) _ (or_nil _ _ e).0

RowsHave-used_as : (Q : ValueFact) (again : Bool) (a : Rule) (act : ArgAction) (values : List Text) (rows : List Row) → sets_value act ≡ true
    → ((t : Text) → value_passes a t ≡ true → Q a.id t (reading_by a)) → (t : Text) (rest : List Text) → values ≡ t ∷ rest
    → action_fault act again a values rows ≡ [] → RowsHave Q rows → RowsHave Q (used_as act a.id (reading_by a) values rows)
RowsHave-used_as Q again a Set values rows sets gives t rest is e h =
    let f = or_nil (repeat_fault again a.id rows) (values_fault a values) e in
    rw is (RowsHave-with_values Q a.id (reading_by a) CommandLine t rest (without a.id rows) (gives t (first_passes a t rest (rw is at f.1))) (RowsHave-without Q a.id rows h))
RowsHave-used_as Q again a SetTrue values rows sets gives t rest is e h =
    let f = or_nil (repeat_fault again a.id rows) (values_fault a values) e in
    rw is (RowsHave-with_values Q a.id (reading_by a) CommandLine t rest (without a.id rows) (gives t (first_passes a t rest (rw is at f.1))) (RowsHave-without Q a.id rows h))
RowsHave-used_as Q again a _ values rows sets gives t rest is e h = absurd (true≢false (sym sets))

first_value_of : (a : Rule) (values : List Text) (least most : ℕ) → HasUseValue a → range_kinds (unwrap_or_range a.range).start_inclusive most (length values) ≡ []
    → (t : Text) × (rest : List Text) × (values_or_missing a values ≡ t ∷ rest)
first_value_of a [] least most (inl some) e = absurd (none_fault _ _ _ some e)
first_value_of a [] least most (inr missing) e = missing
first_value_of a (v ∷ vs) least most some e = (v, vs, refl)

pub RowsHave-used : (Q : ValueFact) (again : Bool) (a : Rule) (values : List Text) (rows : List Row) → RuleGives Q a → use_fault again a values rows ≡ []
    → RowsHave Q rows → RowsHave Q (used a values rows)
RowsHave-used Q again a values rows ok e h =
    let both = or_nil (range_kinds (unwrap_or_range a.range).start_inclusive (most_values a) (length values)) _ e in
    let first = first_value_of a values 0 (most_values a) ok.some both.0 in
    RowsHave-used_as Q again a (action_of a) (values_or_missing a values) rows ok.sets ok.gives first.0 first.1 first.2 both.1 h
