-- A fact of the values that a parse keeps, through the walk over the words of one level.
use Rattle.std.proofs.Common.{◌≡◌, ℕ, Bool, true, false, zero, suc, cond, List, [], ◌∷◌, Option, Some, None, ◌&&◌, drop, length}
use Rattle.std.specs.Prelude.{fold, encode_utf8, slice_get, is_some}
use Rattle.std.specs.Option.{option_map_or}
use Rattle.std.specs.Str.{bytes_eq, chars}
use Rattle.clap.specs.Lexer.{long_of, short_of}
use Rattle.clap.specs.Kinds.{or_else}
use Rattle.clap.specs.Walk.{Held, Names, Outcome, Rule, Step, Text, Waiting, Walk, done, waits, plain, refused, idle, option, positional, next, trailing, subcommand, value}
use Rattle.clap.specs.Walk.{after_flag, after_step, arg_by_id, arg_by_index, arg_by_long, arg_by_short, attached_value, bundle_met, bundle_step, flag_met, is_pending, long_met, long_or_other, option_met, option_word, plain_word, reacted, settled, settled_rows, short_met, short_or_plain, subcommand_met, subcommand_or_other, takes_several, takes_values, to_positional, used_by_id, walked, walked_from, word_met}
use Rattle.clap.specs.Faults.{bundle_fault, bundle_step_fault, flag_word_fault, flags_fault, long_fault, option_fault, other_fault, positional_fault, react_fault, settle_fault, short_fault, step_fault, stray_fault, turn_fault, use_fault, walk_fault, word_fault}
use Rattle.clap.specs.Simple.{Shape}
use Rattle.clap.specs.declared.error.kind.ErrorKind.{ErrorKind}
use Rattle.command_line.proofs.RowFacts.{FoundGives, FoundGives-find, RowsHave, RowsHave-used, RuleGives, RulesGive, ValueFact, or_nil}

pub RowsHave-settled : (Q : ValueFact) (c : List Rule) (again : Bool) (h : Held) → RulesGive Q c → settle_fault c again h ≡ [] → RowsHave Q h.rows → RowsHave Q (settled c h).rows
RowsHave-settled Q c again h ok e k = go h.pending e
  where
    by : (o : Option Rule) (p : Text × List Text) → FoundGives Q o → option_map_or (λ a. use_fault again a p.1 h.rows) o [] ≡ [] → RowsHave Q (used_by_id o p.1 h.rows)
    by None p f e = k
    by (Some a) p f e = RowsHave-used Q again a p.1 h.rows f e k

    go : (o : Option (Text × List Text)) → option_map_or (λ p. option_map_or (λ a. use_fault again a p.1 h.rows) (arg_by_id c p.0) []) o [] ≡ []
        → RowsHave Q (settled_rows c o h.rows)
    go None e = k
    go (Some p) e = by (arg_by_id c p.0) p (FoundGives-find Q _ c ok) e

RowsHave-reacted : (Q : ValueFact) (c : List Rule) (again : Bool) (a : Rule) (values : List Text) (h : Held) → RulesGive Q c → RuleGives Q a
    → react_fault c again a values h ≡ [] → RowsHave Q h.rows → RowsHave Q (reacted c a values h).rows
RowsHave-reacted Q c again a values h ok one e k =
    RowsHave-used Q again a values (settled c h).rows one (or_nil _ _ e).1 (RowsHave-settled Q c again h ok (or_nil _ _ e).0 k)

RowsHave-option_met : (Q : ValueFact) (c : List Rule) (again : Bool) (a : Rule) (v : Option Text) (h : Held) → RulesGive Q c → RuleGives Q a
    → option_fault c again a v h ≡ [] → RowsHave Q h.rows → RowsHave Q (option_met c a v h).0.rows
RowsHave-option_met Q c again a (Some v) h ok one e k = RowsHave-reacted Q c again a (v ∷ []) h ok one e k
RowsHave-option_met Q c again a None h ok one e k = RowsHave-settled Q c again h ok e k

RowsHave-long_met : (Q : ValueFact) (c : List Rule) (again : Bool) (o : Option Rule) (v : Option Text) (h : Held) → RulesGive Q c → FoundGives Q o
    → long_fault c again o v h ≡ [] → RowsHave Q h.rows → RowsHave Q (long_met c o v h).0.rows
RowsHave-long_met Q c again None v h ok one e k = k
RowsHave-long_met Q c again (Some a) v h ok one e k = go (takes_values a) v e
  where
    go : (b : Bool) (w : Option Text) → cond b (option_fault c again a w h) (cond (is_some w) (Rattle.clap.specs.declared.error.kind.ErrorKind.TheVariants.TooManyValues ∷ []) (react_fault c again a [] h)) ≡ []
        → RowsHave Q (cond b (option_met c a w h) (flag_met c a w h)).0.rows
    go true w e = RowsHave-option_met Q c again a w h ok one e k
    go false None e = RowsHave-reacted Q c again a [] h ok one e k
    go false (Some w) e = k

RowsHave-bundle_met : (Q : ValueFact) (c : List Rule) (again : Bool) (n : ℕ) (flags : Text) (skip : ℕ) (so_far : Outcome) (h : Held) → RulesGive Q c
    → flags_fault c again n flags skip h ≡ [] → RowsHave Q h.rows → RowsHave Q (bundle_met c n flags skip so_far h).0.rows
unfolding flags_fault bundle_met
RowsHave-bundle_met Q c again zero flags skip so_far h ok e k = k
RowsHave-bundle_met Q c again (suc n) flags skip so_far h ok e k =
    step (slice_get (chars flags) 0) skip e (λ f s o g x y. RowsHave-bundle_met Q c again n f s o g ok x y)
  where
    short : (o : Option Rule) (rest : Text) → FoundGives Q o
        → short_fault c again o rest h (flags_fault c again n rest 0) ≡ []
        → ((f : Text) (s : ℕ) (so : Outcome) (g : Held) → flags_fault c again n f s g ≡ [] → RowsHave Q g.rows → RowsHave Q (bundle_met c n f s so g).0.rows)
        → RowsHave Q (short_met c o rest h (bundle_met c n rest 0 done)).0.rows
    short None rest f e rec = k
    short (Some a) rest f e rec = go (takes_values a) e
      where
        go : (b : Bool) → cond b (option_fault c again a (attached_value rest) h) (or_else (react_fault c again a [] h) (flags_fault c again n rest 0 (reacted c a [] h))) ≡ []
            → RowsHave Q (cond b (option_met c a (attached_value rest) h) (bundle_met c n rest 0 done (reacted c a [] h))).0.rows
        go true e = RowsHave-option_met Q c again a (attached_value rest) h ok f e k
        go false e = rec rest 0 done (reacted c a [] h) (or_nil _ _ e).1 (RowsHave-reacted Q c again a [] h ok f (or_nil _ _ e).0 k)

    step : (x : Option ℕ) (s : ℕ) → bundle_step_fault c again x flags s h (flags_fault c again n) ≡ []
        → ((f : Text) (s : ℕ) (so : Outcome) (g : Held) → flags_fault c again n f s g ≡ [] → RowsHave Q g.rows → RowsHave Q (bundle_met c n f s so g).0.rows)
        → RowsHave Q (bundle_step c x flags s so_far h (bundle_met c n)).0.rows
    step None s e rec = k
    step (Some x) zero e rec = short (arg_by_short c x) (drop (length (encode_utf8 x)) flags) (FoundGives-find Q _ c ok) e rec
    step (Some x) (suc s) e rec = rec (drop (length (encode_utf8 x)) flags) s so_far h e k

-- a word that is no flag changes no row
RowsHave-plain_word : (Q : ValueFact) (c : List Rule) (w : Waiting) (word : Text) (h : Held) → RowsHave Q h.rows → RowsHave Q (plain_word c w word h).0.rows
RowsHave-plain_word Q c (option id) word h k = go (arg_by_id c id)
  where
    go : (o : Option Rule) → RowsHave Q (option_word o id word h).0.rows
    go None = k
    go (Some a) = k
RowsHave-plain_word Q c idle word h k = k
RowsHave-plain_word Q c positional word h k = k

RowsHave-after_flag : (Q : ValueFact) (c : List Rule) (w : Waiting) (word : Text) (h : Held) (o : Outcome) → RowsHave Q h.rows → RowsHave Q (after_flag c w word h o).0.rows
RowsHave-after_flag Q c w word h done k = k
RowsHave-after_flag Q c w word h (waits id) k = k
RowsHave-after_flag Q c w word h plain k = RowsHave-plain_word Q c w word h k
RowsHave-after_flag Q c w word h refused k = RowsHave-plain_word Q c w word h k

RowsHave-long_or_other : (Q : ValueFact) (c : List Rule) (again : Bool) (w : Waiting) (word : Text) (o : Option (Text × Option Text)) (h : Held) → RulesGive Q c
    → flag_word_fault c again o word h ≡ [] → RowsHave Q h.rows → RowsHave Q (long_or_other c w word o h).0.rows
RowsHave-long_or_other Q c again w word (Some p) h ok e k = RowsHave-after_flag Q c w word _ _ (RowsHave-long_met Q c again (arg_by_long c p.0) p.1 h ok (FoundGives-find Q _ c ok) e k)
RowsHave-long_or_other Q c again w word None h ok e k = go (short_of word) e
  where
    go : (o : Option Text) → option_map_or (λ flags. bundle_fault c again flags h) o [] ≡ [] → RowsHave Q (short_or_plain c w word o h).0.rows
    go None e = RowsHave-plain_word Q c w word h k
    go (Some flags) e = RowsHave-after_flag Q c w word _ _ (RowsHave-bundle_met Q c again (length flags) flags h.skip plain (record h { skip = 0 }) ok e k)

RowsHave-word_met : (Q : ValueFact) (s : Shape) (names : Names) (is_trailing : Bool) (w : Waiting) (position : ℕ) (word : Text) (h : Held) → RulesGive Q s.rules
    → word_fault s names is_trailing w word h ≡ [] → RowsHave Q h.rows → RowsHave Q (word_met s.rules names is_trailing w position word h).0.rows
RowsHave-word_met Q s names true w position word h ok e k = k
RowsHave-word_met Q s names false w position word h ok e k = go (subcommand_met names w word) e
  where
    other : (b : Bool) → cond b [] (flag_word_fault s.rules s.args_override_self (long_of word) word h) ≡ []
        → RowsHave Q (cond b (h, trailing position) (long_or_other s.rules w word (long_of word) h)).0.rows
    other true e = k
    other false e = RowsHave-long_or_other Q s.rules s.args_override_self w word (long_of word) h ok e k

    go : (o : Option Text) → other_fault s o word h ≡ [] → RowsHave Q (subcommand_or_other s.rules o w position word h).0.rows
    go None e = other (bytes_eq word (45 ∷ 45 ∷ [])) e
    go (Some name) e = k

RowsHave-after_step : (Q : ValueFact) (s : Shape) (word : Text) (w : Walk) (h : Held) (met : Step) → RulesGive Q s.rules → step_fault s w.position h met ≡ []
    → RowsHave Q h.rows → RowsHave Q (after_step s.rules word w h met).held.rows
RowsHave-after_step Q s word w h (next waiting) ok e k = k
RowsHave-after_step Q s word w h (trailing position) ok e k = k
RowsHave-after_step Q s word w h (subcommand name) ok e k = k
RowsHave-after_step Q s word w h value ok e k = go (arg_by_index s.rules w.position) e
  where
    go : (o : Option Rule) → option_map_or (λ a. positional_fault s.rules s.args_override_self a h) o (stray_fault s) ≡ []
        → RowsHave Q (to_positional s.rules o word w h).held.rows
    go None e = k
    go (Some a) e = by (is_pending a h.pending && takes_several a) e
      where
        by : (b : Bool) → cond b [] (settle_fault s.rules s.args_override_self h) ≡ [] → RowsHave Q (cond b h (settled s.rules h)).rows
        by true e = k
        by false e = RowsHave-settled Q s.rules s.args_override_self h ok e k

RowsHave-walked : (Q : ValueFact) (s : Shape) (names : Names) (w : Walk) (word : Text) → RulesGive Q s.rules → turn_fault s names w word ≡ []
    → RowsHave Q w.held.rows → RowsHave Q (walked s.rules names w word).held.rows
unfolding walked
RowsHave-walked Q s names w word ok e k = go w.stopped e
  where
    met : Held × Step
    met = word_met s.rules names w.is_trailing w.waiting w.position word w.held

    go : (o : Option (Text × List Text))
        → cond (is_some o) [] (or_else (word_fault s names w.is_trailing w.waiting word w.held) (step_fault s w.position met.0 met.1)) ≡ []
        → RowsHave Q (walked_from s.rules names o w word).held.rows
    go None e =
        let both = or_nil (word_fault s names w.is_trailing w.waiting word w.held) (step_fault s w.position met.0 met.1) e in
        RowsHave-after_step Q s word w met.0 met.1 ok both.1 (RowsHave-word_met Q s names w.is_trailing w.waiting w.position word w.held ok both.0 k)
    go (Some p) e = k

pub RowsHave-walk : (Q : ValueFact) (s : Shape) (names : Names) (w : Walk) (words : List Text) → RulesGive Q s.rules → walk_fault s names w words ≡ []
    → RowsHave Q w.held.rows → RowsHave Q (fold (walked s.rules names) w words).held.rows
unfolding walk_fault
RowsHave-walk Q s names w [] ok e k = k
RowsHave-walk Q s names w (word ∷ rest) ok e k =
    let both = or_nil (turn_fault s names w word) (walk_fault s names (walked s.rules names w word) rest) e in
    RowsHave-walk Q s names (walked s.rules names w word) rest ok both.1 (RowsHave-walked Q s names w word ok both.0 k)
