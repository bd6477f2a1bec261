use Rattle.std.proofs.Common.{◌≡◌, ◌+◌, ◌∷◌, [], ◌++◌, ◌∙◌, Some, length, sym, ap, arith, append_assoc, length-append, rules}
use Rattle.std.specs.Prelude.{slice_get}
use Rattle.std.specs.Vec.Iter.{into_iter_items}
use Rattle.std.proofs.lemmas.List.{nil_from_length}
use Rattle.run_books.proofs.BoardLemmas.{collected_begin, collected_end, collected_next, got_behind, is_open, is_there}
use Rattle.run_books.proofs.call_lines.collect_all.Goals as goal

pub loop-one-init : goal.loop-one-init
loop-one-init c =
    let gives = c.into_iter-one-iterator.ensures.into_iter_gives in record {
      in_turn = gives.0;
      len = search rules;
      collected = rw gives.0 (collected_begin _ _ _ c.requires.worked);
    }

pub collect_worked-requires-clause-open : goal.collect_worked-requires-clause-open
collect_worked-requires-clause-open c = is_open _ _ _ _ _ _ _ c.in-Some.ensures.steps.0 c.loop-one.invariant.collected

pub collect_worked-requires-clause-there : goal.collect_worked-requires-clause-there
collect_worked-requires-clause-there c = let few = c.requires.many in let own = is_there _ _ _ _ _ _ _ c.in-Some.ensures.steps.0 c.loop-one.invariant.collected in (own.0, omega arith)

pub loop-one-preserved : goal.loop-one-preserved
loop-one-preserved c =
    let at = c.loop-one in
    let one = c.in-Some.one in
    let steps : into_iter_items at.one-iterator ≡ one ∷ into_iter_items c.next.new.self = c.in-Some.ensures.steps.0 in
    let in_turn : at.yielded ++ one ∷ into_iter_items c.next.new.self ≡ c.args.worked.items = rw (← steps) at.invariant.in_turn in
    let this : length at.yielded + length (into_iter_items at.one-iterator) ≡ length c.args.worked.items = sym (length-append at.yielded (into_iter_items at.one-iterator)) ∙ ap length at.invariant.in_turn in
    let there : slice_get c.args.worked.items (length at.yielded) ≡ Some one = rw (← in_turn) (got_behind at.yielded _ one) in record {
      in_turn = append_assoc at.yielded (one ∷ []) _ ∙ in_turn;
      len = let was = at.invariant.len in let gone = c.in-Some.ensures.steps.1 in let short = ap length steps in omega arith;
      collected = collected_next _ _ _ _ _ _ _ steps at.invariant.collected _ _ this there c.collect_worked.ensures;
    }

pub returns : goal.returns
returns c =
    let none = c.in-None.ensures.steps in
    collected_end _ _ _ _ _ (nil_from_length _ (sym c.loop-one.invariant.len ∙ none.0)) c.loop-one.invariant.collected
