use Rattle.std.proofs.Common.{◌≡◌, ℕ, ◌+◌, ◌-◌, [], sym, ◌∙◌, subst, arith}
use Rattle.std.specs.List.{All}
use Rattle.std.proofs.lemmas.List.Elements.{All-push}
use Rattle.slot_words.specs.Owned.{IsNewPassOf}
use Rattle.slot_words.specs.Views.{new_view, view_given, view_left}
use Rattle.slot_words.proofs.NewPasses.{new_pass}
use Rattle.slot_words.proofs.words.Words.deal.Goals as goal

pub loop-preserved : goal.loop-preserved
loop-preserved g c = let w = c.args.self.now in let i = c.loop.invariant in let s = c.split_pass-next.ensures in let put = c.push_reserved.ensures in
    let less : c.args.passes - c.loop.counter - 1 ≡ c.args.passes - (c.loop.counter + 1) = omega arith in
    let fewer : c.args.passes + 1 - c.loop.counter - 1 ≡ c.args.passes + 1 - (c.loop.counter + 1) = omega arith in record {
      own = s.left.0 ∙ i.own;
      first = s.left.1 ∙ (λ k. (view_left (i.first k).0, (i.first k).1)) ∙ (λ k. (new_view w.table.shared.key 0 (less k) (fewer k), []));
      len = omega arith;
      room = omega arith;
      each = subst (All (IsNewPassOf w)) (sym put.items) (All-push (IsNewPassOf w) _ _ i.each (new_pass w c.split_pass-next.result _ (s.given.0 ∙ i.own) (s.given.1 ∙ (λ k. (view_given (i.first k).0, [])))));
    }

pub returns-clause-each : goal.returns-clause-each
returns-clause-each g c = let w = c.args.self.now in let i = c.loop.invariant in
    let none : c.args.passes - c.loop.counter ≡ 0 = omega arith in let one : c.args.passes + 1 - c.loop.counter ≡ 1 = omega arith in
    subst (All (IsNewPassOf w)) (sym c.push_reserved-2.ensures.items)
    (All-push (IsNewPassOf w) _ _ i.each (new_pass w c.loop.first 0 i.own (i.first ∙ (λ k. (new_view w.table.shared.key 0 (none k) (one k), [])))))
