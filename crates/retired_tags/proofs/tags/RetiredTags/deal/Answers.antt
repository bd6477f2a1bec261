use Rattle.std.proofs.Common.{◌≡◌, ◌+◌, ◌-◌, [], sym, ◌∙◌, subst, arith}
use Rattle.std.specs.List.{All}
use Rattle.std.proofs.lemmas.List.Elements.{All-push}
use Rattle.retired_tags.specs.declared.tags.RetiredTags.{RetiredTags}
use Rattle.retired_tags.specs.Passes.{IsNewTagPass, TagPass, passes_of, share_of}
use Rattle.retired_tags.specs.Views.{new_view, steps_of, view_given, view_left}
use Rattle.retired_tags.proofs.tags.RetiredTags.deal.Goals as goal

-- what a pass is as it is handed out
new_pass : (bits : RetiredTags) (p : TagPass) → p.table_id ≡ bits.table.shared.table_id → p.me ≡ (new_view (passes_of bits) 0 1, []) → IsNewTagPass bits p
new_pass bits p table me =
    let one : share_of p ≡ 1 = λ i. (me i).0.share in record {
      own = record { own = table; passes_are = λ i. (me i).0.passes; live = omega arith; no_slots = λ i. (me i).1 };
      share_is = one;
      trail_is = λ i. (me i).0.trail;
      steps_are = λ i. steps_of (me i).0;
    }

pub loop-preserved : goal.loop-preserved
loop-preserved c = let bits = c.args.self.now in let i = c.loop.invariant in let s = c.split_pass-next.ensures in
    let less : c.args.passes - c.loop.counter - 1 ≡ c.args.passes - (c.loop.counter + 1) = omega arith in
    let fewer : c.args.passes + 1 - c.loop.counter - 1 ≡ c.args.passes + 1 - (c.loop.counter + 1) = omega arith in record {
      own = s.left.0 ∙ i.own;
      first = s.left.1 ∙ (λ k. (view_left (i.first k).0, (i.first k).1)) ∙ (λ k. (new_view (passes_of bits) (less k) (fewer k), []));
      len = omega arith;
      room = omega arith;
      each = subst (All (IsNewTagPass bits)) (sym c.push_reserved.ensures.items)
          (All-push (IsNewTagPass bits) _ _ i.each (new_pass bits c.split_pass-next.result (s.given.0 ∙ i.own) (s.given.1 ∙ (λ k. (view_given (i.first k).0, [])))));
    }

pub returns-clause-each : goal.returns-clause-each
returns-clause-each c = let bits = c.args.self.now in let i = c.loop.invariant in
    let none : c.args.passes - c.loop.counter ≡ 0 = omega arith in let one : c.args.passes + 1 - c.loop.counter ≡ 1 = omega arith in
    subst (All (IsNewTagPass bits)) (sym c.push_reserved-2.ensures.items)
    (All-push (IsNewTagPass bits) _ _ i.each (new_pass bits c.loop.first i.own (i.first ∙ (λ k. (new_view (passes_of bits) (none k) (one k), [])))))
