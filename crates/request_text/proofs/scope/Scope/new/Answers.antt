use Rattle.std.proofs.Common.{ℕ, List, Vec, ap, subst, sym, ◌∙◌}
use Rattle.std.specs.Global.{Global}
use Rattle.std.specs.Ordering.{nat_cmp}
use Rattle.std.specs.BTreeMap.{is_at}
use Rattle.std.specs.Cmp.Lexicographic.{slice_cmp}
use Rattle.std.specs.Map.{lookup}
use Rattle.request_words.specs.Words.{place_of}
use Rattle.request_text.specs.Reading.{IsOwnPlace}
use Rattle.request_text.proofs.scope.Scope.new.Goals as goal

pub invariant_of-result : goal.invariant_of-result
unfolding place_of
invariant_of-result c = record {
  by_name = λ name.
      ap (λ (es : List (Vec ℕ Global × ℕ)). lookup (is_at (λ key. slice_cmp nat_cmp name key.items)) es) c.new-2.ensures.empty
      ∙ ap (λ (names : List (List ℕ)). place_of names name) (sym c.new.ensures.items);
  at_once = subst (λ (names : List (List ℕ)). IsOwnPlace names 0) (sym c.new.ensures.items) tt;
}
