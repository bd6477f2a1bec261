use Rattle.std.proofs.Common.{ℕ, ◌+◌, ◌≤◌, List, [], ◌∷◌, refl, arith}
use Rattle.std.specs.Prelude.{◌==◌}
use Rattle.std.proofs.lemmas.Bool.Decides.{nat_tests}
use Rattle.std.proofs.lemmas.List.Elements.{All-nil, All-cons}
use Rattle.std.proofs.lemmas.List.Sums.{sum_by-cons}
use Rattle.pool_core.specs.declared.events.Event.{Event}
use Rattle.pool_core.specs.declared.events.Event.TheVariants as event
use Rattle.pool_core.specs.StateWords.{bit, cold_target}
use Rattle.pool_core.specs.PoolCore.{opening_core}
use Rattle.slot_words.specs.declared.views.SeatTrail.{SeatTrail}
use Rattle.slot_words.specs.declared.views.Operation.TheVariants as operation
use Rattle.slot_words.specs.History.{is_of, IsTrail}
use Rattle.slot_words.proofs.laws.worked_histories.Goals as goal

one_of : (a s : ℕ) → bit (a == s) ≤ 1
one_of a s = grind (arith, nat_tests)

two_of : (s : ℕ) → bit (0 == s) + bit (1 == s) ≤ 1
two_of s = grind (arith, nat_tests)

abbrev dropped : List Event
dropped = event.Split 0 1 ∷ event.Claim 1 0 ∷ event.Claim 0 0 ∷ []

abbrev joined : List Event
joined = event.Split 0 1 ∷ event.Claim 1 0 ∷ event.Release 1 0 cold_target ∷ event.Join 0 1 ∷ event.Load 0 0 ∷ []

pub returns : goal.returns
returns c = record {
  allowed = (refl, (refl, (refl, (refl, (refl, (refl, (refl, (refl, (refl, (refl, (refl, (refl, (refl, (refl, (refl, tt)))))))))))))));
  own = refl;
  other = refl;
  dropped = let t : SeatTrail = record { seat = 0; trail = operation.Claim 0 1 ∷ [] } in let Is : SeatTrail → Type 0 = IsTrail (opening_core 1 0 2) dropped in record {
    events = dropped;
    allowed = (refl, (refl, (refl, (refl, tt))));
    each = All-cons Is t [] refl (All-nil Is);
    apart = λ s. let a = sum_by-cons (λ (u : SeatTrail). bit (is_of s u)) t [] in let b = one_of 0 s in omega arith;
    stands = refl;
    counted = refl;
  };
  joined =
      let t : SeatTrail = record { seat = 0; trail = operation.Load 0 0 ∷ [] } in let v : SeatTrail = record { seat = 1; trail = operation.Claim 0 0 ∷ operation.Release 0 0 ∷ [] } in
      let Is : SeatTrail → Type 0 = IsTrail (opening_core 1 0 2) joined in record {
        events = joined;
        allowed = (refl, (refl, (refl, (refl, (refl, (refl, tt))))));
        each = All-cons Is t (v ∷ []) refl (All-cons Is v [] refl (All-nil Is));
        apart = λ s. let a = sum_by-cons (λ (u : SeatTrail). bit (is_of s u)) t (v ∷ []) in let b = sum_by-cons (λ (u : SeatTrail). bit (is_of s u)) v [] in let d = two_of s in omega arith;
        stands = refl;
        counted = refl;
      };
}
