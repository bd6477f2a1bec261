-- A row of claims.
use Rattle.std.proofs.Common.{◌≡◌, ℕ, ◌+◌, ◌<◌, ◌≤◌, Bool, true, false, cond, MatchBool, Some, None, List, [], ◌∷◌, ◌++◌, length, take, refl, sym, ap, ◌∙◌, subst, arith, append_assoc, append-nil, length-append}
use Rattle.std.specs.Prelude.{slice_get, slice_index_or}
use Rattle.std.proofs.Math.Seq.{get_or-append_seam, take-append_seam}
use Rattle.std.specs.List.{range_with_len}
use Rattle.std.proofs.lemmas.List.{map-id, take_all}
use Rattle.std.proofs.lemmas.List.FromFn.{length-range_with_len, get_or-range_with_len, take-map-range_with_len}
use Rattle.std.proofs.lemmas.Option.{get_or_from_slice_get, slice_get-get_or, slice_get_within}
use mathlib.Core.Logic.{dite}
use native.Mathlib.Decide.{dec_le}
use Rattle.slot_words.specs.declared.views.Operation.{Operation}
use Rattle.slot_words.specs.declared.views.Operation.TheVariants.{Claim}
use Rattle.slot_words.specs.Parts.{Grew}
use Rattle.slot_words.specs.Rows.{IsLost}
use Rattle.slot_words.proofs.Parts.{one_part_more, one_place_more}
use Rattle.slot_pools.specs.Rows.{AreLost, IsWonAlong}

pub won_at_number : (slots n m read : ℕ) (t u v : List Operation) → n < slots → m ≡ n → Grew (AreLost (range_with_len 0 n)) t u → v ≡ u ++ Claim n read ∷ [] → Grew (IsWonAlong (range_with_len 0 slots) m read) t v
won_at_number slots n m read t u v within same lost won = record {
  done = lost.done ++ Claim m read ∷ [];
  grown = won ∙ ap (λ (k : ℕ). u ++ Claim k read ∷ []) (sym same) ∙ ap (λ os. os ++ Claim m read ∷ []) lost.grown ∙ append_assoc t lost.done (Claim m read ∷ []);
  is = record {
    place = n;
    within = let e = length-range_with_len 0 slots in omega arith;
    number_is = same ∙ sym (get_or-range_with_len 0 slots n 0 within ∙ (let z : 0 + n ≡ n = omega arith in z));
    lost = lost.done;
    are_lost = subst (λ (ns : List ℕ). AreLost ns lost.done)
        (sym (map-id (range_with_len 0 n)) ∙ sym (take-map-range_with_len (λ (i : ℕ). i) 0 slots n (omega arith)) ∙ ap (take n) (map-id (range_with_len 0 slots))) lost.is;
    done_is = refl;
  };
}

-- those before it were lost, and then this one was won
pub won_before_rest : (ns rest : List ℕ) (n m read : ℕ) (t u v : List Operation) → m ≡ n → Grew (AreLost ns) t u → v ≡ u ++ Claim n read ∷ [] → Grew (IsWonAlong (ns ++ n ∷ rest) m read) t v
won_before_rest ns rest n m read t u v same lost won = record {
  done = lost.done ++ Claim m read ∷ [];
  grown = won ∙ ap (λ (k : ℕ). u ++ Claim k read ∷ []) (sym same) ∙ ap (λ os. os ++ Claim m read ∷ []) lost.grown ∙ append_assoc t lost.done (Claim m read ∷ []);
  is = record {
    place = length ns;
    within = let e = length-append ns (n ∷ rest) in omega arith;
    number_is = same ∙ sym (get_or-append_seam ns n rest 0);
    lost = lost.done;
    are_lost = subst (λ (ms : List ℕ). AreLost ms lost.done) (sym (take-append_seam ns (n ∷ rest))) lost.is;
    done_is = refl;
  };
}

-- one number more is claimed in vain, or none
pub lost_more : (claimed : Bool) (ns : List ℕ) (n : ℕ) (t u v : List Operation) → Grew (AreLost ns) t u → MatchBool claimed (Grew (IsLost n) u v) (v ≡ u) → Grew (AreLost (ns ++ cond claimed (n ∷ []) [])) t v
lost_more true ns n t u v so_far more = one_part_more IsLost ns n t u v so_far more
lost_more false ns n t u v so_far none = subst (λ (ms : List ℕ). Grew (AreLost ms) t v) (sym (append-nil ns)) (subst (Grew (AreLost ns) t) (sym none) so_far)

-- claims along an order, as far as place k
module _ (order : List ℕ) (k n : ℕ) (stands : slice_get order k ≡ Some n) where
  pub won_at_place : (m read : ℕ) (t u v : List Operation) → m ≡ n → Grew (AreLost (take k order)) t u → v ≡ u ++ Claim n read ∷ [] → Grew (IsWonAlong order m read) t v
  won_at_place m read t u v same lost won = record {
    done = lost.done ++ Claim m read ∷ [];
    grown = won ∙ ap (λ (j : ℕ). u ++ Claim j read ∷ []) (sym same) ∙ ap (λ os. os ++ Claim m read ∷ []) lost.grown ∙ append_assoc t lost.done (Claim m read ∷ []);
    is = record {
      place = k;
      within = slice_get_within order k n stands;
      number_is = same ∙ sym (get_or_from_slice_get order k n 0 stands);
      lost = lost.done;
      are_lost = lost.is;
      done_is = refl;
    };
  }

  pub lost_at_place : (t u v : List Operation) → Grew (AreLost (take k order)) t u → Grew (IsLost n) u v → Grew (AreLost (take (k + 1) order)) t v
  lost_at_place t u v so_far lost = one_place_more IsLost order k 0 t u v (slice_get_within order k n stands) so_far
      (subst (λ (m : ℕ). Grew (IsLost m) u v) (sym (get_or_from_slice_get order k n 0 stands)) lost)

pub all_lost : (order : List ℕ) (k : ℕ) (t u : List Operation) → length order ≤ k → Grew (AreLost (take k order)) t u → Grew (AreLost order) t u
all_lost order k t u all lost = subst (λ (ns : List ℕ). Grew (AreLost ns) t u) (take_all k order all) lost

pub none_at : (order : List ℕ) (k : ℕ) → slice_get order k ≡ None → length order ≤ k
none_at order k none = dite (dec_le (length order) k) (λ past. past)
    (λ within. let z : None ≡ Some (slice_index_or order k 0) = sym none ∙ slice_get-get_or order k 0 (omega arith) in absurd (cc))
