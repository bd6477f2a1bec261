-- Counts of the words that a look has read, and of one more.
use Rattle.std.proofs.Common.{◌≡◌, ℕ, ◌+◌, Bool, List, [], ◌∷◌, ◌++◌, map, refl, ap, ◌∙◌, sym, arith, length-append}
use Rattle.std.specs.List.{count_by, sum_by}
use Rattle.std.proofs.lemmas.List.{map-append}
use Rattle.std.proofs.lemmas.List.Sums.{sum_by-append}
use Rattle.pool_core.specs.declared.words.StateWord.{StateWord}
use Rattle.pool_core.specs.StateWords.{bit, unpacked}
use Rattle.pool_core.specs.Lawful.{is_free_warm, is_free_awaiting}
use Rattle.slot_words.specs.declared.kinds.KindCounts.{KindCounts}
use Rattle.slot_words.specs.declared.views.Operation.{Operation}
use Rattle.slot_words.specs.declared.views.Operation.TheVariants.{Load}
use Rattle.slot_words.specs.KindCounts.{kind_counts, counts_with, is_free_cold, is_held}
use Rattle.slot_words.specs.Looking.{IsCount}
use Rattle.slot_words.specs.Parts.{Grew}
use Rattle.slot_words.specs.Trails.{loads_from}
use Rattle.slot_words.proofs.ScanTrails.{one_load_more}

count_by-last : (p : StateWord → Bool) (rs : List ℕ) (r : ℕ) → count_by p (map unpacked (rs ++ r ∷ [])) ≡ count_by p (map unpacked rs) + bit (p (unpacked r))
count_by-last p rs r =
    let f : StateWord → ℕ = λ w. bit (p w) in
    let one : sum_by f (unpacked r ∷ []) ≡ f (unpacked r) = omega arith in
    ap (count_by p) (map-append unpacked rs (r ∷ [])) ∙ sum_by-append f (map unpacked rs) (unpacked r ∷ []) ∙ ap (λ (n : ℕ). count_by p (map unpacked rs) + n) one

pub kind_counts-last : (rs : List ℕ) (r : ℕ) → kind_counts (map unpacked (rs ++ r ∷ [])) ≡ counts_with (kind_counts (map unpacked rs)) (unpacked r)
kind_counts-last rs r = λ k. record {
  cold = count_by-last is_free_cold rs r k;
  warm = count_by-last is_free_warm rs r k;
  awaiting = count_by-last is_free_awaiting rs r k;
  held = count_by-last is_held rs r k;
}

-- a look that goes over one word more
pub count_more : (n r : ℕ) (k k' : KindCounts) (t0 t t' : List Operation) → Grew (IsCount n k) t0 t → t' ≡ t ++ Load n r ∷ [] → k' ≡ counts_with k (unpacked r)
    → Grew (IsCount (n + 1) k') t0 t'
count_more n r k k' t0 t t' grew one counts = let is = grew.is in let seen : List ℕ = is.seen ++ r ∷ [] in record {
  done = loads_from 0 seen;
  grown = one_load_more n r is.seen seen t0 t t' is.all_seen (grew.grown ∙ ap (λ os. t0 ++ os) is.done_is) one refl;
  is = record {
    seen = seen;
    all_seen = let all = is.all_seen in simp length-append (omega arith);
    done_is = refl;
    counts_are = counts ∙ ap (λ (x : KindCounts). counts_with x (unpacked r)) is.counts_are ∙ sym (kind_counts-last is.seen r);
  };
}
