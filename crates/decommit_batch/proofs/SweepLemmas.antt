-- A sweep that is one number longer, and a claim of it that is lost.
use Rattle.std.proofs.Common.{◌≡◌, ℕ, ◌+◌, Bool, true, not, ◌&&◌, List, [], ◌∷◌, ◌++◌, sym, ap, ◌∙◌, subst, arith, append_assoc}
use Rattle.std.specs.List.{count_by, range_with_len}
use Rattle.std.proofs.lemmas.List.Sums.{sum_by-append}
use Rattle.pool_core.specs.declared.words.StateWord.{StateWord}
use Rattle.pool_core.specs.StateWords.{bit, unpacked}
use Rattle.pool_core.proofs.WordBits.{bits_say_the_word}
use Rattle.slot_words.specs.declared.views.Operation.{Operation}
use Rattle.slot_words.specs.declared.views.Operation.TheVariants.{Claim}
use Rattle.slot_words.specs.Parts.{Parts, Grew}
use Rattle.slot_words.specs.Rows.{IsLost}
use Rattle.slot_words.proofs.Parts.{Parts-more, range-more}
use Rattle.decommit_batch.specs.Sweep.{finds_its_own, is_of_module, IsCleaningTried, IsSweep, IsSweepPart}

-- one number of it, and whether its slot was cleaned
abbrev pub SweepsOne : ℕ → ℕ → ℕ → List Operation → Type 0
SweepsOne tag n one done = IsSweepPart tag n done × (one ≡ count_by (finds_its_own tag) done)

pub swept_more : (tag n cleaned one : ℕ) (t u v : List Operation) → Grew (IsSweep tag n cleaned) t u → Grew (SweepsOne tag n one) u v → Grew (IsSweep tag (n + 1) (cleaned + one)) t v
swept_more tag n cleaned one t u v so_far more =
    let e : range_with_len 0 (n + 1) ≡ range_with_len 0 n ++ n ∷ [] = range-more 0 n ∙ ap (λ (k : ℕ). range_with_len 0 n ++ k ∷ []) (let z : 0 + n ≡ n = omega arith in z) in
    let both : count_by (finds_its_own tag) (so_far.done ++ more.done) ≡ count_by (finds_its_own tag) so_far.done + count_by (finds_its_own tag) more.done = sum_by-append (λ (o : Operation). bit (finds_its_own tag o)) so_far.done more.done in
    let before = so_far.is.cleaned_is in let here = more.is.1 in record {
      done = so_far.done ++ more.done;
      grown = more.grown ∙ ap (λ os. os ++ more.done) so_far.grown ∙ append_assoc t so_far.done more.done;
      is = record {
        parts = subst (λ (ns : List ℕ). Parts (IsSweepPart tag) ns (so_far.done ++ more.done)) (sym e) (Parts-more (IsSweepPart tag) (range_with_len 0 n) n so_far.done more.done so_far.is.parts more.is.0);
        cleaned_is = omega arith;
      };
    }

-- a claim that is lost cleans nothing
pub lost_cleans_none : (tag n : ℕ) (done : List Operation) → IsLost n done → IsCleaningTried tag n done × (0 ≡ count_by (finds_its_own tag) done)
lost_cleans_none tag n done lost =
    let held : (unpacked lost.read).held ≡ true = ap (λ (w : StateWord). w.held) (bits_say_the_word lost.read lost.word lost.is_word) ∙ lost.held in
    let here : bit (finds_its_own tag (Claim n lost.read)) ≡ 0 = ap (λ (b : Bool). bit (not b && is_of_module tag (unpacked lost.read).target)) held in
    let all = ap (count_by (finds_its_own tag)) lost.done_is in
    ((lost.read, rw held lost.done_is), omega arith)
