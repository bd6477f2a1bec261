-- A take that won nothing has its cause.
use Rattle.std.proofs.Common.{◌≡◌, ℕ, ◌%◌, true, List, [], ◌∷◌, ◌++◌, sym, ap, ◌∙◌, append_assoc}
use Rattle.std.specs.Prelude.{slice_index_or}
use Rattle.pool_core.specs.declared.words.State.{State}
use Rattle.pool_core.specs.declared.words.StateWord.{StateWord}
use Rattle.pool_core.specs.StateWords.{IsWordOf, bit}
use Rattle.pool_core.specs.Laws.{LowestBitSaysHeld}
use Rattle.slot_words.specs.declared.views.Operation.{Operation}
use Rattle.slot_words.specs.declared.views.Operation.TheVariants.{Claim}
use Rattle.slot_words.specs.Rows.{IsLost}
use Rattle.slot_pools.specs.Rows.{AreLost}
use Rattle.slot_words.specs.Rule.{HeldByAnother}
use Rattle.slot_words.proofs.Parts.{number_at}
use Rattle.slot_pools.specs.Wins.{all_numbers}
use Rattle.slot_pools.specs.declared.policy.Policy.TheVariants.{Batched, Affine, Any}
use Rattle.slot_pools.specs.Takes.{IsFullTake}
use Rattle.slot_pools.specs.Causes.{AllFoundHeld, FullAfterMark, FullAfterLook, FullAfterScan, LostToAnother}

-- after these first operations, a claim of each number was lost
lost_after : (slots : ℕ) (first swept : List Operation) → AreLost (all_numbers slots) swept → AllFoundHeld slots (first ++ swept)
lost_after slots first swept lost n h = let at = number_at IsLost slots n swept lost h in record {
  before = first ++ at.before;
  claim = at.part;
  after = at.after;
  lost = at.is;
  done_is = ap (λ os. first ++ os) at.done_is ∙ sym (append_assoc first at.before (at.part ++ at.after));
}

pub batched_cause : (limit slots tag : ℕ) (done : List Operation) → IsFullTake (Batched tag) limit slots done → FullAfterMark slots done
batched_cause limit slots tag done full =
    let look = full.1 in let loss = look.is_second in let mark = loss.is_second in let flush = mark.is_second in record {
      first = (look.first ++ loss.first) ++ mark.first;
      second = mark.second;
      done_is = look.done_is ∙ ap (λ os. look.first ++ os) (loss.done_is ∙ ap (λ os. loss.first ++ os) mark.done_is)
          ∙ sym (append_assoc look.first loss.first (mark.first ++ mark.second)) ∙ sym (append_assoc (look.first ++ loss.first) mark.first mark.second);
      is_first = (look.first ++ loss.first, mark.is_first.0, ap (λ os. (look.first ++ loss.first) ++ os) mark.is_first.1);
      is_second = λ n h. rw flush.done_is (lost_after slots flush.first flush.second flush.is_second n h);
    }

pub affine_cause : (limit slots tag : ℕ) (done : List Operation) → IsFullTake (Affine tag) limit slots done → FullAfterLook limit slots tag done
affine_cause limit slots tag done full = let look = full.1 in let loss = look.is_second in record {
  first = look.first;
  second = look.second;
  done_is = look.done_is;
  is_first = (full.0, look.is_first);
  is_second = λ n h. rw loss.done_is (lost_after slots loss.first loss.second loss.is_second n h);
}

pub any_cause : (limit slots : ℕ) (done : List Operation) → IsFullTake Any limit slots done → FullAfterScan slots done
any_cause limit slots done full = let scan = full.1 in let loss = scan.is_second in record {
  first = scan.first;
  second = scan.second;
  done_is = scan.done_is;
  is_first = (full.0, scan.is_first);
  is_second = λ n h. rw loss.done_is (lost_after slots loss.first loss.second loss.is_second n h);
}

lost_is_held : (n r read : ℕ) → Claim n r ∷ [] ≡ Claim n read ∷ [] → (w : StateWord) → LowestBitSaysHeld → IsWordOf read w → w.held ≡ true → r % 2 ≡ 1
lost_is_held n r read same w says is_word held = let e : r ≡ read = cc in ap (λ (k : ℕ). k % 2) (e ∙ is_word.packed_is) ∙ says w ∙ ap bit held

pub lost_to_another : {V : Type 0} (fits : State → ℕ → V → Type 0) → HeldByAnother fits → LowestBitSaysHeld → LostToAnother fits
lost_to_another fits another says bounds s shows n i within lost idle =
    another bounds s shows n i within (lost_is_held n (slice_index_or s.words n 0) lost.read lost.done_is lost.word says lost.is_word lost.held) idle
