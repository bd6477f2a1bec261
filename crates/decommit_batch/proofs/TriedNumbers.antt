-- What one number of a flush or of a sweep adds to the trail, where its slot was seen free, or was won.
use Rattle.std.proofs.Common.{◌≡◌, ℕ, Bool, true, false, not, ◌&&◌, List, [], ◌∷◌, ◌++◌, refl, sym, ap, ◌∙◌, arith, append_assoc}
use Rattle.std.specs.List.{count_by}
use Rattle.pool_core.specs.declared.words.State.TheVariants.{Awaiting}
use Rattle.pool_core.specs.declared.words.Target.{Target}
use Rattle.pool_core.specs.declared.words.StateWord.{StateWord}
use Rattle.pool_core.specs.Lawful.{is_free_awaiting}
use Rattle.pool_core.specs.StateWords.{bit, free_word, is_awaiting, packed, unpacked, IsWordOf}
use Rattle.pool_core.proofs.WordBits.{bits_say_the_word}
use Rattle.slot_words.specs.declared.views.Operation.{Operation}
use Rattle.slot_words.specs.declared.views.Operation.TheVariants.{Claim, Load, Release}
use Rattle.slot_words.specs.Parts.{Grew}
use Rattle.decommit_batch.specs.Flush.{IsDecommit, IsFlushPart, IsTried}
use Rattle.decommit_batch.specs.Sweep.{finds_its_own, is_free_of, is_of_module, IsCleaningTried}
use Rattle.decommit_batch.proofs.SweepLemmas.{SweepsOne}

-- one operation, and then some more
pub after_one : (Is : List Operation → Type 0) (o : Operation) (t u v : List Operation) → u ≡ t ++ o ∷ [] → Grew Is u v → Grew (λ done. (others : List Operation) × (done ≡ o ∷ others) × Is others) t v
after_one Is o t u v one more = record {
  done = o ∷ more.done;
  grown = more.grown ∙ ap (λ os. os ++ more.done) one ∙ append_assoc t (o ∷ []) more.done;
  is = (more.done, refl, more.is);
}

module _ (m n read : ℕ) (w : StateWord) (found : Target) (t u v : List Operation) (is_word : IsWordOf read w) (free : w.held ≡ false) (number : m ≡ n) (left : found ≡ w.target)
    (claim : u ≡ t ++ Claim n read ∷ []) where
  -- a slot that was won and is released as it was found
  released_as_found : v ≡ u ++ Release m (packed (free_word found)) ∷ [] → v ≡ t ++ Claim n read ∷ Release n read ∷ []
  released_as_found release =
      let stored : packed (free_word found) ≡ read = ap (λ (to : Target). packed (free_word to)) left ∙ ap (λ (b : Bool). packed (record { target = w.target; held = b })) (sym free) ∙ sym is_word.packed_is in
      release ∙ ap (λ (k : ℕ). u ++ Release k (packed (free_word found)) ∷ []) number ∙ ap (λ (b : ℕ). u ++ Release n b ∷ []) stored
      ∙ ap (λ os. os ++ Release n read ∷ []) claim ∙ append_assoc t (Claim n read ∷ []) (Release n read ∷ [])

  -- it still awaited
  pub tried_awaiting : (limit : ℕ) → found.state ≡ Awaiting → Grew (IsDecommit limit m found) u v → Grew (IsTried limit n) t v
  tried_awaiting limit awaits decommit =
      let more : Grew (IsDecommit limit n w.target) u v = rw (number, left) at decommit in
      let all = after_one (IsDecommit limit n w.target) (Claim n read) t u v claim more in
      let awaiting : is_awaiting w.target.state ≡ true = ap (λ (to : Target). is_awaiting to.state) (sym left) ∙ ap is_awaiting awaits in
      record { done = all.done; grown = all.grown; is = (read, w, is_word, rw (free, awaiting) all.is) }

  -- it did not await any more
  pub tried_other : (limit : ℕ) → is_awaiting found.state ≡ false → v ≡ u ++ Release m (packed (free_word found)) ∷ [] → Grew (IsTried limit n) t v
  tried_other limit other release =
      let not_awaiting : is_awaiting w.target.state ≡ false = ap (λ (to : Target). is_awaiting to.state) (sym left) ∙ other in
      record { done = Claim n read ∷ Release n read ∷ []; grown = released_as_found release; is = (read, w, is_word, rw (free, not_awaiting) refl) }

  -- it was not of the module any more
  pub cleans_no_other : (tag : ℕ) → is_of_module tag found ≡ false → v ≡ u ++ Release m (packed (free_word found)) ∷ []
      → Grew (λ done. IsCleaningTried tag n done × (0 ≡ count_by (finds_its_own tag) done)) t v
  cleans_no_other tag other release =
      let bits = bits_say_the_word read w is_word in
      let free_bits : (unpacked read).held ≡ false = ap (λ (x : StateWord). x.held) bits ∙ free in
      let other_bits : is_of_module tag (unpacked read).target ≡ false = ap (λ (x : StateWord). is_of_module tag x.target) bits ∙ ap (is_of_module tag) (sym left) ∙ other in
      let none : bit (finds_its_own tag (Claim n read)) ≡ 0 = ap (λ (b : Bool). bit (not b && is_of_module tag (unpacked read).target)) free_bits ∙ ap bit other_bits in
      record { done = Claim n read ∷ Release n read ∷ []; grown = released_as_found release; is = ((read, rw (free_bits, other_bits) refl), omega arith) }

-- a slot that was seen free and awaiting is tried
pub flushes_tried : (limit n read : ℕ) (w : StateWord) (t u v : List Operation) → IsWordOf read w → w.held ≡ false → is_awaiting w.target.state ≡ true → u ≡ t ++ Load n read ∷ []
    → Grew (IsTried limit n) u v → Grew (IsFlushPart limit n) t v
flushes_tried limit n read w t u v is_word free awaits load tried =
    let all = after_one (IsTried limit n) (Load n read) t u v load tried in
    let is_free : is_free_awaiting w ≡ true = ap (λ (b : Bool). not b && is_awaiting w.target.state) free ∙ awaits in
    record { done = all.done; grown = all.grown; is = (read, w, is_word, rw is_free all.is) }

-- and so is one that was seen free and of the module
pub sweeps_tried : (tag n read one : ℕ) (t u v : List Operation) → (unpacked read).held ≡ false → is_of_module tag (unpacked read).target ≡ true → u ≡ t ++ Load n read ∷ []
    → Grew (λ done. IsCleaningTried tag n done × (one ≡ count_by (finds_its_own tag) done)) u v → Grew (SweepsOne tag n one) t v
sweeps_tried tag n read one t u v free own load tried =
    let is_free : is_free_of tag (unpacked read) ≡ true = ap (λ (b : Bool). not b && is_of_module tag (unpacked read).target) free ∙ own in
    let counted = tried.is.1 in record {
      done = Load n read ∷ tried.done;
      grown = tried.grown ∙ ap (λ os. os ++ tried.done) load ∙ append_assoc t (Load n read ∷ []) tried.done;
      is = ((read, rw is_free (tried.done, refl, tried.is.0)), omega arith);
    }
