-- What operations tell of looks, flushes and hand-ins.
use Rattle.std.proofs.Common.{◌≡◌, ℕ, ◌+◌, ◌-◌, ◌%◌, ◌<◌, ◌≤◌, leb, ltb, Bool, true, false, MatchBool, List, [], ◌∷◌, ◌++◌, refl, sym, ap, ◌∙◌, subst, arith, append_assoc}
use Rattle.std.specs.List.{count_by, range_with_len}
use Rattle.std.proofs.lemmas.Bool.{le-leb, lt-leb}
use Rattle.std.proofs.lemmas.List.Sums.{sum_by-append}
use Rattle.pool_core.specs.declared.words.State.{State}
use Rattle.pool_core.specs.declared.words.State.TheVariants.{Cold, Warm, Awaiting}
use Rattle.pool_core.specs.declared.words.Target.{Target}
use Rattle.pool_core.specs.declared.words.StateWord.{StateWord}
use Rattle.pool_core.specs.StateWords.{bit, is_awaiting, free_word, packed, stamp_bound}
use Rattle.pool_core.specs.Lawful.{is_free_awaiting}
use Rattle.slot_words.specs.declared.views.Operation.{Operation}
use Rattle.slot_words.specs.declared.views.Operation.TheVariants.{Load, Claim, Release, WarmUp, WarmDown, Stamp, AwaitUp, AwaitDown}
use Rattle.slot_words.specs.Parts.{Grew, Parts, Then}
use Rattle.decommit_batch.specs.Counts.{begins_flush, begins_look, claimed_by, claimed_in, counted_by, counted_in, flushes_in, handed, handed_by, looks_in}
use Rattle.decommit_batch.specs.Flush.{IsDecommit, IsFlush, IsFlushPart, IsTried}
use Rattle.decommit_batch.specs.HandIn.{IsHandIn, handed_in}
use Rattle.decommit_batch.specs.Settle.{IsSettled, IsSettledFrom}
use Rattle.decommit_batch.specs.Sweep.{IsSweep, IsSweepPart}
use Rattle.decommit_batch.proofs.SweepParts.{Outcome, outcome_of, passed_by, lost, changed, was_warm, was_awaiting}

-- ---- two lists together

pub flushes-append : (batch : ℕ) (a b : List Operation) → flushes_in batch (a ++ b) ≡ flushes_in batch a + flushes_in batch b
flushes-append batch a b = let both = sum_by-append (λ (o : Operation). bit (begins_flush batch o)) a b in omega arith

pub looks-append : (a b : List Operation) → looks_in (a ++ b) ≡ looks_in a + looks_in b
looks-append a b = let both = sum_by-append (λ (o : Operation). bit (begins_look o)) a b in omega arith

pub claimed-append : (last : ℕ) (a b : List Operation) → claimed_in last (a ++ b) ≡ claimed_in (claimed_in last a) b
claimed-append last [] b = refl
claimed-append last (o ∷ a) b = claimed-append (claimed_by last o) a b

pub counted-append : (up : Bool) (a b : List Operation) → counted_in up (a ++ b) ≡ counted_in (counted_in up a) b
counted-append up [] b = refl
counted-append up (o ∷ a) b = counted-append (counted_by up o) a b

pub handed-append : (last : ℕ) (up : Bool) (a b : List Operation) → handed last up (a ++ b) ≡ handed last up a ++ handed (claimed_in last a) (counted_in up a) b
handed-append last up [] b = refl
handed-append last up (o ∷ a) b =
    ap (λ (slots : List (ℕ × ℕ)). handed_by last up o ++ slots) (handed-append (claimed_by last o) (counted_by up o) a b)
    ∙ sym (append_assoc (handed_by last up o) (handed (claimed_by last o) (counted_by up o) a) (handed (claimed_in last (o ∷ a)) (counted_in up (o ∷ a)) b))

-- ---- operations that hand in no slot

-- so many looks and flushes begin
pub record Tells (looks flushes : ℕ) (done : List Operation) : Type 0 where
  pub looks_are : looks_in done ≡ looks
  pub flushes_are : (batch : ℕ) → flushes_in batch done ≡ flushes
  pub hands : (last : ℕ) → handed last false done ≡ []
  pub counts : counted_in false done ≡ false

-- and none
abbrev pub Quiet : List Operation → Type 0
Quiet done = Tells 0 0 done

pub tells-append : (l f k g : ℕ) (a b : List Operation) → Tells l f a → Tells k g b → Tells (l + k) (f + g) (a ++ b)
tells-append l f k g a b p q = record {
  looks_are = (let both = looks-append a b in let one = p.looks_are in let two = q.looks_are in omega arith);
  flushes_are = λ batch. (let both = flushes-append batch a b in let one = p.flushes_are batch in let two = q.flushes_are batch in omega arith);
  hands = λ last. handed-append last false a b ∙ ap (λ (slots : List (ℕ × ℕ)). slots ++ handed (claimed_in last a) (counted_in false a) b) (p.hands last)
      ∙ ap (λ (up : Bool). handed (claimed_in last a) up b) p.counts ∙ q.hands (claimed_in last a);
  counts = counted-append false a b ∙ ap (λ (up : Bool). counted_in up b) p.counts ∙ q.counts;
}

-- one kind of operations, and then another
pub tells_then : (l f k g : ℕ) (First Second : List Operation → Type 0) → ((os : List Operation) → First os → Tells l f os) → ((os : List Operation) → Second os → Tells k g os)
    → (done : List Operation) → Then First Second done → Tells (l + k) (f + g) done
tells_then l f k g First Second one two done both =
    subst (Tells (l + k) (f + g)) (sym both.done_is) (tells-append l f k g both.first both.second (one both.first both.is_first) (two both.second both.is_second))

-- a trail that grew by such operations
pub flushes_grew : (l f batch : ℕ) (Is : List Operation → Type 0) → ((os : List Operation) → Is os → Tells l f os) → (t u : List Operation) → Grew Is t u → flushes_in batch u ≡ flushes_in batch t + f
flushes_grew l f batch Is tells t u grew =
    let both = ap (flushes_in batch) grew.grown ∙ flushes-append batch t grew.done in let more = (tells grew.done grew.is).flushes_are batch in omega arith

pub quiet_none : Quiet []
quiet_none = record { looks_are = refl; flushes_are = λ batch. refl; hands = λ last. refl; counts = refl }

pub quiet_parts : (IsPart : ℕ → List Operation → Type 0) → ((n : ℕ) (part : List Operation) → IsPart n part → Quiet part) → (ns : List ℕ) (done : List Operation) → Parts IsPart ns done → Quiet done
quiet_parts IsPart each [] done is = subst Quiet (sym is) quiet_none
quiet_parts IsPart each (n ∷ ns) done is = subst Quiet (sym is.2) (tells-append 0 0 0 0 is.0 is.1 (each n is.0 is.3) (quiet_parts IsPart each ns is.1 is.4))

-- ---- flushes

by_permit : (b : Bool) (a r n x y : ℕ) (done : List Operation)
    → MatchBool b (done ≡ AwaitDown a ∷ WarmUp r ∷ Release n x ∷ []) ((d : ℕ) × (done ≡ AwaitDown a ∷ WarmUp r ∷ WarmDown d ∷ Release n y ∷ [])) → Quiet done
by_permit true a r n x y done is = subst Quiet (sym is) (record { looks_are = refl; flushes_are = λ batch. refl; hands = λ last. refl; counts = refl })
by_permit false a r n x y done is = subst Quiet (sym is.1) (record { looks_are = refl; flushes_are = λ batch. refl; hands = λ last. refl; counts = refl })

quiet_decommit : (limit n : ℕ) (found : Target) (done : List Operation) → IsDecommit limit n found done → Quiet done
quiet_decommit limit n found done is = by_permit (ltb is.1 limit) is.0 is.1 n _ _ done is.2

pub quiet_claim : (n read : ℕ) (others : List Operation) → Quiet others → Quiet (Claim n read ∷ others)
quiet_claim n read others q = tells-append 0 0 0 0 (Claim n read ∷ []) others (record { looks_are = refl; flushes_are = λ batch. refl; hands = λ last. refl; counts = refl }) q

pub quiet_load : (n read : ℕ) (others : List Operation) → Quiet others → Quiet (Load n read ∷ others)
quiet_load n read others q = tells-append 0 0 0 0 (Load n read ∷ []) others (record { looks_are = refl; flushes_are = λ batch. refl; hands = λ last. refl; counts = refl }) q

quiet_release : (n stored : ℕ) → Quiet (Release n stored ∷ [])
quiet_release n stored = record { looks_are = refl; flushes_are = λ batch. refl; hands = λ last. refl; counts = refl }

by_state : (b : Bool) (limit n read : ℕ) (found : Target) (done : List Operation)
    → MatchBool b ((others : List Operation) × (done ≡ Claim n read ∷ others) × IsDecommit limit n found others) (done ≡ Claim n read ∷ Release n read ∷ []) → Quiet done
by_state true limit n read found done is = subst Quiet (sym is.1) (quiet_claim n read is.0 (quiet_decommit limit n found is.0 is.2))
by_state false limit n read found done is = subst Quiet (sym is) (quiet_claim n read (Release n read ∷ []) (quiet_release n read))

by_held : (b : Bool) (limit n read : ℕ) (w : StateWord) (done : List Operation)
    → MatchBool b (done ≡ Claim n read ∷ [])
    (MatchBool (is_awaiting w.target.state) ((others : List Operation) × (done ≡ Claim n read ∷ others) × IsDecommit limit n w.target others) (done ≡ Claim n read ∷ Release n read ∷ []))
    → Quiet done
by_held true limit n read w done is = subst Quiet (sym is) (quiet_claim n read [] quiet_none)
by_held false limit n read w done is = by_state (is_awaiting w.target.state) limit n read w.target done is

quiet_tried : (limit n : ℕ) (done : List Operation) → IsTried limit n done → Quiet done
quiet_tried limit n done is = by_held is.1.held limit n is.0 is.1 done is.3

by_seen : (b : Bool) (limit n read : ℕ) (done : List Operation)
    → MatchBool b ((others : List Operation) × (done ≡ Load n read ∷ others) × IsTried limit n others) (done ≡ Load n read ∷ []) → Quiet done
by_seen true limit n read done is = subst Quiet (sym is.1) (quiet_load n read is.0 (quiet_tried limit n is.0 is.2))
by_seen false limit n read done is = subst Quiet (sym is) (quiet_load n read [] quiet_none)

quiet_flush_part : (limit n : ℕ) (done : List Operation) → IsFlushPart limit n done → Quiet done
quiet_flush_part limit n done is = by_seen (is_free_awaiting is.1) limit n is.0 done is.3

pub quiet_flush : (limit slots : ℕ) (done : List Operation) → IsFlush limit slots done → Quiet done
quiet_flush limit slots done is = quiet_parts (IsFlushPart limit) (quiet_flush_part limit) (range_with_len 0 slots) done is

-- ---- sweeps, and what settles a slot

quiet_outcome : (tag n : ℕ) (part : List Operation) → Outcome tag n part → Quiet part
quiet_outcome tag n _ (passed_by seen other) = record { looks_are = refl; flushes_are = λ batch. refl; hands = λ last. refl; counts = refl }
quiet_outcome tag n _ (lost seen read free held) = record { looks_are = refl; flushes_are = λ batch. refl; hands = λ last. refl; counts = refl }
quiet_outcome tag n _ (changed seen read free won other) = record { looks_are = refl; flushes_are = λ batch. refl; hands = λ last. refl; counts = refl }
quiet_outcome tag n _ (was_warm seen read r free won own is) = record { looks_are = refl; flushes_are = λ batch. refl; hands = λ last. refl; counts = refl }
quiet_outcome tag n _ (was_awaiting seen read r free won own is) = record { looks_are = refl; flushes_are = λ batch. refl; hands = λ last. refl; counts = refl }

pub quiet_sweep : (tag slots cleaned : ℕ) (done : List Operation) → IsSweep tag slots cleaned done → Quiet done
quiet_sweep tag slots cleaned done is =
    quiet_parts (IsSweepPart tag) (λ n part own. quiet_outcome tag n part (outcome_of tag n part own)) (range_with_len 0 slots) done is.parts

quiet_settled_from : (s : State) (done : List Operation) → IsSettledFrom s done → Quiet done
quiet_settled_from Cold done is = subst Quiet (sym is) quiet_none
quiet_settled_from Warm done is = subst Quiet (sym is.1) (record { looks_are = refl; flushes_are = λ batch. refl; hands = λ last. refl; counts = refl })
quiet_settled_from Awaiting done is = subst Quiet (sym is.1) (record { looks_are = refl; flushes_are = λ batch. refl; hands = λ last. refl; counts = refl })

pub quiet_settled : (read : ℕ) (done : List Operation) → IsSettled read done → Quiet done
quiet_settled read done is = quiet_settled_from is.0.target.state done is.2

-- ---- hand-ins

-- a flush follows one that reads this, or nothing does
by_batch : (b : Bool) (limit slots : ℕ) (flushed : List Operation) → MatchBool b (IsFlush limit slots flushed) (flushed ≡ []) → Quiet flushed
by_batch true limit slots flushed is = quiet_flush limit slots flushed is
by_batch false limit slots flushed is = subst Quiet (sym is) quiet_none

-- one slot is handed in under this tag
pub record HandsOne (tag : ℕ) (done : List Operation) : Type 0 where
  pub stamp : ℕ
  pub hands : (last : ℕ) → handed last false done ≡ (last, packed (free_word (record { state = Awaiting; tag = tag; stamp = stamp % stamp_bound }))) ∷ []
  pub counts : counted_in false done ≡ false
  pub looks : looks_in done ≡ 0

hands_one : (n tag a s : ℕ) (flushed : List Operation) → Quiet flushed → HandsOne tag (AwaitUp a ∷ handed_in n tag s flushed)
hands_one n tag a s flushed q = record {
  stamp = s;
  hands = λ last. ap (λ (slots : List (ℕ × ℕ)). (last, packed (free_word (record { state = Awaiting; tag = tag; stamp = s % stamp_bound }))) ∷ slots) (q.hands last);
  counts = q.counts;
  looks = (let both = looks-append (AwaitUp a ∷ Stamp s ∷ Release n (packed (free_word (record { state = Awaiting; tag = tag; stamp = s % stamp_bound }))) ∷ []) flushed in let none = q.looks_are in omega arith);
}

pub hand_in_hands : (limit slots n tag batch : ℕ) (done : List Operation) → IsHandIn limit slots n tag batch done → HandsOne tag done
hand_in_hands limit slots n tag batch done is =
    subst (HandsOne tag) (sym is.3) (hands_one n tag is.0 is.1 is.2 (by_batch (leb (batch - 1) is.0) limit slots is.2 is.4))

-- the flushes of a hand-in that read this, by its steps
module _ (batch a s n stored : ℕ) (t counted stamped given : List Operation) (up : counted ≡ t ++ AwaitUp a ∷ []) (stamps : stamped ≡ counted ++ Stamp s ∷ []) (gives : given ≡ stamped ++ Release n stored ∷ []) where
  given_flushes : flushes_in batch given ≡ flushes_in batch t + bit (leb (batch - 1) a)
  given_flushes =
      let one = ap (flushes_in batch) up ∙ flushes-append batch t (AwaitUp a ∷ []) in
      let two = ap (flushes_in batch) stamps ∙ flushes-append batch counted (Stamp s ∷ []) in
      let three = ap (flushes_in batch) gives ∙ flushes-append batch stamped (Release n stored ∷ []) in omega arith

  pub waits_so : a < batch - 1 → flushes_in batch given ≡ flushes_in batch t
  waits_so less = let e = ap bit (lt-leb (batch - 1) a less) in let all = given_flushes in omega arith

  pub flushes_so : (limit slots : ℕ) (after : List Operation) → batch - 1 ≤ a → Grew (IsFlush limit slots) given after → flushes_in batch after ≡ flushes_in batch t + 1
  flushes_so limit slots after enough flush =
      let e = ap bit (le-leb (batch - 1) a enough) in let all = given_flushes in
      let last = ap (flushes_in batch) flush.grown ∙ flushes-append batch given flush.done in
      let none = (quiet_flush limit slots flush.done flush.is).flushes_are batch in omega arith
