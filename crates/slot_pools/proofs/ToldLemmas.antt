-- What takes tell of looks, flushes and the claim that won.
use Rattle.std.proofs.Common.{◌≡◌, ℕ, ◌+◌, Bool, true, false, List, [], ◌∷◌, ◌++◌, take, refl, sym, ap, ◌∙◌, subst, ⊎_elim, arith}
use Rattle.pool_core.specs.declared.words.State.{State}
use Rattle.pool_core.specs.declared.words.State.TheVariants.{Cold, Warm, Awaiting}
use Rattle.pool_core.specs.StateWords.{bit}
use Rattle.slot_words.specs.declared.views.Operation.{Operation}
use Rattle.slot_words.specs.declared.views.Operation.TheVariants.{Claim, WarmLoad, AwaitLoad}
use Rattle.slot_words.specs.Parts.{Grew, Then}
use Rattle.slot_words.specs.Rows.{IsLost}
use Rattle.slot_words.specs.Trails.{loads_from}
use Rattle.decommit_batch.specs.Counts.{claimed_in, counted_in, flushes_in, handed, looks_in}
use Rattle.decommit_batch.specs.Flush.{IsFlush}
use Rattle.decommit_batch.specs.Settle.{IsSettled, IsSettledFrom}
use Rattle.decommit_batch.proofs.TellingLemmas.{Quiet, Tells, claimed-append, flushes-append, flushes_grew, quiet_claim, quiet_flush, quiet_load, quiet_none, quiet_parts, quiet_settled, tells-append, tells_then}
use Rattle.slot_pools.specs.declared.policy.Policy.{Policy}
use Rattle.slot_pools.specs.declared.policy.Policy.TheVariants.{Batched, Affine, Any}
use Rattle.slot_pools.specs.LastClaims.{EndsWithClaim}
use Rattle.slot_pools.specs.Looks.{IsLook}
use Rattle.slot_pools.specs.LookWins.{reads}
use Rattle.slot_pools.specs.Rows.{AreLost, IsWonAlong}
use Rattle.slot_pools.specs.Takes.{IsFullTake, IsTake}
use Rattle.slot_pools.specs.Wins.{all_numbers, flushes_last, IsLastTry, IsMark, IsWin}
use Rattle.slot_pools.proofs.Filling.{Along}
use Rattle.slot_pools.proofs.LastClaiming.{take_ends}

-- ---- the parts of a take

pub quiet_loads : (k : ℕ) (rs : List ℕ) → Quiet (loads_from k rs)
quiet_loads k [] = quiet_none
quiet_loads k (r ∷ rs) = quiet_load k r (loads_from (k + 1) rs) (quiet_loads (k + 1) rs)

quiet_lost : (ns : List ℕ) (done : List Operation) → AreLost ns done → Quiet done
quiet_lost ns done lost = quiet_parts IsLost (λ n part one. subst Quiet (sym one.done_is) (quiet_claim n one.read [] quiet_none)) ns done lost

quiet_won : (ns : List ℕ) (n read : ℕ) (done : List Operation) → IsWonAlong ns n read done → Quiet done
quiet_won ns n read done won =
    subst Quiet (sym won.done_is) (tells-append 0 0 0 0 won.lost (Claim n read ∷ []) (quiet_lost (take won.place ns) won.lost won.are_lost) (quiet_claim n read [] quiet_none))

mark_tells : (done : List Operation) → IsMark done → Tells 0 1 done
mark_tells done mark = subst (Tells 0 1) (sym mark.1) (record { looks_are = refl; flushes_are = λ batch. refl; hands = λ last. refl; counts = refl })

-- a look at the warm word, and the loads of the slots' words
look_tells : (warm : ℕ) (seen : List ℕ) → Tells 1 0 (WarmLoad warm ∷ loads_from 0 seen)
look_tells warm seen = tells-append 1 0 0 0 (WarmLoad warm ∷ []) (loads_from 0 seen) (record { looks_are = refl; flushes_are = λ batch. refl; hands = λ last. refl; counts = refl }) (quiet_loads 0 seen)

-- the flush mark, a flush, and quiet claims
marked_tells : (limit slots : ℕ) (Claims : List Operation → Type 0) → ((os : List Operation) → Claims os → Quiet os)
    → (done : List Operation) → Then IsMark (Then (IsFlush limit slots) Claims) done → Tells 0 1 done
marked_tells limit slots Claims quiet done marked =
    tells_then 0 1 0 0 IsMark (Then (IsFlush limit slots) Claims) mark_tells (tells_then 0 0 0 0 (IsFlush limit slots) Claims (quiet_flush limit slots) quiet) done marked

-- ---- whether it flushed

pub told_seen : (batch n read : ℕ) (Is : List ℕ → Type 0) (t u : List Operation) → Grew (Along Is (λ ns. IsWonAlong ns n read)) t u → flushes_in batch u ≡ flushes_in batch t + bit false
told_seen batch n read Is t u won = flushes_grew 0 0 batch (Along Is (λ ns. IsWonAlong ns n read)) (λ os along. quiet_won along.0 n read os along.2) t u won

last_told : (batch : ℕ) (policy : Policy) (limit slots n read : ℕ) (u v : List Operation)
    → Grew (IsLastTry policy limit slots (IsWonAlong (all_numbers slots) n read)) u v → flushes_in batch v ≡ flushes_in batch u + bit (flushes_last policy)
last_told batch (Batched tag) limit slots n read u v won =
    flushes_grew 0 1 batch _ (marked_tells limit slots (IsWonAlong (all_numbers slots) n read) (quiet_won (all_numbers slots) n read)) u v won
last_told batch (Affine tag) limit slots n read u v won = flushes_grew 0 0 batch _ (quiet_won (all_numbers slots) n read) u v won
last_told batch Any limit slots n read u v won = flushes_grew 0 0 batch _ (quiet_won (all_numbers slots) n read) u v won

pub told_last : (batch : ℕ) (policy : Policy) (limit slots n read : ℕ) (Is : List ℕ → Type 0) (t u v : List Operation) → Grew (Along Is AreLost) t u
    → Grew (IsLastTry policy limit slots (IsWonAlong (all_numbers slots) n read)) u v → flushes_in batch v ≡ flushes_in batch t + bit (flushes_last policy)
told_last batch policy limit slots n read Is t u v lost won =
    let first = flushes_grew 0 0 batch (Along Is AreLost) (λ os along. quiet_lost along.0 os along.2) t u lost in
    let last = last_told batch policy limit slots n read u v won in omega arith

reads_told : (batch : ℕ) (policy : Policy) (warm : ℕ) (seen : List ℕ) → flushes_in batch (reads policy warm seen) ≡ 0
reads_told batch (Batched tag) warm seen = (look_tells warm seen).flushes_are batch
reads_told batch (Affine tag) warm seen = (look_tells warm seen).flushes_are batch
reads_told batch Any warm seen = (quiet_loads 0 seen).flushes_are batch

-- it read, won a slot, and settled it
pub told_settled : (batch : ℕ) (policy : Policy) (warm read : ℕ) (seen : List ℕ) (flushed : Bool) (t u v w : List Operation) → u ≡ t ++ reads policy warm seen
    → flushes_in batch v ≡ flushes_in batch u + bit flushed → Grew (IsSettled read) v w → flushes_in batch w ≡ flushes_in batch t + bit flushed
told_settled batch policy warm read seen flushed t u v w look won settled =
    let first = ap (flushes_in batch) look ∙ flushes-append batch t (reads policy warm seen) in
    let none = reads_told batch policy warm seen in
    let last = flushes_grew 0 0 batch (IsSettled read) (quiet_settled read) v w settled in omega arith

-- ---- takes where slots may await

settling_claims_none : (s : State) (last : ℕ) (done : List Operation) → IsSettledFrom s done → claimed_in last done ≡ last
settling_claims_none Cold last done is = ap (claimed_in last) is
settling_claims_none Warm last done is = ap (claimed_in last) is.1
settling_claims_none Awaiting last done is = ap (claimed_in last) is.1

-- its last claim read this
pub take_claims : (policy : Policy) (limit slots n read : ℕ) (done : List Operation) → IsTake policy limit slots n read done → (last : ℕ) → claimed_in last done ≡ read
take_claims policy limit slots n read done is last =
    let ends = take_ends policy limit slots n read done is in
    ap (claimed_in last) ends.done_is ∙ claimed-append last ends.before (Claim n read ∷ ends.after) ∙ settling_claims_none ends.settled.0.target.state read ends.after ends.settled.2

win_tells : (limit slots tag : ℕ) (order : List ℕ) (n read : ℕ) (done : List Operation) → IsWin (Batched tag) limit slots order n read done → (flushes : ℕ) × Tells 0 flushes done
win_tells limit slots tag order n read done =
    ⊎_elim (λ won. (0, quiet_won order n read done won))
    (λ after. (
      1,
      tells_then 0 0 0 1 (AreLost order) (IsLastTry (Batched tag) limit slots (IsWonAlong (all_numbers slots) n read)) (quiet_lost order)
          (marked_tells limit slots (IsWonAlong (all_numbers slots) n read) (quiet_won (all_numbers slots) n read)) done after,
    ))

look_first : (limit slots tag : ℕ) (order : List ℕ) (done : List Operation) → IsLook limit slots tag order done → Tells 1 0 done
look_first limit slots tag order done look = subst (Tells 1 0) (sym look.done_is) (look_tells look.warm look.seen)

-- it looked once, and handed in nothing
pub take_tells : (limit slots tag n read : ℕ) (done : List Operation) → IsTake (Batched tag) limit slots n read done → (flushes : ℕ) × Tells 1 flushes done
take_tells limit slots tag n read done is =
    let look = is.1 in let win = look.is_second in
    let won = win_tells limit slots tag is.0 n read win.first win.is_first in
    let rest = tells-append 0 won.0 0 0 win.first win.second won.1 (quiet_settled read win.second win.is_second) in
    let rest_is : Tells 0 (won.0 + 0) look.second = subst (Tells 0 (won.0 + 0)) (sym win.done_is) rest in
    let whole : Tells 1 (0 + (won.0 + 0)) (look.first ++ look.second) = tells-append 1 0 0 (won.0 + 0) look.first look.second (look_first limit slots tag is.0 look.first look.is_first) rest_is in
    (0 + (won.0 + 0), subst (Tells 1 (0 + (won.0 + 0))) (sym look.done_is) whole)

-- one that won nothing looked once, and flushed once
pub full_tells : (limit slots tag : ℕ) (done : List Operation) → IsFullTake (Batched tag) limit slots done → Tells 1 1 done
full_tells limit slots tag done is =
    tells_then 1 0 0 1 (IsLook limit slots tag is.0) (Then (AreLost is.0) (IsLastTry (Batched tag) limit slots (AreLost (all_numbers slots)))) (look_first limit slots tag is.0)
    (tells_then 0 0 0 1 (AreLost is.0) (IsLastTry (Batched tag) limit slots (AreLost (all_numbers slots))) (quiet_lost is.0)
    (marked_tells limit slots (AreLost (all_numbers slots)) (quiet_lost (all_numbers slots)))) done is.1
