-- Takes out of two slots that are held, by the module of tag 5, and why they won nothing.
use Rattle.std.proofs.Common.{◌≡◌, ℕ, zero, suc, ◌+◌, ◌<◌, ◌≤◌, Bool, true, false, List, [], ◌∷◌, ◌++◌, length, length-append, count_by, refl, ap, ◌∙◌, arith}
use Rattle.std.specs.Prelude.{is_some}
use Rattle.pool_core.specs.StateWords.{bit, unpacked}
use Rattle.slot_words.specs.declared.views.Operation.{Operation}
use Rattle.slot_words.specs.declared.views.Operation.TheVariants.{AwaitLoad, Claim, WarmLoad}
use Rattle.slot_words.specs.Parts.{Then}
use Rattle.slot_words.specs.Trails.{loads_from}
use Rattle.decommit_batch.specs.Flush.{IsFlush}
use Rattle.affinity_index.specs.Orders.{seen_rank}
use Rattle.slot_pools.specs.Causes.{AllFoundHeld, FullAfterLook, FullAfterMark, FullAfterScan, HasLostClaim}
use Rattle.slot_pools.specs.Looks.{IsLook, IsScan}
use Rattle.slot_pools.specs.Rows.{AreLost}
use Rattle.slot_pools.specs.declared.policy.Policy.TheVariants.{Affine, Any, Batched}
use Rattle.slot_pools.specs.Takes.{IsFullTake}
use Rattle.slot_pools.specs.Wins.{all_numbers, IsMark}
use Rattle.trail_examples.proofs.LostClaims.{counted, is_lost_claim, lost_among, lost_cold, lost_is_counted, lost_warm}
use Rattle.trail_examples.proofs.SlotWords.{cold_held, warm_5, warm_5_held}

abbrev held : List ℕ
held = cold_held ∷ warm_5_held ∷ []

abbrev scanned : List Operation
scanned = loads_from 0 held

abbrev looked : List Operation
looked = WarmLoad 0 ∷ scanned

-- the flush mark, and a flush that finds nothing
abbrev marked : List Operation
marked = AwaitLoad 0 ∷ scanned

-- each slot is claimed
abbrev claims : List Operation
claims = Claim 0 cold_held ∷ Claim 1 warm_5_held ∷ []

-- ---- takes that won nothing

nothing_to_claim : (n : ℕ) → 0 ≡ bit (is_some (seen_rank held 5 true n))
nothing_to_claim zero = refl
nothing_to_claim (suc zero) = refl
nothing_to_claim (suc (suc n)) = refl

look : IsLook 0 2 5 [] looked
look = record { warm = 0; seen = held; all_seen = refl; order_is = record { once = nothing_to_claim; ranked = λ j k less within. absurd (omega arith) }; done_is = refl }

flush : IsFlush 0 2 scanned
flush = (_, _, refl, (cold_held, unpacked cold_held, record { packed_is = refl; well_formed = refl }, refl), (_, _, refl, (warm_5_held, unpacked warm_5_held, record { packed_is = refl; well_formed = refl }, refl), refl))

all_lost : AreLost (all_numbers 2) claims
all_lost = (_, _, refl, lost_cold, (_, _, refl, lost_warm, refl))

full_batched_take : IsFullTake (Batched 5) 0 2 (looked ++ (marked ++ claims))
full_batched_take = (
  [],
  record {
    first = looked;
    second = marked ++ claims;
    done_is = refl;
    is_first = look;
    is_second = record {
      first = [];
      second = marked ++ claims;
      done_is = refl;
      is_first = refl;
      is_second = record { first = AwaitLoad 0 ∷ []; second = scanned ++ claims; done_is = refl; is_first = (0, refl); is_second = record { first = scanned; second = claims; done_is = refl; is_first = flush; is_second = all_lost } };
    };
  },
)

full_affine_take : IsFullTake (Affine 5) 0 2 (looked ++ claims)
full_affine_take = ([], record { first = looked; second = claims; done_is = refl; is_first = look; is_second = record { first = []; second = claims; done_is = refl; is_first = refl; is_second = all_lost } })

scan : IsScan 2 [] scanned
scan = record { seen = held; all_seen = refl; order_is = refl; done_is = refl }

full_any_take : IsFullTake Any 0 2 (scanned ++ claims)
full_any_take = ([], record { first = scanned; second = claims; done_is = refl; is_first = scan; is_second = record { first = []; second = claims; done_is = refl; is_first = refl; is_second = all_lost } })

-- ---- their causes

each_found_held : AllFoundHeld 2 claims
each_found_held zero below = record { before = []; claim = Claim 0 cold_held ∷ []; after = Claim 1 warm_5_held ∷ []; lost = lost_cold; done_is = refl }
each_found_held (suc zero) below = record { before = Claim 0 cold_held ∷ []; claim = Claim 1 warm_5_held ∷ []; after = []; lost = lost_warm; done_is = refl }
each_found_held (suc (suc n)) below = absurd (omega arith)

-- a memory is not there
abbrev pub full_memory : List Operation
full_memory = looked ++ AwaitLoad 0 ∷ claims

pub full_after_its_mark : FullAfterMark 2 full_memory
full_after_its_mark = record { first = looked ++ AwaitLoad 0 ∷ []; second = claims; done_is = refl; is_first = (looked, 0, refl); is_second = each_found_held }

full_after_its_look : FullAfterLook 0 2 5 (looked ++ claims)
full_after_its_look = record { first = looked; second = claims; done_is = refl; is_first = ([], look); is_second = each_found_held }

full_after_its_scan : FullAfterScan 2 (scanned ++ claims)
full_after_its_scan = record { first = scanned; second = claims; done_is = refl; is_first = ([], scan); is_second = each_found_held }

-- ---- what is no cause

module _ (First Second : List Operation → Type 0) (p : Operation → Bool) (done : List Operation) (t : Then First Second done) where
  -- what is counted in a part is counted in the whole
  both_counted : count_by p done ≡ count_by p t.first + count_by p t.second
  both_counted = ap (λ (os : List Operation). count_by p os) t.done_is ∙ counted p t.first t.second

abbrev is_mark : Operation → Bool
is_mark (AwaitLoad read) = true
is_mark o = false

-- a slot that is claimed nowhere, or found free
found_held : (First : List Operation → Type 0) (slots n : ℕ) (done : List Operation) → n < slots → Then First (AllFoundHeld slots) done → 1 ≤ count_by (is_lost_claim n) done
found_held First slots n done below full = let both = both_counted First (AllFoundHeld slots) (is_lost_claim n) done full in let some = lost_among n full.second (full.is_second n below) in omega arith

abbrev pub one_left_out : List Operation
one_left_out = looked ++ (marked ++ Claim 0 cold_held ∷ [])

-- it stands without the lemma, so that a wrong line of the cause is refused here
pub slot_1_is_left_out : FullAfterMark 2 one_left_out → ⊥
slot_1_is_left_out full =
    let lost : HasLostClaim 1 full.second = full.is_second 1 (omega arith) in let some = lost_among 1 full.second lost in
    let none : 0 ≡ count_by (is_lost_claim 1) full.first + count_by (is_lost_claim 1) full.second = both_counted _ _ (is_lost_claim 1) _ full in omega arith

slot_1_is_found_free : FullAfterMark 2 (looked ++ (marked ++ Claim 0 cold_held ∷ Claim 1 warm_5 ∷ [])) → ⊥
slot_1_is_found_free full = let one : ◌≤◌ 1 0 = found_held _ 2 1 _ (omega arith) full in omega (arith, one)

mark_is_left_out : FullAfterMark 2 (looked ++ (scanned ++ claims)) → ⊥
mark_is_left_out full =
    let (before, r, ends) = full.is_first in let marks = ap (λ (os : List Operation). count_by is_mark os) ends in let last : count_by is_mark (AwaitLoad r ∷ []) ≡ 1 = refl in
    let parts = counted is_mark before (AwaitLoad r ∷ []) in let both : 0 ≡ count_by is_mark full.first + count_by is_mark full.second = both_counted _ _ is_mark _ full in omega arith

claim_comes_before_the_mark : FullAfterMark 1 (Claim 0 cold_held ∷ AwaitLoad 0 ∷ []) → ⊥
claim_comes_before_the_mark full = let (before, r, ends) = full.is_first in by before (full.done_is ∙ ap (λ (os : List Operation). os ++ full.second) ends) (lost_among 0 full.second (full.is_second 0 (omega arith)))
  where
    by : (before : List Operation) → Claim 0 cold_held ∷ AwaitLoad 0 ∷ [] ≡ (before ++ AwaitLoad full.is_first.1 ∷ []) ++ full.second → 1 ≤ count_by (is_lost_claim 0) full.second → ⊥
    by [] e some = cc
    by (o ∷ []) e some = let none : full.second ≡ [] = cc in let zero = ap (λ (os : List Operation). count_by (is_lost_claim 0) os) none in omega arith
    by (o ∷ p ∷ os) e some = let few = ap length e in let long = length-append (os ++ AwaitLoad full.is_first.1 ∷ []) full.second in let more = length-append os (AwaitLoad full.is_first.1 ∷ []) in omega arith

-- a slot is left out: a table, after its look, and a ticket, after its scan
table_1_is_left_out : FullAfterLook 0 2 5 (looked ++ Claim 0 cold_held ∷ []) → ⊥
table_1_is_left_out full = let one : ◌≤◌ 1 0 = found_held _ 2 1 _ (omega arith) full in omega (arith, one)

claims_come_before_the_look : FullAfterLook 0 2 5 (claims ++ looked) → ⊥
claims_come_before_the_look full = let e = full.done_is in let f = full.is_first.1.done_is in cc

ticket_1_is_left_out : FullAfterScan 2 (scanned ++ Claim 0 cold_held ∷ []) → ⊥
ticket_1_is_left_out full = let one : ◌≤◌ 1 0 = found_held _ 2 1 _ (omega arith) full in omega (arith, one)

claims_come_before_the_scan : FullAfterScan 2 (claims ++ scanned) → ⊥
claims_come_before_the_scan full = by full.is_first.1.seen full.is_first.1.all_seen (let e = full.done_is in let f = full.is_first.1.done_is in cc)
  where
    by : (words : List ℕ) → length words ≡ 2 → claims ++ scanned ≡ loads_from 0 words ++ full.second → ⊥
    by [] two e = omega arith
    by (r ∷ rs) two e = cc

-- ---- takes that end too soon

-- of the slots of a full take each was claimed and found held
slot_1_was_lost : (done : List Operation) → AreLost (all_numbers 2) done → 1 ≤ count_by (is_lost_claim 1) done
slot_1_was_lost done (one, others, e, lost, (two, more, f, lost_too, none)) =
    let here = lost_is_counted 1 two lost_too in let all = ap (λ (os : List Operation). count_by (is_lost_claim 1) os) e in let first = counted (is_lost_claim 1) one others in
    let rest = ap (λ (os : List Operation). count_by (is_lost_claim 1) os) f in let second = counted (is_lost_claim 1) two more in omega arith

batched_take_claims_one : IsFullTake (Batched 5) 0 2 (looked ++ (marked ++ Claim 0 cold_held ∷ [])) → ⊥
batched_take_claims_one (order, take) =
    let loss = take.is_second in let flushed = loss.is_second in let swept = flushed.is_second in let some = slot_1_was_lost swept.second swept.is_second in
    let a : 0 ≡ count_by (is_lost_claim 1) take.first + count_by (is_lost_claim 1) take.second = both_counted _ _ (is_lost_claim 1) _ take in let b = both_counted _ _ (is_lost_claim 1) _ loss in
    let c = both_counted _ _ (is_lost_claim 1) _ flushed in let d = both_counted _ _ (is_lost_claim 1) _ swept in omega arith

-- a take of slots that may await sets its mark before the last claims
mark_in : (Look Lost Mark Rest : List Operation → Type 0) → ((os : List Operation) → Mark os → count_by is_mark os ≡ 1) → (done : List Operation) → Then Look (Then Lost (Then Mark Rest)) done → 1 ≤ count_by is_mark done
mark_in Look Lost Mark Rest one done take =
    let loss = take.is_second in let flushed = loss.is_second in let mark = one flushed.first flushed.is_first in
    let a = both_counted _ _ is_mark _ take in let b = both_counted _ _ is_mark _ loss in let c = both_counted _ _ is_mark _ flushed in omega arith

batched_take_sets_no_mark : IsFullTake (Batched 5) 0 2 (looked ++ (scanned ++ claims)) → ⊥
batched_take_sets_no_mark (order, take) =
    let one : (os : List Operation) → IsMark os → count_by is_mark os ≡ 1 = λ os (r, is). ap (λ (ps : List Operation). count_by is_mark ps) is in
    let some : ◌≤◌ 1 0 = mark_in _ _ IsMark _ one _ take in omega (arith, some)

-- neither the flush mark nor a flush comes before the claims
batched_take_goes_without_a_flush : IsFullTake (Batched 5) 0 2 (looked ++ claims) → ⊥
batched_take_goes_without_a_flush (order, take) =
    let one : (os : List Operation) → IsMark os → count_by is_mark os ≡ 1 = λ os (r, is). ap (λ (ps : List Operation). count_by is_mark ps) is in
    let some : ◌≤◌ 1 0 = mark_in _ _ IsMark _ one _ take in omega (arith, some)

affine_take_claims_one : IsFullTake (Affine 5) 0 2 (looked ++ Claim 0 cold_held ∷ []) → ⊥
affine_take_claims_one (order, take) =
    let loss = take.is_second in let some = slot_1_was_lost loss.second loss.is_second in
    let a : 0 ≡ count_by (is_lost_claim 1) take.first + count_by (is_lost_claim 1) take.second = both_counted _ _ (is_lost_claim 1) _ take in let b = both_counted _ _ (is_lost_claim 1) _ loss in omega arith

any_take_claims_one : IsFullTake Any 0 2 (scanned ++ Claim 0 cold_held ∷ []) → ⊥
any_take_claims_one (order, take) =
    let loss = take.is_second in let some = slot_1_was_lost loss.second loss.is_second in
    let a : 0 ≡ count_by (is_lost_claim 1) take.first + count_by (is_lost_claim 1) take.second = both_counted _ _ (is_lost_claim 1) _ take in let b = both_counted _ _ (is_lost_claim 1) _ loss in omega arith
