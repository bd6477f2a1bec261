-- Takes of the three kinds out of two slots, by the module of tag 5.
use Rattle.std.proofs.Common.{◌≡◌, inl, ℕ, zero, suc, ◌<◌, ◌≤◌, false, List, [], ◌∷◌, ◌++◌, length, length-append, true≢false, All, take, count_by, refl, sym, ap, subst, arith}
use Rattle.std.specs.Prelude.{slice_index_or}
use Rattle.slot_words.specs.declared.views.Operation.{Operation}
use Rattle.slot_words.specs.declared.views.Operation.TheVariants.{Claim, WarmDown}
use Rattle.slot_words.specs.Parts.{Then}
use Rattle.slot_words.specs.Trails.{loads_from}
use Rattle.decommit_batch.specs.Settle.{IsSettled}
use Rattle.decommit_batch.specs.Swept.{gives_permit}
use Rattle.slot_pools.specs.LastClaims.{is_claim, EndsWithClaim}
use Rattle.slot_pools.specs.Rows.{AreLost, IsWonAlong}
use Rattle.slot_pools.specs.declared.policy.Policy.TheVariants.{Affine, Any, Batched}
use Rattle.slot_pools.specs.Takes.{IsTake}
use Rattle.trail_examples.proofs.Looks.{look, looked}
use Rattle.trail_examples.proofs.LostClaims.{counted, lost_warm}
use Rattle.trail_examples.proofs.Settling.{by_state, warm_gives_a_permit}
use Rattle.trail_examples.proofs.SlotWords.{cold, cold_held, warm_5, warm_5_held}

-- ---- claims along the order 1, 0

first_is_won : IsWonAlong (1 ∷ 0 ∷ []) 1 warm_5 (Claim 1 warm_5 ∷ [])
first_is_won = record { place = 0; within = omega arith; number_is = refl; lost = []; are_lost = refl; done_is = refl }

second_is_won : IsWonAlong (1 ∷ 0 ∷ []) 0 cold (Claim 1 warm_5_held ∷ Claim 0 cold ∷ [])
second_is_won = record { place = 1; within = omega arith; number_is = refl; lost = Claim 1 warm_5_held ∷ []; are_lost = (_, _, refl, lost_warm, refl); done_is = refl }

first_is_passed_over : IsWonAlong (1 ∷ 0 ∷ []) 0 cold (Claim 0 cold ∷ []) → ⊥
first_is_passed_over w = by w.place w.number_is w.lost w.are_lost w.done_is
  where
    by : (place : ℕ) → ◌≡◌ {A = ℕ} 0 (slice_index_or (1 ∷ 0 ∷ []) place 0) → (lost : List Operation) → AreLost (take place (1 ∷ 0 ∷ [])) lost → Claim 0 cold ∷ [] ≡ lost ++ Claim 0 cold ∷ [] → ⊥
    by zero number lost are e = omega (arith, number)
    by (suc place) number [] (part, others, e, is, more) f = let g = is.done_is in cc
    by (suc place) number (o ∷ os) are f = let few = ap length f in let more = length-append os (Claim 0 cold ∷ []) in omega arith

-- ---- takes

batched_take : IsTake (Batched 5) 1 2 1 warm_5 (looked ++ Claim 1 warm_5 ∷ WarmDown 1 ∷ [])
batched_take = (
  1 ∷ 0 ∷ [],
  record {
    first = looked;
    second = Claim 1 warm_5 ∷ WarmDown 1 ∷ [];
    done_is = refl;
    is_first = look;
    is_second = record { first = Claim 1 warm_5 ∷ []; second = WarmDown 1 ∷ []; done_is = refl; is_first = inl first_is_won; is_second = warm_gives_a_permit 1 };
  },
)

affine_take : IsTake (Affine 5) 1 2 1 warm_5 (looked ++ Claim 1 warm_5 ∷ WarmDown 1 ∷ [])
affine_take = (
  1 ∷ 0 ∷ [],
  record {
    first = looked;
    second = Claim 1 warm_5 ∷ WarmDown 1 ∷ [];
    done_is = refl;
    is_first = look;
    is_second = record { first = Claim 1 warm_5 ∷ []; second = WarmDown 1 ∷ []; done_is = refl; is_first = inl first_is_won; is_second = warm_gives_a_permit 1 };
  },
)

-- of a scan that saw slot 0 held
abbrev scanned : List Operation
scanned = loads_from 0 (cold_held ∷ warm_5 ∷ [])

any_take : IsTake Any 0 2 1 warm_5 (scanned ++ Claim 1 warm_5 ∷ WarmDown 1 ∷ [])
any_take = (
  1 ∷ [],
  record {
    first = scanned;
    second = Claim 1 warm_5 ∷ WarmDown 1 ∷ [];
    done_is = refl;
    is_first = record { seen = cold_held ∷ warm_5 ∷ []; all_seen = refl; order_is = refl; done_is = refl };
    is_second = record {
      first = Claim 1 warm_5 ∷ [];
      second = WarmDown 1 ∷ [];
      done_is = refl;
      is_first = inl (record { place = 0; within = omega arith; number_is = refl; lost = []; are_lost = refl; done_is = refl });
      is_second = warm_gives_a_permit 1;
    };
  },
)

-- ---- a permit that is kept

-- what is won in the state warm gives a permit back
permit_in : (Look Win : List Operation → Type 0) (done : List Operation) → Then Look (Then Win (IsSettled warm_5)) done → 1 ≤ count_by gives_permit done
permit_in Look Win done take =
    let rest = take.is_second in let (r, settled) = by_state warm_5 rest.second rest.is_second in
    let one : count_by gives_permit rest.second ≡ 1 = ap (λ (os : List Operation). count_by gives_permit os) settled in
    let inner = ap (λ (os : List Operation). count_by gives_permit os) rest.done_is in let both = counted gives_permit rest.first rest.second in
    let outer = ap (λ (os : List Operation). count_by gives_permit os) take.done_is in let all = counted gives_permit take.first take.second in omega arith

batched_take_keeps_its_permit : IsTake (Batched 5) 1 2 1 warm_5 (looked ++ Claim 1 warm_5 ∷ []) → ⊥
batched_take_keeps_its_permit (order, take) = let one : ◌≤◌ 1 0 = permit_in _ _ _ take in omega (arith, one)

affine_take_keeps_its_permit : IsTake (Affine 5) 1 2 1 warm_5 (looked ++ Claim 1 warm_5 ∷ []) → ⊥
affine_take_keeps_its_permit (order, take) = let one : ◌≤◌ 1 0 = permit_in _ _ _ take in omega (arith, one)

any_take_keeps_its_permit : IsTake Any 0 2 1 warm_5 (scanned ++ Claim 1 warm_5 ∷ []) → ⊥
any_take_keeps_its_permit (order, take) = let one : ◌≤◌ 1 0 = permit_in _ _ _ take in omega (arith, one)

-- ---- a take that does not look

claims_at_once_by_a_tag : IsTake (Batched 5) 1 2 1 warm_5 (Claim 1 warm_5 ∷ WarmDown 1 ∷ []) → ⊥
claims_at_once_by_a_tag (order, take) = let e = take.done_is in let f = take.is_first.done_is in cc

claims_at_once_by_none : IsTake Any 0 2 1 warm_5 (Claim 1 warm_5 ∷ WarmDown 1 ∷ []) → ⊥
claims_at_once_by_none (order, take) = by take.is_first.seen take.is_first.all_seen (let e = take.done_is in let f = take.is_first.done_is in cc)
  where
    by : (words : List ℕ) → length words ≡ 2 → Claim 1 warm_5 ∷ WarmDown 1 ∷ [] ≡ loads_from 0 words ++ take.second → ⊥
    by [] two e = omega arith
    by (r ∷ rs) two e = cc

-- ---- the last claim

pub names_what_it_won : EndsWithClaim 1 warm_5 (looked ++ Claim 1 warm_5 ∷ WarmDown 1 ∷ [])
names_what_it_won = record { before = looked; after = WarmDown 1 ∷ []; done_is = refl; settled = warm_gives_a_permit 1; no_other = no_claim }
  where
    no_claim : (k : ℕ) (d : Operation) → k < 1 → is_claim (slice_index_or (WarmDown 1 ∷ []) k d) ≡ false
    no_claim zero d less = refl
    no_claim (suc k) d less = absurd (omega arith)

another_claim_follows : EndsWithClaim 0 cold (Claim 0 cold ∷ Claim 1 cold ∷ []) → ⊥
another_claim_follows e = by e.before e.after e.done_is e.no_other
  where
    by : (before after : List Operation) → Claim 0 cold ∷ Claim 1 cold ∷ [] ≡ before ++ (Claim 0 cold ∷ after) → All (λ o. is_claim o ≡ false) after → ⊥
    by [] after e none = let last : Claim 1 cold ∷ [] ≡ after = cc in true≢false (subst (λ (os : List Operation). All (λ o. is_claim o ≡ false) os) (sym last) none 0 (Claim 1 cold) (omega arith))
    by (b ∷ []) after e none = let one : ◌≡◌ {A = ℕ} 1 0 = cc in omega (arith, one)
    by (b ∷ c ∷ bs) after e none = let few = ap length e in let more = length-append bs (Claim 0 cold ∷ after) in omega arith

won_slot_is_not_settled : EndsWithClaim 1 warm_5 (looked ++ Claim 1 warm_5 ∷ []) → ⊥
won_slot_is_not_settled e =
    let (r, settled) = by_state warm_5 e.after e.settled in let all = ap (λ (os : List Operation). count_by gives_permit os) e.done_is in
    let one : count_by gives_permit (Claim 1 warm_5 ∷ e.after) ≡ 1 = ap (λ (os : List Operation). count_by gives_permit (Claim 1 warm_5 ∷ os)) settled in
    let parts = counted gives_permit e.before (Claim 1 warm_5 ∷ e.after) in omega arith
