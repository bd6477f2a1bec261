-- Takes by the module of tag 5 that prefer its warm slots, and takes that do not.
use Rattle.std.proofs.Common.{◌≡◌, ⊎_elim, inl, inr, ℕ, zero, suc, ◌+◌, ◌≤◌, true≢false, List, [], ◌∷◌, ◌++◌, length, refl, sym, subst, arith}
use Rattle.slot_words.specs.declared.views.Operation.{Operation}
use Rattle.slot_words.specs.declared.views.Operation.TheVariants.{Claim, Load, Release, WarmDown, WarmLoad}
use Rattle.slot_words.specs.Trails.{loads_from}
use Rattle.affinity_index.specs.Preference.{IsOwnSeen}
use Rattle.slot_pools.specs.Causes.{HasLostClaim}
use Rattle.slot_pools.specs.Preferring.{PrefersOwn}
use Rattle.trail_examples.proofs.Looks.{looked, seen}
use Rattle.trail_examples.proofs.LostClaims.{lost_among, lost_warm}
use Rattle.trail_examples.proofs.SlotWords.{awaiting_5, cold, warm_5, warm_5_held, warm_6}

pub own_slot_1 : IsOwnSeen 5 seen 1
own_slot_1 = record { free = refl; warm = refl; tag_is = refl }

pub slot_1_alone : (m : ℕ) → IsOwnSeen 5 seen m → m ≡ 1
slot_1_alone zero own = let e = own.warm in cc
slot_1_alone (suc zero) own = refl
slot_1_alone (suc (suc m)) own = absurd (true≢false own.free)

pub warm_slot_first : PrefersOwn 2 5 1 (looked ++ Claim 1 warm_5 ∷ WarmDown 1 ∷ [])
warm_slot_first = record { warm = 1; seen = seen; all_seen = refl; after = Claim 1 warm_5 ∷ WarmDown 1 ∷ []; done_is = refl; own = inl own_slot_1 }

abbrev lost_then_cold : List Operation
lost_then_cold = Claim 1 warm_5_held ∷ Claim 0 cold ∷ []

lost_1 : HasLostClaim 1 lost_then_cold
lost_1 = record { before = []; claim = Claim 1 warm_5_held ∷ []; after = Claim 0 cold ∷ []; lost = lost_warm; done_is = refl }

cold_slot_after_a_lost_claim : PrefersOwn 2 5 0 (looked ++ lost_then_cold)
cold_slot_after_a_lost_claim = record {
  warm = 1;
  seen = seen;
  all_seen = refl;
  after = lost_then_cold;
  done_is = refl;
  own = inr (λ m own. subst (λ (k : ℕ). HasLostClaim k lost_then_cold) (sym (slot_1_alone m own)) lost_1);
}

-- ---- takes that prefer another

abbrev look_at : List ℕ → List Operation → List Operation
look_at words after = (WarmLoad 1 ∷ loads_from 0 words) ++ after

pub same_loads : (k : ℕ) (xs ys : List ℕ) (os ps : List Operation) → length xs ≡ length ys → loads_from k xs ++ os ≡ loads_from k ys ++ ps → (xs ≡ ys) × (os ≡ ps)
same_loads k [] [] os ps long e = (refl, e)
same_loads k [] (y ∷ ys) os ps long e = absurd (omega arith)
same_loads k (x ∷ xs) [] os ps long e = absurd (omega arith)
same_loads k (x ∷ xs) (y ∷ ys) os ps long e =
    let rest : loads_from (k + 1) xs ++ os ≡ loads_from (k + 1) ys ++ ps = cc in let (same, others) = same_loads (k + 1) xs ys os ps (omega arith) rest in (cc, others)

-- a take saw what its look read, and did then what follows
saw : (tag n : ℕ) (words : List ℕ) (after : List Operation) (p : PrefersOwn (length words) tag n (look_at words after)) → (p.seen ≡ words) × (p.after ≡ after)
saw tag n words after p = let e = p.done_is in let rest : loads_from 0 words ++ after ≡ loads_from 0 p.seen ++ p.after = cc in
    let (same, others) = same_loads 0 words p.seen after p.after (sym p.all_seen) rest in (sym same, sym others)

cold_slot_before_a_warm_one_of_the_module : PrefersOwn 2 5 0 (looked ++ Claim 0 cold ∷ []) → ⊥
cold_slot_before_a_warm_one_of_the_module p = let (words, after) = saw 5 0 seen (Claim 0 cold ∷ []) p in ⊎_elim
    (λ (own : IsOwnSeen 5 seen 0). let e = own.warm in cc)
    (λ (each : (m : ℕ) → IsOwnSeen 5 seen m → HasLostClaim m (Claim 0 cold ∷ [])). let one : ◌≤◌ 1 0 = lost_among 1 _ (each 1 own_slot_1) in omega (arith, one))
    (rw (words, after) at p.own)

-- the warm slot was won, and given back
abbrev won_and_given_back : List Operation
won_and_given_back = Claim 1 warm_5 ∷ WarmDown 1 ∷ Release 1 cold ∷ Claim 0 cold ∷ []

warm_slot_is_given_back : PrefersOwn 2 5 0 (looked ++ won_and_given_back) → ⊥
warm_slot_is_given_back p = let (words, after) = saw 5 0 seen won_and_given_back p in ⊎_elim
    (λ (own : IsOwnSeen 5 seen 0). let e = own.warm in cc)
    (λ (each : (m : ℕ) → IsOwnSeen 5 seen m → HasLostClaim m won_and_given_back). let one : ◌≤◌ 1 0 = lost_among 1 _ (each 1 own_slot_1) in omega (arith, one))
    (rw (words, after) at p.own)

-- of two warm slots the claim of one was lost, and the other was not claimed
abbrev two_warm : List ℕ
two_warm = cold ∷ warm_5 ∷ warm_5 ∷ []

one_of_two_was_lost : PrefersOwn 3 5 0 (look_at two_warm lost_then_cold) → ⊥
one_of_two_was_lost p = let (words, after) = saw 5 0 two_warm lost_then_cold p in ⊎_elim
    (λ (own : IsOwnSeen 5 two_warm 0). let e = own.warm in cc)
    (λ (each : (m : ℕ) → IsOwnSeen 5 two_warm m → HasLostClaim m lost_then_cold). let one : ◌≤◌ 1 0 = lost_among 2 _ (each 2 (record { free = refl; warm = refl; tag_is = refl })) in omega (arith, one))
    (rw (words, after) at p.own)

-- slot 1 is warm for the module of tag 6: for this one a cold slot comes before it, and for that one not
abbrev another's : List ℕ
another's = cold ∷ warm_6 ∷ []

none_is_own : (m : ℕ) → IsOwnSeen 5 another's m → ⊥
none_is_own zero own = let e = own.warm in cc
none_is_own (suc zero) own = let six : ◌≡◌ {A = ℕ} 6 5 = own.tag_is in omega (arith, six)
none_is_own (suc (suc m)) own = true≢false own.free

-- nor is a slot of its tag that awaits its cleaning
none_is_own_while_it_awaits : IsOwnSeen 5 (awaiting_5 ∷ []) 0 → ⊥
none_is_own_while_it_awaits own = let e = own.warm in cc

cold_slot_before_another's : PrefersOwn 2 5 0 (look_at another's (Claim 0 cold ∷ []))
cold_slot_before_another's = record { warm = 1; seen = another's; all_seen = refl; after = Claim 0 cold ∷ []; done_is = refl; own = inr (λ m own. absurd (none_is_own m own)) }

cold_slot_before_its_own : PrefersOwn 2 6 0 (look_at another's (Claim 0 cold ∷ [])) → ⊥
cold_slot_before_its_own p = let (words, after) = saw 6 0 another's (Claim 0 cold ∷ []) p in ⊎_elim
    (λ (own : IsOwnSeen 6 another's 0). let e = own.warm in cc)
    (λ (each : (m : ℕ) → IsOwnSeen 6 another's m → HasLostClaim m (Claim 0 cold ∷ [])). let one : ◌≤◌ 1 0 = lost_among 1 _ (each 1 (record { free = refl; warm = refl; tag_is = refl })) in omega (arith, one))
    (rw (words, after) at p.own)

-- ---- takes that did not look

warm_load_alone : PrefersOwn 2 5 0 (WarmLoad 1 ∷ []) → ⊥
warm_load_alone p = by p.seen p.all_seen p.done_is
  where
    by : (words : List ℕ) → length words ≡ 2 → WarmLoad 1 ∷ [] ≡ (WarmLoad p.warm ∷ loads_from 0 words) ++ p.after → ⊥
    by [] two e = omega arith
    by (r ∷ rs) two e = cc

slot_1_is_not_seen : PrefersOwn 2 5 0 (WarmLoad 1 ∷ Load 0 cold ∷ Claim 0 cold ∷ []) → ⊥
slot_1_is_not_seen p = by p.seen p.all_seen p.done_is
  where
    by : (words : List ℕ) → length words ≡ 2 → WarmLoad 1 ∷ Load 0 cold ∷ Claim 0 cold ∷ [] ≡ (WarmLoad p.warm ∷ loads_from 0 words) ++ p.after → ⊥
    by [] two e = omega arith
    by (r ∷ []) two e = omega arith
    by (r ∷ q ∷ rs) two e = cc
