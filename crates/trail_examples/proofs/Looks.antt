-- Looks at two slots by the module of tag 5: slot 0 is cold, and slot 1 warm for it.
use Rattle.std.proofs.Common.{◌≡◌, inl, ℕ, zero, suc, ◌<◌, ◌≤◌, ◌==◌, true, List, [], ◌∷◌, ◌++◌, length, count_by, refl, append-nil, arith}
use Rattle.std.specs.Prelude.{slice_index_or, is_some}
use Rattle.std.proofs.lemmas.Bool.Decides.{nat_tests}
use Rattle.pool_core.specs.StateWords.{bit}
use Rattle.slot_words.specs.declared.views.Operation.{Operation}
use Rattle.slot_words.specs.declared.views.Operation.TheVariants.{Load, WarmLoad}
use Rattle.slot_words.specs.Trails.{loads_from}
use Rattle.affinity_index.specs.Orders.{seen_rank, Precedes}
use Rattle.affinity_index.specs.Preference.{OwnComeFirst}
use Rattle.slot_pools.specs.Looks.{IsLook, IsScan}
use Rattle.affinity_index.specs.Unheld.{unheld}
use Rattle.trail_examples.proofs.SlotWords.{cold, warm_5}

abbrev pub seen : List ℕ
seen = cold ∷ warm_5 ∷ []

abbrev pub looked : List Operation
looked = WarmLoad 1 ∷ loads_from 0 seen

-- where one slot may be warm and is, its own warm slot comes first
none_past : (n : ℕ) → 2 ≤ n → count_by (λ m. m == n) (1 ∷ 0 ∷ []) ≡ 0
none_past n past = grind (arith, nat_tests)

each_once : (n : ℕ) → count_by (λ m. m == n) (1 ∷ 0 ∷ []) ≡ bit (is_some (seen_rank seen 5 true n))
each_once zero = refl
each_once (suc zero) = refl
each_once (suc (suc n)) = none_past (suc (suc n)) (omega arith)

ranked : (j k : ℕ) → j < k → k < 2 → Precedes seen 5 true (slice_index_or (1 ∷ 0 ∷ []) j 0) (slice_index_or (1 ∷ 0 ∷ []) k 0)
ranked zero zero less within = absurd (omega arith)
ranked zero (suc zero) less within = inl (omega arith)
ranked zero (suc (suc k)) less within = absurd (omega arith)
ranked (suc j) k less within = absurd (omega arith)

pub look : IsLook 1 2 5 (1 ∷ 0 ∷ []) looked
look = record { warm = 1; seen = seen; all_seen = refl; order_is = record { once = each_once; ranked = ranked }; done_is = refl }

-- ---- what no look is

some_seen : (k : ℕ) (words : List ℕ) (os : List Operation) → 2 ≤ length words → loads_from k words ++ os ≡ Load 0 cold ∷ [] → ⊥
some_seen k [] os two e = omega arith
some_seen k (r ∷ []) os two e = omega arith
some_seen k (r ∷ q ∷ rs) os two e = cc

look_at_one_slot_of_two : (order : List ℕ) → IsLook 1 2 5 order (WarmLoad 1 ∷ Load 0 cold ∷ []) → ⊥
look_at_one_slot_of_two order l = some_seen 0 l.seen [] (let two = l.all_seen in omega arith) (let e = l.done_is in rw append-nil (cc))

look_without_the_warm_word : (order : List ℕ) → IsLook 1 2 5 order (loads_from 0 seen) → ⊥
look_without_the_warm_word order l = let e = l.done_is in cc

scan_of_one_slot_of_two : (order : List ℕ) → IsScan 2 order (Load 0 cold ∷ []) → ⊥
scan_of_one_slot_of_two order s = some_seen 0 s.seen [] (let two = s.all_seen in omega arith) (let e = s.done_is in rw append-nil (cc))

-- a held slot stands in no order of a scan
held_slot_is_listed : IsScan 1 (0 ∷ []) (Load 0 1 ∷ []) → ⊥
held_slot_is_listed s = listed s.seen s.all_seen s.done_is s.order_is
  where
    listed : (words : List ℕ) → length words ≡ 1 → Load 0 1 ∷ [] ≡ loads_from 0 words → 0 ∷ [] ≡ unheld words → ⊥
    listed [] one e order = cc
    listed (r ∷ []) one e order = let read : r ≡ 1 = cc in let none : ◌≡◌ {A = List ℕ} (0 ∷ []) [] = rw read at order in cc
    listed (r ∷ q ∷ rs) one e order = omega arith

-- ---- which come first

own_slot_comes_first : OwnComeFirst 5 seen (1 ∷ 0 ∷ [])
own_slot_comes_first zero zero less within own = absurd (omega arith)
own_slot_comes_first zero (suc zero) less within own = record { free = refl; warm = refl; tag_is = refl }
own_slot_comes_first zero (suc (suc k)) less within own = absurd (omega arith)
own_slot_comes_first (suc j) k less within own = absurd (omega arith)

cold_slot_comes_first : OwnComeFirst 5 seen (0 ∷ 1 ∷ []) → ⊥
cold_slot_comes_first first = let own = first 0 1 (omega arith) (omega arith) (record { free = refl; warm = refl; tag_is = refl }) in let e = own.warm in cc
