-- A take prefers the slots of its module.
use Rattle.std.proofs.Common.{◌≡◌, ◌⊎◌, ⊎_elim, inl, inr, ℕ, ◌<◌, Bool, List, [], ◌∷◌, ◌++◌, length, take, sym, ap, ◌∙◌, subst, arith, append_assoc}
use Rattle.std.specs.Prelude.{slice_index_or, leb}
use Rattle.std.proofs.lemmas.List.{length-take-le, get_or-take}
use Rattle.slot_words.specs.declared.views.Operation.{Operation}
use Rattle.slot_words.specs.declared.views.Operation.TheVariants.{Claim}
use Rattle.slot_words.specs.Parts.{Then}
use Rattle.slot_words.specs.Rows.{IsLost}
use Rattle.slot_pools.specs.Rows.{AreLost, IsWonAlong}
use Rattle.slot_words.proofs.Parts.{part_at}
use Rattle.affinity_index.specs.Orders.{IsOrder}
use Rattle.affinity_index.specs.Preference.{IsOwnSeen, OwnAreListed, OwnOrAllBefore}
use Rattle.slot_pools.specs.Looks.{IsLook}
use Rattle.slot_pools.specs.declared.policy.Policy.TheVariants.{Batched, Affine}
use Rattle.slot_pools.specs.Takes.{IsTake}
use Rattle.slot_pools.specs.Causes.{HasLostClaim}
use Rattle.slot_pools.specs.Preferring.{PrefersOwn}

-- a lost claim stays one among more operations
lost_within : (n : ℕ) (done more : List Operation) → HasLostClaim n done → HasLostClaim n (done ++ more)
lost_within n done more h = record {
  before = h.before;
  claim = h.claim;
  after = h.after ++ more;
  lost = h.lost;
  done_is = ap (λ os. os ++ more) h.done_is ∙ append_assoc h.before (h.claim ++ h.after) more ∙ ap (λ os. h.before ++ os) (append_assoc h.claim h.after more);
}

-- a number of a row that was lost
lost_at : (ns : List ℕ) (done : List Operation) → AreLost ns done → (k : ℕ) → k < length ns → HasLostClaim (slice_index_or ns k 0) done
lost_at ns done lost k within = let at = part_at IsLost ns 0 done lost k within in record {
  before = at.before;
  claim = at.part;
  after = at.after;
  lost = at.is;
  done_is = at.done_is;
}

length-take-less : (ns : List ℕ) (p k : ℕ) → p < length ns → k < p → (k < length (take p ns)) × (slice_index_or (take p ns) k 0 ≡ slice_index_or ns k 0)
length-take-less ns p k within less = (let e = length-take-le p ns (omega arith) in omega arith, get_or-take p ns k 0 less)

module _ (tag : ℕ) (seen order : List ℕ) (listed : OwnAreListed tag seen order) (before : OwnOrAllBefore tag seen order) (n : ℕ) where
  abbrev Prefers : List Operation → Type 0
  Prefers done = IsOwnSeen tag seen n ⊎ ((m : ℕ) → IsOwnSeen tag seen m → HasLostClaim m done)

  won_prefers : (read : ℕ) (done : List Operation) → IsWonAlong order n read done → Prefers done
  won_prefers read done won = ⊎_elim
      (λ own. inl (subst (IsOwnSeen tag seen) (sym won.number_is) own))
      (λ all. inr (λ m own.
      let at = all m own in let t = length-take-less order won.place at.0 won.within at.1 in
      let lost : HasLostClaim (slice_index_or (take won.place order) at.0 0) won.lost = lost_at (take won.place order) won.lost won.are_lost at.0 t.0 in
      subst (HasLostClaim m) (sym won.done_is) (lost_within m won.lost (Claim n read ∷ []) (subst (λ (k : ℕ). HasLostClaim k won.lost) (t.1 ∙ at.2) lost))))
      (before won.place won.within)

  swept_prefers : (Rest : List Operation → Type 0) (done : List Operation) → Then (AreLost order) Rest done → Prefers done
  swept_prefers Rest done swept = inr (λ m own.
      let at = listed m own in
      subst (HasLostClaim m) (sym swept.done_is) (lost_within m swept.first swept.second (subst (λ (k : ℕ). HasLostClaim k swept.first) at.2 (lost_at order swept.first swept.is_first at.0 at.1))))

  more_prefers : (done more : List Operation) → Prefers done → Prefers (done ++ more)
  more_prefers done more = ⊎_elim (λ own. inl own) (λ all. inr (λ m own. lost_within m done more (all m own)))

-- what the order of a module says of its own slots
abbrev pub Orders : Type 0
Orders = (seen : List ℕ) (tag : ℕ) (full : Bool) (order : List ℕ) → IsOrder seen tag full order → OwnAreListed tag seen order × OwnOrAllBefore tag seen order

pub batched_prefers : Orders → (limit slots tag n read : ℕ) (done : List Operation) → IsTake (Batched tag) limit slots n read done → PrefersOwn slots tag n done
batched_prefers orders limit slots tag n read done take =
    let look : IsLook limit slots tag take.0 take.1.first = take.1.is_first in let win = take.1.is_second in
    let says = orders look.seen tag (leb limit look.warm) take.0 look.order_is in record {
      warm = look.warm;
      seen = look.seen;
      all_seen = look.all_seen;
      after = take.1.second;
      done_is = take.1.done_is ∙ ap (λ os. os ++ take.1.second) look.done_is;
      own = rw win.done_is (more_prefers tag look.seen take.0 says.0 says.1 n win.first win.second
          (⊎_elim (won_prefers tag look.seen take.0 says.0 says.1 n read win.first) (swept_prefers tag look.seen take.0 says.0 says.1 n _ win.first) win.is_first));
    }

pub affine_prefers : Orders → (limit slots tag n read : ℕ) (done : List Operation) → IsTake (Affine tag) limit slots n read done → PrefersOwn slots tag n done
affine_prefers orders limit slots tag n read done take =
    let look : IsLook limit slots tag take.0 take.1.first = take.1.is_first in let win = take.1.is_second in
    let says = orders look.seen tag (leb limit look.warm) take.0 look.order_is in record {
      warm = look.warm;
      seen = look.seen;
      all_seen = look.all_seen;
      after = take.1.second;
      done_is = take.1.done_is ∙ ap (λ os. os ++ take.1.second) look.done_is;
      own = rw win.done_is (more_prefers tag look.seen take.0 says.0 says.1 n win.first win.second
          (⊎_elim (won_prefers tag look.seen take.0 says.0 says.1 n read win.first) (swept_prefers tag look.seen take.0 says.0 says.1 n _ win.first) win.is_first));
    }
