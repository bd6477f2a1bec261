-- The last claim of a take names its slot.
use Rattle.std.proofs.Common.{◌≡◌, ℕ, false, List, [], ◌∷◌, ◌++◌, refl, sym, ap, ◌∙◌, subst, ⊎_elim, append_assoc}
use Rattle.std.specs.List.{All}
use Rattle.std.proofs.lemmas.List.Elements.{All-nil, All-cons}
use Rattle.pool_core.specs.declared.words.State.{State}
use Rattle.pool_core.specs.declared.words.State.TheVariants.{Cold, Warm, Awaiting}
use Rattle.slot_words.specs.declared.views.Operation.{Operation}
use Rattle.slot_words.specs.declared.views.Operation.TheVariants.{Claim, WarmDown, AwaitDown}
use Rattle.slot_words.specs.Parts.{Then}
use Rattle.decommit_batch.specs.Settle.{IsSettled, IsSettledFrom}
use Rattle.slot_pools.specs.Rows.{IsWonAlong}
use Rattle.slot_pools.specs.declared.policy.Policy.{Policy}
use Rattle.slot_pools.specs.declared.policy.Policy.TheVariants.{Batched, Affine, Any}
use Rattle.slot_pools.specs.Wins.{all_numbers, IsLastTry, IsWin}
use Rattle.slot_pools.specs.Takes.{IsTake}
use Rattle.slot_pools.specs.LastClaims.{is_claim, EndsWithClaim}

abbrev NoClaim : List Operation → Type 0
NoClaim done = All (λ o. is_claim o ≡ false) done

one_other : (o : Operation) (done : List Operation) → is_claim o ≡ false → done ≡ o ∷ [] → NoClaim done
one_other o done other is = subst NoClaim (sym is) (All-cons (λ p. is_claim p ≡ false) o [] other (All-nil (λ p. is_claim p ≡ false)))

settling_claims_none : (s : State) (done : List Operation) → IsSettledFrom s done → NoClaim done
settling_claims_none Cold done is = subst NoClaim (sym is) (All-nil (λ o. is_claim o ≡ false))
settling_claims_none Warm done is = one_other (WarmDown is.0) done refl is.1
settling_claims_none Awaiting done is = one_other (AwaitDown is.0) done refl is.1

-- the claim of number n that read this is the last of these operations
abbrev EndsIn : ℕ → ℕ → List Operation → Type 0
EndsIn n read done = (before : List Operation) × (done ≡ before ++ Claim n read ∷ [])

ends_second : (n read : ℕ) (First Second : List Operation → Type 0) (done : List Operation) → Then First Second done → ((second : List Operation) → Second second → EndsIn n read second) → EndsIn n read done
ends_second n read First Second done both ends = let end = ends both.second both.is_second in
    (both.first ++ end.0, both.done_is ∙ ap (λ os. both.first ++ os) end.1 ∙ sym (append_assoc both.first end.0 (Claim n read ∷ [])))

won_ends : (ns : List ℕ) (n read : ℕ) (done : List Operation) → IsWonAlong ns n read done → EndsIn n read done
won_ends ns n read done won = (won.lost, won.done_is)

last_try_ends : (policy : Policy) (limit slots n read : ℕ) (done : List Operation) → IsLastTry policy limit slots (IsWonAlong (all_numbers slots) n read) done → EndsIn n read done
last_try_ends (Batched tag) limit slots n read done marked = ends_second n read _ _ done marked
    (λ flushed is_flushed. ends_second n read _ _ flushed is_flushed (won_ends (all_numbers slots) n read))
last_try_ends (Affine tag) limit slots n read done won = won_ends (all_numbers slots) n read done won
last_try_ends Any limit slots n read done won = won_ends (all_numbers slots) n read done won

win_ends : (policy : Policy) (limit slots : ℕ) (order : List ℕ) (n read : ℕ) (done : List Operation) → IsWin policy limit slots order n read done → EndsIn n read done
win_ends policy limit slots order n read done =
    ⊎_elim (won_ends order n read done) (λ swept. ends_second n read _ _ done swept (last_try_ends policy limit slots n read))

-- a look, a win that ends in a claim, and what settles it
taken_ends : (n read : ℕ) (Look Win : List Operation → Type 0) (done : List Operation) → ((win : List Operation) → Win win → EndsIn n read win) → Then Look (Then Win (IsSettled read)) done → EndsWithClaim n read done
taken_ends n read Look Win done ends take =
    let win = take.is_second in let end = ends win.first win.is_first in record {
      before = take.first ++ end.0;
      after = win.second;
      done_is = take.done_is ∙ ap (λ os. take.first ++ os) (win.done_is ∙ ap (λ os. os ++ win.second) end.1 ∙ append_assoc end.0 (Claim n read ∷ []) win.second) ∙ sym (append_assoc take.first end.0 (Claim n read ∷ win.second));
      settled = win.is_second;
      no_other = settling_claims_none win.is_second.0.target.state win.second win.is_second.2;
    }

pub take_ends : (policy : Policy) (limit slots n read : ℕ) (done : List Operation) → IsTake policy limit slots n read done → EndsWithClaim n read done
take_ends policy limit slots n read done take = taken_ends n read _ _ done (win_ends policy limit slots take.0 n read) take.1
