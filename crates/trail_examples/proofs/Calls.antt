-- Calls on a host by the module of tag 5: the slots that they are served with, what they find where a kind is full, and calls after a retirement.
use Rattle.std.proofs.Common.{◌≡◌, ⊎_elim, ℕ, ◌+◌, ◌≤◌, ◌==◌, Bool, true, false, MatchBool, List, [], ◌∷◌, ◌++◌, Some, append_assoc, count_by, refl, sym, ap, ◌∙◌, subst, arith}
use Rattle.std.proofs.lemmas.List.Sums.{sum_by-append}
use Rattle.pool_core.specs.StateWords.{bit}
use Rattle.slot_words.specs.declared.views.Operation.{Operation}
use Rattle.slot_words.specs.declared.views.Operation.TheVariants.{Claim, Release, Stamp, WarmDown, WarmUp}
use Rattle.slot_words.specs.Owned.{slots_of}
use Rattle.slot_words.specs.Passes.{trail}
use Rattle.slot_words.specs.Trails.{loads_from}
use Rattle.retired_tags.specs.declared.tags.RetiredTags.{RetiredTags}
use Rattle.retired_tags.specs.declared.views.TagStep.{TagStep}
use Rattle.retired_tags.specs.declared.views.TagStep.TheVariants.{RetireOr}
use Rattle.retired_tags.specs.Passes as retired
use Rattle.retired_tags.specs.Passes.{steps, TagPass}
use Rattle.retired_tags.specs.Steps.{tells, Knows}
use Rattle.affinity_index.specs.Preference.{IsOwnSeen}
use Rattle.slot_pools.specs.Causes.{FullAfterMark, HasLostClaim}
use Rattle.slot_pools.specs.Gives.{IsWarmGive}
use Rattle.pool_model.specs.Contents.{Named}
use Rattle.pool_model.specs.declared.kinds.Kind.TheVariants.{Memory}
use Rattle.pool_host.specs.declared.host.Host.{Host}
use Rattle.pool_host.specs.declared.passes.Passes.{Passes}
use Rattle.pool_host.specs.declared.answers.Retire.TheVariants.{First}
use Rattle.pool_host.specs.Preferring.{FoundAllHeld, IsServedOwn}
use Rattle.pool_host.specs.Retirements.{Calls, MakeAll, Retires}
use Rattle.trail_examples.proofs.Causes as causes
use Rattle.trail_examples.proofs.Looks.{looked, seen}
use Rattle.trail_examples.proofs.LostClaims.{counted, is_lost_claim, lost_among}
use Rattle.trail_examples.proofs.Preferring.{own_slot_1, same_loads, slot_1_alone, warm_slot_first}
use Rattle.trail_examples.proofs.SlotWords.{cold, warm_5}
use Rattle.trail_examples.proofs.Takes.{names_what_it_won}

-- ---- served

-- the give of a table in a pool of which one slot may be warm
abbrev IsGive : ℕ → List Operation → Type 0
IsGive n = IsWarmGive 1 n 5

served_with_its_own : IsServedOwn 2 5 IsGive (looked ++ Claim 1 warm_5 ∷ WarmDown 1 ∷ WarmUp 0 ∷ Stamp 0 ∷ Release 1 warm_5 ∷ [])
served_with_its_own = (
  1,
  warm_5,
  record {
    first = looked ++ Claim 1 warm_5 ∷ WarmDown 1 ∷ [];
    second = WarmUp 0 ∷ Stamp 0 ∷ Release 1 warm_5 ∷ [];
    done_is = refl;
    is_first = (warm_slot_first, names_what_it_won);
    is_second = (0, (0, refl));
  },
)

abbrev is_give_of : ℕ → Operation → Bool
is_give_of n (Release m stored) = m == n
is_give_of n o = false

given_by : (r : ℕ) (b : Bool) (given : ℕ → List Operation) (refused done : List Operation) → ((s : ℕ) → 1 ≤ count_by (is_give_of 1) (WarmUp r ∷ given s)) → ((d : ℕ) → 1 ≤ count_by (is_give_of 1) (WarmUp r ∷ WarmDown d ∷ refused))
    → MatchBool b ((s : ℕ) × (done ≡ WarmUp r ∷ given s)) ((d : ℕ) × (done ≡ WarmUp r ∷ WarmDown d ∷ refused)) → 1 ≤ count_by (is_give_of 1) done
given_by r true given refused done by_permit by_refusal (s, e) = subst (λ (os : List Operation). 1 ≤ count_by (is_give_of 1) os) (sym e) (by_permit s)
given_by r false given refused done by_permit by_refusal (d, e) = subst (λ (os : List Operation). 1 ≤ count_by (is_give_of 1) os) (sym e) (by_refusal d)

gives_slot_1 : (done : List Operation) → IsGive 1 done → 1 ≤ count_by (is_give_of 1) done
gives_slot_1 done (r, is) = given_by r _ _ _ done (λ s. omega arith) (λ d. omega arith) is

-- it took the cold slot and gave it back
abbrev with_cold : List Operation
with_cold = Claim 0 cold ∷ WarmUp 0 ∷ Stamp 0 ∷ Release 0 warm_5 ∷ []

served_with_a_cold_one : IsServedOwn 2 5 IsGive (looked ++ with_cold) → ⊥
served_with_a_cold_one (n, read, both) =
    let p = both.is_first.0 in let e = both.done_is in let f = p.done_is in
    let split = append_assoc (loads_from 0 p.seen) p.after both.second in
    let rest : loads_from 0 seen ++ with_cold ≡ loads_from 0 p.seen ++ (p.after ++ both.second) = cc in
    let (words, others) = same_loads 0 seen p.seen with_cold (p.after ++ both.second) (sym p.all_seen) rest in ⊎_elim
    (λ (own : IsOwnSeen 5 p.seen n).
    let one = slot_1_alone n (subst (λ (ws : List ℕ). IsOwnSeen 5 ws n) (sym words) own) in let some = gives_slot_1 both.second (subst (λ (k : ℕ). IsGive k both.second) one both.is_second) in
    let all : 0 ≡ count_by (is_give_of 1) p.after + count_by (is_give_of 1) both.second = ap (λ (os : List Operation). count_by (is_give_of 1) os) others ∙ counted (is_give_of 1) p.after both.second in omega arith)
    (λ (each : (m : ℕ) → IsOwnSeen 5 p.seen m → HasLostClaim m p.after).
    let some = lost_among 1 p.after (each 1 (subst (λ (ws : List ℕ). IsOwnSeen 5 ws 1) words own_slot_1)) in
    let all : 0 ≡ count_by (is_lost_claim 1) p.after + count_by (is_lost_claim 1) both.second = ap (λ (os : List Operation). count_by (is_lost_claim 1) os) others ∙ counted (is_lost_claim 1) p.after both.second in omega arith)
    p.own

-- ---- full

module _ {N : Type 0} (host : Host N) (m : Named) (before after : Passes N) (slots : slots_of host.memories ≡ 2) (new : trail before.memory ≡ []) where
  full_has_its_cause : trail after.memory ≡ causes.full_memory → FoundAllHeld host m before after Memory
  full_has_its_cause is = record { done = causes.full_memory; grown = is ∙ ap (λ (os : List Operation). os ++ causes.full_memory) (sym new); is = rw slots causes.full_after_its_mark }

  memory_1_is_left_out : trail after.memory ≡ causes.one_left_out → FoundAllHeld host m before after Memory → ⊥
  memory_1_is_left_out is found =
      let whole : found.done ≡ causes.one_left_out = sym (found.grown ∙ ap (λ (os : List Operation). os ++ found.done) new) ∙ is in
      causes.slot_1_is_left_out (subst (λ (k : ℕ). FullAfterMark k causes.one_left_out) slots (subst (FullAfterMark (slots_of host.memories)) whole found.is))

-- ---- retired

knows_after : (before joined : List TagStep) (read : Bool) → Knows 5 ((before ++ RetireOr 5 read ∷ []) ++ joined)
knows_after before joined read =
    let all = sum_by-append (λ (o : TagStep). bit (tells 5 o)) (before ++ RetireOr 5 read ∷ []) joined in let first = sum_by-append (λ (o : TagStep). bit (tells 5 o)) before (RetireOr 5 read ∷ []) in
    let one : count_by (tells 5) (RetireOr 5 read ∷ []) ≡ 1 = refl in omega arith

called_after_its_retirement : (tags : RetiredTags) (before after : TagPass) → MakeAll tags (Retires 5 (First 1) ∷ Calls 5 (Some false) ∷ []) before after → ⊥
called_after_its_retirement tags before after (between, set, (last, look, same)) =
    let knows : Knows 5 (steps between) = rw set.step (knows_after (retired.trail before) between.me.0.joined_trail false) in
    let e : false ≡ true = look.known knows in cc
