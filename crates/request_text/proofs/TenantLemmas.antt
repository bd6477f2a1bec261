-- What tenants can't have, and what the lines that name them leave.
use Rattle.std.proofs.Common.{◌≡◌, ℕ, ◌<◌, ◌≤◌, Bool, true, false, List, [], ◌∷◌, ◌++◌, length, refl, ap, ◌∙◌, arith, length-append}
use Rattle.std.specs.Prelude.{Option, Some, None, Result, Ok, Err, IfOk, is_none, nat_le, nat_lt}
use Rattle.std.specs.List.{All}
use Rattle.std.specs.Option.{ok_or, option_or}
use Rattle.std.proofs.lemmas.Bool.{cond-false, le-ltb}
use Rattle.std.proofs.lemmas.Bool.Decides.{nat_tests}
use Rattle.std.proofs.lemmas.List.Elements.{All-push}
use Rattle.pool_limits.specs.declared.numbers.Numbers.{Numbers}
use Rattle.pool_limits.specs.declared.wants.PlanFault.{PlanFault}
use Rattle.pool_limits.specs.declared.wants.Want.{Want}
use Rattle.pool_limits.specs.Plans.{first_over, plan_fault, HasSlots}
use Rattle.pool_limits.proofs.WantLemmas.{none_bad}
use Rattle.request_text.specs.declared.request.Reason.{Reason}
use Rattle.request_text.specs.declared.request.Reason.TheVariants as why
use Rattle.request_text.specs.Ladder.{◌>>=◌, demand}
use Rattle.request_text.specs.Reading.{AreTenants}
use Rattle.request_text.specs.Tenants.{Tenants, for_after, share_number, want_of, slots_in, tenant_after, tenant_named, tenants_with}

-- ---- what can't be had

-- where few tenants want slots of each kind each, they can't have what they want exactly where that is too much together
pub fault_is_over : (n : Numbers) (ws : List Want) → length ws ≤ 15 → All HasSlots ws → plan_fault n ws ≡ first_over n ws
fault_is_over n ws few each =
    cond-false _ _ _ (le-ltb 15 (length ws) few) ∙ ap (λ (bad : Option PlanFault). option_or bad (first_over n ws)) (none_bad 1 ws each)

-- ---- steps of the ladder

-- what the next step gives, where the one before gave a value
pub step-IfOk : {A B E : Type 0} (r : Result A E) (next : A → Result B E) (Q : A → Type 0) (P : B → Type 0) → IfOk r Q → ((x : A) → Q x → IfOk (next x) P) → IfOk (r >>= next) P
step-IfOk (Ok x) next Q P q h = h x q
step-IfOk (Err e) next Q P q h = tt

-- a test that let a line pass holds
pub demand-IfOk : (test : Bool) (reason : Reason) → IfOk (demand test reason) (λ _. test ≡ true)
demand-IfOk true reason = refl
demand-IfOk false reason = tt

pub any-IfOk : {A E : Type 0} (r : Result A E) → IfOk r (λ _. Unit {0})
any-IfOk (Ok x) = tt
any-IfOk (Err e) = tt

-- ---- the lines

slots-some : (word : List ℕ) → IfOk (slots_in word) (λ slots. 1 ≤ slots)
unfolding slots_in
slots-some word =
    step-IfOk (share_number word) _ (λ _. Unit {0}) _ (any-IfOk (share_number word)) (λ slots _.
    step-IfOk (demand (nat_le 1 slots) why.BadShare) _ (λ _. nat_le 1 slots ≡ true) _ (demand-IfOk (nat_le 1 slots) why.BadShare) (λ _ some. grind (arith, nat_tests)))

share-has_slots : (instances memories tables warm : List ℕ) → IfOk (want_of instances memories tables warm) HasSlots
unfolding want_of
share-has_slots instances memories tables warm =
    step-IfOk (slots_in instances) _ (λ i. 1 ≤ i) _ (slots-some instances) (λ i some_instances.
    step-IfOk (slots_in memories) _ (λ m. 1 ≤ m) _ (slots-some memories) (λ m some_memories.
    step-IfOk (slots_in tables) _ (λ t. 1 ≤ t) _ (slots-some tables) (λ t some_tables.
    step-IfOk (share_number warm) _ (λ _. Unit {0}) _ (any-IfOk (share_number warm)) (λ w _.
    record { instances = some_instances; memories = some_memories; tables = some_tables }))))

-- one tenant more, which wants slots of each kind, where few stood before and all together don't want too much
pub record AddsTenant (n : Numbers) (before after : Tenants) : Type 0 where
  pub want : Want
  pub slots : HasSlots want
  pub few : length before.wants < 15
  pub within : first_over n (before.wants ++ want ∷ []) ≡ None
  pub wants : after.wants ≡ before.wants ++ want ∷ []

no_fault : {A : Type 0} (o : Option A) → is_none o ≡ true → o ≡ None
no_fault None h = refl
no_fault (Some x) h = absurd (cc)

joined : (n : Numbers) (before : Tenants) (name : List ℕ) (want : Want) → HasSlots want → length before.wants < 15 → IfOk (tenants_with n before name want) (AddsTenant n before)
unfolding tenants_with
joined n before name want slots few =
    let over : Option PlanFault = first_over n (before.wants ++ want ∷ []) in
    step-IfOk (demand (is_none over) why.ShareTooLarge) _ (λ _. is_none over ≡ true) _ (demand-IfOk (is_none over) why.ShareTooLarge) (λ _ none.
    record { want = want; slots = slots; few = few; within = no_fault over none; wants = refl })

pub tenant-adds : (n : Numbers) (before : Tenants) (words : List (List ℕ)) → IfOk (tenant_after n before words) (AddsTenant n before)
unfolding tenant_after
tenant-adds n before (name ∷ instances ∷ memories ∷ tables ∷ warm ∷ []) =
    step-IfOk (demand (nat_le (length name) 64) why.BadName) _ (λ _. Unit {0}) _ (any-IfOk (demand (nat_le (length name) 64) why.BadName)) (λ _ _.
    step-IfOk (want_of instances memories tables warm) _ HasSlots _ (share-has_slots instances memories tables warm) (λ want slots.
    step-IfOk (demand (is_none (tenant_named before name)) why.NameUsedTwice) _ (λ _. Unit {0}) _ (any-IfOk (demand (is_none (tenant_named before name)) why.NameUsedTwice)) (λ _ _.
    step-IfOk (demand (nat_lt (length before.wants) 15) why.TooManyTenants) _ (λ _. nat_lt (length before.wants) 15 ≡ true) _ (demand-IfOk (nat_lt (length before.wants) 15) why.TooManyTenants) (λ _ few.
    joined n before name want slots (grind (arith, nat_tests))))))
tenant-adds n before words = tt

-- `for` changes no want
pub for-keeps : (before : Tenants) (words : List (List ℕ)) → IfOk (for_after before words) (λ after. after.wants ≡ before.wants)
unfolding for_after
for-keeps before (name ∷ []) =
    step-IfOk (demand (nat_le (length name) 64) why.BadName) _ (λ _. Unit {0}) _ (any-IfOk (demand (nat_le (length name) 64) why.BadName)) (λ _ _.
    step-IfOk (ok_or (tenant_named before name) why.UnknownTenant) _ (λ _. Unit {0}) _ (any-IfOk (ok_or (tenant_named before name) why.UnknownTenant)) (λ tenant _. refl))
for-keeps before words = tt

-- what holds of tenants holds with one more, which wants slots of each kind, where few stand before it
pub tenants_more : (before : Tenants) (name : List ℕ) (want : Want) → AreTenants before → length before.wants < 15 → HasSlots want
    → AreTenants (record before { names = before.names ++ name ∷ []; wants = before.wants ++ want ∷ [] })
tenants_more before name want are few slots =
    let names = length-append before.names (name ∷ []) in
    let wants = length-append before.wants (want ∷ []) in
    record {
      named = omega (arith, names, wants, are.named);
      few = omega (arith, wants);
      each = All-push HasSlots before.wants want are.each slots;
      current = omega (arith, wants, are.current);
    }
