-- The tenants of a file that is read may have what they want.
use Rattle.std.proofs.Common.{◌≡◌, ◌∙◌, ◌+◌, ◌≤◌, ◌&&◌, ◌++◌, ℕ, List, [], ◌∷◌, length, subst, sym, codes, arith, length-append}
use Rattle.std.specs.Prelude.{Result, Ok, Err, None, IfOk, is_none}
use Rattle.std.specs.Str.{bytes_eq}
use Rattle.std.specs.List.{All}
use Rattle.std.proofs.lemmas.Bool.{cond_both}
use Rattle.std.proofs.lemmas.List.Elements.{All-push}
use Rattle.pool_limits.specs.declared.numbers.Numbers.{Numbers}
use Rattle.pool_limits.specs.declared.wants.Want.{Want}
use Rattle.pool_limits.specs.Plans.{plan_fault, HasSlots}
use Rattle.pool_limits.proofs.WantLemmas.{may_want}
use Rattle.request_text.specs.declared.request.Directive.{Directive}
use Rattle.request_text.specs.declared.request.Reason.{Reason}
use Rattle.request_text.specs.declared.request.Reason.TheVariants as why
use Rattle.request_text.specs.Ladder.{◌>>=◌, demand}
use Rattle.request_words.specs.Words.{is_empty}
use Rattle.request_text.specs.Profiles.{has_tenants, profile_of}
use Rattle.request_text.specs.Tenants.{Tenants, for_after, tenant_after}
use Rattle.request_text.specs.Text.{Asked, ReadLines, declared_by, directive_of, profile_after, profile_in, requests_of, with_directive, with_tenants, words_after}
use Rattle.request_text.proofs.FileLemmas.{file_has}
use Rattle.request_text.proofs.TenantLemmas.{AddsTenant, any-IfOk, fault_is_over, for-keeps, step-IfOk, tenant-adds}

-- the tenants so far may have what they want
abbrev HasPlan : Numbers → ReadLines → Type 0
HasPlan n read = plan_fault n read.tenants.wants ≡ None

plan_of_more : (n : Numbers) (before after : Tenants) → plan_fault n before.wants ≡ None → AddsTenant n before after → plan_fault n after.wants ≡ None
plan_of_more n before after plan adds =
    let all : List Want = before.wants ++ adds.want ∷ [] in
    let stood = adds.few in
    let few : length all ≤ 15 = omega (arith, length-append before.wants (adds.want ∷ [])) in
    let each : All HasSlots all = All-push HasSlots before.wants adds.want (may_want n before.wants plan).each adds.slots in
    subst (λ (ws : List Want). plan_fault n ws ≡ None) (sym adds.wants) (fault_is_over n all few each ∙ adds.within)

with_more : (n : Numbers) (before : ReadLines) (tenants : Result Tenants Reason) → HasPlan n before → IfOk tenants (AddsTenant n before.tenants) → IfOk (with_tenants before tenants) (HasPlan n)
with_more n before (Ok after) plan adds = plan_of_more n before.tenants after plan adds
with_more n before (Err reason) plan adds = tt

with_same : (n : Numbers) (before : ReadLines) (tenants : Result Tenants Reason) → HasPlan n before → IfOk tenants (λ after. after.wants ≡ before.tenants.wants) → IfOk (with_tenants before tenants) (HasPlan n)
with_same n before (Ok after) plan same = subst (λ (ws : List Want). plan_fault n ws ≡ None) (sym same) plan
with_same n before (Err reason) plan same = tt

with_any : (n : Numbers) (before : ReadLines) (directive : Result Directive Reason) → HasPlan n before → IfOk (directive >>= λ d. Ok (with_directive before d)) (HasPlan n)
with_any n before (Ok directive) plan = plan
with_any n before (Err reason) plan = tt

plan_after_profile : (n : Numbers) (before : ReadLines) (words : List (List ℕ)) → HasPlan n before → IfOk (profile_after before words) (HasPlan n)
unfolding profile_after
plan_after_profile n before words plan =
    let early = demand (is_none before.profile && is_empty before.directives) why.LateProfile in
    step-IfOk early _ (λ _. Unit {0}) _ (any-IfOk early) (λ _ _.
    step-IfOk (profile_of words) _ (λ _. Unit {0}) _ (any-IfOk (profile_of words)) (λ profile _. plan))

plan_after_words : (n : Numbers) (before : ReadLines) (words : List (List ℕ)) → HasPlan n before → IfOk (words_after n before words) (HasPlan n)
unfolding words_after
plan_after_words n before [] plan = plan
plan_after_words n before (word ∷ words) plan =
    let P : Result ReadLines Reason → Type 0 = λ read. IfOk read (HasPlan n) in
    cond_both (bytes_eq word (codes "profile")) _ _ P (λ _. plan_after_profile n before words plan) (λ _.
    cond_both (has_tenants (profile_in before) && bytes_eq word (codes "tenant")) _ _ P (λ _. with_more n before (tenant_after n before.tenants words) plan (tenant-adds n before.tenants words)) (λ _.
    cond_both (has_tenants (profile_in before) && bytes_eq word (codes "for")) _ _ P (λ _. with_same n before (for_after before.tenants words) plan (for-keeps before.tenants words)) (λ _.
    with_any n before (directive_of (profile_in before) (declared_by before) word words) plan)))

pub accepted_plan : (n : Numbers) (text : List ℕ) → plan_fault n [] ≡ None → IfOk (requests_of n text) (λ asked. plan_fault n asked.wants ≡ None)
accepted_plan n text plan = file_has n (HasPlan n) (λ (asked : Asked). plan_fault n asked.wants ≡ None) (plan_after_words n) plan (λ read planned. planned) text
