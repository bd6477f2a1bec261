-- A file whose calls may be made in slices names no tenant and retires nothing.
use Rattle.std.proofs.Common.{◌≡◌, ◌∙◌, ◌++◌, ◌&&◌, ℕ, true, false, List, [], ◌∷◌, refl, sym, append-nil, codes}
use Rattle.std.specs.Prelude.{Option, Some, None, Result, Ok, Err, IfOk, is_none, length, nat_le, nat_lt, unwrap_or}
use Rattle.std.specs.Option.{ok_or}
use Rattle.std.specs.Str.{bytes_eq}
use Rattle.std.proofs.lemmas.Bool.{and_parts, both_ways, cond_both}
use Rattle.std.proofs.lemmas.Option.{none-some}
use Rattle.std.proofs.lemmas.Result.{IfOk-weaker}
use Rattle.pool_limits.specs.declared.numbers.Numbers.{Numbers}
use Rattle.request_text.specs.declared.file_profile.FileProfile.{FileProfile}
use Rattle.request_text.specs.declared.file_profile.FileProfile.TheVariants.{One, Two, Three, Four, Five}
use Rattle.request_text.specs.declared.request.Directive.{Directive}
use Rattle.request_text.specs.declared.request.Directive.TheVariants.{Module, Call, Retire}
use Rattle.request_text.specs.declared.request.Reason.{Reason}
use Rattle.request_text.specs.declared.request.Reason.TheVariants as why
use Rattle.request_text.specs.Ladder.{◌>>=◌, demand}
use Rattle.request_words.specs.Words.{arguments_of, fuel_of, hex_bytes, is_empty, place_of}
use Rattle.request_text.specs.Profiles.{has_tenants, profile_of, retires, sends}
use Rattle.request_text.specs.Tenants.{Tenants, for_after, tenant_after}
use Rattle.request_text.specs.Text.{Asked, Declared, MayRunInSlices, ReadLines, call_directive_of, call_of, declared_by, directive_of, module_directive_of, profile_after, nothing_read, profile_in, request_of, requests_from, requests_of, retire_directive_of, retired_place, retired_places, send_directive_of, with_directive, with_tenants, words_after}
use Rattle.request_text.proofs.FileLemmas.{file_has, lines_keep}
use Rattle.request_text.proofs.ReadingLemmas.{retired_places-more}
use Rattle.request_text.proofs.TenantLemmas.{any-IfOk, demand-IfOk, step-IfOk}

-- ---- profiles

-- a file that retires modules has its calls made whole
whole_with_retirements : (profile : FileProfile) → retires profile ≡ true → has_tenants profile ≡ true
whole_with_retirements One has = absurd (cc)
whole_with_retirements Two has = absurd (cc)
whole_with_retirements Three has = absurd (cc)
whole_with_retirements Four has = absurd (cc)
whole_with_retirements Five has = refl

-- a file that names no profile yet
unnamed_in_slices : (profile : Option FileProfile) → is_none profile ≡ true → has_tenants (unwrap_or profile One) ≡ false
unnamed_in_slices None none = refl
unnamed_in_slices (Some profile) none = absurd (cc)

-- ---- directives

-- a line that retires no module
abbrev RetiresNothing : Directive → Type 0
RetiresNothing directive = retired_place directive ≡ None

-- a step of the ladder whose value says nothing
past-IfOk : {A B E : Type 0} (r : Result A E) (next : A → Result B E) (P : B → Type 0) → ((x : A) → IfOk (next x) P) → IfOk (r >>= next) P
past-IfOk r next P each = step-IfOk r next (λ _. Unit {0}) P (any-IfOk r) (λ x _. each x)

module_retires_nothing : (before : Declared) (words : List (List ℕ)) → IfOk (module_directive_of before words) RetiresNothing
unfolding module_directive_of
module_retires_nothing before (name ∷ digits ∷ []) =
    past-IfOk (demand (nat_le (length name) 64) why.BadName) _ RetiresNothing (λ _.
    past-IfOk (ok_or (hex_bytes digits) why.BadHex) _ RetiresNothing (λ bytes.
    past-IfOk (demand (is_none (place_of before.names name)) why.NameUsedTwice) _ RetiresNothing (λ _.
    past-IfOk (demand (nat_lt (length before.names) 1048576) why.TooManyModules) _ RetiresNothing (λ _. refl))))
module_retires_nothing before words = tt

call_of_retires_nothing : (before : Declared) (place : ℕ) (export : List ℕ) (fuel : ℕ) (request : Option (List ℕ)) (words : List (List ℕ)) → IfOk (call_of before place export fuel request words) RetiresNothing
unfolding call_of
call_of_retires_nothing before place export fuel request words =
    past-IfOk (ok_or (arguments_of words) why.BadArgument) _ RetiresNothing (λ args.
    past-IfOk (demand (nat_lt before.calls 1000000) why.TooManyCalls) _ RetiresNothing (λ _. refl))

call_retires_nothing : (before : Declared) (words : List (List ℕ)) → IfOk (call_directive_of before words) RetiresNothing
unfolding call_directive_of
call_retires_nothing before (name ∷ export ∷ fuel_word ∷ words) =
    past-IfOk (ok_or (place_of before.names name) why.UnknownModule) _ RetiresNothing (λ place.
    past-IfOk (ok_or (fuel_of fuel_word) why.BadFuel) _ RetiresNothing (λ fuel.
    call_of_retires_nothing before place export fuel None words))
call_retires_nothing before words = tt

send_retires_nothing : (before : Declared) (words : List (List ℕ)) → IfOk (send_directive_of before words) RetiresNothing
unfolding send_directive_of
send_retires_nothing before (name ∷ export ∷ fuel_word ∷ digits ∷ words) =
    past-IfOk (ok_or (place_of before.names name) why.UnknownModule) _ RetiresNothing (λ place.
    past-IfOk (ok_or (fuel_of fuel_word) why.BadFuel) _ RetiresNothing (λ fuel.
    past-IfOk (request_of digits) _ RetiresNothing (λ request.
    call_of_retires_nothing before place export fuel (Some request) words)))
send_retires_nothing before words = tt

-- unless calls are made whole in this profile
abbrev RetiresNothingInSlices : FileProfile → Directive → Type 0
RetiresNothingInSlices profile directive = has_tenants profile ≡ false → RetiresNothing directive

in_slices : (profile : FileProfile) (directive : Result Directive Reason) → IfOk directive RetiresNothing → IfOk directive (RetiresNothingInSlices profile)
in_slices profile directive none = IfOk-weaker directive RetiresNothing (RetiresNothingInSlices profile) (λ d nothing _. nothing) none

not_in_slices : (profile : FileProfile) (directive : Result Directive Reason) → has_tenants profile ≡ true → IfOk directive (RetiresNothingInSlices profile)
not_in_slices profile directive whole =
    IfOk-weaker directive (λ _. Unit {0}) (RetiresNothingInSlices profile) (λ d _ sliced. absurd (both_ways (has_tenants profile) sliced whole)) (any-IfOk directive)

directive_retires_nothing : (profile : FileProfile) (before : Declared) (word : List ℕ) (words : List (List ℕ)) → IfOk (directive_of profile before word words) (RetiresNothingInSlices profile)
unfolding directive_of
directive_retires_nothing profile before word words =
    let P : Result Directive Reason → Type 0 = λ read. IfOk read (RetiresNothingInSlices profile) in
    cond_both (bytes_eq word (codes "module")) _ _ P (λ _. in_slices profile (module_directive_of before words) (module_retires_nothing before words)) (λ _.
    cond_both (bytes_eq word (codes "call")) _ _ P (λ _. in_slices profile (call_directive_of before words) (call_retires_nothing before words)) (λ _.
    cond_both (sends profile && bytes_eq word (codes "send")) _ _ P (λ _. in_slices profile (send_directive_of before words) (send_retires_nothing before words)) (λ _.
    cond_both (retires profile && bytes_eq word (codes "retire")) _ _ P (λ both.
    not_in_slices profile (retire_directive_of before words) (whole_with_retirements profile (and_parts (retires profile) (bytes_eq word (codes "retire")) both).0)) (λ _. tt))))

-- ---- lines

-- unless calls are made whole in the profile of these lines, they may be made in slices
abbrev pub AreInSlices : ReadLines → Type 0
AreInSlices read = has_tenants (profile_in read) ≡ false → MayRunInSlices read.tenants.wants read.directives

none_retired_after : (directives : List Directive) (directive : Directive) → retired_places directives ≡ [] → RetiresNothing directive → retired_places (directives ++ directive ∷ []) ≡ []
none_retired_after directives (Module name bytes) none nothing = retired_places-more directives (Module name bytes) ∙ append-nil (retired_places directives) ∙ none
none_retired_after directives (Call tenant place retired invocation) none nothing =
    retired_places-more directives (Call tenant place retired invocation) ∙ append-nil (retired_places directives) ∙ none
none_retired_after directives (Retire place name) none nothing = absurd (none-some place (sym nothing))

with_directive_in_slices : (before : ReadLines) (directive : Result Directive Reason) → AreInSlices before → IfOk directive (RetiresNothingInSlices (profile_in before))
    → IfOk (directive >>= λ d. Ok (with_directive before d)) AreInSlices
with_directive_in_slices before (Ok directive) stood none = λ sliced. let may = stood sliced in
    record { no_tenants = may.no_tenants; none_retired = none_retired_after before.directives directive may.none_retired (none sliced) }
with_directive_in_slices before (Err reason) stood none = tt

with_tenants_in_slices : (before : ReadLines) (tenants : Result Tenants Reason) → has_tenants (profile_in before) ≡ true → IfOk (with_tenants before tenants) AreInSlices
with_tenants_in_slices before (Ok tenants) has = λ sliced. absurd (both_ways (has_tenants (profile_in before)) sliced has)
with_tenants_in_slices before (Err reason) has = tt

profile_in_slices : (before : ReadLines) (words : List (List ℕ)) → AreInSlices before → IfOk (profile_after before words) AreInSlices
unfolding profile_after
profile_in_slices before words stood =
    let first = is_none before.profile && is_empty before.directives in
    step-IfOk (demand first why.LateProfile) _ (λ _. first ≡ true) _ (demand-IfOk first why.LateProfile) (λ _ both.
    past-IfOk (profile_of words) _ AreInSlices (λ profile _.
    stood (unnamed_in_slices before.profile (and_parts (is_none before.profile) (is_empty before.directives) both).0)))

words_in_slices : (n : Numbers) (before : ReadLines) (words : List (List ℕ)) → AreInSlices before → IfOk (words_after n before words) AreInSlices
unfolding words_after
words_in_slices n before [] stood = stood
words_in_slices n before (word ∷ words) stood =
    let P : Result ReadLines Reason → Type 0 = λ read. IfOk read AreInSlices in
    let has = has_tenants (profile_in before) in
    cond_both (bytes_eq word (codes "profile")) _ _ P (λ _. profile_in_slices before words stood) (λ _.
    cond_both (has && bytes_eq word (codes "tenant")) _ _ P (λ both.
    with_tenants_in_slices before (tenant_after n before.tenants words) (and_parts has (bytes_eq word (codes "tenant")) both).0) (λ _.
    cond_both (has && bytes_eq word (codes "for")) _ _ P (λ both.
    with_tenants_in_slices before (for_after before.tenants words) (and_parts has (bytes_eq word (codes "for")) both).0) (λ _.
    with_directive_in_slices before (directive_of (profile_in before) (declared_by before) word words) stood (directive_retires_nothing (profile_in before) (declared_by before) word words))))

-- ---- the file

pub lines_in_slices : (n : Numbers) (lines : List (List ℕ)) → IfOk (requests_from n 1 nothing_read lines) AreInSlices
lines_in_slices n lines = lines_keep n AreInSlices (words_in_slices n) 1 nothing_read lines (λ _. record { no_tenants = refl; none_retired = refl })

pub asked_in_slices : (n : Numbers) (text : List ℕ) → IfOk (requests_of n text) (λ asked. asked.whole ≡ false → MayRunInSlices asked.wants asked.directives)
asked_in_slices n text =
    file_has n AreInSlices (λ (asked : Asked). asked.whole ≡ false → MayRunInSlices asked.wants asked.directives) (words_in_slices n) (λ _. record { no_tenants = refl; none_retired = refl }) (λ read may. may) text
