-- One more directive, or other tenants, among what was read.
use Rattle.std.proofs.Common.{◌≡◌, ◌==◌, ◌↔◌, ◌+◌, ◌<◌, ◌≤◌, ◌||◌, ◌++◌, ℕ, suc, Bool, true, false, subst, cond, List, [], ◌∷◌, length, ap, refl, sym, ◌∙◌, add-zero, append-nil, length-append, arith}
use Rattle.std.proofs.Math.Bool.{or-false}
use Rattle.std.proofs.lemmas.Cmp.{nat_eq_equiv}
use Rattle.std.proofs.lemmas.List.Elements.{All-nil, All-push, All-weaker, filter_map-append}
use Rattle.std.proofs.lemmas.List.Sums.{sum_by-append}
use Rattle.std.proofs.lemmas.Map.Keys.{IsDistinct-push}
use Rattle.std.proofs.lemmas.Map.Views.{Contains-from_any, exact_unsigned_eq, list_any-from_Contains}
use Rattle.std.specs.List.{All, Contains, IsDistinct}
use Rattle.std.specs.Prelude.{Result, Ok, Err, Option, IfOk, IfSome}
use Rattle.pool_limits.specs.declared.numbers.Numbers.{Numbers}
use Rattle.pool_limits.specs.declared.wants.Want.{Want}
use Rattle.request_text.specs.declared.file_profile.FileProfile.{FileProfile}
use Rattle.request_text.specs.declared.request.Directive.{Directive}
use Rattle.request_text.specs.declared.request.Directive.TheVariants.{Module, Call, Retire}
use Rattle.request_text.specs.declared.request.Reason.{Reason}
use Rattle.request_text.specs.Tenants.{Tenants, for_after, tenant_after}
use Rattle.request_text.specs.Text.{AreFlagged, AreRequests, Declared, HaveDeclared, IsNamed, IsOfTenant, IsPlacedFrom, ReadLines, call_count, declared_after, declared_by, is_call, is_retired, module_name, module_names, retired_place, retired_places, with_directive}
use Rattle.request_text.specs.Reading.{HasRoom, declared_with}
use Rattle.request_text.proofs.PlaceLemmas.{name_at, place_within, slice_get-append}
use Rattle.request_text.proofs.TenantLemmas.{AddsTenant, for-keeps, tenant-adds}

module_names-more : (before : List Directive) (directive : Directive) → module_names (before ++ directive ∷ []) ≡ module_names before ++ module_names (directive ∷ [])
module_names-more before directive = filter_map-append module_name before (directive ∷ [])

call_count-more : (before : List Directive) (directive : Directive) → call_count (before ++ directive ∷ []) ≡ call_count before + call_count (directive ∷ [])
call_count-more before directive = sum_by-append (λ x. cond (is_call x) 1 0) before (directive ∷ [])

pub retired_places-more : (before : List Directive) (directive : Directive) → retired_places (before ++ directive ∷ []) ≡ retired_places before ++ retired_places (directive ∷ [])
retired_places-more before directive = filter_map-append retired_place before (directive ∷ [])

abbrev declared : Tenants → List (List ℕ) → List ℕ → ℕ → Declared
declared tenants names retired calls = record { names = names; retired = retired; calls = calls; tenants = tenants }

by_parts : (tenants : Tenants) (names names' : List (List ℕ)) (retired retired' : List ℕ) (calls calls' : ℕ) → names ≡ names' → retired ≡ retired' → calls ≡ calls'
    → declared tenants names retired calls ≡ declared tenants names' retired' calls'
by_parts tenants names names' retired retired' calls calls' same_names same_retired same_calls =
    ap (λ (ns : List (List ℕ)). declared tenants ns retired calls) same_names ∙ ap (λ (r : List ℕ). declared tenants names' r calls) same_retired ∙ ap (declared tenants names' retired') same_calls

pub declared_by-more : (before : ReadLines) (directive : Directive) → declared_by (with_directive before directive) ≡ declared_after (declared_by before) directive
declared_by-more before (Module name bytes) =
    let d : Directive = Module name bytes in
    by_parts before.tenants _ _ _ _ _ _ (module_names-more before.directives d) (retired_places-more before.directives d ∙ append-nil (retired_places before.directives)) (call_count-more before.directives d ∙ add-zero (call_count before.directives))
declared_by-more before (Call tenant place retired invocation) =
    let d : Directive = Call tenant place retired invocation in
    by_parts before.tenants _ _ _ _ _ _ (module_names-more before.directives d ∙ append-nil (module_names before.directives)) (retired_places-more before.directives d ∙ append-nil (retired_places before.directives)) (call_count-more before.directives d)
declared_by-more before (Retire place name) =
    let d : Directive = Retire place name in
    by_parts before.tenants _ _ _ _ _ _ (module_names-more before.directives d ∙ append-nil (module_names before.directives)) (retired_places-more before.directives d) (call_count-more before.directives d ∙ add-zero (call_count before.directives))

-- a directive leaves the tenants as they were
pub tenants_after-same : (before : Declared) (directive : Directive) → (declared_after before directive).tenants ≡ before.tenants
tenants_after-same before (Module name bytes) = refl
tenants_after-same before (Call tenant place retired invocation) = refl
tenants_after-same before (Retire place name) = refl

few_names_after : (before : Declared) (directive : Directive) → HasRoom before directive → length before.names ≤ 1048576 → length (declared_after before directive).names ≤ 1048576
few_names_after before (Module name bytes) room few = omega (arith, room.0, length-append before.names (name ∷ []))
few_names_after before (Call tenant place retired invocation) room few = few
few_names_after before (Retire place name) room few = few

few_calls_after : (before : Declared) (directive : Directive) → HasRoom before directive → before.calls ≤ 1000000 → (declared_after before directive).calls ≤ 1000000
few_calls_after before (Module name bytes) room few = few
few_calls_after before (Call tenant place retired invocation) room few = omega (arith, room.few)
few_calls_after before (Retire place name) room few = few

-- a call or a retirement of an earlier module may follow
placed_from-more : (modules : ℕ) (before : List Directive) (directive : Directive) → IsPlacedFrom modules before → IsPlacedFrom (modules + length (module_names before)) (directive ∷ []) → IsPlacedFrom modules (before ++ directive ∷ [])
placed_from-more modules [] directive placed last = subst (λ (m : ℕ). IsPlacedFrom m (directive ∷ [])) (add-zero modules) last
placed_from-more modules (Module name bytes ∷ before) directive placed last =
    let moved : modules + suc (length (module_names before)) ≡ modules + 1 + length (module_names before) = omega arith in
    placed_from-more (modules + 1) before directive placed (subst (λ (m : ℕ). IsPlacedFrom m (directive ∷ [])) moved last)
placed_from-more modules (Call tenant place retired invocation ∷ before) directive placed last = (placed.0, placed_from-more modules before directive placed.1 last)
placed_from-more modules (Retire place name ∷ before) directive placed last = (placed.0, placed_from-more modules before directive placed.1 last)

placed_after : (before : ReadLines) (directive : Directive) → HasRoom (declared_by before) directive → IsPlacedFrom 0 before.directives → IsPlacedFrom 0 (before.directives ++ directive ∷ [])
placed_after before (Module name bytes) room placed = placed_from-more 0 before.directives (Module name bytes) placed tt
placed_after before (Call tenant place retired invocation) room placed =
    let earlier : place < 0 + length (module_names before.directives) = omega (arith, room.placed) in
    placed_from-more 0 before.directives (Call tenant place retired invocation) placed (earlier, tt)
placed_after before (Retire place name) room placed =
    let names : List (List ℕ) = module_names before.directives in
    let within : place < length names = subst (λ (o : Option ℕ). IfSome o (λ p. p < length names)) room.placed (place_within names name) in
    let earlier : place < 0 + length names = omega arith in
    placed_from-more 0 before.directives (Retire place name) placed (earlier, tt)

-- a retire line's name stays that of its module where further modules follow
named_by_more : (names more : List (List ℕ)) (directive : Directive) → IsNamed names directive → IsNamed (names ++ more) directive
named_by_more names more (Module name bytes) h = tt
named_by_more names more (Call tenant place retired invocation) h = tt
named_by_more names more (Retire place name) h = slice_get-append names more place name h

named : (before : Declared) (directive : Directive) → HasRoom before directive → IsNamed before.names directive
named before (Module name bytes) room = tt
named before (Call tenant place retired invocation) room = tt
named before (Retire place name) room = name_at before.names name place room.placed

named_after : (before : ReadLines) (directive : Directive) → HasRoom (declared_by before) directive → All (IsNamed (module_names before.directives)) before.directives
    → All (IsNamed (module_names (before.directives ++ directive ∷ []))) (before.directives ++ directive ∷ [])
named_after before directive room are =
    let names : List (List ℕ) = module_names before.directives in
    let more : List (List ℕ) = module_names (directive ∷ []) in
    subst (λ (ns : List (List ℕ)). All (IsNamed ns) (before.directives ++ directive ∷ [])) (sym (module_names-more before.directives directive))
    (All-push (IsNamed (names ++ more)) before.directives directive (All-weaker (IsNamed names) (IsNamed (names ++ more)) (named_by_more names more) before.directives are)
    (named_by_more names more directive (named (declared_by before) directive room)))

retired_once_after : (before : ReadLines) (directive : Directive) → HasRoom (declared_by before) directive → IsDistinct (λ place other. place == other) (retired_places before.directives)
    → IsDistinct (λ place other. place == other) (retired_places (before.directives ++ directive ∷ []))
retired_once_after before directive room once = subst (IsDistinct (λ place other. place == other)) (sym (retired_places-more before.directives directive)) (once_more directive room) where
  once_more : (directive : Directive) → HasRoom (declared_by before) directive → IsDistinct (λ place other. place == other) (retired_places before.directives ++ retired_places (directive ∷ []))
  once_more (Module name bytes) room = subst (IsDistinct (λ place other. place == other)) (sym (append-nil (retired_places before.directives))) once
  once_more (Call tenant place retired invocation) room = subst (IsDistinct (λ place other. place == other)) (sym (append-nil (retired_places before.directives))) once
  once_more (Retire place name) room = IsDistinct-push nat_eq_equiv (retired_places before.directives) place once room.first

-- the flag of a call is this test of its module's place
abbrev IsFlaggedBy : (test : ℕ → Bool) → Directive → Type 0
IsFlaggedBy test (Module name bytes) = Unit {0}
IsFlaggedBy test (Call tenant place retired invocation) = retired ≡ test place
IsFlaggedBy test (Retire place name) = Unit {0}

flagged_by_same : (test test' : ℕ → Bool) → ((place : ℕ) → test place ≡ test' place) → (directive : Directive) → IsFlaggedBy test directive → IsFlaggedBy test' directive
flagged_by_same test test' same (Module name bytes) h = tt
flagged_by_same test test' same (Call tenant place retired invocation) h = h ∙ same place
flagged_by_same test test' same (Retire place name) h = tt

flag_is : (retired : List ℕ) (place : ℕ) (flag : Bool) → flag ≡ is_retired retired place → (flag ≡ true) ↔ Contains retired place
flag_is retired place flag is = (λ yes. Contains-from_any exact_unsigned_eq place retired (sym is ∙ yes), λ among. is ∙ list_any-from_Contains nat_eq_equiv place retired among)

flagged_alone : (retired : List ℕ) (directive : Directive) → IsFlaggedBy (is_retired retired) directive → AreFlagged retired (directive ∷ [])
flagged_alone retired (Module name bytes) h = tt
flagged_alone retired (Call tenant place flag invocation) h = (flag_is retired place flag h, tt)
flagged_alone retired (Retire place name) h = tt

moved_first : (a b c : Bool) → (b || (a || c)) ≡ ((a || b) || c)
moved_first true true c = refl
moved_first true false c = refl
moved_first false true c = refl
moved_first false false c = refl

-- a call may follow that is flagged where its module is among the retired ones
flagged_from-more : (retired : List ℕ) (before : List Directive) (directive : Directive) → AreFlagged retired before
    → IsFlaggedBy (λ place. is_retired retired place || is_retired (retired_places before) place) directive → AreFlagged retired (before ++ directive ∷ [])
flagged_from-more retired [] directive flagged last = flagged_alone retired directive (flagged_by_same _ (is_retired retired) (λ place. or-false (is_retired retired place)) directive last)
flagged_from-more retired (Module name bytes ∷ before) directive flagged last = flagged_from-more retired before directive flagged last
flagged_from-more retired (Call tenant place flag invocation ∷ before) directive flagged last = (flagged.0, flagged_from-more retired before directive flagged.1 last)
flagged_from-more retired (Retire place name ∷ before) directive flagged last =
    flagged_from-more (place ∷ retired) before directive flagged
    (flagged_by_same _ _ (λ other. moved_first (other == place) (is_retired retired other) (is_retired (retired_places before) other)) directive last)

flagged_after : (before : ReadLines) (directive : Directive) → HasRoom (declared_by before) directive → AreFlagged [] before.directives → AreFlagged [] (before.directives ++ directive ∷ [])
flagged_after before directive room flagged = flagged_from-more [] before.directives directive flagged (flag directive room) where
  flag : (directive : Directive) → HasRoom (declared_by before) directive → IsFlaggedBy (is_retired (retired_places before.directives)) directive
  flag (Module name bytes) room = tt
  flag (Call tenant place retired invocation) room = room.flagged
  flag (Retire place name) room = tt

by_tenant : (before : Declared) (directive : Directive) → HasRoom before directive → IsOfTenant (length before.tenants.wants) directive
by_tenant before (Module name bytes) room = tt
by_tenant before (Call tenant place retired invocation) room = room.by_tenant
by_tenant before (Retire place name) room = tt

-- a file of no lines
pub requests_none : (wants : List Want) (directives : List Directive) → wants ≡ [] → directives ≡ [] → AreRequests wants directives
unfolding IsDistinct
requests_none wants directives none nothing = subst (λ (ws : List Want). AreRequests ws directives) (sym none) (subst (AreRequests []) (sym nothing) (record {
  placed = tt;
  named = All-nil (IsNamed []);
  retired_once = tt;
  flagged = tt;
  by_tenants = All-nil (IsOfTenant 0);
  few_modules = omega arith;
  few_calls = omega arith;
  few_tenants = omega arith;
}))

-- one more directive for which there is room
pub requests_with : (before : ReadLines) (directive : Directive) → HasRoom (declared_by before) directive → AreRequests before.tenants.wants before.directives → AreRequests before.tenants.wants (before.directives ++ directive ∷ [])
requests_with before directive room are =
    let more = sym (declared_by-more before directive) in
    record {
      placed = placed_after before directive room are.placed;
      named = named_after before directive room are.named;
      retired_once = retired_once_after before directive room are.retired_once;
      flagged = flagged_after before directive room are.flagged;
      by_tenants = All-push (IsOfTenant (length before.tenants.wants)) before.directives directive are.by_tenants (by_tenant (declared_by before) directive room);
      few_modules = subst (λ (d : Declared). length d.names ≤ 1048576) more (few_names_after (declared_by before) directive room are.few_modules);
      few_calls = subst (λ (d : Declared). d.calls ≤ 1000000) more (few_calls_after (declared_by before) directive room are.few_calls);
      few_tenants = are.few_tenants;
    }

-- what has not changed is declared as before
pub declared-same : (profile : Option FileProfile) (before after : Declared) (directives directives' : List Directive) → after ≡ before → directives' ≡ directives
    → HaveDeclared (record { profile = profile; tenants = before.tenants; directives = directives }) before
    → HaveDeclared (record { profile = profile; tenants = after.tenants; directives = directives' }) after
declared-same profile before after directives directives' same kept have =
    subst (λ (d : Declared). HaveDeclared (record { profile = profile; tenants = d.tenants; directives = directives' }) d) (sym same)
    (subst (λ (ds : List Directive). HaveDeclared (record { profile = profile; tenants = before.tenants; directives = ds }) before) (sym kept) have)

-- no fewer tenants want a share, and few do
pub record NoFewer (before after : Tenants) : Type 0 where
  pub no_fewer : length before.wants ≤ length after.wants
  pub few : length after.wants ≤ 15

no_fewer_by_one : (n : Numbers) (before : Tenants) (r : Result Tenants Reason) → IfOk r (AddsTenant n before) → IfOk r (NoFewer before)
no_fewer_by_one n before (Ok after) adds =
    let few = adds.few in
    let longer : length after.wants ≡ length before.wants + 1 = ap length adds.wants ∙ length-append before.wants (adds.want ∷ []) in
    record { no_fewer = omega arith; few = omega arith }
no_fewer_by_one n before (Err reason) adds = tt

no_fewer_by_same : (before : Tenants) (r : Result Tenants Reason) → length before.wants ≤ 15 → IfOk r (λ after. after.wants ≡ before.wants) → IfOk r (NoFewer before)
no_fewer_by_same before (Ok after) few same =
    let as_long : length after.wants ≡ length before.wants = ap length same in
    record { no_fewer = omega arith; few = omega arith }
no_fewer_by_same before (Err reason) few same = tt

-- a call that was by one of few tenants is by one of many
by_more : (few many : ℕ) → few ≤ many → (directive : Directive) → IsOfTenant few directive → IsOfTenant many directive
by_more few many le (Module name bytes) h = tt
by_more few many le (Call tenant place retired invocation) h = omega arith
by_more few many le (Retire place name) h = tt

requests_by_more : (before after : Tenants) (directives : List Directive) → NoFewer before after → AreRequests before.wants directives → AreRequests after.wants directives
requests_by_more before after directives more are =
    record {
      placed = are.placed;
      named = are.named;
      retired_once = are.retired_once;
      flagged = are.flagged;
      by_tenants = All-weaker (IsOfTenant (length before.wants)) (IsOfTenant (length after.wants)) (by_more (length before.wants) (length after.wants) more.no_fewer) directives are.by_tenants;
      few_modules = are.few_modules;
      few_calls = are.few_calls;
      few_tenants = more.few;
    }

-- what is declared after a line that names a tenant is what was read, with other tenants
abbrev pub IsReadWith : ReadLines → Declared → Type 0
IsReadWith before scope = (scope ≡ declared_by (record before { tenants = scope.tenants })) × AreRequests scope.tenants.wants before.directives

read_with : (before : ReadLines) (scope after : Declared) (tenants : Result Tenants Reason) → scope ≡ declared_by before → declared_with scope tenants ≡ Ok after
    → IfOk tenants (NoFewer before.tenants) → AreRequests before.tenants.wants before.directives → IsReadWith before after
read_with before scope after (Ok tenants) is read more are =
    let whole : Ok (record (declared_by before) { tenants = tenants }) ≡ Ok after = subst (λ (s : Declared). declared_with s (Ok tenants) ≡ Ok after) is read in
    let same : record (declared_by before) { tenants = tenants } ≡ after = cc in
    subst (λ (s : Declared). IsReadWith before s) same (refl, requests_by_more before.tenants tenants before.directives more are)
read_with before scope after (Err reason) is read more are = absurd (cc)

pub read_with_one_more : (n : Numbers) (before : ReadLines) (scope after : Declared) (words : List (List ℕ)) → scope ≡ declared_by before → declared_with scope (tenant_after n before.tenants words) ≡ Ok after
    → AreRequests before.tenants.wants before.directives → IsReadWith before after
read_with_one_more n before scope after words is read are =
    let more = no_fewer_by_one n before.tenants (tenant_after n before.tenants words) (tenant-adds n before.tenants words) in
    read_with before scope after (tenant_after n before.tenants words) is read more are

pub read_with_the_same : (before : ReadLines) (scope after : Declared) (words : List (List ℕ)) → scope ≡ declared_by before → declared_with scope (for_after before.tenants words) ≡ Ok after
    → AreRequests before.tenants.wants before.directives → IsReadWith before after
read_with_the_same before scope after words is read are =
    let more = no_fewer_by_same before.tenants (for_after before.tenants words) are.few_tenants (for-keeps before.tenants words) in
    read_with before scope after (for_after before.tenants words) is read more are
