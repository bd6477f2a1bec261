-- Requests whose lines show no bytes are those of a file too, and have the same modules.
use Rattle.std.proofs.Common.{◌≡◌, ◌∙◌, ◌+◌, ℕ, Bool, cond, List, [], ◌∷◌, length, map, refl, sym, ap, subst}
use Rattle.std.specs.Prelude.{Option}
use Rattle.std.specs.List.{All, cons_option, filter_map, sum_by}
use Rattle.std.proofs.lemmas.List.Elements.{All-map}
use Rattle.std.proofs.lemmas.List.Sums.{sum_by-cons}
use Rattle.pool_limits.specs.declared.wants.Want.{Want}
use Rattle.request_text.specs.declared.request.Directive.{Directive}
use Rattle.request_text.specs.declared.request.Directive.TheVariants.{Module, Call, Retire}
use Rattle.request_text.specs.Quiet.{quiet_directive}
use Rattle.request_text.specs.Text.{AreFlagged, AreRequests, IsNamed, IsOfTenant, IsPlacedFrom, MayRunInSlices, call_count, is_call, module_bytes, module_name, module_names, modules_of, retired_place, retired_places}

-- what is told of a directive is told of it where its line shows no bytes
record IsSame (d : Directive) : Type 0 where
  name : module_name (quiet_directive d) ≡ module_name d
  bytes : module_bytes (quiet_directive d) ≡ module_bytes d
  retired : retired_place (quiet_directive d) ≡ retired_place d
  call : is_call (quiet_directive d) ≡ is_call d

same : (d : Directive) → IsSame d
same (Module name bytes) = record { name = refl; bytes = refl; retired = refl; call = refl }
same (Call tenant place retired invocation) = record { name = refl; bytes = refl; retired = refl; call = refl }
same (Retire place name) = record { name = refl; bytes = refl; retired = refl; call = refl }

same_parts : {Y : Type 0} (part : Directive → Option Y) → ((d : Directive) → part (quiet_directive d) ≡ part d) → (ds : List Directive) → filter_map part (map quiet_directive ds) ≡ filter_map part ds
same_parts part is [] = refl
same_parts part is (d ∷ ds) =
    ap (λ first. cons_option first (filter_map part (map quiet_directive ds))) (is d) ∙ ap (λ rest. cons_option (part d) rest) (same_parts part is ds)

same_names : (ds : List Directive) → module_names (map quiet_directive ds) ≡ module_names ds
same_names ds = same_parts module_name (λ d. (same d).name) ds

pub same_modules : (ds : List Directive) → modules_of (map quiet_directive ds) ≡ modules_of ds
same_modules ds = same_parts module_bytes (λ d. (same d).bytes) ds

same_retired : (ds : List Directive) → retired_places (map quiet_directive ds) ≡ retired_places ds
same_retired ds = same_parts retired_place (λ d. (same d).retired) ds

same_calls : (ds : List Directive) → call_count (map quiet_directive ds) ≡ call_count ds
same_calls [] = refl
same_calls (d ∷ ds) =
    let one = λ (d : Directive). cond (is_call d) 1 0 in
    sum_by-cons one (quiet_directive d) (map quiet_directive ds) ∙ ap (λ (call : Bool). cond call 1 0 + call_count (map quiet_directive ds)) (same d).call
    ∙ ap (λ (rest : ℕ). one d + rest) (same_calls ds) ∙ sym (sum_by-cons one d ds)

placed : (modules : ℕ) (ds : List Directive) → IsPlacedFrom modules ds → IsPlacedFrom modules (map quiet_directive ds)
placed modules [] h = h
placed modules (Module name bytes ∷ ds) h = placed (modules + 1) ds h
placed modules (Call tenant place retired invocation ∷ ds) h = (h.0, placed modules ds h.1)
placed modules (Retire place name ∷ ds) h = (h.0, placed modules ds h.1)

flagged : (retired : List ℕ) (ds : List Directive) → AreFlagged retired ds → AreFlagged retired (map quiet_directive ds)
flagged retired [] h = h
flagged retired (Module name bytes ∷ ds) h = flagged retired ds h
flagged retired (Call tenant place flag invocation ∷ ds) h = (h.0, flagged retired ds h.1)
flagged retired (Retire place name ∷ ds) h = flagged (place ∷ retired) ds h

named : (names : List (List ℕ)) (d : Directive) → IsNamed names d → IsNamed names (quiet_directive d)
named names (Module name bytes) h = h
named names (Call tenant place retired invocation) h = h
named names (Retire place name) h = h

by_tenant : (tenants : ℕ) (d : Directive) → IsOfTenant tenants d → IsOfTenant tenants (quiet_directive d)
by_tenant tenants (Module name bytes) h = h
by_tenant tenants (Call tenant place retired invocation) h = h
by_tenant tenants (Retire place name) h = h

pub quiet_requests : (wants : List Want) (ds : List Directive) → AreRequests wants ds → AreRequests wants (map quiet_directive ds)
quiet_requests wants ds h = record {
  placed = placed 0 ds h.placed;
  named = subst (λ (names : List (List ℕ)). All (IsNamed names) (map quiet_directive ds)) (sym (same_names ds))
      (All-map (IsNamed (module_names ds)) quiet_directive ds (λ at d within. named (module_names ds) _ (h.named at d within)));
  retired_once = rw (same_retired ds) h.retired_once;
  flagged = flagged [] ds h.flagged;
  by_tenants = All-map (IsOfTenant (length wants)) quiet_directive ds (λ at d within. by_tenant (length wants) _ (h.by_tenants at d within));
  few_modules = rw (same_names ds) h.few_modules;
  few_calls = rw (same_calls ds) h.few_calls;
  few_tenants = h.few_tenants;
}

pub quiet_in_slices : (wants : List Want) (ds : List Directive) → MayRunInSlices wants ds → MayRunInSlices wants (map quiet_directive ds)
quiet_in_slices wants ds h = record { no_tenants = h.no_tenants; none_retired = same_retired ds ∙ h.none_retired }
