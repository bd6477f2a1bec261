-- The calls that are due are those of the file.
use Rattle.std.proofs.Common.{◌≡◌, ℕ, zero, suc, ◌+◌, ◌≤◌, Bool, List, [], ◌∷◌, ◌++◌, Some, length, refl, sym, ap, ◌∙◌, subst, arith, append_assoc, append-nil}
use Rattle.std.specs.Prelude.{slice_get}
use Rattle.std.specs.List.{All}
use Rattle.std.proofs.lemmas.List.Elements.{All-cons, All-head, All-nil, All-tail}
use Rattle.request_calls.specs.declared.invocation.Invocation.{Invocation}
use Rattle.request_text.specs.declared.request.Directive.{Directive}
use Rattle.request_text.specs.declared.request.Directive.TheVariants.{Module, Call, Retire}
use Rattle.request_text.specs.Text.{IsOfTenant, call_count}
use Rattle.call_jobs.specs.declared.calls.Due.{Due}
use Rattle.call_jobs.specs.Entries.{IsOfTenants}
use Rattle.run_books.specs.Collected.{call_at}
use Rattle.run_books.specs.Due.{due_of, dues_from}
use Rattle.run_books.proofs.PlaceLemmas.{call_count-call, call_count-module, call_count-retire}

pub length-dues : (number : ℕ) (ds : List Directive) → length (dues_from number ds) ≡ call_count ds
length-dues number [] = refl
length-dues number (Module name bytes ∷ ds) = length-dues number ds ∙ sym (call_count-module name bytes ds)
length-dues number (Call tenant place retired invocation ∷ ds) = omega (arith, length-dues (number + 1) ds, call_count-call tenant place retired invocation ds)
length-dues number (Retire place name ∷ ds) = length-dues number ds ∙ sym (call_count-retire place name ds)

pub numbered_from : (number : ℕ) (ds : List Directive) (at : ℕ) (due : Due) → slice_get (dues_from number ds) at ≡ Some due → due.number ≡ at + number
numbered_from number [] at due got = cc
numbered_from number (Module name bytes ∷ ds) at due got = numbered_from number ds at due got
numbered_from number (Retire place name ∷ ds) at due got = numbered_from number ds at due got
numbered_from number (Call tenant place retired invocation ∷ ds) zero due got =
    let first : due_of number tenant retired invocation ≡ due = cc in
    let n : number ≡ due.number = ap (λ (d : Due). d.number) first in omega arith
numbered_from number (Call tenant place retired invocation ∷ ds) (suc at) due got = let n = numbered_from (number + 1) ds at due got in omega arith

-- each is of one of the tenants
pub tenants_of_dues : (tenants number : ℕ) (ds : List Directive) → All (IsOfTenant tenants) ds → All (IsOfTenants (1 + tenants)) (dues_from number ds)
tenants_of_dues tenants number [] all = All-nil (IsOfTenants (1 + tenants))
tenants_of_dues tenants number (Module name bytes ∷ ds) all = tenants_of_dues tenants number ds (All-tail (IsOfTenant tenants) (Module name bytes) ds all)
tenants_of_dues tenants number (Retire place name ∷ ds) all = tenants_of_dues tenants number ds (All-tail (IsOfTenant tenants) (Retire place name) ds all)
tenants_of_dues tenants number (Call tenant place retired invocation ∷ ds) all =
    let first : tenant ≤ tenants = All-head (IsOfTenant tenants) (Call tenant place retired invocation) ds all in
    let rest = tenants_of_dues tenants (number + 1) ds (All-tail (IsOfTenant tenants) (Call tenant place retired invocation) ds all) in
    All-cons (IsOfTenants (1 + tenants)) (due_of number tenant retired invocation) (dues_from (number + 1) ds) (omega arith) rest

-- what is due at a call's place is that call
pub due_at_call : (number : ℕ) (ds : List Directive) (at tenant place : ℕ) (retired : Bool) (invocation : Invocation) → call_at ds at ≡ Some (Call tenant place retired invocation)
    → slice_get (dues_from number ds) at ≡ Some (due_of (number + at) tenant retired invocation)
due_at_call number [] at tenant place retired invocation call = cc
due_at_call number (Module name bytes ∷ ds) at tenant place retired invocation call = due_at_call number ds at tenant place retired invocation call
due_at_call number (Retire p name ∷ ds) at tenant place retired invocation call = due_at_call number ds at tenant place retired invocation call
due_at_call number (Call t p r asked ∷ ds) zero tenant place retired invocation call =
    let tenant_is : t ≡ tenant = cc in
    let flag_is : r ≡ retired = cc in
    let asked_is : asked ≡ invocation = cc in
    let none : number ≡ number + 0 = omega arith in rw (← tenant_is, ← flag_is, ← asked_is, ← none) refl
due_at_call number (Call t p r asked ∷ ds) (suc at) tenant place retired invocation call =
    let next : number + 1 + at ≡ number + suc at = omega arith in
    due_at_call (number + 1) ds at tenant place retired invocation call ∙ ap (λ (n : ℕ). Some (due_of n tenant retired invocation)) next

-- So many calls are due, and whatever are those that are left completes them.
pub record DuesLeft (whole rest : List Directive) (number : ℕ) (calls : List Due) : Type 0 where
  pub few : number + call_count rest ≡ call_count whole
  pub completes : calls ++ dues_from (number + 1) rest ≡ dues_from 1 whole

module _ (whole : List Directive) where
  pub dues_begin : DuesLeft whole whole 0 []
  dues_begin = record { few = omega arith; completes = refl }

  pub dues_end : (rest : List Directive) (number : ℕ) (calls : List Due) → rest ≡ [] → DuesLeft whole rest number calls → calls ≡ dues_from 1 whole
  dues_end rest number calls none h =
      let k : DuesLeft whole [] number calls = rw none at h in sym (append-nil calls) ∙ k.completes

  module _ (rest more : List Directive) (number : ℕ) (calls : List Due) (d : Directive) (is : rest ≡ d ∷ more) (h : DuesLeft whole rest number calls) where
    pub due_other : ((tenant place : ℕ) (retired : Bool) (invocation : Invocation) → d ≡ Call tenant place retired invocation → ⊥) → DuesLeft whole more number calls
    due_other other = left_more d other (subst (λ (ds : List Directive). DuesLeft whole ds number calls) is h)
      where
        left_more : (x : Directive) → ((tenant place : ℕ) (retired : Bool) (invocation : Invocation) → x ≡ Call tenant place retired invocation → ⊥) → DuesLeft whole (x ∷ more) number calls
            → DuesLeft whole more number calls
        left_more (Module name bytes) not k = record { few = (let f = k.few in omega (arith, call_count-module name bytes more)); completes = k.completes }
        left_more (Retire place name) not k = record { few = (let f = k.few in omega (arith, call_count-retire place name more)); completes = k.completes }
        left_more (Call tenant place retired invocation) not k = absurd (not tenant place retired invocation refl)

    pub due_more : (tenant place : ℕ) (retired : Bool) (invocation : Invocation) → d ≡ Call tenant place retired invocation
        → DuesLeft whole more (number + 1) (calls ++ due_of (number + 1) tenant retired invocation ∷ [])
    due_more tenant place retired invocation call_is =
        let k : DuesLeft whole (Call tenant place retired invocation ∷ more) number calls = rw (is, call_is) at h in record {
          few = (let f = k.few in omega (arith, call_count-call tenant place retired invocation more));
          completes = append_assoc calls (due_of (number + 1) tenant retired invocation ∷ []) (dues_from (number + 1 + 1) more) ∙ k.completes;
        }
