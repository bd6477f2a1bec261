-- What holds place by place of two lists.
use Rattle.std.proofs.Common.{◌≡◌, ◌∙◌, ℕ, suc, List, [], ◌∷◌, length, get_or, slice_get, Ok, Err, Some, refl, sym, subst, arith}
use denote.Param.Members.{Shared}
use Rattle.std.specs.Fn.{FnReturns}
use Rattle.std.specs.Fork.{GivesJobs}
use Rattle.std.specs.Global.{Global}
use Rattle.std.specs.List.{All, AllZip}
use Rattle.std.specs.Prelude.{IfOk, Result, Vec}
use Rattle.std.proofs.lemmas.List.Elements.{All-cons, All-nil}
use Rattle.std.proofs.lemmas.Option.{get_or_from_slice_get, slice_get_within}

module _ {A B : Type 0} (R : A → B → Type 0) where
  pub AllZip-from_places : (xs : List A) (ys : List B) → length ys ≡ length xs
      → ((k : ℕ) (x : A) (y : B) → slice_get xs k ≡ Some x → slice_get ys k ≡ Some y → R x y) → AllZip R xs ys
  AllZip-from_places [] [] long each = tt
  AllZip-from_places [] (y ∷ ys) long each = absurd (omega arith)
  AllZip-from_places (x ∷ xs) [] long each = absurd (omega arith)
  AllZip-from_places (x ∷ xs) (y ∷ ys) long each = (each 0 x y refl refl, AllZip-from_places xs ys (omega arith) (λ k a b at there. each (suc k) a b at there))

  -- what it says of each item of the second list
  pub All-from_zip : (P : B → Type 0) → ((x : A) (y : B) → R x y → P y) → (xs : List A) (ys : List B) → AllZip R xs ys → All P ys
  All-from_zip P says [] [] zip = All-nil P
  All-from_zip P says [] (y ∷ ys) zip = absurd zip
  All-from_zip P says (x ∷ xs) [] zip = absurd zip
  All-from_zip P says (x ∷ xs) (y ∷ ys) zip = All-cons P y ys (says x y zip.0) (All-from_zip P says xs ys zip.1)

  -- where memory lasted
  pub all_if_ok : {E : Type 0} (P : B → Type 0) → ((x : A) (y : B) → R x y → P y) → (xs : List A) (r : Result (Vec B Global) E) → IfOk r (λ v. AllZip R xs v.items) → IfOk r (λ v. All P v.items)
  all_if_ok P says xs (Ok v) zip = All-from_zip P says xs v.items zip
  all_if_ok P says xs (Err e) zip = tt

module _ {F J X : Type 0} (calls : Shared F (J × Unit {0}) X) (f : F) (R : J → X → Type 0) (says : (job : J) (x : X) → FnReturns calls f (job, tt) x → R job x) where
  -- it holds of jobs and of what the calls with them gave
  zip_from_calls : (jobs : List J) (xs : List X) → length xs ≡ length jobs → GivesJobs calls f jobs xs → AllZip R jobs xs
  zip_from_calls jobs xs long gives = AllZip-from_places R jobs xs long (λ k job x at there.
      let call = (gives k x (slice_get_within jobs k job at)).1 in
      let of_job : call.job ≡ job = sym (call.job_is job) ∙ get_or_from_slice_get jobs k job job at in
      let gave : get_or xs k x ≡ x = get_or_from_slice_get xs k x x there in
      subst (λ (a : J). R a x) of_job (subst (λ (b : X). R call.job b) gave (says call.job (get_or xs k x) call.call)))

  -- where memory lasted
  pub zip_if_ok : {E : Type 0} (jobs : List J) (r : Result (Vec X Global) E) → IfOk r (λ v. length v.items ≡ length jobs) → IfOk r (λ v. GivesJobs calls f jobs v.items) → IfOk r (λ v. AllZip R jobs v.items)
  zip_if_ok jobs (Ok v) long gives = zip_from_calls jobs v.items long gives
  zip_if_ok jobs (Err e) long gives = tt
