-- Items of a list that change one after another.
use Rattle.std.proofs.Common.{◌≡◌, ◌∙◌, ℕ, ◌+◌, ◌<◌, ◌≤◌, List, length, set, slice_get, Some, refl, sym, subst, arith}
use mathlib.Core.Logic.{dite}
use native.Mathlib.Decide.{ℕ_discrete}
use Rattle.std.specs.List.{AllZip}
use Rattle.std.proofs.lemmas.List.{length-set}
use Rattle.std.proofs.lemmas.Option.{same_Some, slice_get_within}
use Rattle.tenant_share.proofs.PlaceLemmas.{get-set, get-set_elsewhere}
use Rattle.call_workers.proofs.ZipLemmas.{AllZip-from_places}

module _ {A : Type 0} (R : A → A → Type 0) where
  -- so many of the first items have changed so, and the others are as they were
  pub record ChangedUpTo (count : ℕ) (was now : List A) : Type 0 where
    pub long : length now ≡ length was
    pub each : (k : ℕ) (x y : A) → k < count → slice_get was k ≡ Some x → slice_get now k ≡ Some y → R x y
    pub rest : (k : ℕ) → count ≤ k → slice_get now k ≡ slice_get was k

  pub none_changed : (xs : List A) → ChangedUpTo 0 xs xs
  none_changed xs = record { long = refl; each = λ k x y within. absurd (omega arith); rest = λ k within. refl }

  -- the next one has changed so as well
  pub one_more_changed : (count : ℕ) (was now : List A) (x y : A) → ChangedUpTo count was now → slice_get now count ≡ Some x → R x y → ChangedUpTo (count + 1) was (set now count y)
  one_more_changed count was now x y before at changed =
      let within : count < length now = slice_get_within now count x at in record {
        long = length-set now count y ∙ before.long;
        each = λ k a b upto old new. dite (ℕ_discrete k count)
            (λ same.
            let first : x ≡ a = same_Some x a (sym at ∙ (before.rest count (omega arith) ∙ subst (λ (j : ℕ). slice_get was j ≡ Some a) same old)) in
            let second : y ≡ b = same_Some y b (sym (get-set now count y within) ∙ subst (λ (j : ℕ). slice_get (set now count y) j ≡ Some b) same new) in
            subst (λ (z : A). R z b) first (subst (λ (z : A). R x z) second changed))
            (λ other. before.each k a b (omega arith) old (sym (get-set_elsewhere now count k y other) ∙ new));
        rest = λ k beyond. get-set_elsewhere now count k y (λ same. omega arith) ∙ before.rest k (omega arith);
      }

  -- all have, once they are written back
  pub all_changed : (count : ℕ) (was now : List A) → length was ≤ count → ChangedUpTo count was now → AllZip R was now
  all_changed count was now all changed = AllZip-from_places R was now changed.long (λ k x y at there.
      changed.each k x y (let within = slice_get_within was k x at in omega arith) at there)
