-- One item after another.
use Rattle.std.specs.Prelude.{◌⊎◌, ℕ, List}
use Rattle.std.proofs.Common.{sym, ap, ◌∙◌, subst}
use Rattle.wasm_spec.specs.Numbers.{IsUnambiguous}

abbrev pub TakesPair : {A B : Type 0} → (A → List ℕ → List ℕ → Type 0) → (B → List ℕ → List ℕ → Type 0) → A × B → List ℕ → List ℕ → Type 0
TakesPair TakesA TakesB p bytes rest = (mid : List ℕ) × TakesA p.0 bytes mid × TakesB p.1 mid rest

-- one stands there, and memory may be wanted to read what follows it
pub record WantsBehind {A : Type 0} (Takes : A → List ℕ → List ℕ → Type 0) (Wants : List ℕ → Type 0) (bytes : List ℕ) : Type 0 where
  pub item : A
  pub after : List ℕ
  pub spelled : Takes item bytes after
  pub wants : Wants after

-- memory may be wanted to read the first, or the second behind it
abbrev pub WantsPair : {A : Type 0} → (A → List ℕ → List ℕ → Type 0) → (List ℕ → Type 0) → (List ℕ → Type 0) → List ℕ → Type 0
WantsPair TakesA WantsA WantsB bytes = WantsA bytes ⊎ WantsBehind TakesA WantsB bytes

pub pair-unique : {A B : Type 0} (TakesA : A → List ℕ → List ℕ → Type 0) (TakesB : B → List ℕ → List ℕ → Type 0)
    → IsUnambiguous TakesA → IsUnambiguous TakesB → IsUnambiguous (TakesPair TakesA TakesB)
pair-unique {A = A} {B = B} TakesA TakesB u v p q bytes r s a b =
    let i = u p.0 q.0 bytes a.0 b.0 a.1 b.1 in
    let j = v p.1 q.1 a.0 r s a.2 (subst (λ (l : List ℕ). TakesB q.1 l s) (sym i.1) b.2) in
    (ap (λ (x : A). let z : A × B = (x, p.1) in z) i.0 ∙ ap (λ (y : B). let z : A × B = (q.0, y) in z) j.0, j.1)
