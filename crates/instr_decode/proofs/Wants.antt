-- Where memory may be wanted to read a vector, or code.
use Rattle.std.proofs.Common.{ℕ, ◌<◌, ◌⊎◌, inl, List, [], ◌∷◌, length, subst, arith}
use Rattle.wasm_values.specs.declared.profile.Profile.{Profile}
use Rattle.wasm_spec.specs.Numbers.{TakesUnsigned, TakesEach}
use Rattle.instr_decode.specs.declared.token.Token.{Token}
use Rattle.instr_decode.specs.Tokens.{TakesToken}
use Rattle.instr_decode.specs.Wants.{BeginsWith, WantsVec, WantsExpr}

-- the first of some items stands at the beginning
pub each-begins : {A : Type 0} (Takes : A → List ℕ → List ℕ → Type 0) (xs : List A) (bytes after : List ℕ) → TakesEach Takes xs bytes after → 0 < length xs → BeginsWith Takes bytes
each-begins Takes [] bytes after each some = absurd (omega (arith, some))
each-begins Takes (x ∷ xs) bytes after each some = record { item = x; after = each.0; spelled = each.1 }

-- so too where the next item stands behind some, or memory may be wanted to read that
pub first-wants : {A : Type 0} (Takes : A → List ℕ → List ℕ → Type 0) (Wants : List ℕ → Type 0) (done : List A) (bytes here : List ℕ)
    → TakesEach Takes done bytes here → BeginsWith Takes here ⊎ Wants here → BeginsWith Takes bytes ⊎ Wants bytes
first-wants Takes Wants [] bytes here each next = subst (λ (l : List ℕ). BeginsWith Takes l ⊎ Wants l) each next
first-wants Takes Wants (x ∷ xs) bytes here each next = inl (record { item = x; after = each.0; spelled = each.1 })

pub vec-wants : {A : Type 0} (Takes : A → List ℕ → List ℕ → Type 0) (Wants : List ℕ → Type 0) (done : List A) (bytes mid here : List ℕ) (n : ℕ)
    → TakesUnsigned 32 n bytes mid → TakesEach Takes done mid here → length done < n → BeginsWith Takes here ⊎ Wants here → WantsVec Takes Wants bytes
vec-wants Takes Wants done bytes mid here n count each lt next =
    record { number = n; mid = mid; count = count; some = omega (arith, lt); first = first-wants Takes Wants done mid here each next }

pub token-wants : (profile : Profile) (o : Token) (bytes after : List ℕ) → TakesToken profile o bytes after → WantsExpr profile bytes
token-wants profile o bytes after h = inl (record { item = o; after = after; spelled = h })
