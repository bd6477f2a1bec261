-- The numbers of calls.
use Rattle.std.proofs.Common.{◌≡◌, ◌↔◌, ◌≤◌, ℕ, zero, suc, refl, inl, inr, ⊎_elim, arith}
use Rattle.job_queue.specs.declared.accounts.Terms.{Terms}
use Rattle.job_queue.specs.Accounts.{IsCallNumber, MayBePut}

may_be_put : (terms : Terms) (number : ℕ) → terms.first ≡ 1 → number ≤ terms.count → MayBePut terms number
may_be_put terms zero first le = inl refl
may_be_put terms (suc n) first le = inr (omega arith, omega arith)

-- from 1 on they are those up to their count
pub numbers_from_1 : (terms : Terms) (number : ℕ) → terms.first ≡ 1 → MayBePut terms number ↔ (number ≤ terms.count)
numbers_from_1 terms number first =
    ((λ may. ⊎_elim (λ (none : number ≡ 0). let le : number ≤ terms.count = omega arith in le) (λ (call : IsCallNumber terms number). let le : number ≤ terms.count = omega arith in le) may), may_be_put terms number first)
