-- What a pass was given, in parts.
use Rattle.std.proofs.Common.{◌≡◌, ℕ, List, [], ◌++◌, sym, ap, ◌∙◌, append_assoc, append-nil}
use Rattle.job_queue.specs.declared.accounts.Account.{Account}
use Rattle.job_queue.specs.Accounts.{with_given}

module _ {M : Type 0} where
  pub given_none : (a : Account M) → a ≡ with_given a []
  given_none a = ap (λ (pairs : List (ℕ × M)). record a { given = pairs }) (sym (append-nil a.given))

  pub given_twice : (a b c : Account M) (xs ys : List (ℕ × M)) → b ≡ with_given a xs → c ≡ with_given b ys → c ≡ with_given a (xs ++ ys)
  given_twice a b c xs ys first second =
      let g = append_assoc a.given xs ys in second ∙ (ap (λ (x : Account M). with_given x ys) first ∙ (λ i. record a { given = g i }))
