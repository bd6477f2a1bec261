-- A scan that is one load longer.
use Rattle.std.proofs.Common.{◌≡◌, ℕ, suc, ◌+◌, List, [], ◌∷◌, ◌++◌, length, sym, ap, ◌∙◌, arith, append_assoc}
use Rattle.slot_words.specs.declared.views.Operation.{Operation}
use Rattle.slot_words.specs.declared.views.Operation.TheVariants.{Load}
use Rattle.slot_words.specs.Trails.{loads_from}

loads_from-append : (k r : ℕ) (rs : List ℕ) → loads_from k (rs ++ r ∷ []) ≡ loads_from k rs ++ Load (k + length rs) r ∷ []
loads_from-append k r [] = ap (λ (j : ℕ). Load j r ∷ []) (let e : k ≡ k + 0 = omega arith in e)
loads_from-append k r (x ∷ rs) = ap (λ os. Load k x ∷ os) (loads_from-append (k + 1) r rs ∙ ap (λ (j : ℕ). loads_from (k + 1) rs ++ Load j r ∷ []) (let e : k + 1 + length rs ≡ k + suc (length rs) = omega arith in e))

pub one_load_more : (n r : ℕ) (rs seen : List ℕ) (t0 t t' : List Operation) → length rs ≡ n → t ≡ t0 ++ loads_from 0 rs → t' ≡ t ++ Load n r ∷ [] → seen ≡ rs ++ r ∷ [] → t' ≡ t0 ++ loads_from 0 seen
one_load_more n r rs seen t0 t t' len a b d = b ∙ ap (λ os. os ++ Load n r ∷ []) a ∙ append_assoc t0 (loads_from 0 rs) (Load n r ∷ []) ∙ ap (λ os. t0 ++ os)
    (ap (λ (j : ℕ). loads_from 0 rs ++ Load j r ∷ []) (let e : n ≡ 0 + length rs = omega arith in e) ∙ sym (loads_from-append 0 r rs) ∙ ap (loads_from 0) (sym d))
