-- Claims of the numbers that were seen not held.
use Rattle.std.proofs.Common.{◌≡◌, ℕ, ◌+◌, ◌<◌, ◌%◌, ◌==◌, MatchBool, List, [], ◌∷◌, ◌++◌, length, take, sym, subst}
use Rattle.std.specs.Prelude.{slice_index_or}
use Rattle.slot_words.specs.declared.views.Operation.{Operation}
use Rattle.slot_words.specs.declared.views.Operation.TheVariants.{Claim}
use Rattle.slot_words.specs.Parts.{Grew}
use Rattle.slot_words.specs.Rows.{IsLost}
use Rattle.affinity_index.specs.Unheld.{unheld, unheld_from}
use Rattle.affinity_index.proofs.UnheldLists.{unheld_more, unheld_at}
use Rattle.slot_pools.specs.Rows.{AreLost, IsWonAlong}
use Rattle.slot_pools.proofs.WonRows.{lost_more, won_before_rest}

pub unheld_lost : (seen : List ℕ) (n : ℕ) (t u v : List Operation) → n < length seen → Grew (AreLost (unheld_from 0 (take n seen))) t u
    → MatchBool (slice_index_or seen n 0 % 2 == 0) (Grew (IsLost n) u v) (v ≡ u) → Grew (AreLost (unheld_from 0 (take (n + 1) seen))) t v
unheld_lost seen n t u v within so_far more =
    subst (λ (ns : List ℕ). Grew (AreLost ns) t v) (sym (unheld_more seen n within)) (lost_more (slice_index_or seen n 0 % 2 == 0) (unheld_from 0 (take n seen)) n t u v so_far more)

pub unheld_won : (seen : List ℕ) (n m read : ℕ) (t u v : List Operation) → n < length seen → slice_index_or seen n 0 % 2 ≡ 0 → m ≡ n → Grew (AreLost (unheld_from 0 (take n seen))) t u
    → v ≡ u ++ Claim n read ∷ [] → Grew (IsWonAlong (unheld seen) m read) t v
unheld_won seen n m read t u v within free same so_far won = let at = unheld_at seen n within free in
    subst (λ (ns : List ℕ). Grew (IsWonAlong ns m read) t v) (sym at.1) (won_before_rest (unheld_from 0 (take n seen)) at.0 n m read t u v same so_far won)
