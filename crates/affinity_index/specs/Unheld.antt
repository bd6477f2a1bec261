-- The slots that nobody held.
use Rattle.std.specs.Prelude.{ℕ, ◌+◌, ◌%◌, ◌==◌, cond, List, [], ◌∷◌}

abbrev pub unheld_from : ℕ → List ℕ → List ℕ
unheld_from k [] = []
unheld_from k (r ∷ rs) = cond (r % 2 == 0) (k ∷ unheld_from (k + 1) rs) (unheld_from (k + 1) rs)

-- the places of the words that are not held
abbrev pub unheld : List ℕ → List ℕ
unheld seen = unheld_from 0 seen
