-- What a scan adds to a trail.
use Rattle.std.specs.Prelude.{ℕ, ◌+◌, List, [], ◌∷◌}
use Rattle.slot_words.specs.declared.views.Operation.{Operation}
use Rattle.slot_words.specs.declared.views.Operation.TheVariants.{Load}

-- the loads of k, k + 1, .. that read these words
abbrev pub loads_from : ℕ → List ℕ → List Operation
loads_from k [] = []
loads_from k (r ∷ rs) = Load k r ∷ loads_from (k + 1) rs
