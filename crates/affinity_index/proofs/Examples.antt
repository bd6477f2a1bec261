-- Ranks worked by hand: which slots are claimed behind one.
use Rattle.std.proofs.Common.{◌≡◌, true, false, [], ◌∷◌, Some, None, map, refl}
use Rattle.affinity_index.specs.declared.ranks.Ranked.{Ranked}
use Rattle.affinity_index.specs.Rankings.{behind, is_before_cold, is_behind, lesser_of, rank_behind, warm_rank}

-- slot 2, of rank 5
abbrev second : Ranked
second = record { rank = 5; number = 2 }

-- of its rank those of greater number come behind it, whatever their number those of greater rank, and it not behind itself
same_rank : map (is_behind second 5) (1 ∷ 2 ∷ 3 ∷ []) ≡ false ∷ false ∷ true ∷ []
same_rank = refl

other_ranks : is_behind second 4 9 ∷ is_behind second 6 0 ∷ [] ≡ false ∷ true ∷ []
other_ranks = refl

-- behind none each rank is left; behind one, those that come behind it
ranks_left : behind None 2 (Some 5) ∷ behind None 2 None ∷ behind (Some second) 3 (Some 5) ∷ behind (Some second) 2 (Some 5) ∷ behind (Some second) 3 None ∷ []
    ≡ Some 5 ∷ None ∷ Some 5 ∷ None ∷ None ∷ []
ranks_left = refl

-- the first of two stays where their ranks are equal
lesser : map (lesser_of (Some second)) (record { rank = 5; number = 3 } ∷ record { rank = 4; number = 3 } ∷ []) ≡ second ∷ record { rank = 4; number = 3 } ∷ []
lesser = refl

-- A cold slot, one that is held, and one that is warm for module 7 with stamp 0. Behind the warm one the cold one is left.
left_in_a_row : map (rank_behind (0 ∷ 1 ∷ 58 ∷ []) 7 false None) (0 ∷ 1 ∷ 2 ∷ 3 ∷ []) ≡ Some 2199023255552 ∷ None ∷ Some 2199023255551 ∷ None ∷ []
left_in_a_row = refl

left_behind_the_warm : map (rank_behind (0 ∷ 1 ∷ 58 ∷ []) 7 false (Some (record { rank = 2199023255551; number = 2 }))) (0 ∷ 1 ∷ 2 ∷ 3 ∷ []) ≡ Some 2199023255552 ∷ None ∷ None ∷ None ∷ []
left_behind_the_warm = refl

-- a word without the bit of a warm state has no rank among the warm ones: cold, held, awaiting
not_warm : map (warm_rank 7 false) (0 ∷ 1 ∷ 60 ∷ []) ≡ None ∷ None ∷ None ∷ []
not_warm = refl

-- a warm one has its rank, for its own module and for another, and none while it is held
warm : map (warm_rank 7 false) (58 ∷ 66 ∷ 59 ∷ []) ≡ Some 2199023255551 ∷ Some 4398046511104 ∷ None ∷ []
warm = refl

-- its own module's comes before a cold one, and another's where the warm ones are at their limit alone
before_cold : is_before_cold false (Some (record { rank = 2199023255551; number = 2 })) ∷ is_before_cold false (Some (record { rank = 4398046511104; number = 2 }))
    ∷ is_before_cold true (Some (record { rank = 2199023255552; number = 2 })) ∷ is_before_cold false None ∷ []
    ≡ true ∷ false ∷ true ∷ false ∷ []
before_cold = refl
