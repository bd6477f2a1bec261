-- What a trail tells of the slots that were handed in, of flushes, and of takes that looked.
use Rattle.std.specs.Prelude.{ℕ, ◌-◌, ◌==◌, leb, Bool, true, false, not, ◌&&◌, List, [], ◌∷◌, ◌++◌}
use Rattle.std.specs.List.{count_by}
use Rattle.pool_core.specs.StateWords.{is_warm, unpacked}
use Rattle.slot_words.specs.declared.views.Operation.{Operation}
use Rattle.slot_words.specs.declared.views.Operation.TheVariants.{Claim, Release, WarmLoad, AwaitUp, AwaitLoad}

-- A flush follows: a take sets its mark, or a hand-in counts the last slot of a batch.
abbrev pub begins_flush : (batch : ℕ) → Operation → Bool
begins_flush batch (AwaitLoad read) = true
begins_flush batch (AwaitUp read) = leb (batch - 1) read
begins_flush batch o = false

abbrev pub flushes_in : (batch : ℕ) → List Operation → ℕ
flushes_in batch done = count_by (begins_flush batch) done

-- a take begins with a look
abbrev pub begins_look : Operation → Bool
begins_look (WarmLoad read) = true
begins_look o = false

abbrev pub looks_in : List Operation → ℕ
looks_in done = count_by begins_look done

-- what the last claim read, where it was this before
abbrev pub claimed_by : ℕ → Operation → ℕ
claimed_by last (Claim n read) = read
claimed_by last o = last

abbrev pub claimed_in : ℕ → List Operation → ℕ
claimed_in last [] = last
claimed_in last (o ∷ os) = claimed_in (claimed_by last o) os

-- whether a slot is counted as awaiting and not released yet
abbrev pub counted_by : Bool → Operation → Bool
counted_by up (AwaitUp read) = true
counted_by up (Release n stored) = false
counted_by up o = up

abbrev pub counted_in : Bool → List Operation → Bool
counted_in up [] = up
counted_in up (o ∷ os) = counted_in (counted_by up o) os

-- A slot that was counted as awaiting is handed in as it is released: what its claim had read, and what is stored.
abbrev pub handed_by : (last : ℕ) → (up : Bool) → Operation → List (ℕ × ℕ)
handed_by last true (Release n stored) = (last, stored) ∷ []
handed_by last up o = []

abbrev pub handed : (last : ℕ) → (up : Bool) → List Operation → List (ℕ × ℕ)
handed last up [] = []
handed last up (o ∷ os) = handed_by last up o ++ handed (claimed_by last o) (counted_by up o) os

-- it had been won warm for the module under whose tag it is handed in
abbrev pub was_own : ℕ × ℕ → Bool
was_own slot = is_warm (unpacked slot.0).target.state && ((unpacked slot.0).target.tag == (unpacked slot.1).target.tag)

abbrev pub warm_in : List Operation → ℕ
warm_in done = count_by was_own (handed 0 false done)

-- or not
abbrev pub cold_in : List Operation → ℕ
cold_in done = count_by (λ slot. not (was_own slot)) (handed 0 false done)
