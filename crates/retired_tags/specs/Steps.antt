-- What steps on the words of tags tell the pass that made them.
use Rattle.std.specs.Prelude.{ℕ, ◌≤◌, ◌==◌, ◌&&◌, not, Bool, false, List}
use Rattle.std.specs.List.{count_by}
use Rattle.retired_tags.specs.declared.views.TagStep.{TagStep}
use Rattle.retired_tags.specs.declared.views.TagStep.TheVariants.{RetireOr, RetireLoad}

-- a step that sets the bit of tag n
abbrev pub sets : ℕ → TagStep → Bool
sets n (RetireOr m read) = m == n
sets n (RetireLoad m read) = false

-- a step that sets the bit of tag n and read it not set
abbrev pub sets_first : ℕ → TagStep → Bool
sets_first n (RetireOr m read) = (m == n) && not read
sets_first n (RetireLoad m read) = false

-- a step after which its pass knows that the bit of tag n is set: it set it, or read it set
abbrev pub tells : ℕ → TagStep → Bool
tells n (RetireOr m read) = m == n
tells n (RetireLoad m read) = (m == n) && read

-- one of these steps set the bit of tag n
abbrev pub HasSet : ℕ → List TagStep → Type 0
HasSet n done = 1 ≤ count_by (sets n) done

-- from one of these steps a pass knows that the bit of tag n is set
abbrev pub Knows : ℕ → List TagStep → Type 0
Knows n done = 1 ≤ count_by (tells n) done

-- how many of these steps set the bit of tag n and read it not set
abbrev pub first_sets : ℕ → List TagStep → ℕ
first_sets n done = count_by (sets_first n) done
