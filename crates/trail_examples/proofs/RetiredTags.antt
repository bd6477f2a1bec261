-- Steps at the bit of tag 5, and what they tell.
use Rattle.std.proofs.Common.{◌≡◌, ℕ, ◌≤◌, true, false, List, [], ◌∷◌, refl, arith}
use Rattle.atomic_table.specs.Table.{State as TableState}
use Rattle.retired_tags.specs.declared.setup.Setup.{Setup}
use Rattle.retired_tags.specs.declared.views.TagStep.{TagStep}
use Rattle.retired_tags.specs.declared.views.TagStep.TheVariants.{RetireLoad, RetireOr}
use Rattle.retired_tags.specs.declared.views.TagView.{TagView}
use Rattle.retired_tags.specs.Rule.{Kept}
use Rattle.retired_tags.specs.Steps.{HasSet, Knows}

-- ---- what one pass knows

knows_what_it_set : Knows 5 (RetireOr 5 false ∷ [])
knows_what_it_set = omega arith

knows_what_it_read_set : Knows 5 (RetireLoad 5 true ∷ [])
knows_what_it_read_set = omega arith

knows_what_it_read_not_set : Knows 5 (RetireLoad 5 false ∷ []) → ⊥
knows_what_it_read_not_set knows = let one : ◌≤◌ 1 0 = knows in omega (arith, one)

knows_by_another_tag : Knows 5 (RetireOr 6 false ∷ RetireLoad 6 true ∷ []) → ⊥
knows_by_another_tag knows = let one : ◌≤◌ 1 0 = knows in omega (arith, one)

set_by_a_look : HasSet 5 (RetireLoad 5 true ∷ []) → ⊥
set_by_a_look has = let one : ◌≤◌ 1 0 = has in omega (arith, one)

-- ---- what all passes did

abbrev setup : Setup
setup = record { tags = 6; passes = 2 }

abbrev view : List TagStep → TagView
view done = record { passes = 2; unsplit = 0; share = 1; trail = done; joined_trail = [] }

-- six bits, of which that of tag 5 is as given, and two passes
abbrev bits : ℕ → List TagStep → List TagStep → TableState (Unit {0}) TagView
bits bit first second = record { words = 0 ∷ 0 ∷ 0 ∷ 0 ∷ 0 ∷ bit ∷ []; homes = []; views = view first ∷ view second ∷ [] }

both_set_it_first : Kept setup (bits 1 (RetireOr 5 false ∷ []) (RetireOr 5 false ∷ [])) → ⊥
both_set_it_first kept = let two : ◌≡◌ {A = ℕ} 2 1 = kept.once 5 in omega (arith, two)

set_by_nobody : Kept setup (bits 1 [] (RetireLoad 5 true ∷ [])) → ⊥
set_by_nobody kept = let none : ◌≡◌ {A = ℕ} 0 1 = kept.once 5 in omega (arith, none)

known_and_not_set : Kept setup (bits 0 [] (RetireLoad 5 true ∷ [])) → ⊥
known_and_not_set kept = let none : ◌≡◌ {A = ℕ} 0 1 = (kept.each 1 _ refl).known 5 (omega arith) in omega (arith, none)

set_and_cleared : Kept setup (bits 0 (RetireOr 5 false ∷ []) []) → ⊥
set_and_cleared kept = let one : ◌≡◌ {A = ℕ} 1 0 = kept.once 5 in omega (arith, one)
