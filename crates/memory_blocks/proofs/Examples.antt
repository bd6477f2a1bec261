-- Computed examples of blocks and marks.
use Rattle.std.proofs.Common.{◌≡◌, [], ◌∷◌, true, false, refl}
use Rattle.memory_blocks.specs.Blocks.{is_marked}

last_of_block : is_marked (true ∷ false ∷ true ∷ []) 4095 ≡ true
last_of_block = refl

first_of_next : is_marked (true ∷ false ∷ true ∷ []) 4096 ≡ false
first_of_next = refl

last_of_next : is_marked (true ∷ false ∷ true ∷ []) 8191 ≡ false
last_of_next = refl

past_the_marks : is_marked (true ∷ true ∷ true ∷ []) 12288 ≡ false
past_the_marks = refl
