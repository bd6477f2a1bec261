-- What is found in an option or in a list.
use Rattle.std.proofs.Common.{◌≡◌, ℕ, List, Option, Some, None, refl, subst}
use Rattle.std.specs.Prelude.{All, IsSome, slice_get}
use Rattle.std.proofs.lemmas.List.Elements.{All-get_or}
use Rattle.std.proofs.lemmas.Option.{get_or_from_slice_get, slice_get_within}

pub some_found : {A : Type 0} (o : Option A) → IsSome o → (x : A) × (o ≡ Some x)
some_found None h = cc
some_found (Some x) h = (x, refl)

-- what holds of each element holds of one that is found
pub all_found : {A : Type 0} (P : A → Type 0) (xs : List A) (i : ℕ) (x : A) → All P xs → slice_get xs i ≡ Some x → P x
all_found P xs i x all there = subst P (get_or_from_slice_get xs i x x there) (All-get_or P xs i x (slice_get_within xs i x there) all)
