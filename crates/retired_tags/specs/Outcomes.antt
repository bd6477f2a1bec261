-- What each step tells its pass: the pass before it, the number that was read, and the pass after it.
use Rattle.std.specs.Prelude.{◌≡◌, ℕ, ◌==◌, cond}
use mathlib.Core.Logic.{◌↔◌}
use Rattle.atomic_table.specs.Table.{Me, Step}
use Rattle.retired_tags.specs.declared.views.TagView.{TagView}
use Rattle.retired_tags.specs.declared.views.TagStep.{TagStep}
use Rattle.retired_tags.specs.declared.views.TagStep.TheVariants.{RetireOr, RetireLoad}
use Rattle.retired_tags.specs.Steps.{first_sets, HasSet, Knows}
use Rattle.retired_tags.specs.Views.{steps_of, view_after}

abbrev pub Carrier : Type 0
Carrier = Me (Unit {0}) TagView

-- One step on the word of tag n, which read r and left it at b, tells that the pass noted it, how the bit stood to what the pass knew, and, where the pass stands for all, how many steps set it first.
pub record IsTold (n r b : ℕ) (o : TagStep) (m m' : Carrier) : Type 0 where
  pub slots : m'.1 ≡ m.1
  pub noted : m'.0 ≡ view_after m.0 o
  pub known : Knows n (steps_of m.0) → r ≡ 1
  pub own_steps : m.0.share ≡ m.0.passes → (r ≡ 1) ↔ HasSet n (steps_of m.0)
  pub once : m.0.share ≡ m.0.passes → first_sets n (steps_of m'.0) ≡ b

abbrev pub Retires : Step (Unit {0}) → Carrier → ℕ → Carrier → Type 0
Retires st m r m' = IsTold st.word r 1 (RetireOr st.word (r == 1)) m m'

abbrev pub Looks : Step (Unit {0}) → Carrier → ℕ → Carrier → Type 0
Looks st m r m' = IsTold st.word r (cond (r == 1) 1 0) (RetireLoad st.word (r == 1)) m m'
