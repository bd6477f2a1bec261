-- The rule: a bit that is set was set by one step that read it not set, and what a pass knows of the bits is so.
use Rattle.std.specs.Prelude.{◌≡◌, ℕ, ◌+◌, ◌≤◌, List, [], length, slice_index_or}
use mathlib.Core.Option.{some}
use lib.ListN.{get_elem?}
use Rattle.std.specs.List.{sum_by}
use Rattle.atomic_table.specs.Table.{State as TableState}
use Rattle.slot_words.specs.SharedPasses.{AreShared}
use Rattle.retired_tags.specs.declared.setup.Setup.{Setup}
use Rattle.retired_tags.specs.declared.views.TagView.{TagView}
use Rattle.retired_tags.specs.Steps.{first_sets, HasSet, Knows}
use Rattle.retired_tags.specs.Views.{steps_of, view_share, view_unsplit}

-- what one pass says of the words, where so many passes were handed out
pub record IsTruly (passes : ℕ) (words : List ℕ) (v : TagView) : Type 0 where
  -- a bit that it knows to be set is set
  pub known : (n : ℕ) → Knows n (steps_of v) → slice_index_or words n 0 ≡ 1
  -- a seat that stands for no pass has no steps
  pub away : v.share ≡ 0 → steps_of v ≡ []
  pub told : 1 ≤ v.share → v.passes ≡ passes

-- how many steps of all passes set the bit of tag n and read it not set
abbrev pub all_first_sets : ℕ → List TagView → ℕ
all_first_sets n views = sum_by (λ (v : TagView). first_sets n (steps_of v)) views

pub record Kept (setup : Setup) (s : TableState (Unit {0}) TagView) : Type 0 where
  pub words_are : length s.words ≡ setup.tags
  -- a word has its lowest bit or none
  pub bits : (n : ℕ) → slice_index_or s.words n 0 ≤ 1
  -- one step read the bit not set and set it, where it is set, and none where it is not
  pub once : (n : ℕ) → all_first_sets n s.views ≡ slice_index_or s.words n 0
  pub each : (j : ℕ) (v : TagView) → get_elem? s.views j ≡ some v → IsTruly setup.passes s.words v
  pub shared : AreShared view_share view_unsplit setup.passes s.views

-- some pass set the bit of tag n
pub record IsSetBySome (n : ℕ) (views : List TagView) : Type 0 where
  pub seat : ℕ
  pub view : TagView
  pub at : get_elem? views seat ≡ some view
  pub has_set : HasSet n (steps_of view)

-- Whatever the bits and the passes are at a moment: the bit that one pass knows to be set is set, and some pass set it.
abbrev pub SetForGood : Type 0
SetForGood = (setup : Setup) (s : TableState (Unit {0}) TagView) → Kept setup s
    → (j n : ℕ) (v : TagView) → get_elem? s.views j ≡ some v → Knows n (steps_of v) → (slice_index_or s.words n 0 ≡ 1) × IsSetBySome n s.views

-- Whatever the bits and the passes are at a moment: of the steps of two passes together, no more than one read the bit of a tag not set and set it.
abbrev pub SetByOne : Type 0
SetByOne = (setup : Setup) (s : TableState (Unit {0}) TagView) → Kept setup s
    → (i j n : ℕ) (v w : TagView) → get_elem? s.views i ≡ some v → get_elem? s.views j ≡ some w → ¬ (i ≡ j) → first_sets n (steps_of v) + first_sets n (steps_of w) ≤ 1
