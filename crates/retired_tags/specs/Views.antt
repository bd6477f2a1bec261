-- What passes know, at the start and after each change.
use Rattle.std.specs.Prelude.{ℕ, ◌+◌, ◌-◌, List, [], ◌∷◌, ◌++◌}
use Rattle.retired_tags.specs.declared.views.TagView.{TagView}
use Rattle.retired_tags.specs.declared.views.TagStep.{TagStep}

-- all steps of the pass, and of the passes that were joined into it
abbrev pub steps_of : TagView → List TagStep
steps_of v = v.trail ++ v.joined_trail

-- a pass that has done nothing yet
abbrev pub new_view : ℕ → ℕ → ℕ → TagView
new_view passes unsplit share = record { passes = passes; unsplit = unsplit; share = share; trail = []; joined_trail = [] }

-- the one pass, before the others are split off
abbrev pub first_view : ℕ → TagView
first_view passes = new_view passes (passes - 1) passes

-- the view of a seat that no pass has, and of one that was joined into another
abbrev pub spent_view : TagView
spent_view = new_view 0 0 0

-- the view after one step
abbrev pub view_after : TagView → TagStep → TagView
view_after v o = record v { trail = v.trail ++ o ∷ [] }

-- what is left where one seat is split off
abbrev pub view_left : TagView → TagView
view_left v = record v { unsplit = v.unsplit - 1; share = v.share - 1 }

-- what the seat that is split off knows
abbrev pub view_given : TagView → TagView
view_given v = new_view v.passes 0 1

-- a pass that took another in
abbrev pub view_joined : TagView → TagView → TagView
view_joined v w = record v { unsplit = v.unsplit + w.unsplit; share = v.share + w.share; joined_trail = v.joined_trail ++ steps_of w }

-- how many of the passes that were handed out a view stands for, and how many seats may still be split off from it
abbrev pub view_share : TagView → ℕ
view_share v = v.share

abbrev pub view_unsplit : TagView → ℕ
view_unsplit v = v.unsplit
