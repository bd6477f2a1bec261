-- What a clause says of the bits and of their passes.
use Rattle.std.specs.Prelude.{◌≡◌, ℕ, ◌≤◌, List, []}
use Rattle.atomic_table.specs.declared.shared.Seat.{Seat}
use Rattle.retired_tags.specs.declared.tags.RetiredTags.{RetiredTags}
use Rattle.retired_tags.specs.declared.views.TagView.{TagView}
use Rattle.retired_tags.specs.declared.views.TagStep.{TagStep}
use Rattle.retired_tags.specs.Views.{steps_of}

-- a seat at the bits; antt has no name for a Rust alias
abbrev pub TagPass : Type 0
TagPass = Seat (Unit {0}) TagView

-- how many tags there are, and how many passes were handed out
abbrev pub tags_of : RetiredTags → ℕ
tags_of bits = bits.table.shared.key.tags

abbrev pub passes_of : RetiredTags → ℕ
passes_of bits = bits.table.shared.key.passes

-- the pass's steps so far, each with what it read
abbrev pub trail : TagPass → List TagStep
trail p = p.me.0.trail

-- its steps, and those of the passes that were joined into it
abbrev pub steps : TagPass → List TagStep
steps p = steps_of p.me.0

-- how many of the passes that were handed out it stands for
abbrev pub share_of : TagPass → ℕ
share_of p = p.me.0.share

-- the pass is one of these bits
pub record IsTagPass (bits : RetiredTags) (p : TagPass) : Type 0 where
  pub own : p.table_id ≡ bits.table.shared.table_id
  pub passes_are : p.me.0.passes ≡ passes_of bits
  pub live : 1 ≤ share_of p
  pub no_slots : p.me.1 ≡ []

-- all passes were joined into this one
abbrev pub StandsForAll : RetiredTags → TagPass → Type 0
StandsForAll bits p = share_of p ≡ passes_of bits

-- the pass is one of these bits, as it is handed out: for itself alone, with no step yet
pub record IsNewTagPass (bits : RetiredTags) (p : TagPass) : Type 0 where
  pub own : IsTagPass bits p
  pub share_is : share_of p ≡ 1
  pub trail_is : trail p ≡ []
  pub steps_are : steps p ≡ []

-- the pass stays that pass of those bits, and joins no other
pub record IsSameTagPass (p q : TagPass) : Type 0 where
  pub table_is : q.table_id ≡ p.table_id
  pub number_is : q.id ≡ p.id
  pub passes_are : q.me.0.passes ≡ p.me.0.passes
  pub unsplit_is : q.me.0.unsplit ≡ p.me.0.unsplit
  pub share_is : share_of q ≡ share_of p
  pub joined_is : q.me.0.joined_trail ≡ p.me.0.joined_trail
  pub slots_are : q.me.1 ≡ p.me.1
