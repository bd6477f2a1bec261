-- What a sweep looks at, claims and gives back.
use Rattle.std.specs.Prelude.{◌≡◌, ℕ, ◌≤◌, Bool, true, false, ◌&&◌, if◌then◌else◌, Option, Some, None, List}
use Rattle.std.specs.List.{count_by, filter_map, list_all, range_with_len}
use Rattle.pool_core.specs.StateWords.{packed, unpacked, cold_word, is_warm, is_awaiting}
use Rattle.slot_words.specs.declared.views.Operation.{Operation}
use Rattle.slot_words.specs.declared.views.Operation.TheVariants.{Load, Claim, Release, WarmDown, AwaitDown}
use Rattle.decommit_batch.specs.Sweep.{is_free_of, is_of_module}

-- the slot that is looked at, and the one that is claimed
abbrev pub slot_loaded : Operation → Option ℕ
slot_loaded (Load n read) = Some n
slot_loaded o = None

abbrev pub slot_claimed : Operation → Option ℕ
slot_claimed (Claim n read) = Some n
slot_claimed o = None

-- a slot that is seen free and of the module
abbrev pub slot_wanted : ℕ → Operation → Option ℕ
slot_wanted tag (Load n read) = if is_free_of tag (unpacked read) then Some n else None
slot_wanted tag o = None

-- a slot that is given back, with its word then
abbrev pub word_given : Operation → Option (ℕ × ℕ)
word_given (Release n stored) = Some (n, stored)
word_given o = None

-- a slot that is won, with the word that it is owed: cold where it is of the module still, and else as it was
abbrev pub word_owed : ℕ → Operation → Option (ℕ × ℕ)
word_owed tag (Claim n read) = if (unpacked read).held then None else Some (n, if is_of_module tag (unpacked read).target then packed cold_word else read)
word_owed tag o = None

abbrev pub gives_permit : Operation → Bool
gives_permit (WarmDown read) = true
gives_permit o = false

abbrev pub gives_mark : Operation → Bool
gives_mark (AwaitDown read) = true
gives_mark o = false

-- a claim that finds the slot free and warm for the module
abbrev pub finds_its_warm : ℕ → Operation → Bool
finds_its_warm tag (Claim n read) = is_free_of tag (unpacked read) && is_warm (unpacked read).target.state
finds_its_warm tag o = false

-- or awaiting for it
abbrev pub finds_its_awaiting : ℕ → Operation → Bool
finds_its_awaiting tag (Claim n read) = is_free_of tag (unpacked read) && is_awaiting (unpacked read).target.state
finds_its_awaiting tag o = false

-- a look, a claim, a release, or what gives a permit or a mark back
abbrev pub is_of_sweeps : Operation → Bool
is_of_sweeps (Load n read) = true
is_of_sweeps (Claim n read) = true
is_of_sweeps (Release n stored) = true
is_of_sweeps (WarmDown read) = true
is_of_sweeps (AwaitDown read) = true
is_of_sweeps o = false

-- each slot is accounted for in a sweep for the module of this tag, which cleaned so many
pub record AccountsForSlots (tag slots cleaned : ℕ) (done : List Operation) : Type 0 where
  -- each slot is looked at, once and rising
  pub looked_at : filter_map slot_loaded done ≡ range_with_len 0 slots
  -- those that are seen free and of the module are claimed, and no other
  pub claimed : filter_map slot_claimed done ≡ filter_map (slot_wanted tag) done
  -- each that is won is given the word that it is owed, and no other is given one
  pub given : filter_map word_given done ≡ filter_map (word_owed tag) done
  -- a permit goes back for each that was warm for the module, and a mark for each that was awaiting
  pub permits : count_by gives_permit done ≡ count_by (finds_its_warm tag) done
  pub marks : count_by gives_mark done ≡ count_by (finds_its_awaiting tag) done
  pub nothing_else : list_all is_of_sweeps done ≡ true
  pub few : cleaned ≤ slots
