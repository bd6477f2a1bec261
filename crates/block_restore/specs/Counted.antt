-- Bytes that are written in counted steps.
use Rattle.std.specs.Prelude.{◌≡◌}
use Rattle.block_restore.specs.declared.counted_bytes.CountedBytes.{CountedBytes}

-- they are still lent by the same references
abbrev pub AreSame : {L : Type 0} → CountedBytes L → CountedBytes L → Type 0
AreSame before after = (after.bytes.ghost_name ≡ before.bytes.ghost_name) × (after.steps.ghost_name ≡ before.steps.ghost_name)
