use Rattle.std.proofs.Common.{arith}
use Rattle.retired_tags.proofs.Rules.{splits_allowed}
use Rattle.retired_tags.proofs.tags.RetiredTags.split_pass.Goals as goal

pub split_seat-requires : goal.split_seat-requires
split_seat-requires c = let bits = c.args.self.now in let parts = c.requires.parts in (
  c.requires.own.own,
  omega (arith, bits.tags_are, bits.some_tags),
  splits_allowed bits.table.shared.key _ _ parts.0 parts.1,
)
