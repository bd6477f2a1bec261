use Rattle.std.proofs.Common.{arith}
use Rattle.retired_tags.proofs.Rules.{retires_allowed}
use Rattle.retired_tags.proofs.tags.RetiredTags.retire.Goals as goal

pub fetch_or-requires : goal.fetch_or-requires
fetch_or-requires c = let bits = c.args.self.now in let own = c.requires.own in (
  own.own,
  omega (arith, bits.tags_are, c.requires.tag),
  retires_allowed bits.table.shared.key _ _ _ _ c.requires.tag own.live,
)
