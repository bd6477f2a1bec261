use Rattle.std.proofs.Common.{arith}
use Rattle.retired_tags.proofs.Rules.{looks_allowed}
use Rattle.retired_tags.proofs.tags.RetiredTags.is_retired.Goals as goal

pub load-requires : goal.load-requires
load-requires c = let bits = c.args.self.now in let own = c.requires.own in (
  own.own,
  omega (arith, bits.tags_are, c.requires.tag),
  looks_allowed bits.table.shared.key _ _ _ _ c.requires.tag own.live,
)
