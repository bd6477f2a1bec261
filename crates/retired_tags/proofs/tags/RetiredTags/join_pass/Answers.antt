use Rattle.std.proofs.Common.{arith}
use Rattle.retired_tags.proofs.Rules.{joins_allowed}
use Rattle.retired_tags.proofs.tags.RetiredTags.join_pass.Goals as goal

pub join_seat-requires : goal.join_seat-requires
join_seat-requires c = let bits = c.args.self.now in let a = c.requires.own in let b = c.requires.other in (
  a.own,
  b.own,
  b.no_slots,
  omega (arith, bits.tags_are, bits.some_tags),
  joins_allowed bits.table.shared.key _ _ _ _ a.live b.live,
)
