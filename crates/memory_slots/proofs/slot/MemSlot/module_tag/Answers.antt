use Rattle.std.proofs.Common.{refl}
use Rattle.pool_core.specs.declared.words.State.TheVariants.{Awaiting}
use Rattle.pool_model.specs.declared.kinds.Kind.TheVariants as kind
use Rattle.pool_model.specs.OwnTags.{own_tag}
use Rattle.memory_slots.proofs.slot.MemSlot.module_tag.Goals as goal

pub tag-requires : goal.tag-requires
tag-requires g c = (Awaiting, own_tag kind.Memory c.args.self.now, refl, c.is_used.ensures)
