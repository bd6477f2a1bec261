use Rattle.std.proofs.Common.{refl}
use Rattle.pool_core.specs.declared.words.State.TheVariants.{Warm}
use Rattle.pool_model.specs.declared.kinds.Kind.TheVariants.{Table}
use Rattle.pool_model.specs.OwnTags.{own_tag}
use Rattle.table_slots.proofs.pool.TablePool.give.Goals as goal

pub give_warm-requires-clause-used : goal.give_warm-requires-clause-used
give_warm-requires-clause-used g c = (Warm, own_tag Table c.args.lease.value, refl, c.is_its_modules.ensures)
