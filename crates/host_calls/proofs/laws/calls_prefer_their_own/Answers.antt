use Rattle.pool_model.specs.Contents.{needs}
use Rattle.pool_model.specs.declared.kinds.Kind.TheVariants.{Memory, Table}
use Rattle.slot_words.specs.Owned.{limit_of, slots_of}
use Rattle.slot_pools.specs.declared.policy.Policy.TheVariants.{Affine, Batched}
use Rattle.pool_host.specs.Kinds.{IsFullTakeOf, IsGiveOf, IsTakeOf}
use Rattle.pool_host.specs.Trails.{visit_if}
use Rattle.pool_host.proofs.PreferringLemmas.{served_own}
use Rattle.host_calls.proofs.laws.calls_prefer_their_own.Goals as goal

pub returns : goal.returns
returns g c = λ config host m answer before after adds.
    let prefers = c.takes_prefer_their_own.ensures in
    let ends = c.the_last_claim_names_the_slot.ensures in
    record {
      memory = served_own (IsTakeOf Memory host.memories m) (IsGiveOf Memory host.memories m config.batch) (IsFullTakeOf Memory host.memories m) (slots_of host.memories) m.tag
          (prefers.batched (limit_of host.memories) (slots_of host.memories) m.tag)
          (ends (Batched m.tag) (limit_of host.memories) (slots_of host.memories))
          (visit_if (needs Memory m.tree) answer Memory) _ _ adds.memory;
      table = served_own (IsTakeOf Table host.tables m) (IsGiveOf Table host.tables m config.batch) (IsFullTakeOf Table host.tables m) (slots_of host.tables) m.tag
          (prefers.affine (limit_of host.tables) (slots_of host.tables) m.tag)
          (ends (Affine m.tag) (limit_of host.tables) (slots_of host.tables))
          (visit_if (needs Table m.tree) answer Table) _ _ adds.table;
    }
