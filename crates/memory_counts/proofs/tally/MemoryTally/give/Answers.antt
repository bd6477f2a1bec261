use Rattle.std.proofs.Common.{◌≡◌, ◌<◌, ◌==◌, ◌&&◌, ◌∙◌, ℕ, ap, subst, arith}
use Rattle.pool_core.specs.StateWords.{is_warm, tag_bound}
use Rattle.slot_words.specs.Owned.{limit_of, slots_of}
use Rattle.pool_model.specs.declared.kinds.Kind.TheVariants as kind
use Rattle.pool_model.specs.OwnTags.{own_tag}
use Rattle.memory_slots.specs.Left.{lease_in}
use Rattle.memory_counts.proofs.CountLemmas.{counted_given}
use Rattle.memory_counts.proofs.tally.MemoryTally.give.Goals as goal

pub returns-clause-counted : goal.returns-clause-counted
returns-clause-counted g c = λ was.
    let pool = c.args.pool.now in let claimed = c.args.self.now.claimed in let given = c.give_left-flushed in let n = c.note_given.ensures in
    let tag = c.module_tag-tag.ensures in
    let small : own_tag kind.Memory (lease_in c.args.left).value < tag_bound = subst (λ (k : ℕ). k < tag_bound) tag.is tag.small in
    counted_given g.N.Naming.config.batch c.args.pass.now given.new.pass c.args.self.now was c.note_given.new.self
    (limit_of pool) (slots_of pool) (lease_in c.args.left).number (own_tag kind.Memory (lease_in c.args.left).value) c.is_own_warm-own.result given.result c.requires.holds given.ensures.idle small given.ensures.trail given.ensures.told
    (c.is_own_warm-own.ensures ∙ ap (λ (k : ℕ). is_warm claimed.state && (claimed.tag == k)) tag.is) n.claimed n.flushes n.warm n.cold n.full
