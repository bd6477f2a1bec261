use Rattle.std.proofs.Common.{ℕ, subst}
use Rattle.pool_model.specs.Contents.{MemoryContents}
use Rattle.pool_limits.specs.declared.numbers.Numbers.{Numbers}
use Rattle.slot_words.specs.declared.words.Words.{Words}
use Rattle.slot_pools.specs.declared.policy.Policy.TheVariants.{Batched}
use Rattle.slot_pools.specs.Takes.{Takes, MeetsFull}
use Rattle.slot_pools.proofs.ResultLemmas.{on_err}
use Rattle.memory_slots.proofs.pool.MemoryPool.take_for.Goals as goal

pub returns-in_err-taken-clause-full : goal.returns-in_err-taken-clause-full
returns-in_err-taken-clause-full g c =
    let P : Words MemoryContents Numbers → ℕ → Type 0 = λ words tag. MeetsFull words (Batched tag) c.args.pass.now c.take_telling.new.pass in
    let tag = c.args.loaded.now.module.now.tag in
    on_err c.from_residual.result
    (subst (λ (words : Words MemoryContents Numbers). P words tag) c.self.view_is (subst (P c.self.inside.words) c.tag.ensures.tag c.in_err-taken.ensures.full))

pub returns-clause-word : goal.returns-clause-word
returns-clause-word g c = let won = c.in_ok-taken.ensures.taken in (won.word, won.is_word)

pub returns-clause-trail : goal.returns-clause-trail
returns-clause-trail g c =
    let P : Words MemoryContents Numbers → ℕ → Type 0 = λ words tag. Takes words (Batched tag) c.args.pass.now c.take_telling.new.pass c.in_ok-taken.taken.lease in
    subst (λ (words : Words MemoryContents Numbers). P words c.args.loaded.now.module.now.tag) c.self.view_is (subst (P c.self.inside.words) c.tag.ensures.tag c.in_ok-taken.ensures.trail)
