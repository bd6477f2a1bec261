use Rattle.std.proofs.Common.{ℕ, subst}
use Rattle.pool_model.specs.Contents.{TableContents}
use Rattle.pool_limits.specs.declared.numbers.Numbers.{Numbers}
use Rattle.slot_words.specs.declared.words.Words.{Words}
use Rattle.slot_pools.specs.declared.policy.Policy.TheVariants.{Affine}
use Rattle.slot_pools.specs.Takes.{Takes, MeetsFull}
use Rattle.slot_pools.proofs.ResultLemmas.{on_err}
use Rattle.table_slots.proofs.pool.TablePool.take_for.Goals as goal

pub returns-in_err-lease-clause-full : goal.returns-in_err-lease-clause-full
returns-in_err-lease-clause-full g c =
    let P : Words TableContents Numbers → ℕ → Type 0 = λ words tag. MeetsFull words (Affine tag) c.args.pass.now c.take.new.pass in
    let tag = c.args.loaded.now.module.now.tag in
    on_err c.from_residual.result
    (subst (λ (words : Words TableContents Numbers). P words tag) c.self.view_is (subst (P c.self.inside.words) c.tag.ensures.tag c.in_err-lease.ensures.full))

pub returns-clause-trail : goal.returns-clause-trail
returns-clause-trail g c =
    let P : Words TableContents Numbers → ℕ → Type 0 = λ words tag. Takes words (Affine tag) c.args.pass.now c.take.new.pass c.in_ok-lease.lease in
    subst (λ (words : Words TableContents Numbers). P words c.args.loaded.now.module.now.tag) c.self.view_is (subst (P c.self.inside.words) c.tag.ensures.tag c.in_ok-lease.ensures.trail)
