use Rattle.slot_words.specs.Owned.{slots_of}
use Rattle.decommit_batch.proofs.TellingLemmas.{quiet_sweep}
use Rattle.memory_counts.proofs.CountLemmas.{counted_quiet}
use Rattle.pool_host.proofs.host.Host.sweep.Goals as goal

pub returns-clause-counted : goal.returns-clause-counted
returns-clause-counted g c = λ was.
    let swept = c.sweep-memories in
    let grew = swept.ensures.trail in
    counted_quiet g.N.Naming.config.batch c.args.passes.now.memory swept.new.pass c.args.passes.now.tally was c.requires.idle.memory swept.ensures.idle
    (record { done = grew.done; grown = grew.grown; is = quiet_sweep c.tag.result (slots_of c.words.result.now) swept.result grew.done grew.is })
