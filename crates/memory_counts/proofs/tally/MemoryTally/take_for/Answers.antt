use Rattle.std.proofs.Common.{◌∙◌, ℕ, ap}
use Rattle.pool_core.specs.StateWords.{unpacked}
use Rattle.slot_words.specs.Owned.{limit_of, slots_of}
use Rattle.memory_counts.proofs.CountLemmas.{counted_full, counted_won}
use Rattle.memory_counts.proofs.tally.MemoryTally.take_for.Goals as goal

pub returns-in-Ok-clause-counted : goal.returns-in-Ok-clause-counted
returns-in-Ok-clause-counted g c = λ was.
    let pool = c.args.pool.now in let taken = c.in-Ok.taken in let e = c.in-Ok.ensures in let n = c.note_won.ensures in
    counted_won g.N.Naming.config.batch c.args.pass.now c.take_for.new.pass c.args.self.now was c.note_won.new.self
    (limit_of pool) (slots_of pool) c.args.loaded.now.module.now.tag taken.lease.number taken.lease.word taken.flushed c.requires.idle e.holds e.trail (e.told g.N.Naming.config.batch)
    (n.claimed ∙ c.unpack.ensures.target ∙ ap (λ (k : ℕ). (unpacked k).target) c.word.ensures) n.flushes n.warm n.cold n.full

pub returns-in-Err-clause-counted : goal.returns-in-Err-clause-counted
returns-in-Err-clause-counted g c = λ was.
    let pool = c.args.pool.now in let e = c.in-Err.ensures in let n = c.note_full.ensures in
    counted_full g.N.Naming.config.batch c.args.pass.now c.take_for.new.pass c.args.self.now was c.note_full.new.self
    (limit_of pool) (slots_of pool) c.args.loaded.now.module.now.tag c.requires.idle e.full.0 e.full.1 n.claimed n.flushes n.warm n.cold n.full
