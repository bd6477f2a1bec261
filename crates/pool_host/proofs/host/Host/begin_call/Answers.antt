use Rattle.std.proofs.Common.{◌∙◌, refl}
use Rattle.pool_host.proofs.IdleLemmas.{idle_rests, rests_idle}
use Rattle.pool_host.proofs.PausedLemmas.{are_of_host, memory_out, still_of, table_out, ticket_out, took_those}
use Rattle.pool_host.proofs.StartLemmas.{not_begun}
use Rattle.pool_host.proofs.host.Host.begin_call.Goals as goal

pub start-requires-clause-idle : goal.start-requires-clause-idle
start-requires-clause-idle g c =
    let pass = c.args.pass in
    let passes = pass.passes in record {
      ticket = rests_idle passes.ticket pass.rests_ticket;
      memory = rests_idle passes.memory pass.rests_memory;
      table = rests_idle passes.table pass.rests_table;
    }

pub invariant_of-result-clause-has_ticket : goal.invariant_of-result-clause-has_ticket
invariant_of-result-clause-has_ticket g c =
    ticket_out c.args.self.now c.args.module.now c.start.new.passes c.begin-running.result c.in-Ok.instance c.begin-running.ensures.slots c.in-Ok.ensures.have

pub invariant_of-result-clause-has_memory : goal.invariant_of-result-clause-has_memory
invariant_of-result-clause-has_memory g c =
    memory_out c.args.self.now c.args.module.now c.start.new.passes c.begin-running.result c.in-Ok.instance c.begin-running.ensures.slots c.in-Ok.ensures.have

pub invariant_of-result-clause-has_table : goal.invariant_of-result-clause-has_table
invariant_of-result-clause-has_table g c =
    table_out c.args.self.now c.args.module.now c.start.new.passes c.begin-running.result c.in-Ok.instance c.begin-running.ensures.slots c.in-Ok.ensures.have

pub invariant_of-result-clause-one_retired : goal.invariant_of-result-clause-one_retired
invariant_of-result-clause-one_retired g c = c.start.ensures.looked.same.share_is ∙ c.args.pass.one_retired

pub returns-in-Ok-clause-begun : goal.returns-in-Ok-clause-begun
returns-in-Ok-clause-begun g c =
    let host = c.args.self.now in
    let m = c.args.module.now in
    let before = c.args.pass.passes in
    let after = c.start.new.passes in
    let start = c.start.ensures in
    let started = c.in-Ok.ensures in
    let began = c.begin-running in record {
      own = record {
        pools = are_of_host host m after began.result c.in-Ok.instance began.ensures.slots started.have (still_of host before after c.requires.own.pools start.same);
        tags = start.tags;
      };
      same = start.same;
      number_is = refl;
      function = c.in-Ok.function;
      may = started.may;
      begun = began.ensures.begun;
      took = took_those host m after began.result c.in-Ok.instance began.ensures.slots started.have g.N.Naming.config before started.took;
    }

pub invariant_of-begun : goal.invariant_of-begun
invariant_of-begun g c =
    let pass = c.args.pass in
    let after = c.start.new.passes in
    let same = c.start.ensures.same in
    let idle = c.in-Err.ensures.idle in record {
      rests_ticket = idle_rests after.ticket idle.ticket;
      rests_memory = idle_rests after.memory idle.memory;
      rests_table = idle_rests after.table idle.table;
      one_ticket = same.ticket.share_is ∙ pass.one_ticket;
      one_memory = same.memory.share_is ∙ pass.one_memory;
      one_table = same.table.share_is ∙ pass.one_table;
      one_retired = c.start.ensures.looked.same.share_is ∙ pass.one_retired;
      counted = c.start.ensures.counted pass.counted;
    }

pub returns-clause-begun : goal.returns-clause-begun
returns-clause-begun g c =
    let host = c.args.self.now in
    let before = c.args.pass.passes in
    let start = c.start.ensures in
    let call = c.args.call.now in
    rw c.begun.ensures.begun (not_begun g.N.Naming.config host c.args.module.now call.export.now call.args.now before call.fuel c.args.number _ c.in-Err.refused
    (still_of host before c.start.new.passes c.requires.own.pools start.same) start.tags start.same start.none c.in-Err.ensures.refused)
