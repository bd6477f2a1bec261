use Rattle.std.proofs.Common.{refl, rules}
use Rattle.tenant_share.specs.Tenants.{tenants_of}
use Rattle.tenant_share.proofs.PlaceLemmas.{All-at}
use Rattle.call_jobs.specs.Entries.{IsOfTenants}
use Rattle.call_workers.proofs.TakenLemmas.{entry_made, made_for_all, made_none}
use Rattle.call_workers.proofs.calls.make.Goals as goal

pub made-requires : goal.made-requires
made-requires g c = (search rules, (c.requires.caller, All-at (IsOfTenants (tenants_of c.args.share.now)) _ _ _ c.requires.tenants c.due_at-due.ensures.there))

pub returns-in-Some-clause-entry : goal.returns-in-Some-clause-entry
returns-in-Some-clause-entry g c =
    rw c.in-Some.is
    (entry_made g.N.Naming.config c.args.calls.now c.args.number _ _ c.made.result c.due_at-due.ensures.there c.due_at-due.ensures.number c.made.ensures.number c.made.ensures.answered)

pub returns-in-Some-clause-made : goal.returns-in-Some-clause-made
returns-in-Some-clause-made g c =
    rw c.in-Some.is
    (made_for_all g.N.Naming.config c.args.share.now c.args.calls.now c.args.number _ _ c.args.caller.now c.made.new.caller c.made.result c.due_at-due.ensures.there c.due_at-due.ensures.number c.made.ensures.number
    c.made.ensures.answered c.made.ensures.call)

pub returns-in-None-clause-entry : goal.returns-in-None-clause-entry
returns-in-None-clause-entry g c = rw c.in-None.is (record { number_is = refl; due = c.due_at-due.result.now; due_is = c.due_at-due.ensures.there; answered = (refl, refl) })

pub returns-in-None-clause-made : goal.returns-in-None-clause-made
returns-in-None-clause-made g c =
    rw c.in-None.is (made_none g.N.Naming.config c.args.share.now c.args.calls.now c.args.number _ c.args.caller.now (record { number_is = refl; due = c.due_at-due.result.now; due_is = c.due_at-due.ensures.there; answered = (refl, refl) }))
