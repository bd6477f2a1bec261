use Rattle.std.proofs.Common.{None, refl, subst, set}
use Rattle.wasm_values.specs.declared.outcome.Val.{Val}
use Rattle.wasm_types.specs.declared.instr.Instr.TheVariants as instr
use Rattle.machine_steps.specs.StackLayout.{Represents}
use Rattle.machine_steps.proofs.KindLemmas.{local_set_of, local_set_means, after_as}
use Rattle.machine_steps.proofs.machine.Machine.set_local.Goals as goal

pub put_local-requires : goal.put_local-requires
put_local-requires c =
    let h = c.requires in
    let t = local_set_of h.defined h.limits c.args.x h.configuration h.store h.fine in
    record { configuration = record h.configuration { operands = t.rest }; represents = (c.pop-v.ensures.represents h.configuration t.top t.rest h.represents t.are).1; value = t.old; there = t.there }

pub returns-clause-does : goal.returns-clause-does
returns-clause-does c m limits store k sh fine =
    let x = c.args.x in
    let t = local_set_of m limits x k store fine in
    let p = c.pop-v.ensures.represents k t.top t.rest sh t.are in
    after_as m limits (instr.LocalSet x) k store store _ None c.put_local.new.self (local_set_means m limits x k store t)
    (subst (λ (u : Val). Represents (record k { operands = t.rest; locals = set k.locals x u }) c.put_local.new.self) p.0 (c.put_local.ensures.represents (record k { operands = t.rest }) t.old p.1 t.there), refl)
