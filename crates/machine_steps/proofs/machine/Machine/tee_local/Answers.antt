use Rattle.std.proofs.Common.{List, ◌∷◌, None, refl, subst, set}
use Rattle.wasm_values.specs.declared.outcome.Val.{Val}
use Rattle.wasm_types.specs.declared.instr.Instr.TheVariants as instr
use Rattle.machine_steps.specs.StackLayout.{Represents}
use Rattle.machine_steps.proofs.KindLemmas.{has_top, local_tee_of, local_tee_means, after_as}
use Rattle.machine_steps.proofs.machine.Machine.tee_local.Goals as goal

pub last-v-requires : goal.last-v-requires
last-v-requires c =
    let h = c.requires in
    let t = local_tee_of h.defined h.limits c.args.x h.configuration h.store h.fine in
    has_top h.configuration c.args.self.now t.top t.rest t.are h.represents

pub put_local-requires : goal.put_local-requires
put_local-requires c =
    let h = c.requires in
    let t = local_tee_of h.defined h.limits c.args.x h.configuration h.store h.fine in
    record { configuration = h.configuration; represents = h.represents; value = t.old; there = t.there }

pub returns-clause-does : goal.returns-clause-does
returns-clause-does c m limits store k sh fine =
    let x = c.args.x in
    let t = local_tee_of m limits x k store fine in
    let q = c.put_local.ensures.represents k t.old sh t.there in
    let as_found = subst (λ (vs : List Val). Represents (record k { operands = vs; locals = set k.locals x c.last-v.result }) c.put_local.new.self) t.are q in
    after_as m limits (instr.LocalTee x) k store store _ None c.put_local.new.self (local_tee_means m limits x k store t)
    (subst (λ (u : Val). Represents (record k { operands = t.top ∷ t.rest; locals = set k.locals x u }) c.put_local.new.self) (c.last-v.ensures k t.top t.rest sh t.are) as_found, refl)
