use Rattle.std.proofs.Common.{◌≡◌, ◌∷◌, None, ◌∙◌, subst, arith, refl}
use Rattle.wasm_values.specs.declared.outcome.Val.{Val}
use Rattle.wasm_types.specs.declared.instr.Instr.TheVariants as instr
use Rattle.machine_steps.specs.StackLayout.{Represents}
use Rattle.machine_steps.proofs.LocalLemmas.{local_within, local_value}
use Rattle.machine_steps.proofs.KindLemmas.{local_get_of, local_get_means, after_as}
use Rattle.machine_steps.proofs.machine.Machine.get_local.Goals as goal

pub at-v-requires : goal.at-v-requires
at-v-requires c =
    let h = c.requires.can in
    let (v, there) = local_get_of h.defined h.limits c.args.x h.configuration h.store h.fine in
    omega (arith, local_within h.configuration c.args.self.now c.args.x v h.represents there)

pub returns-clause-does : goal.returns-clause-does
returns-clause-does c m limits store k sh fine =
    let x = c.args.x in
    let (v, there) = local_get_of m limits x k store fine in
    let is : c.at-v.result ≡ v =
    c.at-v.ensures v ∙ local_value k c.args.self.now x v v sh there in
    after_as m limits (instr.LocalGet x) k store store _ None c.push.new.self (local_get_means m limits x k store v there)
    (subst (λ (u : Val). Represents (record k { operands = u ∷ k.operands }) c.push.new.self) is (c.push.ensures.represents k sh), refl)
