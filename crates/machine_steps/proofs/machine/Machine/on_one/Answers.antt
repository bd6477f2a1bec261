use Rattle.std.proofs.Common.{◌≡◌, ◌∷◌, Some, None, sym, subst, refl}
use Rattle.wasm_values.specs.declared.outcome.Val.{Val}
use Rattle.wasm_spec.specs.Typing.{number}
use Rattle.wasm_spec.specs.Execution.{value}
use Rattle.machine_steps.specs.StackLayout.{Represents}
use Rattle.machine_steps.specs.InstructionKinds.{takes_width, gives_width, of_one}
use Rattle.machine_steps.proofs.OperandLemmas.{is_number}
use Rattle.machine_steps.proofs.KindLemmas.{one_of, one_means, single_top, after_as}
use Rattle.machine_steps.proofs.machine.Machine.on_one.Goals as goal

pub last-v-requires : goal.last-v-requires
last-v-requires c =
    let h = c.requires.can in
    single_top (takes_width c.args.instr.now) h.configuration c.args.self.now (one_of h.defined h.limits c.args.instr.now h.configuration h.store c.requires.kind h.fine) h.represents

pub one-requires-clause-number : goal.one-requires-clause-number
one-requires-clause-number c =
    let h = c.requires.can in
    let t = one_of h.defined h.limits c.args.instr.now h.configuration h.store c.requires.kind h.fine in
    is_number (takes_width c.args.instr.now) c.last-v.result t.top t.n (c.last-v.ensures h.configuration t.top t.rest h.represents t.are) t.is

pub replace-requires : goal.replace-requires
replace-requires c =
    let h = c.requires.can in
    single_top (takes_width c.args.instr.now) h.configuration c.args.self.now (one_of h.defined h.limits c.args.instr.now h.configuration h.store c.requires.kind h.fine) h.represents

pub returns-clause-does : goal.returns-clause-does
returns-clause-does c m limits store k sh fine =
    let i = c.args.instr.now in
    let t = one_of m limits i k store c.requires.kind fine in
    let is = c.last-v.ensures k t.top t.rest sh t.are in
    let made : c.one.result ≡ value (gives_width i) (of_one i t.n) = c.one.ensures t.n (subst (λ (x : Val). number (takes_width i) x ≡ Some t.n) (sym is) t.is) in
    after_as m limits i k store store _ None c.replace.new.self (one_means m limits i k store c.requires.kind t)
    (subst (λ (x : Val). Represents (record k { operands = x ∷ t.rest }) c.replace.new.self) made (c.replace.ensures.represents k t.top t.rest sh t.are), refl)
