use Rattle.std.proofs.Common.{◌≡◌, ◌∙◌, ◌∷◌, Some, None, sym, subst, refl}
use Rattle.wasm_values.specs.declared.outcome.Val.{Val}
use Rattle.wasm_spec.specs.Typing.{number}
use Rattle.machine_steps.specs.InstructionKinds.{takes_width, gives_width, of_two}
use Rattle.machine_steps.proofs.OperandLemmas.{take_both, first_there, second_there, is_number, after_value, after_trap}
use Rattle.machine_steps.proofs.KindLemmas.{two_of, two_means, after_as}
use Rattle.machine_steps.proofs.machine.Machine.on_two.Goals as goal

pub pop-second-requires : goal.pop-second-requires
pop-second-requires c =
    let h = c.requires.can in
    first_there (takes_width c.args.instr.now) h.configuration c.args.self.now (two_of h.defined h.limits c.args.instr.now h.configuration h.store c.requires.kind h.fine) h.represents

pub last-first-requires : goal.last-first-requires
last-first-requires c =
    let h = c.requires.can in
    second_there (takes_width c.args.instr.now) h.configuration c.args.self.now c.pop-second.new.self c.pop-second.result
    (two_of h.defined h.limits c.args.instr.now h.configuration h.store c.requires.kind h.fine) c.pop-second.ensures.represents h.represents

pub replace-requires : goal.replace-requires
replace-requires c =
    let h = c.requires.can in
    second_there (takes_width c.args.instr.now) h.configuration c.args.self.now c.pop-second.new.self c.pop-second.result
    (two_of h.defined h.limits c.args.instr.now h.configuration h.store c.requires.kind h.fine) c.pop-second.ensures.represents h.represents

pub two-requires-clause-first : goal.two-requires-clause-first
two-requires-clause-first c =
    let h = c.requires.can in
    let w = takes_width c.args.instr.now in
    let t = two_of h.defined h.limits c.args.instr.now h.configuration h.store c.requires.kind h.fine in
    let p = take_both w h.configuration c.args.self.now c.pop-second.new.self c.pop-second.result c.last-first.result t c.pop-second.ensures.represents c.last-first.ensures h.represents in
    is_number w c.last-first.result t.x t.a p.1 t.first

pub two-requires-clause-second : goal.two-requires-clause-second
two-requires-clause-second c =
    let h = c.requires.can in
    let w = takes_width c.args.instr.now in
    let t = two_of h.defined h.limits c.args.instr.now h.configuration h.store c.requires.kind h.fine in
    let p = take_both w h.configuration c.args.self.now c.pop-second.new.self c.pop-second.result c.last-first.result t c.pop-second.ensures.represents c.last-first.ensures h.represents in
    is_number w c.pop-second.result t.y t.b p.0 t.second

pub returns-in-Ok-clause-does : goal.returns-in-Ok-clause-does
returns-in-Ok-clause-does c m limits store k sh fine =
    let i = c.args.instr.now in
    let w = takes_width i in
    let t = two_of m limits i k store c.requires.kind fine in
    let p = take_both w k c.args.self.now c.pop-second.new.self c.pop-second.result c.last-first.result t c.pop-second.ensures.represents c.last-first.ensures sh in
    after_as m limits i k store store _ None c.replace.new.self (two_means m limits i k store c.requires.kind t)
    (after_value (gives_width i) (of_two i t.a t.b) c.in-Ok.v t.rest k c.replace.new.self store
    (sym c.in-Ok.is ∙ c.two.ensures t.a t.b (subst (λ (x : Val). number w x ≡ Some t.a) (sym p.1) t.first) (subst (λ (x : Val). number w x ≡ Some t.b) (sym p.0) t.second))
    (c.replace.ensures.represents (record k { operands = t.x ∷ t.rest }) t.x t.rest p.2 refl))

pub returns-in-Err-clause-does : goal.returns-in-Err-clause-does
returns-in-Err-clause-does c m limits store k sh fine =
    let i = c.args.instr.now in
    let w = takes_width i in
    let t = two_of m limits i k store c.requires.kind fine in
    let p = take_both w k c.args.self.now c.pop-second.new.self c.pop-second.result c.last-first.result t c.pop-second.ensures.represents c.last-first.ensures sh in
    after_as m limits i k store store _ (Some c.in-Err.t) c.pop-second.new.self (two_means m limits i k store c.requires.kind t)
    (after_trap (gives_width i) (of_two i t.a t.b) c.in-Err.t t.rest k c.pop-second.new.self store
    (sym c.in-Err.is ∙ c.two.ensures t.a t.b (subst (λ (x : Val). number w x ≡ Some t.a) (sym p.1) t.first) (subst (λ (x : Val). number w x ≡ Some t.b) (sym p.0) t.second)))
