use Rattle.std.proofs.Common.{◌≡◌, ◌+◌, ◌∙◌, List, ℕ, Some, ap, sym, subst}
use Rattle.wasm_values.specs.declared.outcome.Val.{Val}
use Rattle.paused_call.specs.declared.call.SliceEnd.{SliceEnd}
use Rattle.paused_call.specs.declared.call.SliceEnd.TheVariants as turned
use Rattle.paused_call.specs.Fuel.{LeavesFuel, fuel_left}
use Rattle.instance_calls.specs.CallWords.{HasSliced, comes_of}
use Rattle.instance_calls.specs.Instances.{instance_contents}
use Rattle.instance_calls.specs.Paused.{IsPausedOn}
use Rattle.instance_calls.proofs.PausedLemmas.{ends_whole, left_whole, never_again, went_whole}
use Rattle.instance_calls.proofs.instance.Instance.run.Given.{Over}
use Rattle.instance_calls.proofs.instance.Instance.run.Goals as goal
use Rattle.instance_calls.proofs.instance.Instance.run.Goals.{After-resume}

pub resume-requires-clause-paused : goal.resume-requires-clause-paused
resume-requires-clause-paused g c =
    subst (λ (bytes : List ℕ). IsPausedOn g.N.Naming.config c.args.loaded.now.module.now c.args.call.now.request.now c.begin-paused.result bytes c.begin-paused.new.self) (sym c.clear.ensures) (c.begin-paused.ensures.paused c.args.call.now.request.now)

-- what the slice comes to
sliced : (g : Over) (c : After-resume g) (t : SliceEnd) → c.resume.result ≡ t
    → HasSliced (comes_of g.N.Naming.config c.args.loaded.now.module.now.tree c.args.call.now.request.now c.begin-paused.result.function c.begin-paused.new.self.ticket.value.args) c.begin-paused.result.fuel (c.begin-paused.result.turns + c.args.call.now.fuel) t c.resume.new.answer
sliced g c t is = subst (λ (u : SliceEnd). HasSliced (comes_of g.N.Naming.config c.args.loaded.now.module.now.tree c.args.call.now.request.now c.begin-paused.result.function c.begin-paused.new.self.ticket.value.args) c.begin-paused.result.fuel (c.begin-paused.result.turns + c.args.call.now.fuel) u c.resume.new.answer) is c.resume.ensures.sliced

pub unreachable-requires : goal.unreachable-requires
unreachable-requires g c =
    let at = (goal.at.unreachable-requires g c).After-resume in
    let b = c.begin-paused.ensures in
    never_again g.N.Naming.config c.args.loaded.now.module.now.tree c.args.call.now.request.now c.args.function c.args.call.now.args.now c.args.call.now.fuel c.begin-paused.result c.begin-paused.new.self.ticket.value.args b.function b.args b.fuel b.turns
    c.resume.new.answer (sliced g at turned.Again c.in-Again.is)

pub returns-clause-went : goal.returns-clause-went
returns-clause-went g c =
    let b = c.begin-paused.ensures in
    went_whole g.N.Naming.config c.args.loaded.now.module.now.tree c.args.call.now.request.now c.args.function c.args.call.now.args.now c.args.call.now.fuel c.begin-paused.result c.begin-paused.new.self.ticket.value.args b.function b.args b.fuel b.turns
    (instance_contents c.args.self.now) (instance_contents c.begin-paused.new.self) (instance_contents c.resume.new.self) b.contents c.resume.ensures.went

pub returns-clause-ends : goal.returns-clause-ends
returns-clause-ends g c =
    let at = (goal.at.returns-clause-ends g c).After-resume in
    let b = c.begin-paused.ensures in
    ends_whole g.N.Naming.config c.args.loaded.now.module.now.tree c.args.call.now.request.now c.args.function c.args.call.now.args.now c.args.call.now.fuel c.begin-paused.result c.begin-paused.new.self.ticket.value.args b.function b.args b.fuel b.turns
    c.in-Done.outcome c.resume.new.answer (sliced g at (turned.Done c.in-Done.outcome) c.in-Done.is)

pub returns-clause-left : goal.returns-clause-left
returns-clause-left g c =
    let config = g.N.Naming.config in
    let m = c.args.loaded.now.module.now in
    let call = c.args.call.now in
    let paused = c.begin-paused.result in
    let b = c.begin-paused.ensures in
    let args : List Val = c.begin-paused.new.self.ticket.value.args in
    let left : ℕ = fuel_left c.resume.new.call in
    let is : LeavesFuel (comes_of config m.tree call.request.now paused.function args) paused.fuel (turned.Done c.in-Done.outcome) left =
    subst (λ (t : SliceEnd). LeavesFuel (comes_of config m.tree call.request.now paused.function args) paused.fuel t left) c.in-Done.is c.resume.ensures.left in
    left_whole config m.tree call.request.now c.args.function call.args.now call.fuel paused args b.function b.args b.fuel b.turns c.in-Done.outcome left is
    ∙ ap (λ (n : ℕ). Some n) (sym c.left.ensures)
