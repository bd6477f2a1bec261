use Rattle.std.proofs.Common.{◌≡◌, ℕ, sym, ap, subst}
use Rattle.machine_steps.specs.PlainSteps.{in_block}
use Rattle.machine_steps.specs.StackLayout.{Represents}
use Rattle.machine_steps.specs.declared.machine.Position.{Position}
use Rattle.wasm_machine.proofs.RoomLemmas.{named_at}
use Rattle.wasm_machine.specs.Simulation.{body_of}
use Rattle.wasm_spec.specs.Typing.{result_types}
use Rattle.wasm_types.specs.Sequences.{code_at, named_in}
use Rattle.wasm_machine.proofs.block_entry.enter_named.Goals as goal

pub returns-clause-opens : goal.returns-clause-opens
returns-clause-opens c k shown =
    let m = c.args.m.now in
    let ts = result_types c.args.t in
    let new = c.enter_block.new.self in
    let inner : ℕ = c.named_by-inner.result in
    let represents : Represents (in_block k ts ts c.args.after inner) new = c.enter_block.ensures.represents k ts ts shown c.value_count.ensures in
    let stands : inner ≡ new.at.sequence = sym (ap (λ (at : Position). at.sequence) represents.at) in (
      subst (λ (q : ℕ). code_at (body_of m k) q 0 ≡ named_in (body_of m k) k.sequence c.args.number) stands (named_at m k c.args.machine.now inner c.args.number shown c.named_by-inner.ensures),
      subst (λ (q : ℕ). Represents (in_block k ts ts c.args.after q) new) stands represents,
    )
