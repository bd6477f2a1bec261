use Rattle.std.proofs.Common.{ℕ, List, [], sym, ap, subst}
use Rattle.wasm_values.specs.declared.outcome.Val.{Val}
use Rattle.pool_model.specs.Contents.{Named}
use Rattle.instance_calls.specs.CallWords.{MayCall}
use Rattle.instance_calls.specs.Parts.{BelongsTo, table_slot}
use Rattle.instance_calls.specs.Paused.{IsPausedOn}
use Rattle.instance_calls.specs.PausedInstances.{IsPausedInstance}
use Rattle.instance_calls.proofs.paused_instance.PausedInstance.begin.Goals as goal

pub invariant_of-result : goal.invariant_of-result
invariant_of-result g c =
    let config = g.N.Naming.config in
    let m = c.args.loaded.now.module.now in
    let x = c.begin-call.new.self in
    let call = c.begin-call.result in
    let asked = c.args.call.now in
    let kept : IsPausedInstance config x m call c.args.answer = record {
      paused = subst (λ (bytes : List ℕ). IsPausedOn config m [] call bytes x) (sym c.requires.none) (c.begin-call.ensures.paused []);
      memory_belongs = subst (BelongsTo m) (sym c.begin-call.ensures.slots.memory) c.requires.memory;
      table_belongs = subst (BelongsTo m) (ap table_slot (sym c.begin-call.ensures.slots.table)) c.requires.table;
      export = asked.export.now;
      may = subst (λ (l : List Val). MayCall m.tree asked.export.now call.function l) (sym c.begin-call.ensures.args)
          (subst (λ (f : ℕ). MayCall m.tree asked.export.now f asked.args.now) (sym c.begin-call.ensures.function) c.requires.call);
    } in
    subst (λ (n : Named). IsPausedInstance config x n call c.args.answer) (sym c.again.ensures) kept

pub returns-clause-begun : goal.returns-clause-begun
returns-clause-begun g c = record {
  named_is = c.again.ensures;
  function_is = c.begin-call.ensures.function;
  fuel_is = c.begin-call.ensures.fuel;
  turns_are = c.begin-call.ensures.turns;
  args_are = c.begin-call.ensures.args;
  no_answer = c.requires.none;
}
