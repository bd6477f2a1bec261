use Rattle.std.proofs.Common.{List, None, ◌∙◌, sym, ap, set}
use Rattle.wasm_values.specs.declared.outcome.Val.{Val}
use Rattle.wasm_types.specs.declared.instr.Instr.TheVariants as instr
use Rattle.wasm_spec.specs.Store.{Store}
use Rattle.machine_steps.proofs.KindLemmas.{global_set_of, global_set_means, after_as}
use Rattle.machine_steps.proofs.machine.Machine.set_global.Goals as goal

pub returns-clause-does : goal.returns-clause-does
returns-clause-does c m limits store tabled k sh fine =
    let x = c.args.x in
    let t = global_set_of m limits x k store fine in
    let p = c.pop-v.ensures.represents k t.top t.rest sh t.are in
    let after : Store = record store { globals = set c.args.globals.now x c.value.result } in
    after_as m limits (instr.GlobalSet x) k store after _ None c.pop-v.new.self (global_set_means m limits x k store t) (
      p.1,
      ap (λ (l : List Val). record store { globals = set l x t.top }) tabled
          ∙ ap (λ (v : Val). record store { globals = set c.args.globals.now x v }) (sym p.0 ∙ sym c.value.ensures),
    )
