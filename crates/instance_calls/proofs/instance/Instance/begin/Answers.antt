use Rattle.std.proofs.Common.{◌≡◌, ◌∙◌, List, length, take, sym, ap, subst}
use Rattle.wasm_types.specs.declared.module.Module.{Module}
use Rattle.wasm_values.specs.declared.outcome.Val.{Val}
use Rattle.wasm_types.specs.Tree.{ModuleTree, module_tree}
use Rattle.wasm_spec.specs.Execution.{terms_of}
use Rattle.wasm_spec.specs.Store.{fresh_store}
use Rattle.wasm_machine.specs.Calls.{FitsFrame}
use Rattle.wasm_machine.specs.TypedConfiguration.{IsTypedStore}
use Rattle.wasm_spec.specs.Within.{IsWithin}
use Rattle.wasm_spec.proofs.WithinLemmas.{loaded-within}
use Rattle.instance_slots.proofs.TypedLemmas.{frames-fit, fresh-typed}
use Rattle.pool_limits.specs.Limits.{load_limits}
use Rattle.paused_call.specs.Standing.{Stands}
use Rattle.instance_calls.specs.CallWords.{MayCall, run_limits}
use Rattle.instance_calls.specs.Instances.{IsFreshInstance}
use Rattle.instance_calls.proofs.CallLemmas.{called}
use Rattle.instance_calls.proofs.InstanceLemmas.{fresh_is}
use Rattle.instance_calls.proofs.PausedLemmas.{stands_same}
use Rattle.instance_calls.proofs.instance.Instance.begin.Goals as goal

pub begin_call-requires-clause-frame : goal.begin_call-requires-clause-frame
begin_call-requires-clause-frame g c =
    let loaded = c.valid.ensures.loaded in
    let limits = load_limits g.N.Naming.config in
    let valid = c.valid.result.now in
    let within : IsWithin limits (module_tree valid) = subst (IsWithin limits) (sym c.valid.ensures.tree) (loaded-within loaded.profile loaded.bytes limits c.args.loaded.now.module.now.tree loaded.loads) in
    frames-fit limits valid within

pub begin_call-requires-clause-call : goal.begin_call-requires-clause-call
begin_call-requires-clause-call g c =
    let loaded = c.valid.ensures.loaded in
    let limits = load_limits g.N.Naming.config in
    let valid = c.valid.result.now in
    let within : IsWithin limits (module_tree valid) = subst (IsWithin limits) (sym c.valid.ensures.tree) (loaded-within loaded.profile loaded.bytes limits c.args.loaded.now.module.now.tree loaded.loads) in
    let call = c.args.call.now in
    called valid call.export.now c.args.function call.args.now within.valid (subst (λ (m : ModuleTree). MayCall m call.export.now c.args.function call.args.now) (sym c.valid.ensures.tree) c.requires.call)

pub returns-clause-paused : goal.returns-clause-paused
returns-clause-paused g c request =
    let config = g.N.Naming.config in
    let m = c.args.loaded.now.module.now in
    let self = c.args.self.now in
    let loaded = c.valid.ensures.loaded in
    let limits = load_limits config in
    let valid = c.valid.result.now in
    let code : valid ≡ m.code = c.valid.ensures.code in
    let tree : module_tree m.code ≡ m.tree = ap module_tree (sym code) ∙ c.valid.ensures.tree in
    let within : IsWithin limits (module_tree valid) = subst (IsWithin limits) (sym c.valid.ensures.tree) (loaded-within loaded.profile loaded.bytes limits m.tree loaded.loads) in
    let typed : IsTypedStore valid (fresh_store (module_tree valid)) = fresh-typed limits valid within in
    let fresh = c.requires.fresh in
    let at_code : IsFreshInstance config (module_tree m.code) self = subst (λ (t : ModuleTree). IsFreshInstance config t self) (sym tree) fresh in
    let shown = fresh_is m.tree c.begin_call.new.ticket.globals self.memory self.table config
    (subst (λ (gs : List Val). take (length m.tree.globals) gs ≡ (fresh_store m.tree).globals) (sym c.begin_call.ensures.globals) fresh.globals) fresh.memory fresh.table in
    let limits_are = terms_of (run_limits config) request in
    let stands : Stands valid limits_are (fresh_store m.tree) c.args.call.now.args.now c.begin_call.result c.begin_call.new.ticket.stacks (fresh_store m.tree) =
    c.begin_call.ensures.stands request (fresh_store m.tree) (subst (λ (t : ModuleTree). IsTypedStore valid (fresh_store t)) c.valid.ensures.tree typed) in
    let at : Stands m.code limits_are (fresh_store m.tree) c.args.call.now.args.now c.begin_call.result c.begin_call.new.ticket.stacks (fresh_store m.tree) =
    subst (λ (k : Module). Stands k limits_are (fresh_store m.tree) c.args.call.now.args.now c.begin_call.result c.begin_call.new.ticket.stacks (fresh_store m.tree)) code stands in
    record {
      code = tree;
      parts = record { memory = fresh.memory.had; table = fresh.table.had };
      frame = subst (λ (k : Module). FitsFrame k config.frame) code (frames-fit limits valid within);
      memory = at_code.memory.ready;
      stands = stands_same m.code limits_are (fresh_store m.tree) c.begin_call.result _ _ _ _ _ _ (sym c.begin_call.ensures.args) (λ i. c.begin_call.new.ticket.stacks) (sym shown) at;
    }
