use Rattle.std.proofs.Common.{◌+◌, ◌<◌, [], length, ap, sym, subst, arith}
use Rattle.std.proofs.lemmas.List.{length-map}
use Rattle.std.proofs.lemmas.List.Elements.{All-get_or}
use Rattle.std.proofs.lemmas.Option.{slice_get_within}
use Rattle.wasm_types.specs.declared.module.Module.{Module}
use Rattle.wasm_types.specs.Tree.{function_tree, module_tree}
use Rattle.wasm_spec.specs.Execution.{Terms}
use Rattle.wasm_spec.specs.Result.{run_function}
use Rattle.wasm_validate.specs.Locals.{HasNoEmptyRun}
use Rattle.wasm_machine.specs.Calls.{FitsFrame, IsOwnCall}
use Rattle.wasm_machine.specs.Remaining.{absent, function_of}
use Rattle.wasm_machine.specs.Room.{StacksView}
use Rattle.wasm_machine.specs.Simulation.{Simulates}
use Rattle.wasm_machine.specs.TypedConfiguration.{IsTypedStore}
use Rattle.wasm_machine.proofs.ResultLemmas.{first_frame, less_room, runnable_as}
use Rattle.wasm_machine.proofs.stacks.Stacks.begin.Goals as goal

pub begin-requires-clause-room : goal.begin-requires-clause-room
begin-requires-clause-room c =
    let frame = ap (λ (s : StacksView). s.room.frame) (sym c.self.view_is) in
    let depth = ap (λ (s : StacksView). s.room.depth) (sym c.self.view_is) in
    let limits : Terms = record { pages = 0; depth = c.self.inside.depth; request = [] } in
    let run = runnable_as c.module.result.now c.args.valid.now c.self.inside.frame c.module.ensures.same c.module.ensures.supported c.module.ensures.valid (subst (FitsFrame c.args.valid.now) frame c.requires.frame) c.module.ensures.locals in
    let deep = c.requires.depth in
    first_frame c.module.result.now limits c.self.inside.frame c.args.x c.args.args.now c.self.inside.machine run
    (subst (λ (m : Module). IsOwnCall m c.args.x c.args.args.now) (sym c.module.ensures.same) c.requires.call)
    (omega (arith, depth)) c.self.invariant

pub begin-requires-clause-turns : goal.begin-requires-clause-turns
begin-requires-clause-turns c =
    let m = c.args.valid.now in
    let call = c.requires.call in
    let within : c.args.x < length m.functions = omega (arith, slice_get_within (module_tree m).functions c.args.x call.function call.there, length-map m.functions function_tree) in
    subst (λ (n : Module). HasNoEmptyRun (function_of n c.args.x)) (sym c.module.ensures.same) (All-get_or HasNoEmptyRun m.functions c.args.x absent within c.module.ensures.locals)

pub returns-clause-begins : goal.returns-clause-begins
returns-clause-begins c limits store deep within stored =
    let m = c.args.valid.now in
    let inside = c.self.inside in
    let frame = ap (λ (s : StacksView). s.room.frame) (sym c.self.view_is) in
    let depth = ap (λ (s : StacksView). s.room.depth) (sym c.self.view_is) in
    let run = runnable_as c.module.result.now m inside.frame c.module.ensures.same c.module.ensures.supported c.module.ensures.valid (subst (FitsFrame m) frame c.requires.frame) c.module.ensures.locals in
    let same = sym c.module.ensures.same in
    subst (λ (n : Module). Simulates n limits inside.frame c.begin.new.machine store (run_function (module_tree n) limits (length n.imports + c.args.x) c.args.args.now store)) c.module.ensures.same
    (c.begin.ensures.simulates limits inside.frame store run
    (subst (λ (n : Module). IsOwnCall n c.args.x c.args.args.now) same c.requires.call)
    deep
    (subst (λ (n : Module). IsTypedStore n store) same stored)
    (less_room inside.depth inside.frame limits.depth inside.machine (omega (arith, depth)) c.self.invariant))
