use Rattle.std.proofs.Common.{◌≡◌, false, sym, subst}
use Rattle.wasm_types.specs.Tree.{ModuleTree, module_tree}
use Rattle.wasm_spec.specs.Validity.{Exports}
use Rattle.instance_calls.specs.CallWords.{LacksTypes, MayCall}
use Rattle.instance_calls.proofs.CallLemmas.{HasFunction, exported_function, function_type_is, lacks_types, may_call}
use Rattle.instance_calls.proofs.refusal.find_function.Goals as goal

pub returns-in_default-clause-refused : goal.returns-in_default-clause-refused
returns-in_default-clause-refused g c = λ x h.
    c.in_default.ensures.none x (subst (λ (m : ModuleTree). Exports m.exports c.args.call.now.export.now x) (sym c.valid-valid.ensures.tree) h)

pub fit-requires : goal.fit-requires
fit-requires g c =
    let m = module_tree c.valid-valid.result.now in
    let f : HasFunction m c.in-Some.function = exported_function m c.args.call.now.export.now c.in-Some.function c.module.ensures.valid c.in-Some.ensures.found in
    (f.type, rw c.module.ensures.same (function_type_is m c.in-Some.function f))

pub returns-then-not-fit-clause-refused : goal.returns-then-not-fit-clause-refused
returns-then-not-fit-clause-refused g c =
    let m = module_tree c.valid-valid.result.now in
    let f : HasFunction m c.in-Some.function = exported_function m c.args.call.now.export.now c.in-Some.function c.module.ensures.valid c.in-Some.ensures.found in
    let typed = function_type_is m c.in-Some.function f in
    subst (λ (n : ModuleTree). LacksTypes n c.args.call.now.export.now c.args.call.now.args.now) c.valid-valid.ensures.tree
    (lacks_types m c.args.call.now.export.now c.in-Some.function c.args.call.now.args.now f c.in-Some.ensures.found
    (λ same. let yes = (c.fit.ensures f.type (rw c.module.ensures.same typed)).1 same in let no : c.fit.result ≡ false = c.if-not-fit.true in cc (yes, no)))

pub returns-clause-found : goal.returns-clause-found
returns-clause-found g c =
    let m = module_tree c.valid-valid.result.now in
    let f : HasFunction m c.in-Some.function = exported_function m c.args.call.now.export.now c.in-Some.function c.module.ensures.valid c.in-Some.ensures.found in
    let typed = function_type_is m c.in-Some.function f in
    let fit = (c.fit.ensures f.type (rw c.module.ensures.same typed)).0 c.if-not-fit.false in
    subst (λ (n : ModuleTree). MayCall n c.args.call.now.export.now c.in-Some.function c.args.call.now.args.now) c.valid-valid.ensures.tree
    (may_call m c.args.call.now.export.now c.in-Some.function c.args.call.now.args.now f c.in-Some.ensures.found fit)
