use Rattle.std.proofs.Common.{ℕ, Option, sym, subst, rules, tests, arith}
use Rattle.std.specs.Prelude.{IfSome}
use Rattle.std.proofs.lemmas.Fn.{always_returns_same}
use Rattle.wasm_spec.specs.Validity.{Exports}
use Rattle.wasm_validate.specs.ByName.{name_of, compare}
use Rattle.wasm_validate.proofs.ByName.{searchable, found, none_clause, none_found}
use Rattle.wasm_validate.proofs.names.exported.Goals as goal

pub returns-in-Ok-clause-found : goal.returns-in-Ok-clause-found
returns-in-Ok-clause-found c =
    let exports = c.args.exports.now in
    let name = c.args.name.now in
    let equal = c.in-Ok.ensures.position (λ (i : ℕ). compare (name_of exports i) name) (always_returns_same _ _ _ (λ a r f' k. search (rules, tests))) in
    subst (λ (o : Option ℕ). IfSome o (Exports exports name)) (sym c.function_of.ensures) (found exports c.args.by_name.now c.requires name c.in-Ok.at (omega (arith, c.in-Ok.ensures.bound)) equal)

pub returns-in-Ok-clause-none : goal.returns-in-Ok-clause-none
returns-in-Ok-clause-none c =
    let exports = c.args.exports.now in
    let name = c.args.name.now in
    let equal = c.in-Ok.ensures.position (λ (i : ℕ). compare (name_of exports i) name) (always_returns_same _ _ _ (λ a r f' k. search (rules, tests))) in
    none_clause exports c.args.by_name.now c.requires name c.in-Ok.at (omega (arith, c.in-Ok.ensures.bound)) equal c.function_of.result c.function_of.ensures

pub returns-in-Err-clause-none : goal.returns-in-Err-clause-none
returns-in-Err-clause-none c =
    let exports = c.args.exports.now in
    let name = c.args.name.now in
    none_found exports c.args.by_name.now c.requires name c.in-Err.field-0
    (c.in-Err.ensures.position (λ (i : ℕ). compare (name_of exports i) name) (always_returns_same _ _ _ (λ a r f' k. search (rules, tests))) (searchable exports c.args.by_name.now c.requires name))
