use Rattle.std.proofs.Common.{◌≡◌, ◌+◌, ◌<◌, ◌++◌, ◌∷◌, [], List, Err, get_or, length, take, subst, sym, ap, ◌∙◌, arith}
use Rattle.std.proofs.lemmas.Result.{err_from_is_err_and}
use Rattle.wasm_types.specs.declared.module.Function.{Function}
use Rattle.wasm_checker.specs.declared.fault.CheckFault.{CheckFault}
use Rattle.wasm_checker.specs.declared.fault.CheckFault.TheVariants.{Invalid}
use Rattle.wasm_validate.proofs.FunctionNeeds.{Needs, needs_more, needs_fail, needs_all}
use Rattle.wasm_validate.proofs.functions.frame_needs.Goals as goal

pub returns-in_err-need-clause-invalid : goal.returns-in_err-need-clause-invalid
returns-in_err-need-clause-invalid c invalid =
    let f = c.f-item.result in
    let m = c.args.m.now in
    let here : f ≡ get_or m.functions c.loop-f.f-index f = c.f-item.is ∙ ap (λ (l : List Function). get_or l c.loop-f.f-index f) c.as_slice-f-items.ensures in
    let within : c.loop-f.f-index < length m.functions = omega (arith, c.loop-f-test.true, ap length c.as_slice-f-items.ensures) in
    let p = err_from_is_err_and c.from_residual.result c.from_residual.ensures.1 in
    needs_fail m m.functions c.loop-f.f-index f here within (c.in_err-need.ensures.invalid (let e : c.in_err-need.field-0.0 ≡ Invalid = cc (p.1, p.2, invalid) in ap (λ (x : CheckFault). Err x) e))

pub loop-f-preserved : goal.loop-f-preserved
loop-f-preserved c =
    let f = c.f-item.result in
    let m = c.args.m.now in
    let i = c.loop-f.f-index in
    let here : f ≡ get_or m.functions i f = c.f-item.is ∙ ap (λ (l : List Function). get_or l i f) c.as_slice-f-items.ensures in
    let within : i < length m.functions = omega (arith, c.loop-f-test.true, ap length c.as_slice-f-items.ensures) in
    let items : c.push.new.self.items ≡ c.loop-f.needs.items ++ c.in_ok-need.need ∷ [] = c.in_ok-push.ensures.items in
    subst (Needs m (take (i + 1) m.functions)) (sym items)
    (needs_more m m.functions i f c.loop-f.needs.items c.in_ok-need.need here within c.loop-f.invariant c.in_ok-need.ensures.typed c.in_ok-need.ensures.need)

pub returns : goal.returns
returns c =
    let m = c.args.m.now in
    let h = needs_all m m.functions c.loop-f.f-index c.loop-f.needs.items (omega (arith, c.loop-f-test.false, ap length c.as_slice-f-items.ensures)) c.loop-f.invariant in
    record { typed = h.0; needs = h.1; invalid = λ e. cc (e) }
