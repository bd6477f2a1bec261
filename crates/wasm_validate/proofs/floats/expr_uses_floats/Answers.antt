use Rattle.std.proofs.Common.{◌≡◌, ◌<◌, ◌-◌, ◌∷◌, [], ◌++◌, ℕ, List, Bool, false, get_or, length, ap, ◌∙◌, arith}
use Rattle.std.specs.List.{list_any}
use Rattle.wasm_types.specs.declared.instr.Op.{Op}
use Rattle.wasm_validate.specs.Floats.{op_uses_floats}
use Rattle.wasm_validate.proofs.FloatCode.{floats_more, expr_floats}
use Rattle.wasm_validate.proofs.floats.expr_uses_floats.Goals as goal

pub loop-ops-preserved : goal.loop-ops-preserved
loop-ops-preserved c =
    let ops = c.ops-item.result in
    let i = c.loop-ops.ops-index in
    let sequences = c.args.e.now.sequences in
    let here : ops ≡ get_or sequences i ops = c.ops-item.is ∙ ap (λ (l : List (List Op)). get_or l i ops) c.as_slice-ops-items.ensures in
    let within : i < length sequences = omega (arith, c.loop-ops-test.true, ap length c.as_slice-ops-items.ensures) in
    let items : c.push.new.self.items ≡ c.loop-ops.earlier.items ++ c.ops_use_floats-uses.result ∷ [] = c.in_ok-push.ensures.items in
    let uses : c.ops_use_floats-uses.result ≡ list_any (op_uses_floats c.loop-ops.earlier.items) ops =
    c.ops_use_floats-uses.ensures ∙ ap (list_any (op_uses_floats c.as_slice-in-loop-ops.result.now)) c.as_slice.ensures ∙ ap (λ (l : List Bool). list_any (op_uses_floats l) ops) c.as_slice-in-loop-ops.ensures.value in
    items ∙ floats_more sequences i ops c.loop-ops.earlier.items c.ops_use_floats-uses.result here within c.loop-ops.invariant uses

pub returns : goal.returns
returns c =
    let e = c.args.e.now in
    c.at.ensures ∙ ap (λ (l : List Bool). get_or l c.saturating_sub-outermost.result false) c.as_slice-2.ensures.value
    ∙ expr_floats e c.loop-ops.earlier.items c.loop-ops.ops-index c.saturating_sub-outermost.result (omega (arith, c.loop-ops-test.false, ap length c.as_slice-ops-items.ensures))
    (c.saturating_sub-outermost.ensures ∙ ap (λ (n : ℕ). n - 1) c.len.ensures) c.loop-ops.invariant
