use Rattle.std.proofs.Common.{◌≡◌, List, ◌++◌, ◌∙◌, length, ap, arith, None}
use Rattle.std.specs.Prelude.{IsSome, slice_get}
use Rattle.std.specs.List.{flat_map}
use Rattle.wasm_types.specs.declared.types.ValType.{ValType}
use Rattle.wasm_types.specs.declared.module.LocalRun.{LocalRun}
use Rattle.wasm_types.specs.Tree.{module_tree, function_tree}
use Rattle.wasm_types.specs.Tree.{locals_of as run_locals}
use Rattle.wasm_spec.specs.Typing.{own_type}
use Rattle.wasm_checker.specs.Subject.{all_locals}
use Rattle.wasm_checker.specs.Walk.{whole}
use Rattle.wasm_checker.proofs.Functions.{untyped, typed, found_within, refused_by}
use Rattle.wasm_checker.proofs.function.check_function.Goals as goal

pub returns-in_err-peak_operands-clause-invalid : goal.returns-in_err-peak_operands-clause-invalid
returns-in_err-peak_operands-clause-invalid c invalid =
    let m = c.args.m.now in
    let f = c.args.f.now in
    untyped m f c.requires (refused_by (whole m f ≡ None) _ c.in_err-peak_operands.field-0.0 c.from_residual-in_err-peak_operands.ensures.1 c.in_err-peak_operands.ensures invalid)

pub returns : goal.returns
returns c =
    let m = c.args.m.now in
    let f = c.args.f.now in
    let there : IsSome (slice_get m.types f.type_index) = found_within m.types f.type_index (omega (arith, c.if-f-len.false, c.len.ensures)) in
    let h = typed m f c.requires (c.in_ok-peak_operands.peak_operands, c.in_ok-peak_operands.peak_labels) there c.in_ok-peak_operands.ensures in
    let locals : c.in_ok-locals.locals ≡ all_locals m f =
    c.in_ok-locals.ensures ∙ ap (λ (ts : List ValType). ts ++ flat_map run_locals c.as_slice.result.now) c.params_of.ensures
    ∙ ap (λ (runs : List LocalRun). (own_type (module_tree m) (function_tree f)).params ++ flat_map run_locals runs) c.as_slice.ensures in
    record { typed = h.0; need = omega (arith, h.1, c.len-2.ensures.count, ap length locals); invalid = λ e. cc (e) }
