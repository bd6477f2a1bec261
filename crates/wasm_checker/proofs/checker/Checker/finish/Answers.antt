use Rattle.std.proofs.Common.{◌≡◌, Some, None, Option, sym, ap, ◌∙◌}
use Rattle.wasm_types.specs.declared.types.ValType.{ValType}
use Rattle.wasm_checker.specs.Check.{end_block}
use Rattle.wasm_checker.proofs.Steps.{exits}
use Rattle.wasm_checker.proofs.Advances.{body_ends}
use Rattle.wasm_checker.proofs.checker.Checker.finish.Goals as goal

pub returns-in_err-end : goal.returns-in_err-end
returns-in_err-end c o l =
    let k = l.position in
    let is = body_ends c.args.m.now c.args.f.now c.args.self.now o l c.requires.over c.requires.outermost in
    exits _ (end_block c.result_of.result (Some k.stack) ≡ None) _ _ c.in_err-end.field-0.0 c.from_residual.ensures.1 (c.in_err-end.ensures k l.shows)
    (λ none. sym is ∙ ap (λ (t : Option ValType). end_block t (Some k.stack)) (sym c.result_of.ensures) ∙ none)

pub returns : goal.returns
returns c o l =
    let k = l.position in
    let is = body_ends c.args.m.now c.args.f.now c.args.self.now o l c.requires.over c.requires.outermost in
    let x = c.in_ok-end.ensures k l.shows in
    record {
      stack = x.stack;
      is = sym is ∙ ap (λ (t : Option ValType). end_block t (Some k.stack)) (sym c.result_of.ensures) ∙ x.is;
      operands = x.shows.peak_operands;
      labels = x.shows.peak_labels;
    }
