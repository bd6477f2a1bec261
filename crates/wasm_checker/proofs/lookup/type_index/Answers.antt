use Rattle.std.proofs.Common.{◌≡◌, ◌∙◌, length, sym, ap, arith}
use Rattle.std.specs.Prelude.{slice_get, option_map, ◌-◌}
use Rattle.wasm_spec.proofs.FunctionNumbers.{index-of_own}
use Rattle.wasm_checker.proofs.lookup.type_index.Goals as goal

pub returns-else-x-imports : goal.returns-else-x-imports
returns-else-x-imports c =
    c.own_type_index.ensures ∙ (λ i. option_map (λ f. f.type_index) (slice_get (c.as_slice.ensures i) (c.args.x - length (c.as_slice-imports.ensures i))))
    ∙ sym (index-of_own c.args.m.now c.args.x (let e : length c.as_slice-imports.result.now ≡ length c.args.m.now.imports = ap length c.as_slice-imports.ensures in omega arith))
