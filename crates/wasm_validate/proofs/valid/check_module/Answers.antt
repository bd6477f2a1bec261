use Rattle.std.proofs.Common.{◌≡◌, List, subst}
use Rattle.std.specs.Prelude.{AllPairs}
use Rattle.wasm_types.specs.declared.module.Export.{Export}
use Rattle.wasm_validate.proofs.Parts.{parts_of, valid_from}
use Rattle.wasm_validate.proofs.valid.check_module.Goals as goal

pub returns-then-not-has_valid_parts-clause-invalid : goal.returns-then-not-has_valid_parts-clause-invalid
returns-then-not-has_valid_parts-clause-invalid c e v = let t = c.has_valid_parts.ensures.1 (parts_of c.args.m.now v) in let f = c.if-not-has_valid_parts.true in cc (t, f)

pub returns-clause-valid : goal.returns-clause-valid
returns-clause-valid c =
    valid_from c.args.m.now (c.has_valid_parts.ensures.0 c.if-not-has_valid_parts.false) c.in_ok-needs.ensures.typed
    (subst (λ (es : List Export). AllPairs (λ a b. a.name ≡ b.name → ⊥) es) c.as_slice.ensures c.in_ok-by_name.ensures.differ)
