use Rattle.std.proofs.Common.{◌≡◌, ℕ, ◌-◌, ◌++◌, List, length, ap, ◌∙◌, arith, length-append}
use Rattle.std.specs.Prelude.{Option, slice_get, unwrap_or}
use Rattle.std.specs.List.{flat_map}
use Rattle.wasm_types.specs.Tree.{locals_of}
use Rattle.wasm_checker.proofs.Runs.{count_is}
use Rattle.wasm_checker.proofs.locals.Locals.len.Goals as goal

pub returns-clause-count : goal.returns-clause-count
returns-clause-count c =
    let l = c.self.inside in
    let last : c.unwrap_or-declared.result ≡ unwrap_or (slice_get l.ends.items (length l.ends.items - 1)) 0 =
    c.unwrap_or-declared.ensures ∙ ap (λ (o : Option ℕ). unwrap_or o 0) (c.copied.ensures ∙ c.last.ensures.value) ∙ ap (λ (ends : List ℕ). unwrap_or (slice_get ends (length ends - 1)) 0) c.as_slice.ensures.value in
    let view : l.params.now ++ flat_map locals_of l.runs.now ≡ c.args.self.now = c.self.view_is in
    omega (arith, last, count_is l.runs.now l.ends.items c.self.invariant, length-append l.params.now (flat_map locals_of l.runs.now), ap length view)
