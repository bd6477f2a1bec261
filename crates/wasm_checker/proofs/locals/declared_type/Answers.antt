use Rattle.std.proofs.Common.{ℕ, List, length, refl, leb, sym, subst, ◌∙◌, ap, arith, rules}
use Rattle.std.specs.Prelude.{option_map}
use Rattle.std.specs.List.Sorted.{IsNonDecreasingBy}
use Rattle.std.proofs.lemmas.Grind.{common_steps}
use Rattle.std.proofs.lemmas.Option.{slice_get_past, slice_get_read}
use Rattle.std.proofs.lemmas.List.Sorted.{IsPartitionPoint-from_clause, IsPartitionedBy-leb}
use Rattle.wasm_types.specs.declared.module.LocalRun.{LocalRun}
use Rattle.wasm_checker.proofs.Runs.{ends_rise, type_found}
use Rattle.wasm_checker.proofs.locals.declared_type.Goals as goal

pub returns-in_err-run : goal.returns-in_err-run
returns-in_err-run c =
    let ends = c.args.ends.now in
    let runs = c.args.runs.now in
    let p = c.partition_point.result in
    let rising = subst (λ (l : List ℕ). IsNonDecreasingBy (λ e. e) l) (sym c.requires) (ends_rise runs 0) in
    let point = IsPartitionPoint-from_clause (λ e. leb e c.args.x) ends p c.partition_point.ensures.partitioned (IsPartitionedBy-leb (λ e. e) ends c.args.x rising) (λ a r q k. search rules) in
    c.from_residual.ensures ∙ ap (option_map (λ (r : LocalRun). r.value)) (sym (slice_get_past runs p (grind (arith, common_steps, c.in_err-run.ensures.lookup))))
    ∙ sym (type_found runs ends c.args.x p c.requires c.partition_point.ensures.bound point)

pub returns : goal.returns
returns c =
    let ends = c.args.ends.now in
    let runs = c.args.runs.now in
    let p = c.partition_point.result in
    let rising = subst (λ (l : List ℕ). IsNonDecreasingBy (λ e. e) l) (sym c.requires) (ends_rise runs 0) in
    let point = IsPartitionPoint-from_clause (λ e. leb e c.args.x) ends p c.partition_point.ensures.partitioned (IsPartitionedBy-leb (λ e. e) ends c.args.x rising) (λ a r q k. search rules) in
    let h = c.in_ok-run.ensures.lookup in
    ap (option_map (λ (r : LocalRun). r.value)) (sym (slice_get_read runs (length runs) p c.in_ok-run.run'.now refl h.3.0 h.1))
    ∙ sym (type_found runs ends c.args.x p c.requires c.partition_point.ensures.bound point)
