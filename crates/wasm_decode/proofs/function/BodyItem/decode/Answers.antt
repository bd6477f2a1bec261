use Rattle.std.proofs.Common.{◌≡◌, ◌<◌, ◌^◌, List, length, flat_map, IsTrue, refl, ap, sym, ◌∙◌, arith, rules}
use Rattle.std.proofs.lemmas.List.{map-id}
use Rattle.wasm_types.specs.declared.module.LocalRun.{LocalRun}
use Rattle.wasm_types.specs.Tree.{locals_of}
use Rattle.wasm_spec.specs.Numbers.{TakesVec}
use Rattle.wasm_spec.specs.InstrGrammar.{TakesExpr}
use Rattle.wasm_spec.specs.Grammar.{TakesLocalRun, TakesBody}
use Rattle.wasm_spec.proofs.UnambiguousNumbers.{vec-unique}
use Rattle.wasm_spec.proofs.UnambiguousModules.{local_run-unique}
use Rattle.leb_read.specs.Reading.{rest}
use Rattle.wasm_decode.specs.Pairs.{TakesPair}
use Rattle.instr_decode.proofs.Decoding.{exits-as, read-as}
use Rattle.wasm_decode.proofs.Fields.{exits-wanted}
use Rattle.wasm_decode.proofs.function.BodyItem.decode.Goals as goal

pub returns-in_err-locals-clause-read : goal.returns-in_err-locals-clause-read
returns-in_err-locals-clause-read c =
    exits-as (TakesPair (TakesVec TakesLocalRun) (TakesExpr c.args.profile)) (TakesBody c.args.profile) c.from_residual.result _ (rest c.args.cursor.now) c.in_err-locals.field-0.0 c.from_residual.ensures.1 c.in_err-locals.ensures.read
    (λ b after h. ((h.runs, b.code), (h.mid, h.spelled, h.code)))

pub returns-else-are_few-clause-read : goal.returns-else-are_few-clause-read
returns-else-are_few-clause-read c = λ b after h.
    let r = simp map-id at c.in_ok-locals.ensures.read in
    let u = vec-unique TakesLocalRun local_run-unique h.runs c.in_ok-locals.locals (rest c.args.cursor.now) h.mid r.spelled.0 h.spelled r.spelled.1 in
    let same : c.as_slice.result.now ≡ h.runs = c.as_slice.ensures ∙ sym u.0 in
    let few : length (flat_map locals_of c.as_slice.result.now) < 2 ^ 32 =
    omega (arith, h.few, ap length h.locals, ap (λ (l : List LocalRun). length (flat_map locals_of l)) same) in
    let holds : IsTrue c.are_few.result = c.are_few.ensures.1 few in
    absurd (first_of (cc, search rules))

pub returns-in_err-locals-clause-wanted : goal.returns-in_err-locals-clause-wanted
returns-in_err-locals-clause-wanted c e = exits-wanted c.from_residual.result c.in_err-locals.field-0.0 _ c.from_residual.ensures.1 c.in_err-locals.ensures.wanted e

pub returns-then-are_few-clause-read : goal.returns-then-are_few-clause-read
returns-then-are_few-clause-read c =
    let runs : List LocalRun = c.in_ok-locals.locals in
    let few : length (flat_map locals_of runs) < 2 ^ 32 = rw (← c.as_slice.ensures) (c.are_few.ensures.0 c.if-are_few.true) in
    read-as (TakesPair (TakesVec TakesLocalRun) (TakesExpr c.args.profile)) (TakesBody c.args.profile) _ _ _ _ (simp map-id at c.in_ok-locals.ensures.read) (λ h. record {
      runs = runs;
      mid = h.0;
      spelled = h.1;
      code = h.2;
      locals = refl;
      few = few;
    })
