use Rattle.std.proofs.Common.{◌∷◌, ℕ, ap, ◌∙◌}
use Rattle.std.proofs.lemmas.List.{map-id}
use Rattle.wasm_spec.specs.Numbers.{TakesVec}
use Rattle.wasm_spec.specs.TypeGrammar.{TakesValType, TakesFuncType}
use Rattle.leb_read.specs.Reading.{rest, TakesByte}
use Rattle.wasm_decode.specs.Pairs.{TakesPair}
use Rattle.instr_decode.proofs.Decoding.{exits-as}
use Rattle.wasm_decode.proofs.types.FuncTypeItem.decode.Goals as goal

pub returns-in_err-tag-clause-read : goal.returns-in_err-tag-clause-read
returns-in_err-tag-clause-read c =
    exits-as (TakesPair TakesByte (TakesPair (TakesVec TakesValType) (TakesVec TakesValType))) TakesFuncType c.from_residual.result _ (rest c.args.cursor.now) c.in_err-tag.field-0.0 c.from_residual.ensures.1 c.in_err-tag.ensures.read
    (λ t after h. ((0x60, (t.params, t.results)), (h.after, h.tag, (h.mid, h.params, h.results))))

pub returns-then-tag-eq96-clause-read : goal.returns-then-tag-eq96-clause-read
returns-then-tag-eq96-clause-read c =
    let r = simp map-id at c.in_ok-tag.ensures.read in
    let s = r.spelled in
    record {
      whole = r.whole;
      forth = r.forth;
      within = r.within;
      spelled = record { after = s.0; mid = s.2.0; tag = s.1 ∙ ap (λ (n : ℕ). n ∷ s.0) c.if-tag-eq96.true; params = s.2.1; results = s.2.2 };
    }
