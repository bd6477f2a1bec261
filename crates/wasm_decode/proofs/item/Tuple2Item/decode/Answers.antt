use Rattle.std.proofs.Common.{ℕ, List, inl, inr, subst}
use Rattle.leb_read.specs.Reading.{rest}
use Rattle.instr_decode.proofs.Decoding.{begins-through, exits, read-both}
use Rattle.wasm_decode.specs.Pairs.{TakesPair}
use Rattle.wasm_decode.proofs.Fields.{exits-wanted}
use Rattle.wasm_decode.proofs.item.Tuple2Item.decode.Goals as goal

pub returns-in_err-first-clause-read : goal.returns-in_err-first-clause-read
returns-in_err-first-clause-read g c =
    let TakesA = g.A.Item.Takes c.args.profile in
    let TakesB = g.B.Item.Takes c.args.profile in
    let bytes = rest c.args.cursor.now in
    exits c.from_residual.result _ _ c.in_err-first.field-0.0 c.from_residual.ensures.1
    (begins-through TakesA (TakesPair TakesA TakesB) bytes bytes c.in_err-first.field-0.0 c.in_err-first.ensures.read (λ p after h. (p.0, h.0, h.1)))

pub returns-in_err-first-clause-wanted : goal.returns-in_err-first-clause-wanted
returns-in_err-first-clause-wanted g c e = inl (exits-wanted c.from_residual.result c.in_err-first.field-0.0 _ c.from_residual.ensures.1 c.in_err-first.ensures.wanted e)

pub returns-in_err-second-clause-read : goal.returns-in_err-second-clause-read
returns-in_err-second-clause-read g c =
    let TakesA = g.A.Item.Takes c.args.profile in
    let TakesB = g.B.Item.Takes c.args.profile in
    let bytes = rest c.args.cursor.now in
    let mid = rest c.decode.new.cursor in
    exits c.from_residual-in_err-second.result _ _ c.in_err-second.field-0.0 c.from_residual-in_err-second.ensures.1
    (begins-through TakesB (TakesPair TakesA TakesB) mid bytes c.in_err-second.field-0.0 c.in_err-second.ensures.read (λ p after h.
    let u = g.met.A.Item.unique c.args.profile p.0 (g.A.Item.tree c.in_ok-first.first) bytes h.0 mid h.1 c.in_ok-first.ensures.read.spelled in
    (p.1, after, subst (λ (l : List ℕ). TakesB p.1 l after) u.1 h.2)))

pub returns-in_err-second-clause-wanted : goal.returns-in_err-second-clause-wanted
returns-in_err-second-clause-wanted g c e = inr (record {
  item = g.A.Item.tree c.in_ok-first.first;
  after = rest c.decode.new.cursor;
  spelled = c.in_ok-first.ensures.read.spelled;
  wants = exits-wanted c.from_residual-in_err-second.result c.in_err-second.field-0.0 _ c.from_residual-in_err-second.ensures.1 c.in_err-second.ensures.wanted e;
})

pub returns-clause-read : goal.returns-clause-read
returns-clause-read g c =
    let TakesA = g.A.Item.Takes c.args.profile in
    let TakesB = g.B.Item.Takes c.args.profile in
    read-both TakesA TakesB (TakesPair TakesA TakesB) c.args.cursor.now c.decode.new.cursor c.decode-2.new.cursor _ _ _ c.in_ok-first.ensures.read c.in_ok-second.ensures.read (λ a b. (rest c.decode.new.cursor, a, b))
