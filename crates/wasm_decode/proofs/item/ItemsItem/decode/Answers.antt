use Rattle.std.proofs.Common.{◌≡◌, ℕ, ◌+◌, inl, inr, [], ◌∷◌, ◌++◌, length, map, ap, ◌∙◌, arith}
use Rattle.std.proofs.lemmas.List.{length-map, map-append, length_push}
use Rattle.std.proofs.lemmas.Result.{err_from_is_err_and}
use Rattle.leb_read.specs.Reading.{rest}
use Rattle.instr_decode.specs.declared.fault.DecodeFault.TheVariants.{NoMemory}
use Rattle.instr_decode.proofs.Decoding.{exits, vec-none, each-more}
use Rattle.instr_decode.proofs.Wants.{vec-wants}
use Rattle.wasm_decode.proofs.item.ItemsItem.decode.Goals as goal

pub returns-in_err-item-clause-read : goal.returns-in_err-item-clause-read
returns-in_err-item-clause-read g c =
    let done = map g.T.Item.tree c.loop.items.items in
    let long : length done ≡ length c.loop.items.items = length-map c.loop.items.items g.T.Item.tree in
    exits c.from_residual-in_err-item.result _ _ c.in_err-item.field-0.0 c.from_residual-in_err-item.ensures.1
    (vec-none (g.T.Item.Takes c.args.profile) (g.met.T.Item.unique c.args.profile) c.in_err-item.field-0.0 done (rest c.args.cursor.now) (rest c.u32.new.self) (rest c.loop.cursor) c.in_ok-count.count
    c.in_ok-count.ensures.spelled c.loop.invariant.so_far (omega (arith, long, c.loop.invariant.long, c.loop-test.true)) c.in_err-item.ensures.read)

pub returns-in_err-item-clause-wanted : goal.returns-in_err-item-clause-wanted
returns-in_err-item-clause-wanted g c = λ e.
    let done = map g.T.Item.tree c.loop.items.items in
    let long : length done ≡ length c.loop.items.items = length-map c.loop.items.items g.T.Item.tree in
    let p = err_from_is_err_and c.from_residual-in_err-item.result c.from_residual-in_err-item.ensures.1 in
    vec-wants (g.T.Item.Takes c.args.profile) (g.T.Item.Wants c.args.profile) done (rest c.args.cursor.now) (rest c.u32.new.self) (rest c.loop.cursor) c.in_ok-count.count
    c.in_ok-count.ensures.spelled c.loop.invariant.so_far (omega (arith, long, c.loop.invariant.long, c.loop-test.true)) (inr (c.in_err-item.ensures.wanted (cc)))

pub returns-in_err-push-clause-wanted : goal.returns-in_err-push-clause-wanted
returns-in_err-push-clause-wanted g c = λ e.
    let done = map g.T.Item.tree c.loop.items.items in
    let long : length done ≡ length c.loop.items.items = length-map c.loop.items.items g.T.Item.tree in
    vec-wants (g.T.Item.Takes c.args.profile) (g.T.Item.Wants c.args.profile) done (rest c.args.cursor.now) (rest c.u32.new.self) (rest c.loop.cursor) c.in_ok-count.count
    c.in_ok-count.ensures.spelled c.loop.invariant.so_far (omega (arith, long, c.loop.invariant.long, c.loop-test.true))
    (inl (record { item = g.T.Item.tree c.in_ok-item.item; after = rest c.decode.new.cursor; spelled = c.in_ok-item.ensures.read.spelled }))

pub loop-preserved : goal.loop-preserved
loop-preserved g c =
    let items = c.loop.items.items in
    let item = c.in_ok-item.item in
    let e : c.push.new.self.items ≡ items ++ item ∷ [] = c.in_ok-push.ensures.items in
    let trees : map g.T.Item.tree c.push.new.self.items ≡ map g.T.Item.tree items ++ g.T.Item.tree item ∷ [] =
    ap (map g.T.Item.tree) e ∙ map-append g.T.Item.tree items (item ∷ []) in
    record {
      whole = c.in_ok-item.ensures.read.whole ∙ c.loop.invariant.whole;
      forth = omega (arith, c.in_ok-item.ensures.read.forth, c.loop.invariant.forth);
      within = c.in_ok-item.ensures.read.within;
      so_far = rw trees (each-more (g.T.Item.Takes c.args.profile) (map g.T.Item.tree items) (g.T.Item.tree item) (rest c.u32.new.self) (rest c.loop.cursor) (rest c.decode.new.cursor) c.loop.invariant.so_far c.in_ok-item.ensures.read.spelled);
      long = ap length e ∙ length_push items item ∙ ap (λ (n : ℕ). n + 1) c.loop.invariant.long;
    }

pub returns-in_err-push-clause-read : goal.returns-in_err-push-clause-read
returns-in_err-push-clause-read g c = exits c.from_residual-in_err-push.result _ _ NoMemory c.from_residual-in_err-push.ensures.1 tt
