use Rattle.std.proofs.Common.{◌≡◌, List, [], ◌∷◌, ◌++◌, map, take, take_all, ap, sym, ◌∙◌, arith}
use Rattle.std.proofs.lemmas.List.{map_more}
use Rattle.wasm_values.specs.declared.outcome.Val.{Val}
use Rattle.wasm_types.specs.declared.module.Global.{Global}
use Rattle.wasm_types.specs.Tree.{global_tree}
use Rattle.initial_image.specs.Segments.{first_value}
use Rattle.initial_image.proofs.fill.first_values.Goals as goal

abbrev begins : Global → Val
begins g = first_value (global_tree g)

pub loop-global-preserved : goal.loop-global-preserved
loop-global-preserved c =
    let globals = c.args.globals.now in
    let i = c.loop-global.global-index in
    let items : c.push.new.self.items ≡ c.loop-global.values.items ++ c.first_value.result ∷ [] = c.in_ok-push.ensures.items in
    items ∙ ap (λ (l : List Val). l ++ c.first_value.result ∷ []) c.loop-global.invariant
    ∙ ap (λ (v : Val). map begins (take i globals) ++ v ∷ []) (c.first_value.ensures ∙ ap begins c.global-item.is)
    ∙ sym (map_more begins globals i c.global-item.result (omega (arith, c.loop-global-test.true)))

pub returns : goal.returns
returns c =
    let all = take_all c.loop-global.global-index c.args.globals.now (omega (arith, c.loop-global-test.false)) in
    c.loop-global.invariant ∙ ap (map begins) all
