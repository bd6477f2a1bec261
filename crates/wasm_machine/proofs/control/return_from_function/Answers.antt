use Rattle.std.proofs.Common.{◌≡◌, ◌++◌, List, [], ◌∷◌, length, refl, sym, ap, ◌∙◌, arith}
use Rattle.machine_steps.specs.declared.machine.Machine.{Machine}
use Rattle.machine_steps.specs.declared.machine.Position.{Position}
use Rattle.machine_steps.specs.StackLayout.{KeepsRoom}
use Rattle.wasm_machine.proofs.ReturnLemmas.{results_there, shown_caller, shown_end}
use Rattle.wasm_machine.proofs.control.return_from_function.Goals as goal

none_left : (xs : List Position) → length xs ≡ 0 → xs ≡ []
none_left [] e = refl
none_left (x ∷ xs) e = absurd (omega arith)

pub keep-requires : goal.keep-requires
keep-requires c =
    let e = c.requires in
    results_there c.args.m.now e.limits e.frame c.args.machine.now c.result_count-count.result e.store e.to e.exits c.result_count-count.ensures

pub returns-in-Some-clause-steps : goal.returns-in-Some-clause-steps
returns-in-Some-clause-steps c limits frame store r e =
    let old : Machine = c.args.machine.now in
    let new : Machine = record { at = c.position-machine.result; values = c.keep.new.self; labels = c.truncate.new.self; frames = c.pop.new.self } in
    let keeps : KeepsRoom old new = record { values = omega (arith, c.keep.ensures.room); labels = omega (arith, c.truncate.ensures.capacity); frames = omega (arith, c.in-Some.ensures.capacity) } in
    shown_caller c.args.m.now limits frame old new store r e
    (record { count = c.result_count-count.result; count_is = c.result_count-count.ensures; values = c.keep.ensures.kept; labels = c.truncate.ensures.items })
    keeps (c.in-Some.ensures.items ∙ ap (λ (caller : Position). c.pop.new.self.items ++ caller ∷ []) (sym c.position-machine.ensures))

pub returns-in-None-clause-steps : goal.returns-in-None-clause-steps
returns-in-None-clause-steps c limits frame store r e =
    let old : Machine = c.args.machine.now in
    let new : Machine = record { at = old.at; values = c.keep.new.self; labels = c.truncate.new.self; frames = c.pop.new.self } in
    shown_end c.args.m.now limits frame old new store r e
    (record { count = c.result_count-count.result; count_is = c.result_count-count.ensures; values = c.keep.ensures.kept; labels = c.truncate.ensures.items })
    (none_left old.frames.items (omega (arith, c.in-None.ensures.cases)))
