use Rattle.std.proofs.Common.{◌≡◌, Some, None, sym, ◌∙◌}
use Rattle.wasm_types.specs.declared.types.ValType.TheVariants.{I32}
use Rattle.wasm_checker.specs.Check.{Popped, pop, pop_type, select_first, select_second, select_both, both, push}
use Rattle.wasm_checker.specs.Position.{with_stack, base_of}
use Rattle.wasm_checker.proofs.Steps.{exits, goes_on, then_some, then_none}
use Rattle.wasm_checker.proofs.checker.Checker.select.Goals as goal

pub returns-in_err-k : goal.returns-in_err-k
returns-in_err-k c k s =
    let x = c.in_ok-pop_type.ensures k s in
    let b = base_of k.blocks in
    exits _ (pop x.stack ≡ None) _ _ c.in_err-k.field-0.0 c.from_residual-in_err-k.ensures.1 (c.in_err-k.ensures (with_stack k x.stack) x.shows)
    (λ none. then_some (pop_type I32 k.stack) x.stack (select_first b) x.is ∙ then_none (pop x.stack) (select_second b) none)

pub returns-in_err-l : goal.returns-in_err-l
returns-in_err-l c k s =
    let x = c.in_ok-pop_type.ensures k s in
    let p = c.in_ok-k.ensures (with_stack k x.stack) x.shows in
    let first : Popped = record { top = c.in_ok-k.k; rest = p.rest } in
    let b = base_of k.blocks in
    exits _ (pop p.rest ≡ None) _ _ c.in_err-l.field-0.0 c.from_residual-in_err-l.ensures.1 (c.in_err-l.ensures (with_stack k p.rest) p.shows)
    (λ none. then_some (pop_type I32 k.stack) x.stack (select_first b) x.is ∙ then_some (pop x.stack) first (select_second b) p.is ∙ then_none (pop p.rest) (select_both b first) none)

pub returns-in-Some : goal.returns-in-Some
returns-in-Some c k s =
    let x = c.in_ok-pop_type.ensures k s in
    let p = c.in_ok-k.ensures (with_stack k x.stack) x.shows in
    let q = c.in_ok-l.ensures (with_stack k p.rest) p.shows in
    let first : Popped = record { top = c.in_ok-k.k; rest = p.rest } in
    let second : Popped = record { top = c.in_ok-l.l; rest = q.rest } in
    let b = base_of k.blocks in
    let whole = then_some (pop_type I32 k.stack) x.stack (select_first b) x.is ∙ then_some (pop x.stack) first (select_second b) p.is ∙ then_some (pop p.rest) second (select_both b first) q.is
    ∙ then_some (both c.in_ok-k.k c.in_ok-l.l) c.in-Some.t (λ t. Some (push b t q.rest)) (sym c.both.ensures ∙ c.in-Some.is) in
    goes_on k q.rest (Some (push b c.in-Some.t q.rest)) _ c.push.new.self c.push.result whole (c.push.ensures (with_stack k q.rest) q.shows)

pub returns-in-None : goal.returns-in-None
returns-in-None c k s =
    let x = c.in_ok-pop_type.ensures k s in
    let p = c.in_ok-k.ensures (with_stack k x.stack) x.shows in
    let q = c.in_ok-l.ensures (with_stack k p.rest) p.shows in
    let first : Popped = record { top = c.in_ok-k.k; rest = p.rest } in
    let second : Popped = record { top = c.in_ok-l.l; rest = q.rest } in
    let b = base_of k.blocks in
    then_some (pop_type I32 k.stack) x.stack (select_first b) x.is ∙ then_some (pop x.stack) first (select_second b) p.is ∙ then_some (pop p.rest) second (select_both b first) q.is
    ∙ then_none (both c.in_ok-k.k c.in_ok-l.l) (λ t. Some (push b t q.rest)) (sym c.both.ensures ∙ c.in-None.is)
