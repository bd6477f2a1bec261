use Rattle.std.proofs.Common.{◌≡◌, Some, None, ap, sym, ◌∙◌, Bool}
use Rattle.wasm_checker.specs.Check.{Popped, pop, agrees, when}
use Rattle.wasm_checker.proofs.Steps.{exits, then_some, then_none}
use Rattle.wasm_checker.proofs.checker.Checker.pop_type.Goals as goal

pub returns-in_err-k : goal.returns-in_err-k
returns-in_err-k c k s = exits _ (pop k.stack ≡ None) _ _ c.in_err-k.field-0.0 c.from_residual.ensures.1 (c.in_err-k.ensures k s) (then_none (pop k.stack) (λ p. when (agrees c.args.t p.top) (Some p.rest)))

pub returns-then-agrees : goal.returns-then-agrees
returns-then-agrees c k s =
    let p = c.in_ok-k.ensures k s in
    let popped : Popped = record { top = c.in_ok-k.k; rest = p.rest } in
    record {
      stack = p.rest;
      is = then_some (pop k.stack) popped (λ p. when (agrees c.args.t p.top) (Some p.rest)) p.is ∙ ap (λ (b : Bool). when b (Some p.rest)) (sym c.agrees.ensures ∙ c.if-agrees.true);
      shows = p.shows;
    }

pub returns-else-agrees : goal.returns-else-agrees
returns-else-agrees c k s =
    let p = c.in_ok-k.ensures k s in
    let popped : Popped = record { top = c.in_ok-k.k; rest = p.rest } in
    then_some (pop k.stack) popped (λ p. when (agrees c.args.t p.top) (Some p.rest)) p.is ∙ ap (λ (b : Bool). when b (Some p.rest)) (sym c.agrees.ensures ∙ c.if-agrees.false)
