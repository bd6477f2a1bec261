use Rattle.std.proofs.Common.{◌≡◌, ◌-◌, ◌+◌, ℕ, refl, sym, ap, subst, arith}
use Rattle.wasm_machine.specs.Simulation.{CanContinue, placed, sequence_at}
use Rattle.wasm_machine.specs.Stretches.{fuel_of, place_of}
use Rattle.wasm_machine.proofs.FunctionLemmas.{stands_in}
use Rattle.wasm_machine.proofs.PlaceLemmas.{moved}
use Rattle.wasm_machine.proofs.RunLemmas.{spent_all}
use Rattle.wasm_machine.proofs.StretchLemmas.{none_spent, over_same}
use Rattle.wasm_machine.proofs.interpreter.fetch.Goals as goal

pub place-end-requires : goal.place-end-requires
place-end-requires c = (sequence_at c.args.m.now c.args.machine.now, c.requires.lies)

pub settle-requires : goal.settle-requires
settle-requires c = subst (λ (p : ℕ). CanContinue c.args.m.now (placed c.args.machine.now p)) (sym c.place-end.ensures.is) c.requires.can

pub returns-then-has_next-clause-next : goal.returns-then-has_next-clause-next
returns-then-has_next-clause-next c = record { lies = c.requires.lies; some = c.if-has_next.ensures.some refl }

pub returns-then-has_next-clause-steps : goal.returns-then-has_next-clause-steps
returns-then-has_next-clause-steps c limits frame store r s =
    none_spent c.args.m.now limits frame (placed c.args.machine.now (place_of c.args.ahead)) store r (fuel_of c.args.ahead - fuel_of c.args.ahead) (omega arith) s

pub returns-then-settle-clause-steps : goal.returns-then-settle-clause-steps
returns-then-settle-clause-steps c limits frame store r s =
    let m = c.args.m.now in
    let over = c.if-settle.ensures.steps limits frame store r (moved m limits frame c.args.machine.now store r (place_of c.args.ahead) c.place-end.result (sym c.place-end.ensures.is) s) in
    over_same m limits frame c.settle.new.machine store _ r (λ g. ap r (let same : fuel_of c.args.ahead - c.fuel-fuel.result + g ≡ g = omega (arith, c.fuel-fuel.ensures) in same)) over

pub returns-then-fuel-eq0-clause-steps : goal.returns-then-fuel-eq0-clause-steps
returns-then-fuel-eq0-clause-steps c limits frame store r s =
    let m = c.args.m.now in
    let at = c.if-settle.ensures.steps limits frame store r (moved m limits frame c.args.machine.now store r (place_of c.args.ahead) c.place-end.result (sym c.place-end.ensures.is) s) in
    let none : fuel_of c.args.ahead ≡ 0 = omega (arith, c.fuel-fuel.ensures, c.if-fuel-eq0.true) in (
      none_spent m limits frame c.settle.new.machine store r (fuel_of c.args.ahead) none at,
      spent_all m limits frame c.settle.new.machine store r (fuel_of c.args.ahead) (fuel_of c.args.ahead) refl (none_spent m limits frame c.settle.new.machine store r (fuel_of c.args.ahead) none at) (c.if-settle.ensures.there refl),
    )

pub stretch_at-requires : goal.stretch_at-requires
stretch_at-requires c =
    let e = c.requires.can in
    let m = c.args.m.now in
    let s = c.if-settle.ensures.steps e.limits e.frame e.store e.to (moved m e.limits e.frame c.args.machine.now e.store e.to (place_of c.args.ahead) c.place-end.result (sym c.place-end.ensures.is) e.simulates) in
    stands_in m s.configuration c.settle.new.machine s.represents s.typed.around.there

pub returns-clause-next : goal.returns-clause-next
returns-clause-next c = record {
  lies = c.stretch_at.ensures.lies;
  some = c.stretch_at.ensures.some (c.if-settle.ensures.there refl) (omega (arith, c.if-fuel-eq0.false));
}

pub returns-clause-steps : goal.returns-clause-steps
returns-clause-steps c limits frame store r s =
    let m = c.args.m.now in
    let at = c.if-settle.ensures.steps limits frame store r (moved m limits frame c.args.machine.now store r (place_of c.args.ahead) c.place-end.result (sym c.place-end.ensures.is) s) in
    none_spent m limits frame (placed c.settle.new.machine (place_of c.stretch_at.result)) store r (fuel_of c.args.ahead - fuel_of c.stretch_at.result) (omega (arith, c.stretch_at.ensures.fuel, c.fuel-fuel.ensures))
    (moved m limits frame c.settle.new.machine store r c.settle.new.machine.at.place (place_of c.stretch_at.result) (sym c.stretch_at.ensures.place) at)
