use Rattle.std.proofs.Common.{ℕ, ◌+◌, ◌-◌, sym, ap, subst, arith}
use Rattle.wasm_values.specs.declared.outcome.Outcome.{Outcome}
use Rattle.wasm_spec.specs.MoreFuel.{is_fuel}
use Rattle.wasm_spec.specs.Result.{CallResult}
use Rattle.wasm_machine.specs.Lent.{run_store, run_terms}
use Rattle.wasm_machine.specs.Resuming.{IsOutOfFuel}
use Rattle.paused_call.specs.declared.call.PausedCall.{PausedCall}
use Rattle.paused_call.specs.Standing.{Stands, upto, whole}
use Rattle.paused_call.proofs.SliceLemmas.{left_early, left_late, not_fuel, turned_again, turned_early, turned_late, went_to}
use Rattle.paused_call.proofs.call.PausedCall.resume.Goals as goal

-- ---- it goes on

pub returns-in-Fuel-clause-turned : goal.returns-in-Fuel-clause-turned
returns-in-Fuel-clause-turned c begun h =
    let m = c.args.inputs.now.valid.now in
    let limits = run_terms c.args.inputs.now in
    let args = c.args.args.now in
    let call = c.args.self.now in
    let end : CallResult = record { outcome = c.go_on-end.result.outcome; store = run_store c.args.inputs.now c.go_on-end.new.memory c.go_on-end.new.globals c.go_on-end.new.answer; fuel = c.go_on-end.result.left } in
    let lt = c.if-slice-most.true in
    let le = h.within in
    turned_again m limits begun args call c.args.slice end (omega arith) (c.go_on-end.ensures.result begun h) (ap (λ (o : Outcome). is_fuel o) c.in-Fuel.is)

pub returns-in-Fuel-clause-stands : goal.returns-in-Fuel-clause-stands
returns-in-Fuel-clause-stands c again begun h =
    let m = c.args.inputs.now.valid.now in
    let limits = run_terms c.args.inputs.now in
    let args = c.args.args.now in
    let out : IsOutOfFuel c.go_on-end.result.outcome = subst IsOutOfFuel (sym c.in-Fuel.is) tt in
    let turns = ap (λ (p : PausedCall). p.turns) c.go_on-end.ensures.call in
    let there = c.go_on-end.ensures.stands out begun h in
    subst (λ (k : ℕ). Stands m limits begun args (record c.go_on-end.new.self { turns = k + c.args.slice }) c.go_on-end.new.stacks (run_store c.args.inputs.now c.go_on-end.new.memory c.go_on-end.new.globals c.go_on-end.new.answer)) (sym turns) there

pub returns-in-Fuel-clause-went : goal.returns-in-Fuel-clause-went
returns-in-Fuel-clause-went c begun h =
    let m = c.args.inputs.now.valid.now in
    let limits = run_terms c.args.inputs.now in
    let args = c.args.args.now in
    let call = c.args.self.now in
    let end : CallResult = record { outcome = c.go_on-end.result.outcome; store = run_store c.args.inputs.now c.go_on-end.new.memory c.go_on-end.new.globals c.go_on-end.new.answer; fuel = c.go_on-end.result.left } in
    let lt = c.if-slice-most.true in
    let le = h.within in
    went_to m (whole m limits call args begun) call.turns c.args.slice (upto call c.args.slice) c.args.memory.now c.go_on-end.new.memory end (omega arith) (c.go_on-end.ensures.result begun h)
    (c.go_on-end.ensures.marked begun h) c.go_on-end.ensures.still c.go_on-end.ensures.marks

-- ---- it is over before its fuel is

pub returns-in_default-clause-turned : goal.returns-in_default-clause-turned
returns-in_default-clause-turned c begun h =
    let m = c.args.inputs.now.valid.now in
    let limits = run_terms c.args.inputs.now in
    let args = c.args.args.now in
    let call = c.args.self.now in
    let end : CallResult = record { outcome = c.go_on-end.result.outcome; store = run_store c.args.inputs.now c.go_on-end.new.memory c.go_on-end.new.globals c.go_on-end.new.answer; fuel = c.go_on-end.result.left } in
    let lt = c.if-slice-most.true in
    let le = h.within in
    turned_early m limits begun args call c.args.slice end (omega arith) (c.go_on-end.ensures.result begun h) (not_fuel c.go_on-end.result.outcome c.in_default.not-Fuel)

pub returns-in_default-clause-went : goal.returns-in_default-clause-went
returns-in_default-clause-went c begun h =
    let m = c.args.inputs.now.valid.now in
    let limits = run_terms c.args.inputs.now in
    let args = c.args.args.now in
    let call = c.args.self.now in
    let end : CallResult = record { outcome = c.go_on-end.result.outcome; store = run_store c.args.inputs.now c.go_on-end.new.memory c.go_on-end.new.globals c.go_on-end.new.answer; fuel = c.go_on-end.result.left } in
    let lt = c.if-slice-most.true in
    let le = h.within in
    went_to m (whole m limits call args begun) call.turns c.args.slice (upto call c.args.slice) c.args.memory.now c.go_on-end.new.memory end (omega arith) (c.go_on-end.ensures.result begun h)
    (c.go_on-end.ensures.marked begun h) c.go_on-end.ensures.still c.go_on-end.ensures.marks

pub returns-in_default-clause-left : goal.returns-in_default-clause-left
returns-in_default-clause-left c begun h =
    let m = c.args.inputs.now.valid.now in
    let limits = run_terms c.args.inputs.now in
    let args = c.args.args.now in
    let call = c.args.self.now in
    let left : ℕ = c.go_on-end.result.left in
    let end : CallResult = record { outcome = c.go_on-end.result.outcome; store = run_store c.args.inputs.now c.go_on-end.new.memory c.go_on-end.new.globals c.go_on-end.new.answer; fuel = left } in
    let lt = c.if-slice-most.true in
    let le = h.within in
    let same = c.go_on-end.ensures.call in
    left_early m limits begun args call c.args.slice end (omega arith) c.go_on-end.ensures.left (c.go_on-end.ensures.result begun h) (not_fuel c.go_on-end.result.outcome c.in_default.not-Fuel)
    (c.go_on-end.new.self.turns + (c.args.slice - left)) c.go_on-end.new.self.fuel (ap (λ (p : PausedCall). p.turns + (c.args.slice - left)) same) (ap (λ (p : PausedCall). p.fuel) same)

-- ---- it has all its fuel

pub returns-else-slice-most-clause-turned : goal.returns-else-slice-most-clause-turned
returns-else-slice-most-clause-turned c begun h =
    let m = c.args.inputs.now.valid.now in
    let limits = run_terms c.args.inputs.now in
    let args = c.args.args.now in
    let call = c.args.self.now in
    let end : CallResult = record { outcome = c.go_on-end-else-slice-most.result.outcome; store = run_store c.args.inputs.now c.go_on-end-else-slice-most.new.memory c.go_on-end-else-slice-most.new.globals c.go_on-end-else-slice-most.new.answer; fuel = c.go_on-end-else-slice-most.result.left } in
    let lt = c.if-slice-most.false in
    let le = h.within in
    turned_late m limits begun args call c.args.slice end le (omega arith) (c.go_on-end-else-slice-most.ensures.result begun h)

pub returns-else-slice-most-clause-went : goal.returns-else-slice-most-clause-went
returns-else-slice-most-clause-went c begun h =
    let m = c.args.inputs.now.valid.now in
    let limits = run_terms c.args.inputs.now in
    let args = c.args.args.now in
    let call = c.args.self.now in
    let end : CallResult = record { outcome = c.go_on-end-else-slice-most.result.outcome; store = run_store c.args.inputs.now c.go_on-end-else-slice-most.new.memory c.go_on-end-else-slice-most.new.globals c.go_on-end-else-slice-most.new.answer; fuel = c.go_on-end-else-slice-most.result.left } in
    let lt = c.if-slice-most.false in
    let le = h.within in
    went_to m (whole m limits call args begun) call.turns (call.fuel - call.turns) (upto call c.args.slice) c.args.memory.now c.go_on-end-else-slice-most.new.memory end (omega arith) (c.go_on-end-else-slice-most.ensures.result begun h)
    (c.go_on-end-else-slice-most.ensures.marked begun h) c.go_on-end-else-slice-most.ensures.still c.go_on-end-else-slice-most.ensures.marks

pub returns-else-slice-most-clause-left : goal.returns-else-slice-most-clause-left
returns-else-slice-most-clause-left c begun h =
    let m = c.args.inputs.now.valid.now in
    let limits = run_terms c.args.inputs.now in
    let args = c.args.args.now in
    let call = c.args.self.now in
    let ran = c.go_on-end-else-slice-most in
    let left : ℕ = ran.result.left in
    let end : CallResult = record { outcome = ran.result.outcome; store = run_store c.args.inputs.now ran.new.memory ran.new.globals ran.new.answer; fuel = left } in
    let le = h.within in
    let same = ran.ensures.call in
    left_late m limits begun args call c.args.slice end le ran.ensures.left (ran.ensures.result begun h)
    (ran.new.self.turns + (call.fuel - call.turns - left)) ran.new.self.fuel (ap (λ (p : PausedCall). p.turns + (call.fuel - call.turns - left)) same) (ap (λ (p : PausedCall). p.fuel) same)
