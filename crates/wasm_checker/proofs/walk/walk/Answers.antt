use Rattle.std.proofs.Common.{◌≡◌, None}
use Rattle.wasm_checker.specs.Walk.{whole}
use Rattle.wasm_checker.proofs.Steps.{exits}
use Rattle.wasm_checker.proofs.walk.walk.Goals as goal

pub returns-in_err-instruction-in-Some : goal.returns-in_err-instruction-in-Some
returns-in_err-instruction-in-Some c =
    let o = whole c.args.m.now c.args.f.now in
    exits _ (o ≡ None) (o ≡ None) _ c.in_err-instruction-in-Some.field-0.0 c.from_residual.ensures.1 (c.in_err-instruction-in-Some.ensures o c.loop-op.invariant) (λ none. none)

pub loop-op-smaller-in-Continue-1 : goal.loop-op-smaller-in-Continue-1
loop-op-smaller-in-Continue-1 c = (c.in_ok-instruction-in-Some.ensures (whole c.args.m.now c.args.f.now) c.loop-op.invariant).less

pub returns-in_err-close-in-None : goal.returns-in_err-close-in-None
returns-in_err-close-in-None c =
    let o = whole c.args.m.now c.args.f.now in
    exits _ (o ≡ None) (o ≡ None) _ c.in_err-close-in-None.field-0.0 c.from_residual-in_err-close-in-None.ensures.1 (c.in_err-close-in-None.ensures o c.loop-op.invariant) (λ none. none)

pub loop-op-smaller : goal.loop-op-smaller
loop-op-smaller c = (c.in_ok-close-in-None.ensures (whole c.args.m.now c.args.f.now) c.loop-op.invariant).less

pub loop-op-init : goal.loop-op-init
loop-op-init c = c.start-walk.ensures

pub instruction-requires-clause-types : goal.instruction-requires-clause-types
instruction-requires-clause-types c = c.requires.types

pub instruction-requires-clause-locals : goal.instruction-requires-clause-locals
instruction-requires-clause-locals c = c.requires.locals

pub loop-op-preserved-in-Continue-1 : goal.loop-op-preserved-in-Continue-1
loop-op-preserved-in-Continue-1 c = (c.in_ok-instruction-in-Some.ensures (whole c.args.m.now c.args.f.now) c.loop-op.invariant).comes_to

pub returns-then-is_empty : goal.returns-then-is_empty
returns-then-is_empty c = c.finish.ensures (whole c.args.m.now c.args.f.now) c.loop-op.invariant

pub loop-op-preserved : goal.loop-op-preserved
loop-op-preserved c = (c.in_ok-close-in-None.ensures (whole c.args.m.now c.args.f.now) c.loop-op.invariant).comes_to
