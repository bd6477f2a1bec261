use Rattle.std.proofs.Common.{◌≡◌, ◌-◌, ◌*◌, ◌≤◌, ◌∙◌, true, true≢false, refl, sym, subst, arith}
use Rattle.wasm_spec.specs.Result.{CallResult}
use Rattle.wasm_machine.specs.Lent.{run_store, run_terms}
use Rattle.wasm_machine.specs.Room.{Room}
use Rattle.wasm_machine.proofs.RunLemmas.{within_more}
use Rattle.paused_call.proofs.SliceLemmas.{both_give, both_marked, both_stand, is_done, not_done, one_gives, one_marked, one_stands}
use Rattle.paused_call.proofs.call.PausedCall.go_on.Goals as goal

-- ---- one run

pub returns-then-not-self-clause-result : goal.returns-then-not-self-clause-result
returns-then-not-self-clause-result c begun h =
    let m = c.args.inputs.now.valid.now in
    let limits = run_terms c.args.inputs.now in
    let store = run_store c.args.inputs.now c.args.memory.now c.args.globals.now c.args.answer.now in
    let end : CallResult = record { outcome = c.advance-end.result.outcome; store = run_store c.args.inputs.now c.advance-end.new.memory c.advance-end.new.globals c.advance-end.new.answer; fuel = c.advance-end.result.left } in
    one_gives m limits begun c.args.args.now c.args.self.now c.args.stacks.now store h c.args.fuel c.args.memory.now c.advance-end.new.memory c.advance-end.new.stacks end (c.advance-end.ensures.ran begun h) (λ starts. absurd (true≢false (sym starts ∙ c.if-not-self.true)))

pub returns-then-not-self-clause-stands : goal.returns-then-not-self-clause-stands
returns-then-not-self-clause-stands c out begun h =
    let m = c.args.inputs.now.valid.now in
    let limits = run_terms c.args.inputs.now in
    let store = run_store c.args.inputs.now c.args.memory.now c.args.globals.now c.args.answer.now in
    let end : CallResult = record { outcome = c.advance-end.result.outcome; store = run_store c.args.inputs.now c.advance-end.new.memory c.advance-end.new.globals c.advance-end.new.answer; fuel = c.advance-end.result.left } in
    one_stands m limits begun c.args.args.now c.args.self.now c.args.stacks.now store h c.args.fuel c.args.memory.now c.advance-end.new.memory c.advance-end.new.stacks end (c.advance-end.ensures.ran begun h) (λ starts. absurd (true≢false (sym starts ∙ c.if-not-self.true)))
    out c.requires.fuel c.advance-end.ensures.stacks

pub returns-then-not-self-clause-marked : goal.returns-then-not-self-clause-marked
returns-then-not-self-clause-marked c begun h =
    let m = c.args.inputs.now.valid.now in
    let limits = run_terms c.args.inputs.now in
    let store = run_store c.args.inputs.now c.args.memory.now c.args.globals.now c.args.answer.now in
    let end : CallResult = record { outcome = c.advance-end.result.outcome; store = run_store c.args.inputs.now c.advance-end.new.memory c.advance-end.new.globals c.advance-end.new.answer; fuel = c.advance-end.result.left } in
    one_marked m limits begun c.args.args.now c.args.self.now c.args.stacks.now store h c.args.fuel c.args.memory.now c.advance-end.new.memory c.advance-end.new.stacks end (c.advance-end.ensures.ran begun h) (λ starts. absurd (true≢false (sym starts ∙ c.if-not-self.true)))

pub returns-then-not-self-clause-still : goal.returns-then-not-self-clause-still
returns-then-not-self-clause-still c out none = c.advance-end.ensures.still out (omega (arith, none, c.advance-end.ensures.left))

pub returns-in_default : goal.returns-in_default
returns-in_default c =
    let other = not_done c.advance-end.result.outcome c.in_default.not-Done in
    let m = c.args.inputs.now.valid.now in
    let limits = run_terms c.args.inputs.now in
    let store = run_store c.args.inputs.now c.args.memory.now c.args.globals.now c.args.answer.now in
    let end : CallResult = record { outcome = c.advance-end.result.outcome; store = run_store c.args.inputs.now c.advance-end.new.memory c.advance-end.new.globals c.advance-end.new.answer; fuel = c.advance-end.result.left } in
    record {
      result = λ begun h. one_gives m limits begun c.args.args.now c.args.self.now c.args.stacks.now store h c.args.fuel c.args.memory.now c.advance-end.new.memory c.advance-end.new.stacks end (c.advance-end.ensures.ran begun h) (λ s. other);
      left = c.advance-end.ensures.left;
      stands = λ out begun h. one_stands m limits begun c.args.args.now c.args.self.now c.args.stacks.now store h c.args.fuel c.args.memory.now c.advance-end.new.memory c.advance-end.new.stacks end (c.advance-end.ensures.ran begun h) (λ s. other)
          out c.requires.fuel c.advance-end.ensures.stacks;
      marked = λ begun h. one_marked m limits begun c.args.args.now c.args.self.now c.args.stacks.now store h c.args.fuel c.args.memory.now c.advance-end.new.memory c.advance-end.new.stacks end (c.advance-end.ensures.ran begun h) (λ s. other);
      still = λ out none. c.advance-end.ensures.still out (omega (arith, none, c.advance-end.ensures.left));
      marks = c.advance-end.ensures.marks;
      call = refl;
      memory = c.advance-end.ensures.memory;
      globals = c.advance-end.ensures.globals;
      others = c.advance-end.ensures.others;
      stacks = c.advance-end.ensures.stacks;
    }

-- ---- the start function ended well, and the export follows

pub invoke-requires-clause-call : goal.invoke-requires-clause-call
invoke-requires-clause-call c = let (begun, h) = c.requires.stands in h.is_call

pub invoke-requires-clause-depth : goal.invoke-requires-clause-depth
invoke-requires-clause-depth c = let (begun, h) = c.requires.stands in h.deep

pub invoke-requires-clause-frames : goal.invoke-requires-clause-frames
invoke-requires-clause-frames c =
    let (begun, h) = c.requires.stands in
    let frames = h.frames in
    subst (λ (r : Room). c.args.inputs.now.limits.depth ≤ r.depth) (sym c.advance-end.ensures.stacks) frames

pub invoke-requires-clause-store : goal.invoke-requires-clause-store
invoke-requires-clause-store c = c.advance-end.ensures.store (is_done c.advance-end.result.outcome c.in-Done.field-0 c.in-Done.is)

pub returns-clause-result : goal.returns-clause-result
returns-clause-result c begun h =
    let m = c.args.inputs.now.valid.now in
    let limits = run_terms c.args.inputs.now in
    let store = run_store c.args.inputs.now c.args.memory.now c.args.globals.now c.args.answer.now in
    let end : CallResult = record { outcome = c.advance-end.result.outcome; store = run_store c.args.inputs.now c.advance-end.new.memory c.advance-end.new.globals c.advance-end.new.answer; fuel = c.advance-end.result.left } in
    let done = is_done c.advance-end.result.outcome c.in-Done.field-0 c.in-Done.is in
    let starts : c.args.self.now.starts ≡ true = c.if-not-self.false in
    let last : CallResult = record { outcome = c.invoke.result.outcome; store = run_store c.args.inputs.now c.invoke.new.memory c.invoke.new.globals c.invoke.new.answer; fuel = c.invoke.result.left } in
    both_give m limits begun c.args.args.now c.args.self.now c.args.stacks.now store h c.args.fuel c.args.memory.now c.advance-end.new.memory c.advance-end.new.stacks end (c.advance-end.ensures.ran begun h) starts done c.advance-end.ensures.left
    last c.invoke.ensures.result

pub returns-clause-left : goal.returns-clause-left
returns-clause-left c = omega (arith, c.advance-end.ensures.left, c.invoke.ensures.left)

pub returns-clause-stands : goal.returns-clause-stands
returns-clause-stands c out begun h =
    let m = c.args.inputs.now.valid.now in
    let limits = run_terms c.args.inputs.now in
    let store = run_store c.args.inputs.now c.args.memory.now c.args.globals.now c.args.answer.now in
    let end : CallResult = record { outcome = c.advance-end.result.outcome; store = run_store c.args.inputs.now c.advance-end.new.memory c.advance-end.new.globals c.advance-end.new.answer; fuel = c.advance-end.result.left } in
    let done = is_done c.advance-end.result.outcome c.in-Done.field-0 c.in-Done.is in
    let starts : c.args.self.now.starts ≡ true = c.if-not-self.false in
    let last : CallResult = record { outcome = c.invoke.result.outcome; store = run_store c.args.inputs.now c.invoke.new.memory c.invoke.new.globals c.invoke.new.answer; fuel = c.invoke.result.left } in
    both_stand m limits begun c.args.args.now c.args.self.now c.args.stacks.now store h c.args.fuel c.args.memory.now c.advance-end.new.memory c.advance-end.new.stacks end (c.advance-end.ensures.ran begun h) starts done c.advance-end.ensures.left
    last c.invoke.new.self out c.invoke.ensures.result c.requires.fuel (c.invoke.ensures.stacks ∙ c.advance-end.ensures.stacks) (c.invoke.ensures.stands out)

pub returns-clause-marked : goal.returns-clause-marked
returns-clause-marked c begun h =
    let m = c.args.inputs.now.valid.now in
    let limits = run_terms c.args.inputs.now in
    let store = run_store c.args.inputs.now c.args.memory.now c.args.globals.now c.args.answer.now in
    let end : CallResult = record { outcome = c.advance-end.result.outcome; store = run_store c.args.inputs.now c.advance-end.new.memory c.advance-end.new.globals c.advance-end.new.answer; fuel = c.advance-end.result.left } in
    let done = is_done c.advance-end.result.outcome c.in-Done.field-0 c.in-Done.is in
    let starts : c.args.self.now.starts ≡ true = c.if-not-self.false in
    both_marked m limits begun c.args.args.now c.args.self.now c.args.stacks.now store h c.args.fuel c.args.memory.now c.advance-end.new.memory c.advance-end.new.stacks end (c.advance-end.ensures.ran begun h) starts done c.advance-end.ensures.left
    c.invoke.new.memory c.advance-end.ensures.marks.changes.unmarked c.invoke.ensures.marks.changes.unmarked c.invoke.ensures.marked

pub returns-clause-still : goal.returns-clause-still
returns-clause-still c out none =
    let first : c.advance-end.result.left ≡ 0 = omega (arith, none, c.advance-end.ensures.left) in
    let second : c.invoke.result.left ≡ c.advance-end.result.left = omega (arith, c.invoke.ensures.left) in
    c.invoke.ensures.still out second ∙ c.advance-end.ensures.start_still c.if-not-self.false (first ∙ sym none)

pub returns-clause-marks : goal.returns-clause-marks
returns-clause-marks c =
    let one = c.advance-end.ensures.left in
    let two = c.invoke.ensures.left in
    within_more c.args.inputs.now.valid.now c.args.memory.now c.advance-end.new.memory c.invoke.new.memory (2 * (c.args.fuel - c.advance-end.result.left)) (2 * (c.advance-end.result.left - c.invoke.result.left)) (2 * (c.args.fuel - c.invoke.result.left))
    c.advance-end.ensures.marks c.invoke.ensures.marks (omega arith)
