use Rattle.std.proofs.Common.{◌≡◌, ℕ, Bool, true≢false, Option, Some, None, refl, ap, sym, ◌∙◌, subst}
use Rattle.std.specs.Prelude.{is_some}
use Rattle.wasm_types.specs.declared.module.Module.{Module}
use Rattle.wasm_spec.specs.Result.{CallResult}
use Rattle.wasm_machine.specs.Lent.{run_store, run_terms}
use Rattle.wasm_machine.proofs.OutsideLemmas.{start_call, start_own}
use Rattle.wasm_machine.proofs.ResultLemmas.{runnable_as}
use Rattle.paused_call.specs.Standing.{IsAhead, IsAt, IsAtWork, ahead}
use Rattle.paused_call.proofs.SliceLemmas.{first_export, first_start, ran_first}
use Rattle.paused_call.proofs.call.PausedCall.advance.Goals as goal

-- ---- it is at work

pub advance-requires-clause-resumes : goal.advance-requires-clause-resumes
advance-requires-clause-resumes c =
    let (begun, h) = c.requires.stands in
    let m = c.args.inputs.now.valid.now in
    let limits = run_terms c.args.inputs.now in
    let call = c.args.self.now in
    let store = run_store c.args.inputs.now c.args.memory.now c.args.globals.now c.args.answer.now in
    let at : IsAtWork m limits begun c.args.args.now call c.args.stacks.now store = subst (λ (b : Bool). IsAt m limits begun c.args.args.now call b c.args.stacks.now store) c.if-self.true h.at in
    record { to = ahead m limits begun c.args.args.now call at.current; resumes = at.resumes }

pub returns-then-self-clause-ran : goal.returns-then-self-clause-ran
returns-then-self-clause-ran c begun h =
    let m = c.args.inputs.now.valid.now in
    let limits = run_terms c.args.inputs.now in
    let call = c.args.self.now in
    let store = run_store c.args.inputs.now c.args.memory.now c.args.globals.now c.args.answer.now in
    let at : IsAtWork m limits begun c.args.args.now call c.args.stacks.now store = subst (λ (b : Bool). IsAt m limits begun c.args.args.now call b c.args.stacks.now store) c.if-self.true h.at in
    let run = ahead m limits begun c.args.args.now call at.current in
    record {
      current = at.current;
      gives = c.advance.ensures.result run at.resumes;
      ended = λ over. c.advance.ensures.ended over run at.resumes;
      stands = λ out. c.advance.ensures.stands out run at.resumes;
      marked = c.advance.ensures.marked run at.resumes;
    }

pub returns-then-self-clause-start_still : goal.returns-then-self-clause-start_still
returns-then-self-clause-start_still c starts = c.advance.ensures.unspent

-- ---- it begins

pub invoke-requires-clause-call : goal.invoke-requires-clause-call
invoke-requires-clause-call c =
    start_call c.args.inputs.now.valid.now c.in-Some.start c.module.ensures.valid (ap (λ (n : Module). n.start) (sym c.module.ensures.same) ∙ c.in-Some.is)

pub returns-in-Some-clause-ran : goal.returns-in-Some-clause-ran
returns-in-Some-clause-ran c begun h =
    let m = c.args.inputs.now.valid.now in
    let limits = run_terms c.args.inputs.now in
    let call = c.args.self.now in
    let store = run_store c.args.inputs.now c.args.memory.now c.args.globals.now c.args.answer.now in
    let at : IsAhead m limits begun c.args.args.now call store = subst (λ (b : Bool). IsAt m limits begun c.args.args.now call b c.args.stacks.now store) c.if-self.false h.at in
    let start : m.start ≡ Some c.in-Some.start = ap (λ (n : Module). n.start) (sym c.module.ensures.same) ∙ c.in-Some.is in
    let end : CallResult = record { outcome = c.invoke.result.outcome; store = run_store c.args.inputs.now c.invoke.new.memory c.invoke.new.globals c.invoke.new.answer; fuel = c.invoke.result.left } in
    ran_first m limits begun c.args.args.now call (first_start m limits begun c.args.args.now call store at c.in-Some.start start) at.turns_are c.args.fuel c.args.memory.now c.invoke.new.memory c.invoke.new.self end
    c.invoke.ensures.result c.invoke.ensures.ended c.invoke.ensures.stands c.invoke.ensures.marked

pub returns-in-Some-clause-start_still : goal.returns-in-Some-clause-start_still
returns-in-Some-clause-start_still c starts =
    let m = c.args.inputs.now.valid.now in
    let frame = c.args.stacks.now.room.frame in
    let start : m.start ≡ Some c.in-Some.start = ap (λ (n : Module). n.start) (sym c.module.ensures.same) ∙ c.in-Some.is in
    c.invoke.ensures.unspent (start_own m frame c.in-Some.start (runnable_as m m frame refl c.module.ensures.supported c.module.ensures.valid c.requires.frame c.module.ensures.locals) start)

pub returns-in-None-clause-ran : goal.returns-in-None-clause-ran
returns-in-None-clause-ran c begun h =
    let m = c.args.inputs.now.valid.now in
    let limits = run_terms c.args.inputs.now in
    let call = c.args.self.now in
    let store = run_store c.args.inputs.now c.args.memory.now c.args.globals.now c.args.answer.now in
    let at : IsAhead m limits begun c.args.args.now call store = subst (λ (b : Bool). IsAt m limits begun c.args.args.now call b c.args.stacks.now store) c.if-self.false h.at in
    let none : m.start ≡ None = ap (λ (n : Module). n.start) (sym c.module.ensures.same) ∙ c.in-None.is in
    let end : CallResult = record { outcome = c.invoke-in-None.result.outcome; store = run_store c.args.inputs.now c.invoke-in-None.new.memory c.invoke-in-None.new.globals c.invoke-in-None.new.answer; fuel = c.invoke-in-None.result.left } in
    ran_first m limits begun c.args.args.now call (first_export m limits begun c.args.args.now call store at none) at.turns_are c.args.fuel c.args.memory.now c.invoke-in-None.new.memory c.invoke-in-None.new.self end
    c.invoke-in-None.ensures.result c.invoke-in-None.ensures.ended c.invoke-in-None.ensures.stands c.invoke-in-None.ensures.marked

pub returns-in-None-clause-start_still : goal.returns-in-None-clause-start_still
returns-in-None-clause-start_still c starts =
    let (begun, h) = c.requires.stands in
    let m = c.args.inputs.now.valid.now in
    let limits = run_terms c.args.inputs.now in
    let call = c.args.self.now in
    let store = run_store c.args.inputs.now c.args.memory.now c.args.globals.now c.args.answer.now in
    let at : IsAhead m limits begun c.args.args.now call store = subst (λ (b : Bool). IsAt m limits begun c.args.args.now call b c.args.stacks.now store) c.if-self.false h.at in
    let none : m.start ≡ None = ap (λ (n : Module). n.start) (sym c.module.ensures.same) ∙ c.in-None.is in
    absurd (true≢false (sym starts ∙ at.starts_is ∙ ap (λ (o : Option ℕ). is_some o) none))
