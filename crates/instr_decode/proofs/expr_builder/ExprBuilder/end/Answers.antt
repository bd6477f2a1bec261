use Rattle.std.proofs.Common.{◌≡◌, ℕ, List, [], ◌∷◌, ◌++◌, length, refl, sym, ap, ◌∙◌, subst, arith}
use Rattle.std.proofs.lemmas.List.{nil_from_length}
use Rattle.wasm_types.specs.declared.instr.Op.{Op}
use Rattle.wasm_types.specs.declared.instr.Op.TheVariants as op
use Rattle.instr_decode.specs.declared.expr_builder.FrameKind.{FrameKind}
use Rattle.instr_decode.specs.declared.expr_builder.Frame.{Frame}
use Rattle.instr_decode.specs.declared.expr_builder.ExprBuilder.{ExprBuilder}
use Rattle.instr_decode.specs.Contexts.{StandsFor}
use Rattle.instr_decode.proofs.Contexts.{Names, ends-inner, ends-if, ends-outermost}
use Rattle.instr_decode.proofs.expr_builder.ExprBuilder.end.Goals as goal

pub returns-in_default : goal.returns-in_default
returns-in_default c = λ s h.
    let n = c.args.self.now in
    let frames : n.frames.items ≡ [] = sym c.in_ok-last.ensures.frames ∙ nil_from_length c.finish_sequence.new.self.frames.items (omega (arith, c.in_default.ensures.cases.0, c.finish_sequence.new.self.frames.ok.0)) in
    let m : ExprBuilder = record { sequences = c.finish_sequence.new.self.sequences; frames = c.pop.new.self; ops = c.finish_sequence.new.self.ops } in
    ends-outermost n.sequences.items n.ops.items s.inner s.enclosing m (subst (λ (l : List Frame). StandsFor n.sequences.items l n.ops.items s) frames h) c.in_ok-last.ensures.sequences

pub returns-in_ok-resume-in-Block : goal.returns-in_ok-resume-in-Block
returns-in_ok-resume-in-Block c = λ s h.
    let n = c.args.self.now in
    let o = c.in-Some.frame in
    let frames : n.frames.items ≡ c.pop.new.self.items ++ o ∷ [] = sym c.in_ok-last.ensures.frames ∙ c.in-Some.ensures.items in
    let x : Op = op.Block o.block_type c.in_ok-last.last in
    let names : Names o.kind o.block_type c.in_ok-last.last x = subst (λ (q : FrameKind). Names q o.block_type c.in_ok-last.last x) (sym c.in-Block.is) refl in
    ends-inner n.sequences.items c.pop.new.self.items n.ops.items o c.in_ok-last.last x s.inner s.enclosing c.resume.new.self names c.in_ok-last.ensures.number
    (subst (λ (l : List Frame). StandsFor n.sequences.items l n.ops.items s) frames h)
    (c.in_ok-resume-in-Block.ensures.sequences ∙ c.in_ok-last.ensures.sequences) c.in_ok-resume-in-Block.ensures.frames c.in_ok-resume-in-Block.ensures.ops

pub returns-in_ok-resume-in-Loop : goal.returns-in_ok-resume-in-Loop
returns-in_ok-resume-in-Loop c = λ s h.
    let n = c.args.self.now in
    let o = c.in-Some.frame in
    let frames : n.frames.items ≡ c.pop.new.self.items ++ o ∷ [] = sym c.in_ok-last.ensures.frames ∙ c.in-Some.ensures.items in
    let x : Op = op.Loop o.block_type c.in_ok-last.last in
    let names : Names o.kind o.block_type c.in_ok-last.last x = subst (λ (q : FrameKind). Names q o.block_type c.in_ok-last.last x) (sym c.in-Loop.is) refl in
    ends-inner n.sequences.items c.pop.new.self.items n.ops.items o c.in_ok-last.last x s.inner s.enclosing c.resume-in-Loop.new.self names c.in_ok-last.ensures.number
    (subst (λ (l : List Frame). StandsFor n.sequences.items l n.ops.items s) frames h)
    (c.in_ok-resume-in-Loop.ensures.sequences ∙ c.in_ok-last.ensures.sequences) c.in_ok-resume-in-Loop.ensures.frames c.in_ok-resume-in-Loop.ensures.ops

pub returns-in_ok-resume-in-If : goal.returns-in_ok-resume-in-If
returns-in_ok-resume-in-If c = λ s h.
    let n = c.args.self.now in
    let o = c.in-Some.frame in
    let frames : n.frames.items ≡ c.pop.new.self.items ++ o ∷ [] = sym c.in_ok-last.ensures.frames ∙ c.in-Some.ensures.items in
    let seqs = c.in_ok-last.ensures.sequences in
    let seqs2 : c.finish_sequence-in-If.new.self.sequences.items ≡ (n.sequences.items ++ n.ops.items ∷ []) ++ [] ∷ [] =
    c.in_ok-second-in-If.ensures.sequences ∙ ap (λ (l : List Op). c.finish_sequence.new.self.sequences.items ++ l ∷ []) c.in_ok-last.ensures.ops ∙ ap (λ (l : List (List Op)). l ++ [] ∷ []) seqs in
    let second : c.in_ok-second-in-If.second ≡ length (n.sequences.items ++ n.ops.items ∷ []) = c.in_ok-second-in-If.ensures.number ∙ ap length seqs in
    ends-if n.sequences.items c.pop.new.self.items n.ops.items o c.in_ok-last.last s.inner s.enclosing c.resume-in-If.new.self c.in-If.is c.in_ok-last.ensures.number
    (subst (λ (l : List Frame). StandsFor n.sequences.items l n.ops.items s) frames h)
    (c.in_ok-resume-in-If.ensures.sequences ∙ seqs2) (c.in_ok-resume-in-If.ensures.frames ∙ c.in_ok-second-in-If.ensures.frames)
    (c.in_ok-resume-in-If.ensures.ops ∙ ap (λ (j : ℕ). o.ops.items ++ op.If o.block_type c.in_ok-last.last j ∷ []) second)

pub returns-in_ok-resume-in-Else : goal.returns-in_ok-resume-in-Else
returns-in_ok-resume-in-Else c = λ s h.
    let n = c.args.self.now in
    let o = c.in-Some.frame in
    let frames : n.frames.items ≡ c.pop.new.self.items ++ o ∷ [] = sym c.in_ok-last.ensures.frames ∙ c.in-Some.ensures.items in
    let x : Op = op.If o.block_type c.in-Else.first c.in_ok-last.last in
    let names : Names o.kind o.block_type c.in_ok-last.last x = subst (λ (q : FrameKind). Names q o.block_type c.in_ok-last.last x) (sym c.in-Else.is) refl in
    ends-inner n.sequences.items c.pop.new.self.items n.ops.items o c.in_ok-last.last x s.inner s.enclosing c.resume-in-Else.new.self names c.in_ok-last.ensures.number
    (subst (λ (l : List Frame). StandsFor n.sequences.items l n.ops.items s) frames h)
    (c.in_ok-resume-in-Else.ensures.sequences ∙ c.in_ok-last.ensures.sequences) c.in_ok-resume-in-Else.ensures.frames c.in_ok-resume-in-Else.ensures.ops
