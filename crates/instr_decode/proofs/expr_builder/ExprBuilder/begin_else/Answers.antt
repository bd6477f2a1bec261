use Rattle.std.proofs.Common.{◌≡◌, List, [], ◌∷◌, ◌++◌, sym, ◌∙◌, subst}
use Rattle.instr_decode.specs.declared.expr_builder.Frame.{Frame}
use Rattle.instr_decode.specs.declared.expr_builder.ExprBuilder.{ExprBuilder}
use Rattle.instr_decode.specs.Contexts.{StandsFor}
use Rattle.instr_decode.proofs.Contexts.{begins-else}
use Rattle.instr_decode.proofs.expr_builder.ExprBuilder.begin_else.Goals as goal

pub returns : goal.returns
returns c = λ s h.
    let n = c.args.self.now in
    let o = c.in-Some.frame in
    let frames : n.frames.items ≡ c.pop.new.self.items ++ o ∷ [] = sym c.in_ok-first.ensures.frames ∙ c.in-Some.ensures.items in
    let m : ExprBuilder = record { sequences = c.finish_sequence.new.self.sequences; frames = c.push.new.self; ops = c.finish_sequence.new.self.ops } in
    begins-else n.sequences.items c.pop.new.self.items n.ops.items o c.in_ok-first.first s.inner s.enclosing m c.in-If.is c.in_ok-first.ensures.number
    (subst (λ (l : List Frame). StandsFor n.sequences.items l n.ops.items s) frames h) c.in_ok-first.ensures.sequences c.in_ok-push.ensures.items c.in_ok-first.ensures.ops
