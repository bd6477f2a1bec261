use Rattle.instr_decode.proofs.Contexts.{stands-pushed}
use Rattle.instr_decode.proofs.expr_builder.ExprBuilder.push.Goals as goal

pub returns : goal.returns
returns c = λ s h.
    let n = c.args.self.now in
    rw c.in_ok-push.ensures.items (stands-pushed n.sequences.items n.frames.items n.ops.items c.args.op s c.requires h)
