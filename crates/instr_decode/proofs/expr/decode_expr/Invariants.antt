use Rattle.std.proofs.Common.{◌≡◌, ◌-◌, ◌≤◌, length}
use Rattle.leb_read.specs.Reading.{rest}
use Rattle.instr_decode.specs.Contexts.{ExprContext, RepresentsContext}
use Rattle.instr_decode.specs.Wants.{WantsExpr}
use Rattle.instr_decode.proofs.Completions.{SameCompletions, start}
use Rattle.instr_decode.proofs.expr.decode_expr.Given as goal

abbrev pub invariant-loop-builder : goal.invariant-loop-builder
invariant-loop-builder l = record {
  whole : l.cursor.whole ≡ l.initial.cursor.whole;
  forth : l.initial.cursor.place ≤ l.cursor.place;
  context : ExprContext;
  stands : RepresentsContext l.builder context;
  same : SameCompletions l.profile start (rest l.initial.cursor) context (rest l.cursor);
  wants : WantsExpr l.profile (rest l.cursor) → WantsExpr l.profile (rest l.initial.cursor);
}

abbrev pub decreases-loop-builder : goal.decreases-loop-builder
decreases-loop-builder l = length l.cursor.whole - l.cursor.place
