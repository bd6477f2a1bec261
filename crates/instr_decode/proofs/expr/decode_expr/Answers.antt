use Rattle.std.proofs.Common.{◌≡◌, inr, true, false, ◌∙◌, arith, rules}
use Rattle.std.proofs.lemmas.Result.{err_from_is_err_and}
use Rattle.leb_read.specs.Reading.{rest}
use Rattle.instr_decode.specs.Contexts.{pushed, opened}
use Rattle.instr_decode.proofs.Decoding.{exits}
use Rattle.instr_decode.proofs.Completions.{same-then, same-pushed, same-opened, start, none-token, none-else, else-reached, end-reached, whole-read}
use Rattle.instr_decode.proofs.Wants.{token-wants}
use Rattle.instr_decode.proofs.expr.decode_expr.Goals as goal

pub returns-in_err-op-clause-read : goal.returns-in_err-op-clause-read
returns-in_err-op-clause-read c =
    exits c.from_residual.result _ _ c.in_err-op.field-0.0 c.from_residual.ensures.1
    (none-token c.args.profile c.loop-builder.invariant.context (rest c.args.cursor.now) (rest c.loop-builder.cursor) c.in_err-op.field-0.0 c.loop-builder.invariant.same c.in_err-op.ensures.token)

pub loop-builder-preserved-in_ok-push-in-Leaf : goal.loop-builder-preserved-in_ok-push-in-Leaf
loop-builder-preserved-in_ok-push-in-Leaf c =
    let inv = c.loop-builder.invariant in
    let read = c.in_ok-op.ensures.token in
    let h = read.spelled in
    let next = pushed c.in-Leaf.op inv.context in
    record {
      whole = read.whole ∙ inv.whole;
      forth = omega (arith, read.forth, inv.forth);
      context = next;
      stands = c.in_ok-push-in-Leaf.ensures inv.context inv.stands;
      same = same-then c.args.profile start inv.context next _ (rest c.loop-builder.cursor) _ inv.same
          (same-pushed c.args.profile c.in-Leaf.op (rest c.loop-builder.cursor) (rest c.read_token.new.cursor) inv.context (rw c.in-Leaf.is at h));
      wants = λ h. inv.wants (token-wants c.args.profile c.in_ok-op.field-0 (rest c.loop-builder.cursor) (rest c.read_token.new.cursor) read.spelled);
    }

pub loop-builder-preserved-in_ok-open-in-Open : goal.loop-builder-preserved-in_ok-open-in-Open
loop-builder-preserved-in_ok-open-in-Open c =
    let inv = c.loop-builder.invariant in
    let read = c.in_ok-op.ensures.token in
    let h = read.spelled in
    let next = opened c.in-Open.block c.in-Open.block_type inv.context in
    record {
      whole = read.whole ∙ inv.whole;
      forth = omega (arith, read.forth, inv.forth);
      context = next;
      stands = c.in_ok-open-in-Open.ensures inv.context inv.stands;
      same = same-then c.args.profile start inv.context next _ (rest c.loop-builder.cursor) _ inv.same
          (same-opened c.args.profile c.in-Open.block c.in-Open.block_type (rest c.loop-builder.cursor) (rest c.read_token.new.cursor) inv.context (rw c.in-Open.is at h));
      wants = λ h. inv.wants (token-wants c.args.profile c.in_ok-op.field-0 (rest c.loop-builder.cursor) (rest c.read_token.new.cursor) read.spelled);
    }

pub returns-then-not-branch-clause-read : goal.returns-then-not-branch-clause-read
returns-then-not-branch-clause-read c =
    let inv = c.loop-builder.invariant in
    let h = c.in_ok-op.ensures.token.spelled in
    let b : c.in_ok-begin_else-in-Else.field-0 ≡ false = first_of (cc, search rules) in
    none-else c.args.profile inv.context c.in_ok-begin_else-in-Else.field-0 c.begin_else.new.self (rest c.args.cursor.now) (rest c.loop-builder.cursor) (rest c.read_token.new.cursor) inv.same (rw c.in-Else.is at h) b
    (c.in_ok-begin_else-in-Else.ensures inv.context inv.stands)

pub loop-builder-preserved-else-not-branch : goal.loop-builder-preserved-else-not-branch
loop-builder-preserved-else-not-branch c =
    let inv = c.loop-builder.invariant in
    let read = c.in_ok-op.ensures.token in
    let h = read.spelled in
    let b : c.in_ok-begin_else-in-Else.field-0 ≡ true = first_of (cc, search rules) in
    let r = else-reached c.args.profile inv.context c.in_ok-begin_else-in-Else.field-0 c.begin_else.new.self (rest c.loop-builder.cursor) (rest c.read_token.new.cursor) (rw c.in-Else.is at h) b
    (c.in_ok-begin_else-in-Else.ensures inv.context inv.stands) in
    record {
      whole = read.whole ∙ inv.whole;
      forth = omega (arith, read.forth, inv.forth);
      context = r.context;
      stands = r.stands;
      same = same-then c.args.profile start inv.context r.context _ (rest c.loop-builder.cursor) _ inv.same r.same;
      wants = λ h. inv.wants (token-wants c.args.profile c.in_ok-op.field-0 (rest c.loop-builder.cursor) (rest c.read_token.new.cursor) read.spelled);
    }

pub returns-then-branch-clause-read : goal.returns-then-branch-clause-read
returns-then-branch-clause-read c =
    let inv = c.loop-builder.invariant in
    let read = c.in_ok-op.ensures.token in
    let h = read.spelled in
    let b : c.in_ok-end-in-End.field-0 ≡ true = first_of (cc, search rules) in
    record {
      whole = read.whole ∙ inv.whole;
      forth = omega (arith, read.forth, inv.forth);
      within = read.within;
      spelled = whole-read c.args.profile inv.context c.in_ok-end-in-End.field-0 c.end.new.self (rest c.args.cursor.now) (rest c.loop-builder.cursor) (rest c.read_token.new.cursor) _ inv.same (rw c.in-End.is at h) b
          (c.in_ok-end-in-End.ensures inv.context inv.stands) c.into_expr.ensures;
    }

pub loop-builder-preserved : goal.loop-builder-preserved
loop-builder-preserved c =
    let inv = c.loop-builder.invariant in
    let read = c.in_ok-op.ensures.token in
    let h = read.spelled in
    let b : c.in_ok-end-in-End.field-0 ≡ false = first_of (cc, search rules) in
    let r = end-reached c.args.profile inv.context c.in_ok-end-in-End.field-0 c.end.new.self (rest c.loop-builder.cursor) (rest c.read_token.new.cursor) (rw c.in-End.is at h) b
    (c.in_ok-end-in-End.ensures inv.context inv.stands) in
    record {
      whole = read.whole ∙ inv.whole;
      forth = omega (arith, read.forth, inv.forth);
      context = r.context;
      stands = r.stands;
      same = same-then c.args.profile start inv.context r.context _ (rest c.loop-builder.cursor) _ inv.same r.same;
      wants = λ h. inv.wants (token-wants c.args.profile c.in_ok-op.field-0 (rest c.loop-builder.cursor) (rest c.read_token.new.cursor) read.spelled);
    }

pub returns-in_err-op-clause-wanted : goal.returns-in_err-op-clause-wanted
returns-in_err-op-clause-wanted c = λ e.
    let p = err_from_is_err_and c.from_residual.result c.from_residual.ensures.1 in
    c.loop-builder.invariant.wants (inr (c.in_err-op.ensures.wanted (cc)))

pub returns-in_err-push-in-Leaf-clause-wanted : goal.returns-in_err-push-in-Leaf-clause-wanted
returns-in_err-push-in-Leaf-clause-wanted c = λ e.
    c.loop-builder.invariant.wants (token-wants c.args.profile c.in_ok-op.field-0 (rest c.loop-builder.cursor) (rest c.read_token.new.cursor) c.in_ok-op.ensures.token.spelled)

pub returns-in_err-open-in-Open-clause-wanted : goal.returns-in_err-open-in-Open-clause-wanted
returns-in_err-open-in-Open-clause-wanted c = λ e.
    c.loop-builder.invariant.wants (token-wants c.args.profile c.in_ok-op.field-0 (rest c.loop-builder.cursor) (rest c.read_token.new.cursor) c.in_ok-op.ensures.token.spelled)

pub returns-in_err-begin_else-in-Else-clause-wanted : goal.returns-in_err-begin_else-in-Else-clause-wanted
returns-in_err-begin_else-in-Else-clause-wanted c = λ e.
    c.loop-builder.invariant.wants (token-wants c.args.profile c.in_ok-op.field-0 (rest c.loop-builder.cursor) (rest c.read_token.new.cursor) c.in_ok-op.ensures.token.spelled)

pub returns-in_err-end-in-End-clause-wanted : goal.returns-in_err-end-in-End-clause-wanted
returns-in_err-end-in-End-clause-wanted c = λ e.
    c.loop-builder.invariant.wants (token-wants c.args.profile c.in_ok-op.field-0 (rest c.loop-builder.cursor) (rest c.read_token.new.cursor) c.in_ok-op.ensures.token.spelled)
