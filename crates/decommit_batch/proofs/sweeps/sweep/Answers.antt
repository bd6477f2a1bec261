use Rattle.std.proofs.Common.{rules, arith, ◌≡◌, ℕ, ◌+◌, ap, subst, sym}
use Rattle.pool_core.specs.StateWords.{bit}
use Rattle.pool_core.proofs.WordBits.{bit_le}
use Rattle.slot_words.specs.Parts.{Grew}
use Rattle.slot_words.specs.Passes.{trail}
use Rattle.decommit_batch.specs.Sweep.{IsSweep}
use Rattle.decommit_batch.proofs.SweepLemmas.{swept_more}
use Rattle.decommit_batch.proofs.sweeps.sweep.Goals as goal
use Rattle.decommit_batch.proofs.sweeps.sweep.Goals.{then-sweep_number, else-sweep_number}

pub loop-n-preserved : goal.loop-n-preserved
loop-n-preserved g c =
    let s = c.sweep_number.ensures in let i = c.loop-n.invariant in let swept = c.sweep_number.result in
    let plus : c.if-sweep_number.cleaned ≡ c.loop-n.cleaned + bit swept = elim c.if-sweep_number.branch [
      | then-sweep_number w ↦ (let e = ap bit w.if-sweep_number.true in omega (arith, w.cleaned-is))
      | else-sweep_number w ↦ (let e = ap bit w.if-sweep_number.false in omega (arith, w.cleaned-is))
    ] in
    let few = bit_le swept in record {
      same = search rules;
      idle = s.idle;
      few = omega (arith, i.few);
      trail = subst (λ (k : ℕ). Grew (IsSweep c.args.tag (c.loop-n.n + 1) k) (trail c.args.pass.now) (trail c.sweep_number.new.pass)) (sym plus)
          (swept_more c.args.tag c.loop-n.n c.loop-n.cleaned (bit swept) _ _ _ i.trail s.trail);
    }
