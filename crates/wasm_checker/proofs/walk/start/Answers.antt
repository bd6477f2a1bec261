use Rattle.std.proofs.Common.{ℕ, ◌-◌, false, refl, ap, ◌∙◌}
use Rattle.wasm_checker.specs.declared.checker.Checker.{Checker}
use Rattle.wasm_checker.proofs.Advances.{start_comes_to}
use Rattle.wasm_checker.proofs.walk.start.Goals as goal

pub returns : goal.returns
returns c =
    let w : Checker = record { sequence = c.saturating_sub.result; place = 0; unreachable = false; base = 0; operands = c.new.result; frames = c.new-2.result; peak_operands = 0; peak_labels = 1 } in
    start_comes_to c.args.m.now c.args.f.now w
    (record {
      sequence = c.saturating_sub.ensures ∙ ap (λ (n : ℕ). n - 1) c.len.ensures;
      place = refl;
      unreachable = refl;
      base = refl;
      operands = c.new.ensures.items;
      frames = c.new-2.ensures.items;
      peak_operands = refl;
      peak_labels = refl;
    })
