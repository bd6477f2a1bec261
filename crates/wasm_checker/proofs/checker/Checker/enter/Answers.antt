use Rattle.std.proofs.Common.{◌≡◌, ◌∷◌, [], ◌++◌, List, length, ap, sym, ◌∙◌, refl, arith, append-nil}
use Rattle.wasm_checker.specs.declared.checker.ControlFrame.{ControlFrame}
use Rattle.wasm_checker.specs.Position.{EnclosingBlock, frame_of, frames_of}
use Rattle.wasm_checker.proofs.Stacks.{opened_labels}
use Rattle.wasm_checker.proofs.checker.Checker.enter.Goals as goal

pub returns : goal.returns
returns c r k s =
    let o : EnclosingBlock = record { label_type = c.args.label_type; end_type = c.args.end_type; second = c.args.second; unreachable = k.stack.unreachable; operands = k.stack.operands; sequence = k.sequence; after = k.place } in
    let d : ControlFrame = record { label_type = c.args.label_type; end_type = c.args.end_type; second = c.args.second; unreachable = c.args.self.now.unreachable; base = c.args.self.now.base; sequence = c.args.self.now.sequence; after = c.args.self.now.place } in
    let same : d ≡ frame_of o k.blocks = cc (s.unreachable, s.base, s.sequence, s.place) in
    let e : c.push.new.self.items ≡ (c.args.self.now.frames.items ++ d ∷ []) = c.in_ok-push.ensures.items in
    let cs : c.push.new.self.items ≡ (frames_of k.blocks ++ frame_of o k.blocks ∷ []) = e ∙ ap (λ (l : List ControlFrame). l ++ d ∷ []) s.frames ∙ ap (λ (x : ControlFrame). frames_of k.blocks ++ x ∷ []) same in
    record {
      sequence = refl;
      place = refl;
      unreachable = refl;
      base = omega (arith, c.len-self.ensures, ap length s.operands);
      operands = s.operands ∙ sym (append-nil _);
      frames = cs;
      peak_operands = s.peak_operands;
      peak_labels = c.max-self.ensures ∙ opened_labels r k.blocks (frame_of o k.blocks) c.push.new.self.items c.args.self.now.peak_labels k.stack.peak_labels c.in_ok-depth.depth cs (omega (arith, c.len.ensures, c.in_ok-depth.ensures.is)) s.peak_labels;
    }
