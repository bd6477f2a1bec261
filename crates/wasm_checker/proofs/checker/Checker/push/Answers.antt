use Rattle.std.proofs.Common.{◌≡◌, ◌∷◌, [], ◌++◌, Option, List, length, refl, ap, sym, ◌∙◌, arith, length-append}
use Rattle.wasm_types.specs.declared.types.ValType.{ValType}
use Rattle.wasm_checker.specs.Check.{push}
use Rattle.wasm_checker.specs.Position.{beneath, base_of}
use Rattle.wasm_checker.proofs.Stacks.{top, height}
use Rattle.wasm_checker.proofs.checker.Checker.push.Goals as goal

pub returns : goal.returns
returns c k s =
    let e : c.push.new.self.items ≡ (c.args.self.now.operands.items ++ c.args.t ∷ []) = c.in_ok-push.ensures.items in
    let n = height k.blocks k.stack.operands in
    record {
      stack = push (base_of k.blocks) c.args.t k.stack;
      is = refl;
      shows = record {
        sequence = s.sequence;
        place = s.place;
        unreachable = s.unreachable;
        base = s.base;
        operands = e ∙ ap (λ (l : List (Option ValType)). l ++ c.args.t ∷ []) s.operands ∙ sym (top (beneath k.blocks) c.args.t k.stack.operands);
        frames = s.frames;
        peak_operands = omega (arith, s.peak_operands, n, ap length s.operands, ap length e, length-append c.args.self.now.operands.items (c.args.t ∷ []), c.max-self.ensures, c.len.ensures, c.in_ok-height.ensures.is);
        peak_labels = s.peak_labels;
      };
    }
