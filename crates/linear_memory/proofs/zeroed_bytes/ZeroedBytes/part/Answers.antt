use Rattle.std.proofs.Common.{◌∙◌, drop, take, sym, ap, arith, List, ℕ}
use Rattle.linear_memory.specs.Zeroed.{BytesView}
use Rattle.linear_memory.proofs.AccessibleBytes.{part_accessible}
use Rattle.linear_memory.proofs.zeroed_bytes.ZeroedBytes.part.Goals as goal

pub returns : goal.returns
returns c =
    let long = ap (λ (b : BytesView). b.accessible) c.self.view_is in
    c.part_of.ensures
    ∙ ap (λ (l : List ℕ). take c.args.count (drop c.args.from l)) c.deref.ensures.value
    ∙ sym (part_accessible c.self.inside.count c.args.from c.args.count c.self.inside.accessible.items (omega (arith, long, c.requires)))
    ∙ ap (λ (b : BytesView). take c.args.count (drop c.args.from b.items)) c.self.view_is
