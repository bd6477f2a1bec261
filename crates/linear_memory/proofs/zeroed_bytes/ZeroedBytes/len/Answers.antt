use Rattle.std.proofs.Common.{◌∙◌, length, sym, ap}
use Rattle.linear_memory.specs.Zeroed.{BytesView}
use Rattle.linear_memory.proofs.AccessibleBytes.{length-with_zeros}
use Rattle.linear_memory.proofs.zeroed_bytes.ZeroedBytes.len.Goals as goal

pub returns : goal.returns
returns c = sym (length-with_zeros c.self.inside.count c.self.inside.accessible.items c.self.invariant.0) ∙ ap (λ (b : BytesView). length b.items) c.self.view_is
