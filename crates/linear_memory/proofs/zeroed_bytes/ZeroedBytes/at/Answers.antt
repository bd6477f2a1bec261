use Rattle.std.proofs.Common.{◌∙◌, sym, ap, arith}
use Rattle.std.specs.Prelude.{slice_index}
use Rattle.std.proofs.lemmas.List.{get_or_read}
use Rattle.linear_memory.specs.Zeroed.{BytesView}
use Rattle.linear_memory.proofs.AccessibleBytes.{byte_accessible}
use Rattle.linear_memory.proofs.zeroed_bytes.ZeroedBytes.at.Goals as goal

pub returns : goal.returns
returns c =
    let long = ap (λ (b : BytesView). b.accessible) c.self.view_is in
    get_or_read c.self.inside.accessible.items c.args.place _ (omega (arith, long, c.requires)) c.index.ensures 0
    ∙ sym (byte_accessible c.self.inside.count c.args.place c.self.inside.accessible.items (omega (arith, long, c.requires)))
    ∙ ap (λ (b : BytesView). slice_index b.items c.args.place) c.self.view_is
