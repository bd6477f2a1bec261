use Rattle.std.proofs.Common.{◌∙◌, List, ℕ, length, ap, arith}
use Rattle.wasm_spec.specs.Store.{written}
use Rattle.wasm_spec.proofs.StoreSizes.{length-written}
use Rattle.linear_memory.specs.Zeroed.{BytesView}
use Rattle.linear_memory.proofs.AccessibleBytes.{written_accessible}
use Rattle.linear_memory.proofs.zeroed_bytes.ZeroedBytes.put.Goals as goal

pub returns-clause-items : goal.returns-clause-items
returns-clause-items c =
    let accessible : List ℕ = c.self.inside.accessible.items in
    let long = ap (λ (b : BytesView). b.accessible) c.self.view_is in
    written_accessible c.self.inside.count c.args.start c.args.piece.now accessible c.put.new.bytes.items (omega (arith, long, c.requires)) c.put.ensures.items
    ∙ ap (λ (b : BytesView). written b.items c.args.start c.args.piece.now) c.self.view_is

pub returns-clause-accessible : goal.returns-clause-accessible
returns-clause-accessible c =
    let long = ap (λ (b : BytesView). b.accessible) c.self.view_is in
    ap length c.put.ensures.items ∙ length-written c.self.inside.accessible.items c.args.start c.args.piece.now (omega (arith, long, c.requires)) ∙ long

pub invariant_of-self : goal.invariant_of-self
invariant_of-self c =
    let long = ap (λ (b : BytesView). b.accessible) c.self.view_is in
    let same = ap length c.put.ensures.items ∙ length-written c.self.inside.accessible.items c.args.start c.args.piece.now (omega (arith, long, c.requires)) in
    (omega (arith, same, c.self.invariant.0), omega (arith, c.put.ensures.capacity, c.self.invariant.1))
