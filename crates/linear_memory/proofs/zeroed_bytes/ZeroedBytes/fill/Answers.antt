use Rattle.std.proofs.Common.{◌≡◌, ◌∙◌, List, ℕ, length, replicate, ap, arith}
use Rattle.std.proofs.lemmas.List.{length-replicate}
use Rattle.wasm_spec.specs.Store.{written}
use Rattle.wasm_spec.proofs.StoreSizes.{length-written}
use Rattle.linear_memory.specs.Zeroed.{BytesView}
use Rattle.linear_memory.proofs.AccessibleBytes.{written_accessible}
use Rattle.linear_memory.proofs.zeroed_bytes.ZeroedBytes.fill.Goals as goal

pub returns-clause-items : goal.returns-clause-items
returns-clause-items c =
    let accessible : List ℕ = c.self.inside.accessible.items in
    let long = ap (λ (b : BytesView). b.accessible) c.self.view_is in
    let piece : List ℕ = replicate c.args.count c.args.value in
    let size : length piece ≡ c.args.count = length-replicate c.args.count c.args.value in
    written_accessible c.self.inside.count c.args.to piece accessible c.fill_over.new.bytes.items (omega (arith, long, size, c.requires)) c.fill_over.ensures.items
    ∙ ap (λ (b : BytesView). written b.items c.args.to piece) c.self.view_is

pub returns-clause-accessible : goal.returns-clause-accessible
returns-clause-accessible c =
    let long = ap (λ (b : BytesView). b.accessible) c.self.view_is in
    let piece : List ℕ = replicate c.args.count c.args.value in
    let size : length piece ≡ c.args.count = length-replicate c.args.count c.args.value in
    ap length c.fill_over.ensures.items ∙ length-written c.self.inside.accessible.items c.args.to piece (omega (arith, long, size, c.requires)) ∙ long

pub invariant_of-self : goal.invariant_of-self
invariant_of-self c =
    let long = ap (λ (b : BytesView). b.accessible) c.self.view_is in
    let piece : List ℕ = replicate c.args.count c.args.value in
    let size : length piece ≡ c.args.count = length-replicate c.args.count c.args.value in
    let same = ap length c.fill_over.ensures.items ∙ length-written c.self.inside.accessible.items c.args.to piece (omega (arith, long, size, c.requires)) in
    (omega (arith, same, c.self.invariant.0), omega (arith, c.fill_over.ensures.capacity, c.self.invariant.1))
