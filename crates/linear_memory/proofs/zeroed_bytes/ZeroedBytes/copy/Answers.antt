use Rattle.std.proofs.Common.{◌≡◌, ◌∙◌, List, ℕ, length, take, drop, sym, ap, arith}
use Rattle.wasm_spec.specs.Store.{written}
use Rattle.wasm_spec.proofs.StoreSizes.{length-written}
use Rattle.linear_memory.specs.Zeroed.{BytesView}
use Rattle.linear_memory.proofs.AccessibleBytes.{part_accessible, with_zeros, written_accessible}
use Rattle.linear_memory.proofs.WrittenBytes.{part-length}
use Rattle.linear_memory.proofs.zeroed_bytes.ZeroedBytes.copy.Goals as goal

pub returns-clause-items : goal.returns-clause-items
returns-clause-items c =
    let accessible : List ℕ = c.self.inside.accessible.items in
    let total : ℕ = c.self.inside.count in
    let long = ap (λ (b : BytesView). b.accessible) c.self.view_is in
    let piece : List ℕ = take c.args.count (drop c.args.from accessible) in
    let size : length piece ≡ c.args.count = part-length c.args.from c.args.count accessible (omega (arith, long, c.requires.from)) in
    written_accessible total c.args.to piece accessible c.copy_over.new.bytes.items (omega (arith, long, size, c.requires.to)) c.copy_over.ensures.items
    ∙ ap (written (with_zeros total accessible) c.args.to) (sym (part_accessible total c.args.from c.args.count accessible (omega (arith, long, c.requires.from))))
    ∙ ap (λ (b : BytesView). written b.items c.args.to (take c.args.count (drop c.args.from b.items))) c.self.view_is

pub returns-clause-accessible : goal.returns-clause-accessible
returns-clause-accessible c =
    let accessible : List ℕ = c.self.inside.accessible.items in
    let long = ap (λ (b : BytesView). b.accessible) c.self.view_is in
    let piece : List ℕ = take c.args.count (drop c.args.from accessible) in
    let size : length piece ≡ c.args.count = part-length c.args.from c.args.count accessible (omega (arith, long, c.requires.from)) in
    ap length c.copy_over.ensures.items ∙ length-written accessible c.args.to piece (omega (arith, long, size, c.requires.to)) ∙ long

pub invariant_of-self : goal.invariant_of-self
invariant_of-self c =
    let accessible : List ℕ = c.self.inside.accessible.items in
    let long = ap (λ (b : BytesView). b.accessible) c.self.view_is in
    let piece : List ℕ = take c.args.count (drop c.args.from accessible) in
    let size : length piece ≡ c.args.count = part-length c.args.from c.args.count accessible (omega (arith, long, c.requires.from)) in
    let same = ap length c.copy_over.ensures.items ∙ length-written accessible c.args.to piece (omega (arith, long, size, c.requires.to)) in
    (omega (arith, same, c.self.invariant.0), omega (arith, c.copy_over.ensures.capacity, c.self.invariant.1))
