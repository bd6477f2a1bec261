use Rattle.std.proofs.Common.{◌∙◌, take, drop, sym, ap}
use Rattle.wasm_spec.specs.Store.{written}
use Rattle.linear_memory.proofs.WrittenBytes.{written-same}
use Rattle.linear_memory.proofs.zeroed_bytes.copy_over.Goals as goal

pub returns-then-to-from-clause-items : goal.returns-then-to-from-clause-items
returns-then-to-from-clause-items c =
    let old = c.args.bytes.now.items in
    sym (written-same c.args.to c.args.count old c.requires.to) ∙ ap (λ n. written old c.args.to (take c.args.count (drop n old))) c.if-to-from.true
