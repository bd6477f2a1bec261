use Rattle.std.proofs.Common.{◌≡◌, ◌≤◌, ◌-◌, ◌++◌, ◌∙◌, List, ℕ, length, replicate, ap, arith, length-append}
use Rattle.std.proofs.lemmas.List.{length-replicate}
use Rattle.linear_memory.specs.Zeroed.{BytesView}
use Rattle.linear_memory.proofs.AccessibleBytes.{length-with_zeros, zeros_reached}
use Rattle.linear_memory.proofs.zeroed_bytes.ZeroedBytes.make_accessible.Goals as goal

pub reach-requires-clause-room : goal.reach-requires-clause-room
reach-requires-clause-room c =
    let all = length-with_zeros c.self.inside.count c.self.inside.accessible.items c.self.invariant.0 in
    omega (arith, all, ap (λ (b : BytesView). length b.items) c.self.view_is, c.requires, c.self.invariant.1)

pub returns-clause-items : goal.returns-clause-items
returns-clause-items c =
    let accessible : List ℕ = c.self.inside.accessible.items in
    let all = length-with_zeros c.self.inside.count accessible c.self.invariant.0 in
    zeros_reached c.self.inside.count c.args.count accessible c.reach.new.bytes.items (omega arith) (omega (arith, all, ap (λ (b : BytesView). length b.items) c.self.view_is, c.requires)) c.reach.ensures.items
    ∙ ap (λ (b : BytesView). b.items) c.self.view_is

reached : (n : ℕ) (accessible new : List ℕ) → length accessible ≤ n → new ≡ accessible ++ replicate (n - length accessible) 0 → length new ≡ n
reached n accessible new le is =
    let zeros : length {A = ℕ} (replicate (n - length accessible) 0) ≡ n - length accessible = length-replicate (n - length accessible) 0 in
    omega (arith, ap length is, length-append accessible (replicate (n - length accessible) 0), zeros)

pub returns-clause-accessible : goal.returns-clause-accessible
returns-clause-accessible c = omega (arith, reached c.args.count c.self.inside.accessible.items c.reach.new.bytes.items (omega arith) c.reach.ensures.items)

pub returns-clause-more : goal.returns-clause-more
returns-clause-more c =
    omega (arith, reached c.args.count c.self.inside.accessible.items c.reach.new.bytes.items (omega arith) c.reach.ensures.items, ap (λ (b : BytesView). b.accessible) c.self.view_is)

pub invariant_of-self : goal.invariant_of-self
invariant_of-self c =
    let all = length-with_zeros c.self.inside.count c.self.inside.accessible.items c.self.invariant.0 in
    let long = reached c.args.count c.self.inside.accessible.items c.reach.new.bytes.items (omega arith) c.reach.ensures.items in
    (omega (arith, all, long, ap (λ (b : BytesView). length b.items) c.self.view_is, c.requires), omega (arith, c.reach.ensures.capacity, c.self.invariant.1))
