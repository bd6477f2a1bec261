use Rattle.std.proofs.Common.{◌≡◌, ℕ, true, subst}
use Rattle.retired_tags.specs.Passes.{steps}
use Rattle.retired_tags.specs.Steps.{Knows}
use Rattle.pool_host.specs.declared.retired_modules.Bits.{Bits}
use Rattle.pool_host.specs.Looks.{SetsBit}
use Rattle.pool_host.proofs.retired_modules.RetiredModules.retire.Goals as goal

pub returns-clause-bit : goal.returns-clause-bit
returns-clause-bit g c = let set = c.retire in let e = set.ensures in
    subst (λ (n : ℕ). SetsBit c.args.self.now.tags n c.args.pass.now set.new.pass set.result) c.tag.ensures.tag (
    subst (λ (b : Bits). SetsBit b.tags c.tag.result c.args.pass.now set.new.pass set.result) c.self.view_is (
    record { same = e.same; step = e.trail; own_steps = e.own_steps }))

pub returns-clause-before : goal.returns-clause-before
returns-clause-before g c = subst (λ (n : ℕ). Knows n (steps c.args.pass.now) → c.retire.result ≡ true) c.tag.ensures.tag c.retire.ensures.known
