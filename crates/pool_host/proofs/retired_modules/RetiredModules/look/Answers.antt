use Rattle.std.proofs.Common.{ℕ, Some, subst}
use Rattle.pool_host.specs.declared.retired_modules.Bits.{Bits}
use Rattle.pool_host.specs.Looks.{Looked}
use Rattle.pool_host.proofs.retired_modules.RetiredModules.look.Goals as goal

pub returns-clause-looked : goal.returns-clause-looked
returns-clause-looked g c = let read = c.is_retired in let e = read.ensures in
    subst (λ (n : ℕ). Looked c.args.self.now.tags n c.args.pass.now read.new.pass (Some read.result)) c.tag.ensures.tag (
    subst (λ (b : Bits). Looked b.tags c.tag.result c.args.pass.now read.new.pass (Some read.result)) c.self.view_is (
    record { same = e.same; step = e.trail; known = e.known; own_steps = e.own_steps }))
