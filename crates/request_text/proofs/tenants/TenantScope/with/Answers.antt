use Rattle.std.proofs.Common.{◌≡◌, ◌<◌, ◌++◌, [], ◌∷◌, length, rules}
use Rattle.request_text.specs.Tenants.{Tenants}
use Rattle.request_text.proofs.TenantLemmas.{tenants_more}
use Rattle.request_text.proofs.tenants.TenantScope.with.Goals as goal

pub invariant_of-result : goal.invariant_of-result
invariant_of-result c =
    let before : Tenants = record { names = c.self.inside.names.items; wants = c.self.inside.wants.items; current = c.self.inside.current } in
    let wants : c.push.new.self.items ≡ before.wants ++ c.args.want ∷ [] = search rules in
    let names : c.push-2.new.self.items ≡ before.names ++ c.args.name.now ∷ [] = search rules in
    let few : length before.wants < 15 = rw (← c.self.view_is) at c.requires.few in
    rw (names, wants) (tenants_more before c.args.name.now c.args.want c.self.invariant few c.requires.slots)
