use Rattle.std.proofs.Common.{◌≡◌, ◌++◌, map, reverse, vec_len}
use Rattle.tenant_share.specs.Opening.{of_tenant}
use Rattle.tenant_share.proofs.passes.put_all.Given as goal

-- what is put behind is what is left, as the tenant's, from its end on
abbrev pub invariant-loop-pass : goal.invariant-loop-pass
invariant-loop-pass g l = l.all.items ++ map (of_tenant l.tenant) (reverse l.own.items) ≡ l.fn.all.items ++ map (of_tenant l.tenant) (reverse l.fn.own.items)

abbrev pub decreases-loop-pass : goal.decreases-loop-pass
decreases-loop-pass g l = vec_len l.own
