use Rattle.std.proofs.Common.{◌≡◌, ◌+◌, ◌∙◌, ◌∷◌, ap, arith, length, subst, sym, take}
use Rattle.pool_limits.specs.declared.numbers.Numbers.{Numbers}
use Rattle.pool_limits.specs.declared.wants.Want.{Want}
use Rattle.pool_limits.specs.Plans.{MayWant}
use Rattle.pool_limits.proofs.WantLemmas.{may_want}
use Rattle.tenant_share.specs.Shares.{shares, IsPlan}
use Rattle.tenant_share.proofs.ShareLemmas.{planned}
use Rattle.tenant_share.proofs.plan.Plan.new.Goals as goal

pub rest-rest-requires : goal.rest-rest-requires
rest-rest-requires c = subst (λ (n : Numbers). MayWant n c.args.wants.now) (sym c.numbers-numbers.ensures.same) (may_want c.args.config.now c.args.wants.now c.in_ok-check_wants.ensures.ok)

pub table-requires : goal.table-requires
table-requires c = (may_want c.args.config.now c.args.wants.now c.in_ok-check_wants.ensures.ok).few

pub invariant_of-result : goal.invariant_of-result
invariant_of-result c = let n = c.numbers-numbers.result in let ws = c.args.wants.now in
    let stood = c.in_ok-check_wants.ensures.ok in
    let few = (may_want c.args.config.now ws stood).few in
    let is_plan : IsPlan n (shares n ws) = subst (λ (m : Numbers). IsPlan m (shares m ws)) (sym c.numbers-numbers.ensures.same) (planned c.args.config.now ws stood) in
    let are : take (length ws + 1) c.table.result ≡ shares n ws = c.table.ensures ∙ ap (λ (r : Want). r ∷ ws) c.rest-rest.ensures in
    (omega arith, subst (IsPlan n) (sym are) is_plan)
