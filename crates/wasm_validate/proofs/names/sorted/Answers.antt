use Rattle.std.proofs.Common.{◌≡◌, ℕ, ap, rules, tests}
use Rattle.std.specs.Ordering.{is_lt}
use Rattle.std.proofs.lemmas.Cmp.{nat_list_cmp_total}
use Rattle.std.proofs.lemmas.Fn.{always_returns_same}
use Rattle.std.proofs.lemmas.List.Sorted.{ranks_by}
use Rattle.wasm_validate.specs.ByName.{name_of, of_numbers}
use Rattle.wasm_validate.proofs.names.sorted.Goals as goal

pub returns-clause-sorted : goal.returns-clause-sorted
returns-clause-sorted c =
    let exports = c.args.exports.now in
    c.sort_unstable_by.ensures.sorted (λ (i : ℕ) (j : ℕ). is_lt (of_numbers exports i j)) (ranks_by nat_list_cmp_total (name_of exports))
    (always_returns_same _ _ _ (λ a r f' k. (ap is_lt (let e : r ≡ of_numbers exports a.0.now a.1.0.now = search (rules, tests) in e), search (rules, tests))))
