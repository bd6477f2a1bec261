use Rattle.std.proofs.Common.{◌∙◌, arith}
use Rattle.run_books.proofs.EntryLemmas.{module_count, same_many}
use Rattle.run_books.proofs.counts.count_modules.Goals as goal

pub count_module_lines-requires : goal.count_module_lines-requires
count_module_lines-requires c =
    let all = c.args.requests.now.directives in
    let few = c.directives.ensures.lawful.few_modules in
    rw c.directives.ensures.all (omega (arith, few, module_count all, same_many all))

pub returns-clause-count : goal.returns-clause-count
returns-clause-count c = rw c.directives.ensures.all at c.count_module_lines.ensures ∙ module_count c.args.requests.now.directives

pub returns-clause-few : goal.returns-clause-few
returns-clause-few c =
    let all = c.args.requests.now.directives in
    let few = c.directives.ensures.lawful.few_modules in
    let many = rw c.directives.ensures.all at c.count_module_lines.ensures in
    omega (arith, few, module_count all, same_many all)
