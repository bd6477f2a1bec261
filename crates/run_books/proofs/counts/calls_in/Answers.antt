use Rattle.std.proofs.Common.{◌∙◌, ap, arith, length}
use Rattle.request_text.specs.Text.{call_count}
use Rattle.run_books.proofs.PlaceLemmas.{all_calls, calls_part, fewer_calls, slice_is_part}
use Rattle.run_books.proofs.counts.calls_in.Goals as goal

pub count_calls-requires : goal.count_calls-requires
count_calls-requires c =
    let r = c.requires in
    let all = c.args.requests.now.directives in
    let most = fewer_calls all c.args.span.to (length all) r.within in
    let part = calls_part all c.args.span.from c.args.span.to r.order in
    let few = c.directives.ensures.lawful.few_calls in
    rw (c.directives.ensures.all, slice_is_part all c.args.span.from c.args.span.to r.order) (omega (arith, all_calls all))

pub returns-clause-count : goal.returns-clause-count
returns-clause-count c =
    let all = c.args.requests.now.directives in
    rw c.directives.ensures.all at c.count_calls.ensures ∙ ap call_count (slice_is_part all c.args.span.from c.args.span.to c.requires.order)
