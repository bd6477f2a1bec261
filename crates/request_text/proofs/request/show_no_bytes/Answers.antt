use Rattle.std.proofs.Common.{arith, ◌≡◌, ◌<◌, ap, ◌∙◌, length, set, get_or}
use Rattle.std.proofs.lemmas.List.{get_or_default}
use Rattle.std.proofs.lemmas.List.Edits.{map_over_more}
use Rattle.request_text.specs.declared.request.Directive.{Directive}
use Rattle.request_text.specs.Quiet.{quiet_directive}
use Rattle.request_text.proofs.request.show_no_bytes.Goals as goal

pub loop-directive-preserved : goal.loop-directive-preserved
loop-directive-preserved c =
    let items = c.loop-directive.directive-items in
    let index = c.loop-directive.directive-index in
    let one : Directive = get_or items index c.directive-item.result in
    let same : length c.deref_mut-directive-items.result.now ≡ length c.args.directives.now.items = ap length c.deref_mut-directive-items.ensures.value in
    let test = c.loop-directive-test.true in
    let long = c.loop-directive.auto.directive-items in
    let within : index < length c.args.directives.now.items = omega arith in
    ap (λ (d : Directive). set items index d) c.show_no_bytes.ensures
    ∙ map_over_more quiet_directive c.args.directives.now.items items index one within c.loop-directive.invariant (get_or_default items index c.directive-item.result one (omega arith))
