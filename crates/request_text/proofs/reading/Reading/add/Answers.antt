use Rattle.std.proofs.Common.{◌≡◌, ◌∙◌, ◌++◌, ◌∷◌, [], List, ap, rules, subst, sym}
use Rattle.request_text.specs.declared.request.Directive.{Directive}
use Rattle.request_text.specs.Tenants.{Tenants}
use Rattle.request_text.specs.Text.{AreRequests, Declared, ReadLines, declared_after, declared_by}
use Rattle.request_text.proofs.ReadingLemmas.{declared-same, declared_by-more, requests_with, tenants_after-same}
use Rattle.request_text.proofs.reading.Reading.add.Goals as goal

-- where memory is refused nothing has changed
pub invariant_of-self-in_err-add : goal.invariant_of-self-in_err-add
invariant_of-self-in_err-add c = declared-same c.self.inside.profile c.self.inside.scope c.add.new.self c.self.inside.directives.items c.reserve.new.self.items c.in_err-add.ensures.kept c.reserve.ensures.items c.self.invariant

pub invariant_of-self-2 : goal.invariant_of-self-2
invariant_of-self-2 c =
    let before : ReadLines = record { profile = c.self.inside.profile; tenants = c.self.inside.scope.tenants; directives = c.self.inside.directives.items } in
    let reserved : c.reserve.new.self.items ≡ before.directives = c.reserve.ensures.items in
    let pushed : c.push_reserved.new.self.items ≡ before.directives ++ c.args.directive ∷ [] = c.push_reserved.ensures.items ∙ ap (λ (ds : List Directive). ds ++ c.args.directive ∷ []) reserved in
    let is : c.add.new.self ≡ declared_after c.self.inside.scope c.args.directive = search rules in
    let tenants : c.add.new.self.tenants ≡ before.tenants = ap (λ (d : Declared). d.tenants) is ∙ tenants_after-same c.self.inside.scope c.args.directive in
    let kept = λ (t : Tenants) (ds : List Directive). (c.add.new.self ≡ declared_by (record { profile = c.self.inside.profile; tenants = t; directives = ds })) × AreRequests t.wants ds in
    subst (λ (t : Tenants). kept t c.push_reserved.new.self.items) (sym tenants) (subst (λ (ds : List Directive). kept before.tenants ds) (sym pushed) (
      is ∙ ap (λ (s : Declared). declared_after s c.args.directive) c.self.invariant.0 ∙ sym (declared_by-more before c.args.directive),
      requests_with before c.args.directive (rw (← c.self.view_is) at c.requires) c.self.invariant.1,
    ))
