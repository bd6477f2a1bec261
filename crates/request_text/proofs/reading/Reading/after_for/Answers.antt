use Rattle.std.proofs.Common.{◌≡◌, rules}
use Rattle.std.specs.Prelude.{Ok}
use Rattle.request_words.specs.Words.{line_words}
use Rattle.request_text.specs.Tenants.{for_after}
use Rattle.request_text.specs.Text.{ReadLines}
use Rattle.request_text.specs.Reading.{declared_with}
use Rattle.request_text.proofs.ReadingLemmas.{read_with_the_same}
use Rattle.request_text.proofs.reading.Reading.after_for.Goals as goal

pub invariant_of-result : goal.invariant_of-result
invariant_of-result c =
    let before : ReadLines = record { profile = c.self.inside.profile; tenants = c.self.inside.scope.tenants; directives = c.self.inside.directives.items } in
    let read : declared_with c.self.inside.scope (for_after before.tenants (line_words c.args.words.now)) ≡ Ok c.in_ok-scope.scope = search rules in
    read_with_the_same before c.self.inside.scope c.in_ok-scope.scope (line_words c.args.words.now) c.self.invariant.0 read c.self.invariant.1
