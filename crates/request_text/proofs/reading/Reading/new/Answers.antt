use Rattle.std.proofs.Common.{ap, rules}
use Rattle.request_text.specs.Text.{Declared}
use Rattle.request_text.proofs.ReadingLemmas.{requests_none}
use Rattle.request_text.proofs.reading.Reading.new.Goals as goal

pub invariant_of-result : goal.invariant_of-result
invariant_of-result c = (search rules, requests_none _ _ (ap (λ (d : Declared). d.tenants.wants) c.new-2.ensures) c.new.ensures.items)
