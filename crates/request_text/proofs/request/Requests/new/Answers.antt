use Rattle.request_text.proofs.request.Requests.new.Goals as goal

pub invariant_of-result : goal.invariant_of-result
invariant_of-result c = record { lawful = c.requires.lawful; slices = c.requires.slices }
