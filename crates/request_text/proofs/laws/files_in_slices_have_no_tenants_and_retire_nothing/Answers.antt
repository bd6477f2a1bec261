use Rattle.request_text.proofs.SliceLemmas.{asked_in_slices}
use Rattle.request_text.proofs.laws.files_in_slices_have_no_tenants_and_retire_nothing.Goals as goal

pub returns : goal.returns
returns c = asked_in_slices
