use Rattle.affinity_index.proofs.Existing.{order_exists}
use Rattle.affinity_index.proofs.laws.each_scan_has_its_order.Goals as goal

pub returns : goal.returns
returns c = order_exists
