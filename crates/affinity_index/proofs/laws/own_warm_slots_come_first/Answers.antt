use Rattle.affinity_index.proofs.Preferring.{own_come_first, own_are_listed, own_or_all_before}
use Rattle.affinity_index.proofs.laws.own_warm_slots_come_first.Goals as goal

pub returns-clause-first : goal.returns-clause-first
returns-clause-first c = own_come_first

pub returns-clause-listed : goal.returns-clause-listed
returns-clause-listed c = own_are_listed

pub returns-clause-before : goal.returns-clause-before
returns-clause-before c = own_or_all_before
