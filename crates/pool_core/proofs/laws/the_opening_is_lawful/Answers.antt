use Rattle.pool_core.proofs.LawfulOpening.{lawful_opening, opens_cold, opens_unmade}
use Rattle.pool_core.proofs.laws.the_opening_is_lawful.Goals as goal

pub returns-clause-lawful : goal.returns-clause-lawful
returns-clause-lawful c = lawful_opening

pub returns-clause-cold : goal.returns-clause-cold
returns-clause-cold c = opens_cold

pub returns-clause-unmade : goal.returns-clause-unmade
returns-clause-unmade c = opens_unmade
