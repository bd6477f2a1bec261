use Rattle.pool_core.specs.PoolCore.{opening_core}
use Rattle.pool_core.proofs.LawfulOpening.{lawful_opening}
use Rattle.pool_core.proofs.LawfulSteps.{lawful_after_all}
use Rattle.pool_core.proofs.laws.runs_keep_a_core_lawful.Goals as goal

pub returns-clause-kept : goal.returns-clause-kept
returns-clause-kept c = lawful_after_all

pub returns-clause-opened : goal.returns-clause-opened
returns-clause-opened c = λ slots limit seats es. lawful_after_all (opening_core slots limit seats) es (lawful_opening slots limit seats)
