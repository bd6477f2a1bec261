use Rattle.pool_model.proofs.Fitting.{free-slots, cleared-fits, restored-fits, used-fits, tables-fit}
use Rattle.pool_model.proofs.laws.contents_fit_their_words.Goals as goal

pub returns-clause-free : goal.returns-clause-free
returns-clause-free c = free-slots

pub returns-clause-cleared : goal.returns-clause-cleared
returns-clause-cleared c = cleared-fits

pub returns-clause-restored : goal.returns-clause-restored
returns-clause-restored c = restored-fits

pub returns-clause-used : goal.returns-clause-used
returns-clause-used c = used-fits

pub returns-clause-tables : goal.returns-clause-tables
returns-clause-tables c = tables-fit
