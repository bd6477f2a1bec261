use Rattle.pool_host.proofs.AnswerLemmas.{one_answer}
use Rattle.host_calls.proofs.laws.a_call_has_one_answer.Goals as goal

pub returns : goal.returns
returns c = λ m limits export args request fuel a b x y valid h g same. one_answer m limits export args request fuel valid a b x y same h g
