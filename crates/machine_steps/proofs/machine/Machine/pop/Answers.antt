use Rattle.std.proofs.Common.{refl}
use Rattle.machine_steps.proofs.OperandLemmas.{with_values, values_split, has_some}
use Rattle.machine_steps.proofs.machine.Machine.pop.Goals as goal

pub pop-requires : goal.pop-requires
pop-requires c = has_some c.requires.configuration c.args.self.now c.requires.represents c.requires.some

pub returns-clause-represents : goal.returns-clause-represents
returns-clause-represents c k x vs sh e =
    let p = c.pop.ensures.value _ x (values_split k c.args.self.now x vs sh e) in
    (p.1, with_values k c.args.self.now _ vs sh p.0 refl refl refl)
