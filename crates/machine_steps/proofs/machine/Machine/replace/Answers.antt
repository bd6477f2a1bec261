use Rattle.std.proofs.Common.{◌∷◌, ◌∙◌, sym, refl}
use Rattle.machine_steps.specs.StackLayout.{operands_under, bottom_of}
use Rattle.machine_steps.proofs.OperandLemmas.{with_values, values_split, has_some}
use Rattle.machine_steps.proofs.StackLists.{top}
use Rattle.machine_steps.proofs.machine.Machine.replace.Goals as goal

pub replace-requires : goal.replace-requires
replace-requires c = has_some c.requires.configuration c.args.self.now c.requires.represents c.requires.some

pub returns-clause-represents : goal.returns-clause-represents
returns-clause-represents c k x vs sh e =
    with_values k c.args.self.now _ (c.args.v ∷ vs) sh
    (c.replace.ensures.items _ x (values_split k c.args.self.now x vs sh e) ∙ sym (top (operands_under (bottom_of k) k.blocks) c.args.v vs)) refl refl refl
