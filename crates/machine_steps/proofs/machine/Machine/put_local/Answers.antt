use Rattle.std.proofs.Common.{refl}
use Rattle.machine_steps.specs.declared.machine.Machine.{Machine}
use Rattle.machine_steps.proofs.LocalLemmas.{local_within, shown_put}
use Rattle.machine_steps.proofs.machine.Machine.put_local.Goals as goal

pub put-requires : goal.put-requires
put-requires c =
    let h = c.requires in
    local_within h.configuration c.args.self.now c.args.x h.value h.represents h.there

pub returns-clause-represents : goal.returns-clause-represents
returns-clause-represents c k old sh there =
    let m : Machine = c.args.self.now in
    let new : Machine = record { at = m.at; values = c.put.new.self; labels = m.labels; frames = m.frames } in
    shown_put k m new c.args.x c.args.v old sh there refl c.put.ensures.items refl refl
