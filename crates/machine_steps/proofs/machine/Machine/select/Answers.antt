use Rattle.std.proofs.Common.{◌∷◌, None, sym, ◌∙◌, refl, arith}
use Rattle.wasm_types.specs.declared.instr.Instr.TheVariants as instr
use Rattle.machine_steps.proofs.KindLemmas.{select_of, select_means, select_after, after_as}
use Rattle.machine_steps.proofs.machine.Machine.select.Goals as goal

pub pop32-condition-requires : goal.pop32-condition-requires
pop32-condition-requires c =
    let h = c.requires in
    let t = select_of h.defined h.limits h.configuration h.store h.fine in
    record { configuration = h.configuration; represents = h.represents; top = t.condition; rest = t.second ∷ t.first ∷ t.rest; are = t.are }

pub pop-second-requires : goal.pop-second-requires
pop-second-requires c =
    let h = c.requires in
    let t = select_of h.defined h.limits h.configuration h.store h.fine in
    let p = c.pop32-condition.ensures.represents h.configuration t.condition (t.second ∷ t.first ∷ t.rest) h.represents t.are in
    record { configuration = record h.configuration { operands = t.second ∷ t.first ∷ t.rest }; represents = p.1; some = omega arith }

pub last-first-requires : goal.last-first-requires
last-first-requires c =
    let h = c.requires in
    let t = select_of h.defined h.limits h.configuration h.store h.fine in
    let p = c.pop32-condition.ensures.represents h.configuration t.condition (t.second ∷ t.first ∷ t.rest) h.represents t.are in
    let q = c.pop-second.ensures.represents (record h.configuration { operands = t.second ∷ t.first ∷ t.rest }) t.second (t.first ∷ t.rest) p.1 refl in
    record { configuration = record h.configuration { operands = t.first ∷ t.rest }; represents = q.1; some = omega arith }

pub replace-requires : goal.replace-requires
replace-requires c =
    let h = c.requires in
    let t = select_of h.defined h.limits h.configuration h.store h.fine in
    let p = c.pop32-condition.ensures.represents h.configuration t.condition (t.second ∷ t.first ∷ t.rest) h.represents t.are in
    let q = c.pop-second.ensures.represents (record h.configuration { operands = t.second ∷ t.first ∷ t.rest }) t.second (t.first ∷ t.rest) p.1 refl in
    record { configuration = record h.configuration { operands = t.first ∷ t.rest }; represents = q.1; some = omega arith }

pub returns-clause-does : goal.returns-clause-does
returns-clause-does c m limits store k sh fine =
    let t = select_of m limits k store fine in
    let p = c.pop32-condition.ensures.represents k t.condition (t.second ∷ t.first ∷ t.rest) sh t.are in
    let q = c.pop-second.ensures.represents (record k { operands = t.second ∷ t.first ∷ t.rest }) t.second (t.first ∷ t.rest) p.1 refl in
    let s = c.last-first.ensures (record k { operands = t.first ∷ t.rest }) t.first t.rest q.1 refl in
    after_as m limits instr.Select k store store _ None c.replace.new.self (select_means m limits k store t)
    (select_after t.condition t.first t.second c.chosen.result t.rest k c.replace.new.self store
    (λ e. c.chosen.ensures.zero (p.0 ∙ e) ∙ q.0) (λ e. c.chosen.ensures.other (λ f. e (sym p.0 ∙ f)) ∙ s)
    (c.replace.ensures.represents (record k { operands = t.first ∷ t.rest }) t.first t.rest q.1 refl))
