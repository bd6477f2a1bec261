use Rattle.std.proofs.Common.{◌≡◌, ℕ, ◌+◌, ◌-◌, ◌^◌, List, ◌∷◌, ◌++◌, length, Some, None, refl, sym, ap, ◌∙◌, subst}
use Rattle.std.specs.Prelude.{nat_le, nat_lt, if◌then◌else◌}
use Rattle.wasm_values.specs.declared.outcome.Val.{Val}
use Rattle.wasm_values.specs.declared.outcome.Val.TheVariants as val
use Rattle.wasm_values.specs.declared.outcome.TrapKind.TheVariants as trap
use Rattle.wasm_spec.specs.Store.{Store}
use Rattle.wasm_spec.specs.Execution.{Signal, most_answer, part, lies_within, write_answer}
use Rattle.linear_memory.specs.Bytes.{shown}
use Rattle.machine_steps.specs.Configuration.{state}
use Rattle.machine_steps.specs.Lent.{answer_set, store_of}
use Rattle.machine_steps.specs.PlainSteps.{EndsAs}
use Rattle.machine_steps.proofs.HostLemmas.{two_there, at_two, write_ends, write_traps, answer_where}
use Rattle.machine_steps.proofs.machine.Machine.write_answer.Goals as goal

pub pop32-count-requires : goal.pop32-count-requires
pop32-count-requires c =
    let h = c.requires.can.1 in
    let t = two_there h.configuration.operands (λ from n vs. write_answer from n vs (state h.configuration h.store)) h.fine in
    record { configuration = h.configuration; represents = h.represents; top = t.n; rest = val.I32 t.a ∷ t.rest; are = t.are }

pub pop32-from-requires : goal.pop32-from-requires
pop32-from-requires c =
    let h = c.requires.can.1 in
    let t = two_there h.configuration.operands (λ from n vs. write_answer from n vs (state h.configuration h.store)) h.fine in
    let p = c.pop32-count.ensures.represents h.configuration t.n (val.I32 t.a ∷ t.rest) h.represents t.are in
    record { configuration = record h.configuration { operands = val.I32 t.a ∷ t.rest }; represents = p.1; top = t.a; rest = t.rest; are = refl }

pub returns-in-Some-clause-does : goal.returns-in-Some-clause-does
returns-in-Some-clause-does c request table globals k sh fine =
    let memory = c.args.memory.now in
    let old = c.args.answer.now in
    let before : Store = store_of memory table globals old in
    let after : Store = store_of memory table globals c.append_memory.new.answer in
    let go : ℕ → ℕ → List Val → Signal = λ from n vs. write_answer from n vs (state k before) in
    let t = two_there k.operands go fine in
    let p = c.pop32-count.ensures.represents k t.n (val.I32 t.a ∷ t.rest) sh t.are in
    let q = c.pop32-from.ensures.represents (record k { operands = val.I32 t.a ∷ t.rest }) t.a t.rest p.1 refl in
    let bytes : List ℕ = old ++ part (shown memory) t.a t.n in
    let counted : Some c.in-Some.n ≡ (if nat_le (t.a + t.n) (length (shown memory)) then Some (if nat_lt most_answer (length old + t.n) then 2 ^ 32 - 1 else length old + t.n) else None) =
    c.in-Some.ensures.count ∙ (λ i. if nat_le (q.0 i + p.0 i) (length (shown memory)) then Some (if nat_lt most_answer (length old + p.0 i) then 2 ^ 32 - 1 else length old + p.0 i) else None) in
    let set : c.append_memory.new.answer ≡ (if nat_le (t.a + t.n) (length (shown memory)) then (if nat_lt most_answer (length old + t.n) then old else bytes) else old) =
    c.in-Some.ensures.after ∙ (λ i. if nat_le (q.0 i + p.0 i) (length (shown memory)) then (if nat_lt most_answer (length old + p.0 i) then old else old ++ part (shown memory) (q.0 i) (p.0 i)) else old) in
    subst (λ (signal : Signal). EndsAs signal k None c.push32.new.self after) (sym (at_two k.operands go t))
    (write_ends (lies_within before t.a t.n) (nat_lt most_answer (length old + t.n)) (length old + t.n) c.in-Some.n bytes k t.rest c.push32.new.self before after counted
    (ap (λ (l : List ℕ). answer_set l before) set ∙ answer_where (lies_within before t.a t.n) (nat_lt most_answer (length old + t.n)) bytes before)
    (c.push32.ensures.represents (record k { operands = t.rest }) q.1))

pub returns-in-None-clause-does : goal.returns-in-None-clause-does
returns-in-None-clause-does c request table globals k sh fine =
    let memory = c.args.memory.now in
    let old = c.args.answer.now in
    let before : Store = store_of memory table globals old in
    let after : Store = store_of memory table globals c.append_memory.new.answer in
    let go : ℕ → ℕ → List Val → Signal = λ from n vs. write_answer from n vs (state k before) in
    let t = two_there k.operands go fine in
    let p = c.pop32-count.ensures.represents k t.n (val.I32 t.a ∷ t.rest) sh t.are in
    let q = c.pop32-from.ensures.represents (record k { operands = val.I32 t.a ∷ t.rest }) t.a t.rest p.1 refl in
    let bytes : List ℕ = old ++ part (shown memory) t.a t.n in
    let counted : None ≡ (if nat_le (t.a + t.n) (length (shown memory)) then Some (if nat_lt most_answer (length old + t.n) then 2 ^ 32 - 1 else length old + t.n) else None) =
    c.in-None.ensures.count ∙ (λ i. if nat_le (q.0 i + p.0 i) (length (shown memory)) then Some (if nat_lt most_answer (length old + p.0 i) then 2 ^ 32 - 1 else length old + p.0 i) else None) in
    let set : c.append_memory.new.answer ≡ (if nat_le (t.a + t.n) (length (shown memory)) then (if nat_lt most_answer (length old + t.n) then old else bytes) else old) =
    c.in-None.ensures.after ∙ (λ i. if nat_le (q.0 i + p.0 i) (length (shown memory)) then (if nat_lt most_answer (length old + p.0 i) then old else old ++ part (shown memory) (q.0 i) (p.0 i)) else old) in
    subst (λ (signal : Signal). EndsAs signal k (Some trap.Memory) c.pop32-from.new.self after) (sym (at_two k.operands go t))
    (write_traps (lies_within before t.a t.n) (nat_lt most_answer (length old + t.n)) (length old + t.n) bytes k t.rest c.pop32-from.new.self before after counted
    (ap (λ (l : List ℕ). answer_set l before) set ∙ answer_where (lies_within before t.a t.n) (nat_lt most_answer (length old + t.n)) bytes before))
