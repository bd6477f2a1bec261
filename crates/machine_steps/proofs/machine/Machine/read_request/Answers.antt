use Rattle.std.proofs.Common.{◌≡◌, ℕ, ◌+◌, List, ◌∷◌, length, true, false, Some, None, refl, sym, ap, ◌∙◌, subst}
use Rattle.std.specs.Prelude.{nat_le, if◌then◌else◌}
use Rattle.wasm_values.specs.declared.outcome.Val.{Val}
use Rattle.wasm_values.specs.declared.outcome.Val.TheVariants as val
use Rattle.wasm_values.specs.declared.outcome.TrapKind.TheVariants as trap
use Rattle.wasm_spec.specs.Store.{Store, written}
use Rattle.wasm_spec.specs.Execution.{Signal, part, lies_within, read_request}
use Rattle.linear_memory.specs.Bytes.{shown}
use Rattle.machine_steps.specs.Configuration.{state}
use Rattle.machine_steps.specs.Lent.{memory_set, store_of}
use Rattle.machine_steps.specs.PlainSteps.{EndsAs}
use Rattle.machine_steps.proofs.HostLemmas.{three_there, at_three, read_ends, read_traps, memory_where}
use Rattle.wasm_types.specs.declared.host.HostFunction.TheVariants as host
use Rattle.machine_steps.specs.WrittenParts.{part_read}
use Rattle.machine_steps.proofs.PartLemmas.{count_told, marks_if}
use Rattle.machine_steps.proofs.machine.Machine.read_request.Goals as goal

pub pop32-count-requires : goal.pop32-count-requires
pop32-count-requires c =
    let h = c.requires.can in
    let t = three_there h.configuration.operands (λ to from n vs. read_request c.args.request.now to from n vs (state h.configuration h.store)) h.fine in
    record { configuration = h.configuration; represents = h.represents; top = t.n; rest = val.I32 t.b ∷ val.I32 t.a ∷ t.rest; are = t.are }

pub pop32-from-requires : goal.pop32-from-requires
pop32-from-requires c =
    let h = c.requires.can in
    let t = three_there h.configuration.operands (λ to from n vs. read_request c.args.request.now to from n vs (state h.configuration h.store)) h.fine in
    let p = c.pop32-count.ensures.represents h.configuration t.n (val.I32 t.b ∷ val.I32 t.a ∷ t.rest) h.represents t.are in
    record { configuration = record h.configuration { operands = val.I32 t.b ∷ val.I32 t.a ∷ t.rest }; represents = p.1; top = t.b; rest = val.I32 t.a ∷ t.rest; are = refl }

pub pop32-to-requires : goal.pop32-to-requires
pop32-to-requires c =
    let h = c.requires.can in
    let t = three_there h.configuration.operands (λ to from n vs. read_request c.args.request.now to from n vs (state h.configuration h.store)) h.fine in
    let p = c.pop32-count.ensures.represents h.configuration t.n (val.I32 t.b ∷ val.I32 t.a ∷ t.rest) h.represents t.are in
    let q = c.pop32-from.ensures.represents (record h.configuration { operands = val.I32 t.b ∷ val.I32 t.a ∷ t.rest }) t.b (val.I32 t.a ∷ t.rest) p.1 refl in
    record { configuration = record h.configuration { operands = val.I32 t.a ∷ t.rest }; represents = q.1; top = t.a; rest = t.rest; are = refl }

pub returns-in-Some-clause-does : goal.returns-in-Some-clause-does
returns-in-Some-clause-does c table globals answer k sh fine =
    let request = c.args.request.now in
    let old = c.args.memory.now in
    let before : Store = store_of old table globals answer in
    let after : Store = store_of c.copy_request.new.memory table globals answer in
    let go : ℕ → ℕ → ℕ → List Val → Signal = λ to from n vs. read_request request to from n vs (state k before) in
    let t = three_there k.operands go fine in
    let p = c.pop32-count.ensures.represents k t.n (val.I32 t.b ∷ val.I32 t.a ∷ t.rest) sh t.are in
    let q = c.pop32-from.ensures.represents (record k { operands = val.I32 t.b ∷ val.I32 t.a ∷ t.rest }) t.b (val.I32 t.a ∷ t.rest) p.1 refl in
    let r = c.pop32-to.ensures.represents (record k { operands = val.I32 t.a ∷ t.rest }) t.a t.rest q.1 refl in
    let bytes : List ℕ = written (shown old) t.a (part request t.b t.n) in
    let counted : Some c.in-Some.n ≡ (if nat_le (t.a + t.n) (length (shown old)) then Some (length (part request t.b t.n)) else None) =
    c.in-Some.ensures.count ∙ (λ i. if nat_le (r.0 i + p.0 i) (length (shown old)) then Some (length (part request (q.0 i) (p.0 i))) else None) in
    let set : shown c.copy_request.new.memory ≡ (if nat_le (t.a + t.n) (length (shown old)) then bytes else shown old) =
    c.in-Some.ensures.after ∙ (λ i. if nat_le (r.0 i + p.0 i) (length (shown old)) then written (shown old) (r.0 i) (part request (q.0 i) (p.0 i)) else shown old) in
    subst (λ (signal : Signal). EndsAs signal k None c.push32.new.self after) (sym (at_three k.operands go t))
    (read_ends (lies_within before t.a t.n) (length (part request t.b t.n)) c.in-Some.n bytes k t.rest c.push32.new.self before after counted
    (ap (λ (l : List ℕ). memory_set l before) set ∙ memory_where (lies_within before t.a t.n) bytes before)
    (c.push32.ensures.represents (record k { operands = t.rest }) r.1))

pub returns-in-None-clause-does : goal.returns-in-None-clause-does
returns-in-None-clause-does c table globals answer k sh fine =
    let request = c.args.request.now in
    let old = c.args.memory.now in
    let before : Store = store_of old table globals answer in
    let after : Store = store_of c.copy_request.new.memory table globals answer in
    let go : ℕ → ℕ → ℕ → List Val → Signal = λ to from n vs. read_request request to from n vs (state k before) in
    let t = three_there k.operands go fine in
    let p = c.pop32-count.ensures.represents k t.n (val.I32 t.b ∷ val.I32 t.a ∷ t.rest) sh t.are in
    let q = c.pop32-from.ensures.represents (record k { operands = val.I32 t.b ∷ val.I32 t.a ∷ t.rest }) t.b (val.I32 t.a ∷ t.rest) p.1 refl in
    let r = c.pop32-to.ensures.represents (record k { operands = val.I32 t.a ∷ t.rest }) t.a t.rest q.1 refl in
    let bytes : List ℕ = written (shown old) t.a (part request t.b t.n) in
    let counted : None ≡ (if nat_le (t.a + t.n) (length (shown old)) then Some (length (part request t.b t.n)) else None) =
    c.in-None.ensures.count ∙ (λ i. if nat_le (r.0 i + p.0 i) (length (shown old)) then Some (length (part request (q.0 i) (p.0 i))) else None) in
    let set : shown c.copy_request.new.memory ≡ (if nat_le (t.a + t.n) (length (shown old)) then bytes else shown old) =
    c.in-None.ensures.after ∙ (λ i. if nat_le (r.0 i + p.0 i) (length (shown old)) then written (shown old) (r.0 i) (part request (q.0 i) (p.0 i)) else shown old) in
    subst (λ (signal : Signal). EndsAs signal k (Some trap.Memory) c.pop32-to.new.self after) (sym (at_three k.operands go t))
    (read_traps (lies_within before t.a t.n) (length (part request t.b t.n)) bytes k t.rest c.pop32-to.new.self before after counted
    (ap (λ (l : List ℕ). memory_set l before) set ∙ memory_where (lies_within before t.a t.n) bytes before))

pub returns-in-Some-clause-marks : goal.returns-in-Some-clause-marks
returns-in-Some-clause-marks c can =
    let request = c.args.request.now in
    let old = c.args.memory.now in
    let k = can.configuration in
    let t = three_there k.operands (λ to from n vs. read_request request to from n vs (state k can.store)) can.fine in
    let p = c.pop32-count.ensures.represents k t.n (val.I32 t.b ∷ val.I32 t.a ∷ t.rest) can.represents t.are in
    let q = c.pop32-from.ensures.represents (record k { operands = val.I32 t.b ∷ val.I32 t.a ∷ t.rest }) t.b (val.I32 t.a ∷ t.rest) p.1 refl in
    let r = c.pop32-to.ensures.represents (record k { operands = val.I32 t.a ∷ t.rest }) t.a t.rest q.1 refl in
    let told : c.in-Some.n ≡ length (part request c.pop32-from.result c.pop32-count.result) =
    count_told (nat_le (c.pop32-to.result + c.pop32-count.result) (length (shown old))) c.in-Some.n (length (part request c.pop32-from.result c.pop32-count.result)) c.in-Some.ensures.count in
    marks_if true (part_read request host.Read k.operands) t.a (length (part request t.b t.n)) c.pop32-to.result c.in-Some.n old c.copy_request.new.memory
    (ap (part_read request host.Read) t.are) r.0 (told ∙ (λ i. length (part request (q.0 i) (p.0 i)))) c.in-Some.ensures.marks

pub returns-in-None-clause-marks : goal.returns-in-None-clause-marks
returns-in-None-clause-marks c can =
    let request = c.args.request.now in
    let k = can.configuration in
    let t = three_there k.operands (λ to from n vs. read_request request to from n vs (state k can.store)) can.fine in
    let p = c.pop32-count.ensures.represents k t.n (val.I32 t.b ∷ val.I32 t.a ∷ t.rest) can.represents t.are in
    let q = c.pop32-from.ensures.represents (record k { operands = val.I32 t.b ∷ val.I32 t.a ∷ t.rest }) t.b (val.I32 t.a ∷ t.rest) p.1 refl in
    let r = c.pop32-to.ensures.represents (record k { operands = val.I32 t.a ∷ t.rest }) t.a t.rest q.1 refl in
    marks_if false (part_read request host.Read k.operands) t.a (length (part request t.b t.n)) c.pop32-to.result 0 c.args.memory.now c.copy_request.new.memory
    (ap (part_read request host.Read) t.are) r.0 refl c.in-None.ensures.marks
