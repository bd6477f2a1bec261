use Rattle.std.proofs.Common.{◌≡◌, ℕ, ◌+◌, ◌-◌, ◌^◌, List, [], ◌∷◌, ◌++◌, length, reverse, true, Some, None, refl, sym, ap, ◌∙◌, subst}
use Rattle.std.specs.Prelude.{nat_le, nat_lt, if◌then◌else◌, IsSome, is_some, unwrap_or}
use Rattle.wasm_values.specs.declared.outcome.Val.{Val}
use Rattle.wasm_values.specs.declared.outcome.Val.TheVariants as val
use Rattle.wasm_types.specs.declared.host.HostFunction.{HostFunction}
use Rattle.wasm_types.specs.declared.host.HostFunction.TheVariants as host
use Rattle.wasm_spec.specs.Functions.{host_type}
use Rattle.wasm_spec.specs.Store.{Store, written}
use Rattle.wasm_spec.specs.Execution.{host_call, most_answer, part, lies_within}
use Rattle.linear_memory.specs.Bytes.{shown}
use Rattle.machine_steps.specs.Lent.{answer_set, memory_set, store_of}
use Rattle.machine_steps.specs.WrittenParts.{part_read}
use Rattle.machine_steps.proofs.HostLemmas.{memory_where, answer_where}
use Rattle.machine_steps.proofs.PartLemmas.{count_given, marks_if, nothing_read}
use Rattle.wasm_machine.specs.Calls.{GivesOutside, outside}
use Rattle.wasm_machine.proofs.OutsideLemmas.{number_at, three_arguments, two_arguments, number_is, read_gives, write_gives}
use Rattle.wasm_machine.proofs.invocation.host_from_outside.Goals as goal

pub argument-requires : goal.argument-requires
argument-requires c =
    let t = three_arguments c.args.args.now (c.requires.arguments ∙ ap (λ (f : HostFunction). (host_type f).params) c.in-Read.is) in
    subst (λ (l : List Val). IsSome (number_at l 0)) (sym t.are) refl

pub argument-requires-in-Read : goal.argument-requires-in-Read
argument-requires-in-Read c =
    let t = three_arguments c.args.args.now (c.requires.arguments ∙ ap (λ (f : HostFunction). (host_type f).params) c.in-Read.is) in
    subst (λ (l : List Val). IsSome (number_at l 1)) (sym t.are) refl

pub argument-requires-in-Read-2 : goal.argument-requires-in-Read-2
argument-requires-in-Read-2 c =
    let t = three_arguments c.args.args.now (c.requires.arguments ∙ ap (λ (f : HostFunction). (host_type f).params) c.in-Read.is) in
    subst (λ (l : List Val). IsSome (number_at l 2)) (sym t.are) refl

pub argument-requires-in-Write : goal.argument-requires-in-Write
argument-requires-in-Write c =
    let t = two_arguments c.args.args.now (c.requires.arguments ∙ ap (λ (f : HostFunction). (host_type f).params) c.in-Write.is) in
    subst (λ (l : List Val). IsSome (number_at l 0)) (sym t.are) refl

pub argument-requires-in-Write-2 : goal.argument-requires-in-Write-2
argument-requires-in-Write-2 c =
    let t = two_arguments c.args.args.now (c.requires.arguments ∙ ap (λ (f : HostFunction). (host_type f).params) c.in-Write.is) in
    subst (λ (l : List Val). IsSome (number_at l 1)) (sym t.are) refl

pub returns-in-Read-clause-ends : goal.returns-in-Read-clause-ends
returns-in-Read-clause-ends c table globals =
    let request = c.args.request.now in
    let old = c.args.memory.now in
    let args = c.args.args.now in
    let before : Store = store_of old table globals c.args.answer.now in
    let after : Store = store_of c.copy_request.new.memory table globals c.args.answer.now in
    let t = three_arguments args (c.requires.arguments ∙ ap (λ (f : HostFunction). (host_type f).params) c.in-Read.is) in
    let list : List Val = val.I32 t.a ∷ val.I32 t.b ∷ val.I32 t.n ∷ [] in
    let a : c.argument.result ≡ t.a = number_is args list 0 t.a c.argument.result t.are refl c.argument.ensures in
    let b : c.argument-in-Read.result ≡ t.b = number_is args list 1 t.b c.argument-in-Read.result t.are refl c.argument-in-Read.ensures in
    let n : c.argument-in-Read-2.result ≡ t.n = number_is args list 2 t.n c.argument-in-Read-2.result t.are refl c.argument-in-Read-2.ensures in
    let bytes : List ℕ = written (shown old) t.a (part request t.b t.n) in
    let counted : c.copy_request.result ≡ (if nat_le (t.a + t.n) (length (shown old)) then Some (length (part request t.b t.n)) else None) =
    c.copy_request.ensures.count ∙ (λ i. if nat_le (a i + n i) (length (shown old)) then Some (length (part request (b i) (n i))) else None) in
    let set : shown c.copy_request.new.memory ≡ (if nat_le (t.a + t.n) (length (shown old)) then bytes else shown old) =
    c.copy_request.ensures.after ∙ (λ i. if nat_le (a i + n i) (length (shown old)) then written (shown old) (a i) (part request (b i) (n i)) else shown old) in
    subst (λ (f : HostFunction). GivesOutside (host_call request f (outside args before)) c.copy_request.result after) (sym c.in-Read.is)
    (subst (λ (l : List Val). GivesOutside (host_call request host.Read (outside l before)) c.copy_request.result after) (sym t.are)
    (read_gives (lies_within before t.a t.n) (length (part request t.b t.n)) bytes (outside list before) c.copy_request.result after counted
    (ap (λ (l : List ℕ). memory_set l before) set ∙ memory_where (lies_within before t.a t.n) bytes before)))

pub returns-in-Write-clause-ends : goal.returns-in-Write-clause-ends
returns-in-Write-clause-ends c table globals =
    let request = c.args.request.now in
    let memory = c.args.memory.now in
    let old = c.args.answer.now in
    let args = c.args.args.now in
    let before : Store = store_of memory table globals old in
    let after : Store = store_of memory table globals c.append_memory.new.answer in
    let t = two_arguments args (c.requires.arguments ∙ ap (λ (f : HostFunction). (host_type f).params) c.in-Write.is) in
    let list : List Val = val.I32 t.a ∷ val.I32 t.n ∷ [] in
    let a : c.argument-in-Write.result ≡ t.a = number_is args list 0 t.a c.argument-in-Write.result t.are refl c.argument-in-Write.ensures in
    let n : c.argument-in-Write-2.result ≡ t.n = number_is args list 1 t.n c.argument-in-Write-2.result t.are refl c.argument-in-Write-2.ensures in
    let bytes : List ℕ = old ++ part (shown memory) t.a t.n in
    let counted : c.append_memory.result ≡ (if nat_le (t.a + t.n) (length (shown memory)) then Some (if nat_lt most_answer (length old + t.n) then 2 ^ 32 - 1 else length old + t.n) else None) =
    c.append_memory.ensures.count ∙ (λ i. if nat_le (a i + n i) (length (shown memory)) then Some (if nat_lt most_answer (length old + n i) then 2 ^ 32 - 1 else length old + n i) else None) in
    let set : c.append_memory.new.answer ≡ (if nat_le (t.a + t.n) (length (shown memory)) then (if nat_lt most_answer (length old + t.n) then old else bytes) else old) =
    c.append_memory.ensures.after ∙ (λ i. if nat_le (a i + n i) (length (shown memory)) then (if nat_lt most_answer (length old + n i) then old else old ++ part (shown memory) (a i) (n i)) else old) in
    subst (λ (f : HostFunction). GivesOutside (host_call request f (outside args before)) c.append_memory.result after) (sym c.in-Write.is)
    (subst (λ (l : List Val). GivesOutside (host_call request host.Write (outside l before)) c.append_memory.result after) (sym t.are)
    (write_gives (lies_within before t.a t.n) (nat_lt most_answer (length old + t.n)) (length old + t.n) bytes (outside list before) c.append_memory.result after counted
    (ap (λ (l : List ℕ). answer_set l before) set ∙ answer_where (lies_within before t.a t.n) (nat_lt most_answer (length old + t.n)) bytes before)))

pub returns-in-Len-clause-marks : goal.returns-in-Len-clause-marks
returns-in-Len-clause-marks c = nothing_read c.args.request.now c.args.function host.Len (reverse c.args.args.now) true c.args.memory.now c.in-Len.is refl

pub returns-in-Write-clause-marks : goal.returns-in-Write-clause-marks
returns-in-Write-clause-marks c = nothing_read c.args.request.now c.args.function host.Write (reverse c.args.args.now) (is_some c.append_memory.result) c.args.memory.now c.in-Write.is refl

pub returns-in-Read-clause-marks : goal.returns-in-Read-clause-marks
returns-in-Read-clause-marks c =
    let request = c.args.request.now in
    let old = c.args.memory.now in
    let args = c.args.args.now in
    let t = three_arguments args (c.requires.arguments ∙ ap (λ (f : HostFunction). (host_type f).params) c.in-Read.is) in
    let list : List Val = val.I32 t.a ∷ val.I32 t.b ∷ val.I32 t.n ∷ [] in
    let a : c.argument.result ≡ t.a = number_is args list 0 t.a c.argument.result t.are refl c.argument.ensures in
    let b : c.argument-in-Read.result ≡ t.b = number_is args list 1 t.b c.argument-in-Read.result t.are refl c.argument-in-Read.ensures in
    let n : c.argument-in-Read-2.result ≡ t.n = number_is args list 2 t.n c.argument-in-Read-2.result t.are refl c.argument-in-Read-2.ensures in
    let count : ℕ = length (part request t.b t.n) in
    let given : c.copy_request.result ≡ (if nat_le (t.a + t.n) (length (shown old)) then Some count else None) =
    c.copy_request.ensures.count ∙ (λ i. if nat_le (a i + n i) (length (shown old)) then Some (length (part request (b i) (n i))) else None) in
    marks_if (is_some c.copy_request.result) (part_read request c.args.function (reverse args)) t.a count c.argument.result (unwrap_or c.copy_request.result 0) old c.copy_request.new.memory
    (ap (λ (f : HostFunction). part_read request f (reverse args)) c.in-Read.is ∙ ap (λ (l : List Val). part_read request host.Read (reverse l)) t.are) a
    (count_given (nat_le (t.a + t.n) (length (shown old))) c.copy_request.result count given) c.copy_request.ensures.marks
