use Rattle.std.proofs.Common.{◌≡◌, ◌+◌, ℕ, Some, None, length, refl, ap, ◌∙◌, subst}
use Rattle.std.specs.Prelude.{nat_lt, nat_le, if◌then◌else◌}
use Rattle.std.specs.Int.{byte_len}
use Rattle.wasm_values.specs.declared.outcome.Val.{Val}
use Rattle.wasm_values.specs.declared.outcome.Val.TheVariants as val
use Rattle.wasm_values.specs.declared.outcome.TrapKind.TheVariants as trap
use Rattle.wasm_spec.specs.Store.{Store, loaded}
use Rattle.wasm_spec.specs.Execution.{value}
use Rattle.machine_steps.specs.InstructionKinds.{address_offset, access_width, gives_width, loaded_as}
use Rattle.machine_steps.specs.Lent.{store_of}
use Rattle.machine_steps.proofs.KindLemmas.{after_as, has_top}
use Rattle.machine_steps.proofs.AccessLemmas.{fits_unless, load_of, load_means, load_after, load_traps}
use Rattle.machine_steps.proofs.machine.Machine.load.Goals as goal

pub last32-base-requires : goal.last32-base-requires
last32-base-requires c =
    let h = c.requires.can in
    let t = load_of h.defined h.limits c.args.instr.now h.configuration h.store c.requires.kind h.fine in
    record { configuration = h.configuration; represents = h.represents; top = t.n; rest = t.rest; are = t.are }

pub replace-requires : goal.replace-requires
replace-requires c =
    let h = c.requires.can in
    let t = load_of h.defined h.limits c.args.instr.now h.configuration h.store c.requires.kind h.fine in
    has_top h.configuration c.args.self.now (val.I32 t.n) t.rest t.are h.represents

pub returns-in-Some-clause-does : goal.returns-in-Some-clause-does
returns-in-Some-clause-does c m limits table globals answer k sh fine =
    let i = c.args.instr.now in
    let store : Store = store_of c.args.memory.now table globals answer in
    let t = load_of m limits i k store c.requires.kind fine in
    let p = c.last32-base.ensures k t.n t.rest sh t.are in
    let at : c.last32-base.result + c.args.offset ≡ t.n + address_offset i = ap (λ (b : ℕ). b + c.args.offset) p ∙ ap (λ (o : ℕ). t.n + o) c.requires.offset in
    let given : ℕ → Val = λ (a : ℕ). value (gives_width i) (loaded_as i (loaded (access_width i) store.memory a)) in
    let e : Some c.in-Some.v ≡ (if nat_lt (length store.memory) (t.n + address_offset i + byte_len (access_width i)) then None else Some (given (t.n + address_offset i))) =
    subst (λ (a : ℕ). Some c.in-Some.v ≡ (if nat_lt (length store.memory) (a + byte_len (access_width i)) then None else Some (given a))) at c.in-Some.ensures in
    after_as m limits i k store store _ None c.replace.new.self (load_means m limits i k store c.requires.kind t)
    (load_after (nat_lt (length store.memory) (t.n + address_offset i + byte_len (access_width i))) (nat_le (t.n + address_offset i + byte_len (access_width i)) (length store.memory)) c.in-Some.v (Some (given (t.n + address_offset i))) k t.rest c.replace.new.self store
    (fits_unless (nat_lt (length store.memory) (t.n + address_offset i + byte_len (access_width i))) (t.n + address_offset i + byte_len (access_width i)) (length store.memory) refl) e
    (c.replace.ensures.represents k (val.I32 t.n) t.rest sh t.are) (given (t.n + address_offset i)) refl)

pub returns-in-None-clause-does : goal.returns-in-None-clause-does
returns-in-None-clause-does c m limits table globals answer k sh fine =
    let i = c.args.instr.now in
    let store : Store = store_of c.args.memory.now table globals answer in
    let t = load_of m limits i k store c.requires.kind fine in
    let p = c.last32-base.ensures k t.n t.rest sh t.are in
    let at : c.last32-base.result + c.args.offset ≡ t.n + address_offset i = ap (λ (b : ℕ). b + c.args.offset) p ∙ ap (λ (o : ℕ). t.n + o) c.requires.offset in
    let given : ℕ → Val = λ (a : ℕ). value (gives_width i) (loaded_as i (loaded (access_width i) store.memory a)) in
    let e : None ≡ (if nat_lt (length store.memory) (t.n + address_offset i + byte_len (access_width i)) then None else Some (given (t.n + address_offset i))) =
    subst (λ (a : ℕ). None ≡ (if nat_lt (length store.memory) (a + byte_len (access_width i)) then None else Some (given a))) at c.in-None.ensures in
    after_as m limits i k store store _ (Some trap.Memory) c.args.self.now (load_means m limits i k store c.requires.kind t)
    (load_traps (nat_lt (length store.memory) (t.n + address_offset i + byte_len (access_width i))) (nat_le (t.n + address_offset i + byte_len (access_width i)) (length store.memory)) (Some (given (t.n + address_offset i))) k t.rest c.args.self.now store
    (fits_unless (nat_lt (length store.memory) (t.n + address_offset i + byte_len (access_width i))) (t.n + address_offset i + byte_len (access_width i)) (length store.memory) refl) e (given (t.n + address_offset i)) refl)
