use Rattle.std.proofs.Common.{◌≡◌, ◌+◌, ℕ, List, ◌∷◌, true, false, Option, Some, None, length, refl, ap, sym, ◌∙◌, subst}
use Rattle.std.specs.Prelude.{nat_lt, nat_le, not}
use Rattle.std.specs.Int.{byte_len, to_le_bytes}
use Rattle.wasm_values.specs.declared.outcome.Val.{Val}
use Rattle.wasm_values.specs.declared.outcome.Val.TheVariants as val
use Rattle.wasm_values.specs.declared.outcome.TrapKind.TheVariants as trap
use Rattle.wasm_spec.specs.Store.{Store, written}
use Rattle.wasm_spec.specs.Typing.{number}
use Rattle.machine_steps.specs.InstructionKinds.{address_offset, access_width, stored_as, takes_width}
use Rattle.linear_memory.specs.Bytes.{shown}
use Rattle.machine_steps.specs.Lent.{store_of}
use Rattle.machine_steps.proofs.OperandLemmas.{is_number}
use Rattle.machine_steps.proofs.KindLemmas.{after_as, has_top}
use Rattle.machine_steps.proofs.AccessLemmas.{fits_unless, store_of_pair, store_means, store_after, store_traps}
use Rattle.machine_steps.specs.WrittenParts.{part_written}
use Rattle.machine_steps.proofs.PartLemmas.{marks_if, store_part}
use Rattle.machine_steps.proofs.machine.Machine.store.Goals as goal

abbrev stored : List ℕ → List (Option ℕ) → List Val → List ℕ → Store
stored memory table globals answer = record { memory = memory; table = table; globals = globals; answer = answer }

pub pop-value-requires : goal.pop-value-requires
pop-value-requires c =
    let h = c.requires.can in
    let t = store_of_pair h.defined h.limits c.args.instr.now h.configuration h.store c.requires.kind h.fine in
    has_top h.configuration c.args.self.now t.top (val.I32 t.base ∷ t.rest) t.are h.represents

pub pop32-base-requires : goal.pop32-base-requires
pop32-base-requires c =
    let h = c.requires.can in
    let t = store_of_pair h.defined h.limits c.args.instr.now h.configuration h.store c.requires.kind h.fine in
    let p = c.pop-value.ensures.represents h.configuration t.top (val.I32 t.base ∷ t.rest) h.represents t.are in
    record { configuration = record h.configuration { operands = val.I32 t.base ∷ t.rest }; represents = p.1; top = t.base; rest = t.rest; are = refl }

pub store_value-requires-clause-number : goal.store_value-requires-clause-number
store_value-requires-clause-number c =
    let h = c.requires.can in
    let t = store_of_pair h.defined h.limits c.args.instr.now h.configuration h.store c.requires.kind h.fine in
    is_number (takes_width c.args.instr.now) c.pop-value.result t.top t.n (c.pop-value.ensures.represents h.configuration t.top (val.I32 t.base ∷ t.rest) h.represents t.are).0 t.is

pub returns-then-store_value-clause-does : goal.returns-then-store_value-clause-does
returns-then-store_value-clause-does c m limits table globals answer k sh fine =
    let i = c.args.instr.now in
    let store : Store = store_of c.args.memory.now table globals answer in
    let after : Store = store_of c.store_value.new.memory table globals answer in
    let t = store_of_pair m limits i k store c.requires.kind fine in
    let p = c.pop-value.ensures.represents k t.top (val.I32 t.base ∷ t.rest) sh t.are in
    let q = c.pop32-base.ensures.represents (record k { operands = val.I32 t.base ∷ t.rest }) t.base t.rest p.1 refl in
    let at : c.pop32-base.result + c.args.offset ≡ t.base + address_offset i = ap (λ (b : ℕ). b + c.args.offset) q.0 ∙ ap (λ (o : ℕ). t.base + o) c.requires.offset in
    let bytes = to_le_bytes (access_width i) (stored_as i t.n) in
    let test : not (nat_lt (length store.memory) (t.base + address_offset i + byte_len (access_width i))) ≡ true =
    ap (λ (a : ℕ). not (nat_lt (length store.memory) (a + byte_len (access_width i)))) (sym at) ∙ sym c.if-store_value.ensures.fits in
    let is : shown c.store_value.new.memory ≡ written store.memory (t.base + address_offset i) bytes =
    c.if-store_value.ensures.after t.n (subst (λ (x : Val). number (takes_width i) x ≡ Some t.n) (sym p.0) t.is) ∙ ap (λ (a : ℕ). written store.memory a bytes) at in
    after_as m limits i k store after _ None c.pop32-base.new.self (store_means m limits i k store c.requires.kind t)
    (store_after (nat_le (t.base + address_offset i + byte_len (access_width i)) (length store.memory)) k t.rest c.pop32-base.new.self store after (t.base + address_offset i) bytes
    (fits_unless (nat_lt (length store.memory) (t.base + address_offset i + byte_len (access_width i))) (t.base + address_offset i + byte_len (access_width i)) (length store.memory) refl ∙ test)
    (ap (λ (l : List ℕ). stored l table globals answer) (sym is)) q.1)

pub returns-else-store_value-clause-does : goal.returns-else-store_value-clause-does
returns-else-store_value-clause-does c m limits table globals answer k sh fine =
    let i = c.args.instr.now in
    let store : Store = store_of c.args.memory.now table globals answer in
    let after : Store = store_of c.store_value.new.memory table globals answer in
    let t = store_of_pair m limits i k store c.requires.kind fine in
    let p = c.pop-value.ensures.represents k t.top (val.I32 t.base ∷ t.rest) sh t.are in
    let q = c.pop32-base.ensures.represents (record k { operands = val.I32 t.base ∷ t.rest }) t.base t.rest p.1 refl in
    let at : c.pop32-base.result + c.args.offset ≡ t.base + address_offset i = ap (λ (b : ℕ). b + c.args.offset) q.0 ∙ ap (λ (o : ℕ). t.base + o) c.requires.offset in
    let bytes = to_le_bytes (access_width i) (stored_as i t.n) in
    let test : not (nat_lt (length store.memory) (t.base + address_offset i + byte_len (access_width i))) ≡ false =
    ap (λ (a : ℕ). not (nat_lt (length store.memory) (a + byte_len (access_width i)))) (sym at) ∙ sym c.if-store_value.ensures.fits in
    let same : shown c.store_value.new.memory ≡ store.memory = c.if-store_value.ensures.after t.n (subst (λ (x : Val). number (takes_width i) x ≡ Some t.n) (sym p.0) t.is) in
    after_as m limits i k store after _ (Some trap.Memory) c.pop32-base.new.self (store_means m limits i k store c.requires.kind t)
    (store_traps (nat_le (t.base + address_offset i + byte_len (access_width i)) (length store.memory)) k t.rest c.pop32-base.new.self store after (t.base + address_offset i) bytes
    (fits_unless (nat_lt (length store.memory) (t.base + address_offset i + byte_len (access_width i))) (t.base + address_offset i + byte_len (access_width i)) (length store.memory) refl ∙ test)
    (ap (λ (l : List ℕ). stored l table globals answer) (sym same)))

pub returns-then-store_value-clause-marks : goal.returns-then-store_value-clause-marks
returns-then-store_value-clause-marks c can =
    let i = c.args.instr.now in
    let k = can.configuration in
    let t = store_of_pair can.defined can.limits i k can.store c.requires.kind can.fine in
    let p = c.pop-value.ensures.represents k t.top (val.I32 t.base ∷ t.rest) can.represents t.are in
    let q = c.pop32-base.ensures.represents (record k { operands = val.I32 t.base ∷ t.rest }) t.base t.rest p.1 refl in
    let at : c.pop32-base.result + c.args.offset ≡ t.base + address_offset i = ap (λ (b : ℕ). b + c.args.offset) q.0 ∙ ap (λ (o : ℕ). t.base + o) c.requires.offset in
    marks_if true (part_written i k.operands) (t.base + address_offset i) (byte_len (access_width i)) (c.pop32-base.result + c.args.offset) (byte_len (access_width i)) c.args.memory.now c.store_value.new.memory
    (ap (part_written i) t.are ∙ store_part i t.top t.base t.rest c.requires.kind) at refl c.if-store_value.ensures.marks

pub returns-else-store_value-clause-marks : goal.returns-else-store_value-clause-marks
returns-else-store_value-clause-marks c can =
    let i = c.args.instr.now in
    let k = can.configuration in
    let t = store_of_pair can.defined can.limits i k can.store c.requires.kind can.fine in
    let p = c.pop-value.ensures.represents k t.top (val.I32 t.base ∷ t.rest) can.represents t.are in
    let q = c.pop32-base.ensures.represents (record k { operands = val.I32 t.base ∷ t.rest }) t.base t.rest p.1 refl in
    let at : c.pop32-base.result + c.args.offset ≡ t.base + address_offset i = ap (λ (b : ℕ). b + c.args.offset) q.0 ∙ ap (λ (o : ℕ). t.base + o) c.requires.offset in
    marks_if false (part_written i k.operands) (t.base + address_offset i) (byte_len (access_width i)) (c.pop32-base.result + c.args.offset) (0) c.args.memory.now c.store_value.new.memory
    (ap (part_written i) t.are ∙ store_part i t.top t.base t.rest c.requires.kind) at refl c.if-store_value.ensures.marks
