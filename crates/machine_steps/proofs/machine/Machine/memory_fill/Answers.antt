use Rattle.std.proofs.Common.{◌≡◌, ◌+◌, ℕ, List, ◌∷◌, Option, replicate, refl, sym, ap, ◌∙◌, subst}
use Rattle.std.specs.Prelude.{nat_le, length, Bool, if◌then◌else◌, is_none}
use Rattle.wasm_values.specs.declared.outcome.TrapKind.{TrapKind}
use Rattle.wasm_values.specs.declared.outcome.Val.{Val}
use Rattle.wasm_values.specs.declared.outcome.Val.TheVariants as val
use Rattle.wasm_types.specs.declared.instr.Instr.TheVariants as instr
use Rattle.wasm_spec.specs.Operators.{wrap}
use Rattle.wasm_spec.specs.Store.{Store, written}
use Rattle.wasm_spec.specs.Execution.{lies_within, write_where}
use Rattle.linear_memory.specs.Bytes.{shown}
use Rattle.machine_steps.specs.Configuration.{state}
use Rattle.machine_steps.specs.Lent.{store_of}
use Rattle.machine_steps.specs.PlainSteps.{EndsAs, trap_unless}
use Rattle.machine_steps.proofs.KindLemmas.{after_as}
use Rattle.machine_steps.proofs.BulkLemmas.{fill_of, fill_means, written_after}
use Rattle.machine_steps.proofs.PartLemmas.{count_if, marks_if}
use Rattle.machine_steps.specs.WrittenParts.{part_written}
use Rattle.machine_steps.proofs.machine.Machine.memory_fill.Goals as goal

abbrev stored : List ℕ → List (Option ℕ) → List Val → List ℕ → Store
stored memory table globals answer = record { memory = memory; table = table; globals = globals; answer = answer }

pub pop32-count-requires : goal.pop32-count-requires
pop32-count-requires c =
    let h = c.requires.can in
    let t = fill_of h.defined h.limits h.configuration h.store h.fine in
    record { configuration = h.configuration; represents = h.represents; top = t.third; rest = val.I32 t.second ∷ val.I32 t.first ∷ t.rest; are = t.are }

pub pop32-value-requires : goal.pop32-value-requires
pop32-value-requires c =
    let h = c.requires.can in
    let t = fill_of h.defined h.limits h.configuration h.store h.fine in
    let p = c.pop32-count.ensures.represents h.configuration t.third (val.I32 t.second ∷ val.I32 t.first ∷ t.rest) h.represents t.are in
    record { configuration = record h.configuration { operands = val.I32 t.second ∷ val.I32 t.first ∷ t.rest }; represents = p.1; top = t.second; rest = val.I32 t.first ∷ t.rest; are = refl }

pub pop32-to-requires : goal.pop32-to-requires
pop32-to-requires c =
    let h = c.requires.can in
    let t = fill_of h.defined h.limits h.configuration h.store h.fine in
    let p = c.pop32-count.ensures.represents h.configuration t.third (val.I32 t.second ∷ val.I32 t.first ∷ t.rest) h.represents t.are in
    let q = c.pop32-value.ensures.represents (record h.configuration { operands = val.I32 t.second ∷ val.I32 t.first ∷ t.rest }) t.second (val.I32 t.first ∷ t.rest) p.1 refl in
    record { configuration = record h.configuration { operands = val.I32 t.first ∷ t.rest }; represents = q.1; top = t.first; rest = t.rest; are = refl }

pub returns-clause-does : goal.returns-clause-does
returns-clause-does c m limits table globals answer k sh fine =
    let store : Store = store_of c.args.memory.now table globals answer in
    let after : Store = store_of c.fill.new.self table globals answer in
    let t = fill_of m limits k store fine in
    let p = c.pop32-count.ensures.represents k t.third (val.I32 t.second ∷ val.I32 t.first ∷ t.rest) sh t.are in
    let q = c.pop32-value.ensures.represents (record k { operands = val.I32 t.second ∷ val.I32 t.first ∷ t.rest }) t.second (val.I32 t.first ∷ t.rest) p.1 refl in
    let r = c.pop32-to.ensures.represents (record k { operands = val.I32 t.first ∷ t.rest }) t.first t.rest q.1 refl in
    let fits : Bool = lies_within store t.first t.third in
    let piece : List ℕ = replicate t.third (wrap 8 t.second) in
    let test : c.fill.result ≡ fits =
    c.fill.ensures.fits
    ∙ ap (λ (a : ℕ). nat_le (a + c.pop32-count.result) (length store.memory)) r.0
    ∙ ap (λ (n : ℕ). nat_le (t.first + n) (length store.memory)) p.0 in
    let is : shown c.fill.new.self ≡ (if fits then written store.memory t.first piece else store.memory) =
    c.fill.ensures.after
    ∙ ap (λ (b : Bool). if b then written store.memory c.pop32-to.result (replicate c.pop32-count.result (wrap 8 c.pop32-value.result)) else store.memory) test
    ∙ ap (λ (a : ℕ). if fits then written store.memory a (replicate c.pop32-count.result (wrap 8 c.pop32-value.result)) else store.memory) r.0
    ∙ ap (λ (b : ℕ). if fits then written store.memory t.first (replicate c.pop32-count.result (wrap 8 b)) else store.memory) q.0
    ∙ ap (λ (n : ℕ). if fits then written store.memory t.first (replicate n (wrap 8 t.second)) else store.memory) p.0 in
    let trap : c.unless_within.result ≡ trap_unless fits = c.unless_within.ensures ∙ ap trap_unless test in
    after_as m limits instr.MemoryFill k store after _ _ c.pop32-to.new.self (fill_means m limits k store t)
    (subst (λ (o : Option TrapKind). EndsAs (write_where fits t.first piece t.rest (state k store)) k o c.pop32-to.new.self after) (sym trap)
    (written_after fits k t.rest c.pop32-to.new.self store after t.first piece (ap (λ (l : List ℕ). stored l table globals answer) (sym is)) r.1))

pub returns-clause-marks : goal.returns-clause-marks
returns-clause-marks c can =
    let k = can.configuration in
    let t = fill_of can.defined can.limits k can.store can.fine in
    let p = c.pop32-count.ensures.represents k t.third (val.I32 t.second ∷ val.I32 t.first ∷ t.rest) can.represents t.are in
    let q = c.pop32-value.ensures.represents (record k { operands = val.I32 t.second ∷ val.I32 t.first ∷ t.rest }) t.second (val.I32 t.first ∷ t.rest) p.1 refl in
    let r = c.pop32-to.ensures.represents (record k { operands = val.I32 t.first ∷ t.rest }) t.first t.rest q.1 refl in
    marks_if (is_none c.unless_within.result) (part_written instr.MemoryFill k.operands) t.first t.third c.pop32-to.result (if c.fill.result then c.pop32-count.result else 0)
    c.args.memory.now c.fill.new.self (ap (part_written instr.MemoryFill) t.are) r.0 (count_if c.fill.result c.unless_within.result c.pop32-count.result t.third c.unless_within.ensures p.0) c.fill.ensures.marks
