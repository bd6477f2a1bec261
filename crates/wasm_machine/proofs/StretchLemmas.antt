-- Stretches of instructions, and runs that go on with them.
use Rattle.std.proofs.Common.{◌≡◌, ℕ, ◌+◌, ◌-◌, ◌≤◌, ◌<◌, List, length, drop, take, Result, Ok, Err, sym, ap, subst, ◌∙◌, arith, length-drop}
use Rattle.std.specs.Prelude.{min}
use Rattle.std.specs.List.{between}
use Rattle.std.proofs.lemmas.List.{drop-drop, length-take}
use Rattle.std.proofs.lemmas.Slice.{between_is}
use Rattle.wasm_types.specs.declared.instr.Op.{Op}
use Rattle.wasm_types.specs.declared.module.Module.{Module}
use Rattle.wasm_spec.specs.Execution.{Ended, Terms}
use Rattle.wasm_spec.specs.Store.{Store}
use Rattle.machine_steps.specs.declared.machine.Machine.{Machine}
use Rattle.linear_memory.specs.declared.memory.Memory.{Memory}
use Rattle.linear_memory.specs.Bytes.{IsMemory, shown}
use Rattle.linear_memory.specs.Marks.{MarksChanges}
use Rattle.wasm_machine.specs.declared.interpreter.Halt.{Halt}
use Rattle.wasm_machine.specs.declared.interpreter.Halt.TheVariants as halt
use Rattle.wasm_machine.specs.declared.stretch.Stretch.{Stretch}
use Rattle.wasm_machine.specs.Simulation.{AreMarkedBelow, HaltsAs, IsOver, Simulates, after, left_of, placed}
use Rattle.wasm_machine.specs.Stretches.{GoesOnAs, LiesIn, fuel_after, fuel_of, place_of}
use Rattle.wasm_machine.proofs.RunLemmas.{marked_out, marked_over, marked_trap, simulates_same}

-- ---- parts of a sequence

-- how many there are of a part
pub length_between : (i j : ℕ) (ops : List Op) → length (between i j ops) ≡ min j (length ops) - i
length_between i j ops = ap length (between_is ops i j) ∙ length-drop i (take j ops) ∙ ap (λ (n : ℕ). n - i) (length-take j ops)

-- a part without its first instruction
pub between_next : (i j : ℕ) (ops : List Op) → drop 1 (between i j ops) ≡ between (i + 1) j ops
between_next i j ops = ap (drop 1) (between_is ops i j) ∙ drop-drop 1 i (take j ops) ∙ sym (between_is ops (i + 1) j)

-- the first place is one of the sequence, where there is an instruction
pub next_within : (sequence : List Op) (s : Stretch) → LiesIn sequence s → 0 < length s.ops.now → place_of s < length sequence
next_within sequence s lies some = omega (arith, ap length lies.are, length_between (place_of s) s.end sequence)

-- what is behind the first instruction lies there too
pub rest_lies : (sequence : List Op) (s t : Stretch) → LiesIn sequence s → 0 < length s.ops.now → t.ops.now ≡ drop 1 s.ops.now → t.end ≡ s.end → LiesIn sequence t
rest_lies sequence s t lies some rest end =
    let one : length t.ops.now + 1 ≡ length s.ops.now = omega (arith, ap length rest, length-drop 1 s.ops.now) in
    let at : place_of s + 1 ≡ place_of t = omega (arith, one, end, lies.within) in
    record {
      within = omega (arith, one, end, lies.within);
      are = rest ∙ ap (drop 1) lies.are ∙ between_next (place_of s) s.end sequence ∙ ap (λ (p : ℕ). between p s.end sequence) at ∙ ap (λ (e : ℕ). between (place_of t) e sequence) (sym end);
    }

-- ---- runs that go on with them

module _ (m : Module) (limits : Terms) (frame : ℕ) (machine : Machine) (store : Store) where
  pub over_same : (r s : ℕ → Ended) → ((g : ℕ) → r g ≡ s g) → IsOver m machine store s → IsOver m machine store r
  over_same r s e over = record { stored = over.stored; goes = λ g. e g ∙ over.goes g }

  -- on no fuel
  pub none_spent : (r : ℕ → Ended) (n : ℕ) → n ≡ 0 → Simulates m limits frame machine store r → Simulates m limits frame machine store (after n r)
  none_spent r n e s = simulates_same m limits frame machine store r (after n r) (λ g. ap r (let same : g ≡ n + g = omega (arith, e) in same)) s

  -- how a run halts that has gone before
  pub halts_later : (h : Halt) (r s : ℕ → Ended) (spent less fuel : ℕ) → ((g : ℕ) → s g ≡ r (spent + g)) → spent + less ≡ fuel → left_of h ≤ less
      → HaltsAs h m limits frame machine store less s → HaltsAs h m limits frame machine store fuel r
  halts_later (halt.Done left) r s spent less fuel same e le over =
      over_same (after (fuel - left) r) (after (less - left) s) (λ g. ap r (let at : fuel - left + g ≡ spent + (less - left + g) = omega (arith, e, le) in at) ∙ sym (same (less - left + g))) over
  halts_later (halt.Trapped t left) r s spent less fuel same e le traps = λ g.
      ap r (let at : fuel - left + g ≡ spent + (less - left + g) = omega (arith, e, le) in at) ∙ sym (same (less - left + g)) ∙ traps g
  halts_later halt.OutOfFuel r s spent less fuel same e le (goes, out) = (
    simulates_same m limits frame machine store (after less s) (after fuel r) (λ g. same (less + g) ∙ ap r (let at : spent + (less + g) ≡ fuel + g = omega (arith, e) in at)) goes,
    ap r (let at : fuel ≡ spent + less = omega (arith, e) in at) ∙ sym (same less) ∙ out,
  )

pub goes_later : (o : Result Stretch Halt) (m : Module) (limits : Terms) (frame : ℕ) (machine : Machine) (store : Store) (r s : ℕ → Ended) (spent less fuel : ℕ) → ((g : ℕ) → s g ≡ r (spent + g)) → spent + less ≡ fuel → fuel_after o ≤ less
    → GoesOnAs o m limits frame machine store less s → GoesOnAs o m limits frame machine store fuel r
goes_later (Ok next) m limits frame machine store r s spent less fuel same e le goes =
    simulates_same m limits frame (placed machine (place_of next)) store (after (less - fuel_of next) s) (after (fuel - fuel_of next) r)
    (λ g. same (less - fuel_of next + g) ∙ ap r (let at : spent + (less - fuel_of next + g) ≡ fuel - fuel_of next + g = omega (arith, e, le) in at)) goes
goes_later (Err h) m limits frame machine store r s spent less fuel same e le halts = halts_later m limits frame machine store h r s spent less fuel same e le halts

-- what is marked where a run has halted
pub marked_halts : (h : Halt) (r : ℕ → Ended) (old : Memory) (m : Module) (limits : Terms) (frame : ℕ) (machine : Machine) (store : Store) (fuel most n : ℕ) (new : Memory)
    → AreMarkedBelow (fuel - left_of h) r old new → IsMemory most new → MarksChanges old new n → store.memory ≡ shown new → HaltsAs h m limits frame machine store fuel r → AreMarkedBelow (fuel + 1) r old new
marked_halts (halt.Done left) r old m limits frame machine store fuel most n new below is changes memory over =
    marked_over r old m machine store (fuel - left) (fuel + 1) most n new below is changes memory over
marked_halts (halt.Trapped t left) r old m limits frame machine store fuel most n new below is changes memory traps =
    marked_trap r old t store (fuel - left) (fuel + 1) most n new below is changes memory traps
marked_halts halt.OutOfFuel r old m limits frame machine store fuel most n new below is changes memory (goes, out) =
    marked_out r old store fuel (fuel + 1) most n new (subst (λ (spent : ℕ). AreMarkedBelow spent r old new) (let all : fuel - 0 ≡ fuel = omega arith in all) below) is changes memory (omega arith) out
