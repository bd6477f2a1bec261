-- Branches by a table of labels.
use Rattle.wasm_spec.specs.Execution.{Terms}
use Rattle.std.proofs.Common.{◌≡◌, ℕ, zero, suc, ◌+◌, List, [], ◌∷◌, ◌++◌, length, map, Bool, true, false, Option, Some, None, refl, sym, ap, ◌∙◌}
use Rattle.std.specs.Prelude.{slice_get, unwrap_or, if◌then◌else◌}
use Rattle.std.proofs.lemmas.Bool.{and_parts}
use Rattle.std.specs.List.{list_all}
use Rattle.wasm_types.specs.declared.types.ValType.{ValType}
use Rattle.wasm_values.specs.declared.outcome.Val.{Val}
use Rattle.wasm_values.specs.declared.outcome.Val.TheVariants as val
use Rattle.wasm_types.specs.declared.types.ValType.TheVariants as type
use Rattle.wasm_types.specs.declared.instr.Instr.TheVariants as instr
use Rattle.wasm_types.specs.declared.instr.Op.TheVariants as op
use Rattle.wasm_types.specs.declared.module.Module.{Module}
use Rattle.wasm_types.specs.Tree.{module_tree}
use Rattle.wasm_spec.specs.Typing.{Context, Diverges, Wrong, Takes, type_of, named, is_label}
use Rattle.wasm_spec.specs.Store.{Store}
use Rattle.wasm_spec.specs.Execution.{State, Signal, Branch, Ended, and_then, plain}
use Rattle.machine_steps.specs.declared.machine.Machine.{Machine}
use Rattle.machine_steps.specs.Configuration.{state}
use Rattle.wasm_machine.specs.Remaining.{resume_at, after_sequence}
use Rattle.machine_steps.specs.StackLayout.{KeepsRoom}
use Rattle.wasm_machine.specs.TypedConfiguration.{context}
use Rattle.wasm_machine.specs.Simulation.{HasFetched, SimulatesExit, ToLabel, paid}
use Rattle.machine_steps.specs.PlainSteps.{HasNumber}
use Rattle.machine_steps.proofs.StackLayoutLemmas.{room_kept}
use Rattle.wasm_types.proofs.SameTypeLemmas.{all_same_is}
use Rattle.wasm_machine.proofs.IfLemmas.{Pops32, condition_of}
use Rattle.wasm_machine.proofs.StepLemmas.{jumps}

label_is : (label : List ValType) (o : Option (List ValType)) → is_label label o ≡ true → o ≡ Some label
label_is label None e = absurd (cc)
label_is label (Some other) e = ap (λ (l : List ValType). Some l) (sym (all_same_is label other e))

-- each label that the table names has the type of the last one
named_label : (labels : List (List ValType)) (names : List ℕ) (n l : ℕ) (label : List ValType) → list_all (λ x. is_label label (slice_get labels x)) names ≡ true → slice_get labels l ≡ Some label
    → slice_get labels (unwrap_or (slice_get names n) l) ≡ Some label
named_label labels [] n l label all last = last
named_label labels (x ∷ names) zero l label all last = label_is label (slice_get labels x) (and_parts (is_label label (slice_get labels x)) (list_all (λ x. is_label label (slice_get labels x)) names) all).0
named_label labels (x ∷ names) (suc n) l label all last =
    named_label labels names n l label (and_parts (is_label label (slice_get labels x)) (list_all (λ x. is_label label (slice_get labels x)) names) all).1 last

-- what a table takes
record Tabled (C : Context) (names : List ℕ) (l : ℕ) (ts : List ValType) : Type 0 where
  label : List ValType
  below : List ValType
  takes : ts ≡ type.I32 ∷ (label ++ below)
  there : (n : ℕ) → slice_get C.labels (unwrap_or (slice_get names n) l) ≡ Some label

tabled_by : (b : Bool) (label ts middle : List ValType) → Takes (if b then Diverges (type.I32 ∷ label) else Wrong) ts middle → (b ≡ true) × (below : List ValType) × (ts ≡ type.I32 ∷ (label ++ below))
tabled_by true label ts middle (below, takes) = (refl, below, takes)
tabled_by false label ts middle h = absurd h

tabled : (C : Context) (names : List ℕ) (l : ℕ) (o : Option (List ValType)) (ts middle : List ValType) → slice_get C.labels l ≡ o → Takes (named o (λ (label : List ValType). if list_all (λ x. is_label label (slice_get C.labels x)) names then Diverges (type.I32 ∷ label) else Wrong)) ts middle → Tabled C names l ts
tabled C names l None ts middle e h = absurd h
tabled C names l (Some label) ts middle e h =
    let (all, below, takes) = tabled_by (list_all (λ x. is_label label (slice_get C.labels x)) names) label ts middle h in
    record { label = label; below = below; takes = takes; there = λ n. named_label C.labels names n l label all e }

module _ (m : Module) (limits : Terms) (frame : ℕ) where
  table_of : (machine : Machine) (store : Store) (here l : ℕ) (names : List ℕ) (r : ℕ → Ended) (b : HasFetched m limits frame machine store here (op.Plain (instr.BrTable names l)) r)
      → Tabled (context m frame b.configuration.function b.configuration.blocks) names l (map type_of b.configuration.operands)
  table_of machine store here l names r b =
      let k = b.configuration in
      let C : Context = context m frame k.function k.blocks in
      let (middle, takes, typed) = b.typed.typed in
      tabled C names l (slice_get C.labels l) (map type_of k.operands) middle refl takes

  pub table_number : (machine : Machine) (store : Store) (here l : ℕ) (names : List ℕ) (r : ℕ → Ended) → HasFetched m limits frame machine store here (op.Plain (instr.BrTable names l)) r → HasNumber machine
  table_number machine store here l names r b =
      let t = table_of machine store here l names r b in
      let c = condition_of b.configuration.operands (t.label ++ t.below) t.takes in
      record { configuration = b.configuration; represents = b.represents; top = c.n; rest = c.rest; are = c.are }

  tabled_branch : (names : List ℕ) (l n : ℕ) (s : State) (vs : List Val) → s.operands ≡ val.I32 n ∷ vs
      → plain (module_tree m) limits (instr.BrTable names l) s ≡ Branch (unwrap_or (slice_get names n) l) (record s { operands = vs })
  tabled_branch names l n s vs e = rw e

  pub br_table_leaves : (old new : Machine) (store : Store) (here l n to : ℕ) (names : List ℕ) (r : ℕ → Ended) → HasFetched m limits frame old store here (op.Plain (instr.BrTable names l)) r
      → Pops32 m limits frame old n new → to ≡ unwrap_or (slice_get names n) l → KeepsRoom old new → SimulatesExit (ToLabel to) m limits frame new store (paid r)
  br_table_leaves old new store here l n to names r b pops is keeps =
      let k = b.configuration in
      let C : Context = context m frame k.function k.blocks in
      let t = table_of old store here l names r b in
      let c = condition_of k.operands (t.label ++ t.below) t.takes in
      let p = pops k c.n c.rest b.represents c.are in
      let s : State = record { locals = k.locals; operands = c.rest; store = store } in
      let e : to ≡ unwrap_or (slice_get names c.n) l = is ∙ ap (λ (z : ℕ). unwrap_or (slice_get names z) l) p.0 in
      record {
        configuration = record k { operands = c.rest };
        represents = p.1;
        around = record { locals = b.around.locals; blocks = b.around.blocks; activations = b.around.activations; deep = b.around.deep; there = b.around.there };
        ready = record { label = t.label; below = t.below; there = ap (slice_get C.labels) e ∙ t.there c.n; types = c.types };
        stored = b.stored;
        room = room_kept limits.depth frame old new b.room keeps;
        goes = λ g.
            ap (λ (e : Signal). after_sequence m limits k (and_then e g (resume_at m limits (length k.activations + 1) k.function k.sequence k.place)))
            (ap (λ (z : ℕ). Branch z s) e ∙ sym (tabled_branch names l c.n (state k store) c.rest c.are))
            ∙ jumps m limits frame old store here (instr.BrTable names l) r b g;
      }
