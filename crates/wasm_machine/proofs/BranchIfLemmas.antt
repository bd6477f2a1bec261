-- Conditional branches, and instructions that only put an operand on the top.
use Rattle.wasm_spec.specs.Execution.{Terms}
use Rattle.std.proofs.Common.{◌≡◌, ◌≢◌, ℕ, zero, suc, ◌+◌, ◌<◌, List, [], ◌∷◌, ◌++◌, length, map, Option, Some, None, refl, sym, ap, ◌∙◌, arith, length-append}
use Rattle.std.specs.Prelude.{slice_get}
use Rattle.std.proofs.lemmas.List.{length-map}
use Rattle.wasm_types.specs.declared.types.ValType.{ValType}
use Rattle.wasm_types.specs.declared.types.ValType.TheVariants as type
use Rattle.wasm_values.specs.declared.outcome.Val.{Val}
use Rattle.wasm_values.specs.declared.outcome.Val.TheVariants as val
use Rattle.wasm_types.specs.declared.instr.Instr.{Instr}
use Rattle.wasm_types.specs.declared.instr.Instr.TheVariants as instr
use Rattle.wasm_types.specs.declared.instr.Op.TheVariants as op
use Rattle.wasm_types.specs.declared.module.Module.{Module}
use Rattle.wasm_types.specs.Tree.{Code, module_tree}
use Rattle.wasm_spec.specs.Typing.{Context, Rule, Fixed, Takes, type_of, named, rule}
use Rattle.wasm_spec.specs.Need.{height}
use Rattle.wasm_spec.specs.Store.{Store}
use Rattle.wasm_spec.specs.Execution.{State, Signal, Next, Branch, Ended, and_then, chosen, plain}
use Rattle.wasm_types.specs.Sequences.{code_at}
use Rattle.machine_steps.specs.declared.machine.Machine.{Machine}
use Rattle.machine_steps.specs.Configuration.{Configuration, state}
use Rattle.wasm_machine.specs.Remaining.{resume_at, after_sequence}
use Rattle.machine_steps.specs.StackLayout.{Represents, KeepsRoom}
use Rattle.wasm_machine.specs.TypedConfiguration.{operand_count, context}
use Rattle.wasm_machine.specs.Simulation.{HasFetched, HasResultTypes, Simulates, SimulatesExit, ToLabel, body_of, paid}
use Rattle.machine_steps.specs.PlainSteps.{HasNumber}
use Rattle.machine_steps.proofs.StackLayoutLemmas.{room_kept}
use Rattle.wasm_spec.proofs.NeedLaws.{highest-least}
use Rattle.wasm_machine.proofs.RoomLemmas.{free_value}
use Rattle.wasm_machine.proofs.StepLemmas.{jumps, done_as}

-- ---- a conditional branch

record Conditional (C : Context) (l : ℕ) (vs : List Val) (middle : List ValType) : Type 0 where
  n : ℕ
  rest : List Val
  are : vs ≡ val.I32 n ∷ rest
  label : List ValType
  below : List ValType
  there : slice_get C.labels l ≡ Some label
  types : map type_of rest ≡ label ++ below
  gives : middle ≡ label ++ below
  counted : height (named (slice_get C.labels l) (λ (us : List ValType). Fixed (type.I32 ∷ us) us)) (length (map type_of vs)) ≡ length middle

conditional : (C : Context) (l : ℕ) (o : Option (List ValType)) (vs : List Val) (middle : List ValType) → slice_get C.labels l ≡ o → Takes (named o (λ (us : List ValType). Fixed (type.I32 ∷ us) us)) (map type_of vs) middle → Conditional C l vs middle
conditional C l None vs middle e h = absurd h
conditional C l (Some us) [] middle e (below, takes, gives) = absurd (cc (takes))
conditional C l (Some us) (val.I64 n ∷ rest) middle e (below, takes, gives) = absurd (cc (takes))
conditional C l (Some us) (val.I32 n ∷ rest) middle e (below, takes, gives) = record {
  n = n;
  rest = rest;
  are = refl;
  label = us;
  below = below;
  there = e;
  types = cc (takes);
  gives = gives;
  counted = ap (λ (o : Option (List ValType)). height (named o (λ (us : List ValType). Fixed (type.I32 ∷ us) us)) (length (map type_of (val.I32 n ∷ rest)))) e ∙ omega (arith, ap length takes, ap length gives, length-append us below);
}

module _ (m : Module) (limits : Terms) (frame : ℕ) where
  condition : (machine : Machine) (store : Store) (here l : ℕ) (r : ℕ → Ended) (b : HasFetched m limits frame machine store here (op.Plain (instr.BrIf l)) r)
      → (middle : List ValType) × Conditional (context m frame b.configuration.function b.configuration.blocks) l b.configuration.operands middle
  condition machine store here l r b =
      let k = b.configuration in
      let C : Context = context m frame k.function k.blocks in
      let (middle, takes, typed) = b.typed.typed in
      (middle, conditional C l (slice_get C.labels l) k.operands middle refl takes)

  pub number_there : (machine : Machine) (store : Store) (here l : ℕ) (r : ℕ → Ended) → HasFetched m limits frame machine store here (op.Plain (instr.BrIf l)) r → HasNumber machine
  number_there machine store here l r b =
      let (middle, c) = condition machine store here l r b in
      record { configuration = b.configuration; represents = b.represents; top = c.n; rest = c.rest; are = c.are }

  abbrev Pops32 : Machine → ℕ → Machine → Type 0
  Pops32 old result new = (k : Configuration) (n : ℕ) (vs : List Val) → Represents k old → k.operands ≡ val.I32 n ∷ vs → (result ≡ n) × Represents (record k { operands = vs }) new

  branched : (l n : ℕ) (s : State) (vs : List Val) → s.operands ≡ val.I32 n ∷ vs
      → plain (module_tree m) limits (instr.BrIf l) s ≡ (let t = record s { operands = vs } in chosen n (Branch l t) (Next t))
  branched l n s vs e = rw e

  nonzero : (n : ℕ) (a b : Signal) → n ≢ 0 → chosen n a b ≡ a
  nonzero zero a b h = absurd (h refl)
  nonzero (suc n) a b h = refl

  pub br_if_leaves : (old new : Machine) (store : Store) (here l n : ℕ) (r : ℕ → Ended) → HasFetched m limits frame old store here (op.Plain (instr.BrIf l)) r → Pops32 old n new → n ≢ 0 → KeepsRoom old new → SimulatesExit (ToLabel l) m limits frame new store (paid r)
  br_if_leaves old new store here l n r b pops some keeps =
      let k = b.configuration in
      let (middle, c) = condition old store here l r b in
      let p = pops k c.n c.rest b.represents c.are in
      let t : State = record { locals = k.locals; operands = c.rest; store = store } in
      record {
        configuration = record k { operands = c.rest };
        represents = p.1;
        around = record { locals = b.around.locals; blocks = b.around.blocks; activations = b.around.activations; deep = b.around.deep; there = b.around.there };
        ready = record { label = c.label; below = c.below; there = c.there; types = c.types };
        stored = b.stored;
        room = room_kept limits.depth frame old new b.room keeps;
        goes = λ g.
            ap (λ (e : Signal). after_sequence m limits k (and_then e g (resume_at m limits (length k.activations + 1) k.function k.sequence k.place)))
            (sym (branched l c.n (state k store) c.rest c.are ∙ nonzero c.n (Branch l t) (Next t) (λ e. some (p.0 ∙ e))))
            ∙ jumps m limits frame old store here (instr.BrIf l) r b g;
      }

  pub br_if_goes : (old new : Machine) (store : Store) (here l n : ℕ) (r : ℕ → Ended) → HasFetched m limits frame old store here (op.Plain (instr.BrIf l)) r → Pops32 old n new → n ≡ 0 → KeepsRoom old new → Simulates m limits frame new store (paid r)
  br_if_goes old new store here l n r b pops none keeps =
      let k = b.configuration in
      let C : Context = context m frame k.function k.blocks in
      let (middle, takes, typed) = b.typed.typed in
      let c = conditional C l (slice_get C.labels l) k.operands middle refl takes in
      let p = pops k c.n c.rest b.represents c.are in
      let t : State = record { locals = k.locals; operands = c.rest; store = store } in
      let zero_is : c.n ≡ 0 = sym p.0 ∙ none in
      let e : plain (module_tree m) limits (instr.BrIf l) (state k store) ≡ Next t = branched l c.n (state k store) c.rest c.are ∙ ap (λ (z : ℕ). chosen z (Branch l t) (Next t)) zero_is in
      let good : HasResultTypes m C (instr.BrIf l) (map type_of k.operands) middle t = record { types = c.types ∙ sym c.gives; counted = c.counted; locals = b.around.locals; stored = b.stored } in
      done_as m limits frame (Next t) k (instr.BrIf l) middle None old new store store (paid r) good typed b.typed.fits b.typed.narrow b.around b.room keeps
      (λ g. ap (λ (s : Signal). after_sequence m limits k (and_then s g (resume_at m limits (length k.activations + 1) k.function k.sequence k.place))) (sym e) ∙ jumps m limits frame old store here (instr.BrIf l) r b g)
      (p.1, refl)

  -- ---- one operand more

  pub push_free : (machine : Machine) (store : Store) (here : ℕ) (i : Instr) (t : ValType) (r : ℕ → Ended) (b : HasFetched m limits frame machine store here (op.Plain i) r)
      → rule (context m frame b.configuration.function b.configuration.blocks) i ≡ Fixed [] (t ∷ []) → length machine.values.items < machine.values.room
  push_free machine store here i t r b is =
      let k = b.configuration in
      let C : Context = context m frame k.function k.blocks in
      let rest : Code = code_at (body_of m k) k.sequence k.place in
      let h = length (map type_of k.operands) in
      let f = b.typed.fits in
      let up : height (rule C i) h ≡ h + 1 = ap (λ (z : Rule). height z h) is ∙ omega arith in
      free_value m limits frame k machine b.represents b.around b.room
      (omega (arith, length-map k.operands type_of, highest-least (operand_count k.blocks) C rest (height (rule C i) h)))

-- a value of a type, by its place
pub value_there : (vs : List Val) (x : ℕ) (t : ValType) → slice_get (map type_of vs) x ≡ Some t → (v : Val) × (slice_get vs x ≡ Some v) × (type_of v ≡ t)
value_there [] x t e = absurd (cc)
value_there (v ∷ vs) zero t e = (v, refl, cc)
value_there (v ∷ vs) (suc x) t e = value_there vs x t e
