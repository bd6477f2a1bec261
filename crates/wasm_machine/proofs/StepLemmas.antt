-- What an instruction comes to.
use Rattle.wasm_spec.specs.Execution.{Terms}
use Rattle.std.proofs.Common.{◌≡◌, ◌≢◌, ℕ, suc, ◌+◌, ◌≤◌, List, ◌++◌, length, map, reverse, Option, Some, None, refl, sym, ap, ◌∙◌, subst, arith, length-append, false}
use Rattle.std.specs.Prelude.{slice_get, option_and_then}
use Rattle.wasm_types.specs.declared.types.ValType.{ValType}
use Rattle.wasm_types.specs.declared.types.FuncType.{FuncType}
use Rattle.wasm_values.specs.declared.outcome.TrapKind.{TrapKind}
use Rattle.wasm_types.specs.declared.instr.Instr.{Instr}
use Rattle.wasm_types.specs.declared.instr.Instr.TheVariants as instr
use Rattle.wasm_types.specs.declared.instr.Op.TheVariants as op
use Rattle.wasm_types.specs.declared.module.Module.{Module}
use Rattle.wasm_types.specs.Tree.{Code, Plain, module_tree}
use Rattle.wasm_spec.specs.Typing.{Context, Takes, Typed, type_of, named, Fixed, Diverges, rule, call_rule}
use Rattle.wasm_spec.specs.Functions.{Callee, callee_at, callee_type, function_type}
use Rattle.wasm_spec.specs.Need.{highest, deepest, height}
use Rattle.wasm_spec.specs.Store.{Store}
use Rattle.wasm_spec.specs.Execution.{State, Signal, Next, Branch, Returned, Trapped, OutOfFuel, Stuck, Ended, Continuation, and_then, plain, with_function, if_there, call, exec}
use Rattle.wasm_spec.proofs.Equations.{exec-Plain, exec-Call}
use Rattle.wasm_types.specs.Sequences.{code_at}
use Rattle.machine_steps.specs.declared.machine.Machine.{Machine}
use Rattle.machine_steps.specs.Configuration.{Configuration, state}
use Rattle.wasm_machine.specs.Remaining.{resume_at, after_sequence}
use Rattle.machine_steps.specs.StackLayout.{Represents, HasRoom, KeepsRoom, position_of}
use Rattle.wasm_machine.specs.TypedConfiguration.{operand_count, IsTypedContext, IsTypedStore, context, local_types, ends_of}
use Rattle.wasm_spec.specs.Bulk.{is_bulk, code_uses_bulk, uses_bulk}
use Rattle.wasm_spec.proofs.NarrowModules.{neither}
use Rattle.machine_steps.specs.PlainSteps.{EndsAs, with_state}
use Rattle.wasm_machine.specs.Simulation.{HasFetched, HasLabelOperands, SimulatesCalling, SimulatesUnlessTrapped, IsPreserved, SimulatesExit, ToLabel, ByReturn, body_of, paid}
use Rattle.wasm_machine.proofs.RemainingLemmas.{after_sequence-Trapped}
use Rattle.machine_steps.proofs.StackLayoutLemmas.{room_kept}

-- ---- calls

-- what is called
record Called (m : Module) (o : Option Callee) (t : FuncType) : Type 0 where
  callee : Callee
  is : o ≡ Some callee
  typed : callee_type (module_tree m) callee ≡ Some t

called_of : (m : Module) (o : Option Callee) (t : FuncType) → option_and_then (callee_type (module_tree m)) o ≡ Some t → Called m o t
called_of m None t e = absurd (cc)
called_of m (Some c) t e = record { callee = c; is = refl; typed = e }

pub calls_it : (m : Module) (x : ℕ) (c : Callee) (t : FuncType) (next : Callee → FuncType → Continuation) (s : State) (fuel : ℕ)
    → callee_at (module_tree m) x ≡ Some c → callee_type (module_tree m) c ≡ Some t → with_function (module_tree m) x next s fuel ≡ next c t s fuel
calls_it m x c t next s fuel there typed =
    ap (λ (o : Option Callee). if_there o (λ d. if_there (callee_type (module_tree m) d) (next d)) s fuel) there ∙ ap (λ (o : Option FuncType). if_there o (next c) s fuel) typed

-- a rule of a call takes the arguments and gives the results
record CallTyped (o : Option FuncType) (ts middle : List ValType) : Type 0 where
  type : FuncType
  is : o ≡ Some type
  below : List ValType
  takes : ts ≡ reverse type.params ++ below
  gives : middle ≡ type.results ++ below
  counted : height (named o (λ (t : FuncType). Fixed (reverse t.params) t.results)) (length ts) ≡ length middle

call_typed : (o : Option FuncType) (ts middle : List ValType) → Takes (named o (λ (t : FuncType). Fixed (reverse t.params) t.results)) ts middle → CallTyped o ts middle
call_typed None ts middle h = absurd h
call_typed (Some t) ts middle (below, takes, gives) = record {
  type = t;
  is = refl;
  below = below;
  takes = takes;
  gives = gives;
  counted = omega (arith, ap length takes, ap length gives, length-append (reverse t.params) below, length-append t.results below);
}

module _ (m : Module) (limits : Terms) (frame : ℕ) where
  pub call_calls : (machine : Machine) (store : Store) (here x : ℕ) (r : ℕ → Ended) → HasFetched m limits frame machine store here (op.Call x) r → SimulatesCalling m limits frame machine store x (paid r)
  call_calls machine store here x r b =
      let k = b.configuration in
      let C : Context = context m frame k.function k.blocks in
      let rest : Code = code_at (body_of m k) k.sequence k.place in
      let (middle, takes, typed) = b.typed.typed in
      let c = call_typed (function_type (module_tree m) x) (map type_of k.operands) middle takes in
      let f = called_of m (callee_at (module_tree m) x) c.type c.is in
      let fits = b.typed.fits in
      let same : highest (operand_count k.blocks) C rest (length (c.type.results ++ c.below)) ≡ highest (operand_count k.blocks) C rest (height (call_rule C x) (length (map type_of k.operands))) =
      ap (λ (z : ℕ). highest (operand_count k.blocks) C rest z) (ap length (sym c.gives) ∙ sym c.counted) in
      let d = length k.activations + 1 in
      record {
        configuration = k;
        represents = b.represents;
        around = b.around;
        stored = b.stored;
        room = b.room;
        type = c.type;
        callee = f.callee;
        there = f.is;
        typed = f.typed;
        below = c.below;
        arguments = c.takes;
        resumes = record { typed = subst (λ (us : List ValType). Typed C rest us (ends_of m frame k.function k.blocks)) c.gives typed; fits = omega arith; narrow = b.typed.narrow };
        goes = λ fuel.
            ap (after_sequence m limits k)
            (sym (exec-Call (module_tree m) limits d x rest (state k store) fuel
            ∙ calls_it m x f.callee c.type (call (module_tree m) limits d (exec (module_tree m) limits (d + 1)) (exec (module_tree m) limits d rest)) (state k store) fuel f.is f.typed))
            ∙ b.goes (suc fuel);
      }

  -- ---- jumps

  pub jumps : (machine : Machine) (store : Store) (here : ℕ) (i : Instr) (r : ℕ → Ended) (b : HasFetched m limits frame machine store here (op.Plain i) r) (g : ℕ)
      → after_sequence m limits b.configuration (and_then (plain (module_tree m) limits i (state b.configuration store)) g (resume_at m limits (length b.configuration.activations + 1) b.configuration.function b.configuration.sequence b.configuration.place)) ≡ paid r g
  jumps machine store here i r b g =
      let k = b.configuration in
      ap (after_sequence m limits k) (sym (exec-Plain (module_tree m) limits (length k.activations + 1) i (code_at (body_of m k) k.sequence k.place) (state k store) g)) ∙ b.goes (suc g)

  label_there : (C : Context) (l : ℕ) (o : Option (List ValType)) (ts middle : List ValType) → slice_get C.labels l ≡ o → Takes (named o (λ (label : List ValType). Diverges label)) ts middle
      → HasLabelOperands C.labels l ts
  label_there C l None ts middle e h = absurd h
  label_there C l (Some us) ts middle e (below, is) = record { label = us; below = below; there = e; types = is }

  pub br_leaves : (machine : Machine) (store : Store) (here l : ℕ) (r : ℕ → Ended) → HasFetched m limits frame machine store here (op.Plain (instr.Br l)) r → SimulatesExit (ToLabel l) m limits frame machine store (paid r)
  br_leaves machine store here l r b =
      let k = b.configuration in
      let C : Context = context m frame k.function k.blocks in
      let (middle, takes, typed) = b.typed.typed in
      record {
        configuration = k;
        represents = b.represents;
        around = b.around;
        stored = b.stored;
        room = b.room;
        ready = label_there C l (slice_get C.labels l) (map type_of k.operands) middle refl takes;
        goes = jumps machine store here (instr.Br l) r b;
      }

  pub return_leaves : (machine : Machine) (store : Store) (here : ℕ) (r : ℕ → Ended) → HasFetched m limits frame machine store here (op.Plain instr.Return) r → SimulatesExit ByReturn m limits frame machine store (paid r)
  return_leaves machine store here r b =
      let (middle, (below, is), typed) = b.typed.typed in
      record { configuration = b.configuration; represents = b.represents; around = b.around; stored = b.stored; room = b.room; ready = (below, is); goes = jumps machine store here instr.Return r b }

  -- ---- the others

  pub done_as : (e : Signal) (k : Configuration) (i : Instr) (middle : List ValType) (o : Option TrapKind) (old new : Machine) (store store' : Store) (r : ℕ → Ended)
      → let C : Context = context m frame k.function k.blocks in let rest : Code = code_at (body_of m k) k.sequence k.place in
      IsPreserved m C i (map type_of k.operands) middle e → Typed C rest middle (ends_of m frame k.function k.blocks)
      → length (local_types m frame k.function) + highest (operand_count k.blocks) C (Plain i rest) (length (map type_of k.operands)) + deepest (length k.blocks + 1) rest ≤ frame → (uses_bulk (module_tree m) ≡ false → code_uses_bulk rest ≡ false)
      → IsTypedContext m frame limits.depth k → HasRoom limits.depth frame old → KeepsRoom old new
      → ((g : ℕ) → after_sequence m limits k (and_then e g (resume_at m limits (length k.activations + 1) k.function k.sequence k.place)) ≡ r g)
      → EndsAs e k o new store' → SimulatesUnlessTrapped o m limits frame new store' r
  done_as (Next s) k i middle None old new store store' r good typed fits narrow around room keeps goes (represents, same) =
      let C : Context = context m frame k.function k.blocks in
      let rest : Code = code_at (body_of m k) k.sequence k.place in
      let count : highest (operand_count k.blocks) C rest (length (map type_of s.operands)) ≡ highest (operand_count k.blocks) C rest (height (rule C i) (length (map type_of k.operands))) =
      ap (λ (z : ℕ). highest (operand_count k.blocks) C rest z) (ap length good.types ∙ sym good.counted) in
      record {
        configuration = with_state k s;
        represents = represents;
        typed = record {
          here = record { typed = subst (λ (us : List ValType). Typed C rest us (ends_of m frame k.function k.blocks)) (sym good.types) typed; fits = omega arith; narrow = narrow };
          around = record { locals = good.locals; blocks = around.blocks; activations = around.activations; deep = around.deep; there = around.there };
        };
        stored = subst (λ (t : Store). IsTypedStore m t) same good.stored;
        room = room_kept limits.depth frame old new room keeps;
        goes = λ g. ap (λ (t : Store). after_sequence m limits k (resume_at m limits (length k.activations + 1) k.function k.sequence k.place (record { locals = s.locals; operands = s.operands; store = t }) g)) (sym same) ∙ goes g;
      }
  done_as (Next s) k i middle (Some t) old new store store' r good typed fits narrow around room keeps goes after = absurd after
  done_as (Trapped t before) k i middle None old new store store' r good typed fits narrow around room keeps goes after = absurd after
  done_as (Trapped t before) k i middle (Some u) old new store store' r good typed fits narrow around room keeps goes (is, same) =
      λ g. sym (goes g) ∙ after_sequence-Trapped m limits k t before g ∙ ap (λ (v : TrapKind). (Trapped v before, g)) (sym is) ∙ ap (λ (st : Store). (Trapped u st, g)) same
  done_as (Branch l s) k i middle o old new store store' r good typed fits narrow around room keeps goes after = absurd after
  done_as (Returned s) k i middle o old new store store' r good typed fits narrow around room keeps goes after = absurd after
  done_as (OutOfFuel s) k i middle o old new store store' r good typed fits narrow around room keeps goes after = absurd after
  done_as Stuck k i middle o old new store store' r good typed fits narrow around room keeps goes after = absurd after

  pub not_stuck : (e : Signal) (k : Configuration) (i : Instr) (middle : List ValType) → IsPreserved m (context m frame k.function k.blocks) i (map type_of k.operands) middle e → e ≢ Stuck
  not_stuck Stuck k i middle h n = h
  not_stuck (Next s) k i middle h n = cc
  not_stuck (Branch l s) k i middle h n = cc
  not_stuck (Returned s) k i middle h n = cc
  not_stuck (Trapped t s) k i middle h n = cc
  not_stuck (OutOfFuel s) k i middle h n = cc

  -- a plain instruction that has been done
  pub plain_done : (old new : Machine) (store store' : Store) (here : ℕ) (i : Instr) (o : Option TrapKind) (r : ℕ → Ended) (b : HasFetched m limits frame old store here (op.Plain i) r)
      → ((k : Configuration) (middle : List ValType) → Takes (rule (context m frame k.function k.blocks) i) (map type_of k.operands) middle → map type_of k.locals ≡ local_types m frame k.function
      → IsPreserved m (context m frame k.function k.blocks) i (map type_of k.operands) middle (plain (module_tree m) limits i (state k store)))
      → ((k : Configuration) → Represents k old → plain (module_tree m) limits i (state k store) ≢ Stuck → EndsAs (plain (module_tree m) limits i (state k store)) k o new store') → KeepsRoom old new
      → SimulatesUnlessTrapped o m limits frame new store' (paid r)
  plain_done old new store store' here i o r b good after keeps =
      let k = b.configuration in
      let (middle, takes, typed) = b.typed.typed in
      let fine = good k middle takes b.around.locals in
      done_as (plain (module_tree m) limits i (state k store)) k i middle o old new store store' (paid r) fine typed b.typed.fits (λ e. (neither (is_bulk i) (code_uses_bulk (code_at (body_of m k) k.sequence k.place)) (b.typed.narrow e)).1) b.around b.room keeps (jumps old store here i r b)
      (after k b.represents (not_stuck (plain (module_tree m) limits i (state k store)) k i middle fine))

  ends_at : (e : Signal) (k : Configuration) (o : Option TrapKind) (new : Machine) (store : Store) → o ≡ None → EndsAs e k o new store → new.at ≡ position_of k.function k.sequence k.place k.activations
  ends_at (Next s) k None new store n (represents, same) = represents.at
  ends_at (Next s) k (Some t) new store n h = absurd h
  ends_at (Trapped t before) k None new store n h = absurd h
  ends_at (Trapped t before) k (Some u) new store n h = cc
  ends_at (Branch l s) k o new store n h = absurd h
  ends_at (Returned s) k o new store n h = absurd h
  ends_at (OutOfFuel s) k o new store n h = absurd h
  ends_at Stuck k o new store n h = absurd h

  -- one that goes on stands where it stood
  pub plain_stays : (old new : Machine) (store store' : Store) (here : ℕ) (i : Instr) (o : Option TrapKind) (r : ℕ → Ended) (b : HasFetched m limits frame old store here (op.Plain i) r) → o ≡ None
      → ((k : Configuration) (middle : List ValType) → Takes (rule (context m frame k.function k.blocks) i) (map type_of k.operands) middle → map type_of k.locals ≡ local_types m frame k.function
      → IsPreserved m (context m frame k.function k.blocks) i (map type_of k.operands) middle (plain (module_tree m) limits i (state k store)))
      → ((k : Configuration) → Represents k old → plain (module_tree m) limits i (state k store) ≢ Stuck → EndsAs (plain (module_tree m) limits i (state k store)) k o new store') → new.at ≡ old.at
  plain_stays old new store store' here i o r b none good after =
      let k = b.configuration in
      let (middle, takes, typed) = b.typed.typed in
      let e : Signal = plain (module_tree m) limits i (state k store) in
      ends_at e k o new store' none (after k b.represents (not_stuck e k i middle (good k middle takes b.around.locals))) ∙ sym b.represents.at
