-- Into inner sequences.
use Rattle.wasm_spec.specs.Execution.{Terms}
use Rattle.std.proofs.Common.{◌≡◌, ◌≢◌, ℕ, suc, ◌+◌, ◌*◌, ◌≤◌, List, [], ◌∷◌, ◌++◌, length, map, drop, reverse, Option, Some, None, sym, ap, ◌∙◌, subst, arith, length-append, false}
use Rattle.std.specs.Prelude.{slice_get}
use Rattle.std.proofs.lemmas.List.{length-reverse, length-map}
use Rattle.wasm_types.specs.declared.types.ValType.{ValType}
use Rattle.wasm_values.specs.declared.outcome.Val.{Val}
use Rattle.wasm_types.specs.declared.instr.Op.{Op}
use Rattle.wasm_types.specs.declared.instr.Op.TheVariants as op
use Rattle.wasm_types.specs.declared.module.Module.{Module}
use Rattle.wasm_types.specs.Tree.{Code, End, code_of, module_tree}
use Rattle.wasm_spec.specs.Typing.{Context, type_of, result_types, Typed, under}
use Rattle.wasm_spec.specs.Need.{highest, deepest}
use Rattle.wasm_spec.specs.Store.{Store}
use Rattle.wasm_spec.specs.Execution.{State, OutOfFuel, Ended, Continuation, exec, leave, inside}
use Rattle.wasm_types.proofs.SequenceLemmas.{code_at-within, code_at-past}
use Rattle.wasm_spec.proofs.NeedLaws.{highest-least, deepest-least}
use Rattle.wasm_spec.proofs.Equations.{exec-End, exec-Block, exec-Loop, exec-zero}
use Rattle.wasm_types.specs.Sequences.{code_at, earlier, named_in, ops_of}
use Rattle.machine_steps.specs.declared.machine.Position.{Position}
use Rattle.machine_steps.specs.declared.machine.Machine.{Machine}
use Rattle.machine_steps.specs.Configuration.{OpenBlock, Activation, Configuration, state}
use Rattle.wasm_machine.specs.Remaining.{function_of, after_sequence}
use Rattle.machine_steps.specs.StackLayout as flat
use Rattle.machine_steps.specs.StackLayout.{frames_under, labels_of, labels_under, Represents, KeepsRoom}
use Rattle.wasm_machine.specs.TypedConfiguration.{operand_count, IsTypedCode, AreTypedActivations, IsTypedAt, local_types, context}
use Rattle.wasm_spec.specs.Bulk.{code_uses_bulk, uses_bulk}
use Rattle.wasm_spec.proofs.NarrowModules.{neither}
use Rattle.wasm_machine.specs.Simulation.{HasFetched, Simulates, AtEnd, SimulatesExit, body_of, doing, op_at, paid}
use Rattle.machine_steps.specs.PlainSteps.{in_block}
use Rattle.wasm_machine.proofs.RemainingLemmas.{after_sequence-OutOfFuel}
use Rattle.machine_steps.proofs.StackLayoutLemmas.{labels-length, room_kept}

-- ---- room

module _ (m : Module) (frame : ℕ) where
  -- a frame holds its locals, its operands and its labels
  pub frame_fits : (x : ℕ) (os : List OpenBlock) (code : Code) (ts : List ValType) → IsTypedCode m frame x os code ts
      → length (local_types m frame x) + operand_count os + length ts + length os + 1 ≤ frame
  frame_fits x os code ts c =
      let f = c.fits in
      omega (arith, highest-least (operand_count os) (context m frame x os) code (length ts), deepest-least (length os + 1) code)

  pub length-under : (bottom : List Val) (os : List OpenBlock) → length (flat.operands_under bottom os) ≡ length bottom + operand_count os
  length-under bottom [] = omega arith
  length-under bottom (o ∷ os) = omega (arith, length-append (flat.operands_under bottom os) (reverse o.below), length-under bottom os, length-reverse o.below)

  pub beneath_fits : (x : ℕ) (cs : List Activation) → AreTypedActivations m frame x cs → (length (frames_under cs) ≤ length cs * frame) × (length (labels_under cs) ≤ length cs * frame)
  beneath_fits x [] t = (omega arith, omega arith)
  beneath_fits x (c ∷ cs) (caller, activations) =
      let (values, labels) = beneath_fits c.function cs activations in
      let fits = frame_fits c.function c.blocks _ _ caller.resumes in
      let as_many : length c.locals ≡ length (local_types m frame c.function) = sym (length-map c.locals type_of) ∙ ap length caller.locals in (
        omega (
          arith,
          length-append (flat.operands_under (frames_under cs ++ c.locals) c.blocks) (reverse c.below),
          length-reverse c.below,
          length-under (frames_under cs ++ c.locals) c.blocks,
          length-append (frames_under cs) c.locals,
          length-append {A = ValType},
          length-map c.below type_of,
        ),
        omega (arith, length-append (labels_under cs) (labels_of (frames_under cs ++ c.locals) c.blocks), labels-length (frames_under cs ++ c.locals) c.blocks),
      )

-- ---- an instruction begins

module _ (m : Module) (limits : Terms) (frame : ℕ) where
  -- a machine at an instruction goes behind it
  pub begins : (old new : Machine) (store : Store) (o : Op) (r : ℕ → Ended) → Simulates m limits frame old store r → op_at m old ≡ Some o
      → new.at ≡ record old.at { place = old.at.place + 1 } → new.values.items ≡ old.values.items → new.labels.items ≡ old.labels.items → new.frames.items ≡ old.frames.items → KeepsRoom old new
      → HasFetched m limits frame new store old.at.place o r
  begins old new store o r e there ats values labels frames keeps =
      let k = e.configuration in
      let body = body_of m k in
      let place : k.place ≡ old.at.place = sym (ap (λ (a : Position). a.place) e.represents.at) in
      let found : slice_get (ops_of body k.sequence) k.place ≡ Some o = ap (λ (a : Position). slice_get (ops_of (function_of m a.function).body a.sequence) a.place) (sym e.represents.at) ∙ there in
      let code : code_at body k.sequence k.place ≡ doing m o (record k { place = k.place + 1 }) = code_at-within body k.sequence k.place o found in
      record {
        configuration = record k { place = k.place + 1 };
        represents = record { at = ats ∙ ap (λ (a : Position). record a { place = a.place + 1 }) e.represents.at; values = values ∙ e.represents.values; labels = labels ∙ e.represents.labels; frames = frames ∙ e.represents.frames };
        is = subst (λ (p : ℕ). code_at body k.sequence p ≡ doing m o (record k { place = k.place + 1 })) place code;
        typed = subst (λ (c : Code). IsTypedCode m frame k.function k.blocks c (map type_of k.operands)) code e.typed.here;
        around = record { locals = e.typed.around.locals; blocks = e.typed.around.blocks; activations = e.typed.around.activations; deep = e.typed.around.deep; there = e.typed.around.there };
        stored = e.stored;
        room = room_kept limits.depth frame old new e.room keeps;
        goes = λ fuel. ap (λ (c : Code). after_sequence m limits k (exec (module_tree m) limits (length k.activations + 1) c (state k store) fuel)) (sym code) ∙ e.goes fuel;
      }

  -- into a block
  pub block_goes : (old new : Machine) (store : Store) (here inner n : ℕ) (t : Option ValType) (r : ℕ → Ended) (b : HasFetched m limits frame old store here (op.Block t n) r)
      → code_at (body_of m b.configuration) inner 0 ≡ named_in (body_of m b.configuration) b.configuration.sequence n
      → ((k : Configuration) → Represents k old → Represents (in_block k (result_types t) (result_types t) k.place inner) new) → KeepsRoom old new → Simulates m limits frame new store (paid r)
  block_goes old new store here inner n t r b named represents keeps =
      let k = b.configuration in
      let e = body_of m k in
      let x = k.function in
      let os = k.blocks in
      let C : Context = context m frame x os in
      let body : Code = named_in e k.sequence n in
      let rest : Code = code_at e k.sequence k.place in
      let ts = map type_of k.operands in
      let long : length ts ≡ length k.operands = length-map k.operands type_of in
      let (inside_typed, rest_typed) = b.typed.typed in
      let fits = b.typed.fits in
      let base : highest (operand_count os + length k.operands) (under (result_types t) C) body 0 ≡ highest (operand_count os + length ts) (under (result_types t) C) body 0 = ap (λ (z : ℕ). highest (operand_count os + z) (under (result_types t) C) body 0) (sym long) in
      let after : highest (operand_count os) C rest (length (result_types t ++ ts)) ≡ highest (operand_count os) C rest (length ts + length (result_types t)) =
      ap (λ (z : ℕ). highest (operand_count os) C rest z) (omega (arith, length-append (result_types t) ts)) in
      let deep : deepest (suc (length os) + 1) body ≡ deepest (length os + 1 + 1) body = ap (λ (z : ℕ). deepest z body) (omega arith) in
      let resumes : IsTypedAt m frame x os (result_types t ++ ts) k.sequence k.place = record { typed = rest_typed; fits = omega arith; narrow = λ e. (neither (code_uses_bulk body) (code_uses_bulk rest) (b.typed.narrow e)).1 } in
      let d = length k.activations + 1 in
      record {
        configuration = in_block k (result_types t) (result_types t) k.place inner;
        represents = represents k b.represents;
        typed = record {
          here = record {
            typed = subst (λ (c : Code). Typed (under (result_types t) C) c [] (result_types t)) (sym named) inside_typed;
            fits = subst (λ (c : Code). length (local_types m frame x) + highest (operand_count os + length k.operands) (under (result_types t) C) c 0 + deepest (suc (length os) + 1) c ≤ frame) (sym named) (omega arith);
            narrow = subst (λ (c : Code). uses_bulk (module_tree m) ≡ false → code_uses_bulk c ≡ false) (sym named) (λ e. (neither (code_uses_bulk body) (code_uses_bulk rest) (b.typed.narrow e)).0);
          };
          around = record { locals = b.around.locals; blocks = (record { at_end = resumes; at_branch = resumes }, b.around.blocks); activations = b.around.activations; deep = b.around.deep; there = b.around.there };
        };
        stored = b.stored;
        room = room_kept limits.depth frame old new b.room keeps;
        goes = λ fuel.
            let next : Continuation = exec (module_tree m) limits d rest in
            let s : State = state k store in
            ap (after_sequence m limits k)
            (ap (λ (c : Code). leave (length (result_types t)) k.operands (exec (module_tree m) limits d c (inside s) fuel) next next) named
            ∙ sym (exec-Block (module_tree m) limits d t body rest s fuel))
            ∙ b.goes (suc fuel);
      }

  -- into a loop: a branch to it comes back to the loop itself
  pub loop_goes : (old new : Machine) (store : Store) (here inner n : ℕ) (t : Option ValType) (r : ℕ → Ended) (b : HasFetched m limits frame old store here (op.Loop t n) r)
      → code_at (body_of m b.configuration) inner 0 ≡ named_in (body_of m b.configuration) b.configuration.sequence n
      → ((k : Configuration) → Represents k old → Represents (in_block k [] (result_types t) here inner) new) → KeepsRoom old new → Simulates m limits frame new store (paid r)
  loop_goes old new store here inner n t r b named represents keeps =
      let k = b.configuration in
      let e = body_of m k in
      let x = k.function in
      let os = k.blocks in
      let C : Context = context m frame x os in
      let body : Code = named_in e k.sequence n in
      let rest : Code = code_at e k.sequence k.place in
      let ts = map type_of k.operands in
      let long : length ts ≡ length k.operands = length-map k.operands type_of in
      let (inside_typed, rest_typed) = b.typed.typed in
      let fits = b.typed.fits in
      let base : highest (operand_count os + length k.operands) (under [] C) body 0 ≡ highest (operand_count os + length ts) (under [] C) body 0 = ap (λ (z : ℕ). highest (operand_count os + z) (under [] C) body 0) (sym long) in
      let after : highest (operand_count os) C rest (length (result_types t ++ ts)) ≡ highest (operand_count os) C rest (length ts + length (result_types t)) =
      ap (λ (z : ℕ). highest (operand_count os) C rest z) (omega (arith, length-append (result_types t) ts)) in
      let deep : deepest (suc (length os) + 1) body ≡ deepest (length os + 1 + 1) body = ap (λ (z : ℕ). deepest z body) (omega arith) in
      let resumes : IsTypedAt m frame x os (result_types t ++ ts) k.sequence k.place = record { typed = rest_typed; fits = omega arith; narrow = λ e. (neither (code_uses_bulk body) (code_uses_bulk rest) (b.typed.narrow e)).1 } in
      let again : IsTypedAt m frame x os ts k.sequence here = subst (λ (c : Code). IsTypedCode m frame x os c ts) (sym b.is) b.typed in
      let d = length k.activations + 1 in
      record {
        configuration = in_block k [] (result_types t) here inner;
        represents = represents k b.represents;
        typed = record {
          here = record {
            typed = subst (λ (c : Code). Typed (under [] C) c [] (result_types t)) (sym named) inside_typed;
            fits = subst (λ (c : Code). length (local_types m frame x) + highest (operand_count os + length k.operands) (under [] C) c 0 + deepest (suc (length os) + 1) c ≤ frame) (sym named) (omega arith);
            narrow = subst (λ (c : Code). uses_bulk (module_tree m) ≡ false → code_uses_bulk c ≡ false) (sym named) (λ e. (neither (code_uses_bulk body) (code_uses_bulk rest) (b.typed.narrow e)).0);
          };
          around = record { locals = b.around.locals; blocks = (record { at_end = resumes; at_branch = again }, b.around.blocks); activations = b.around.activations; deep = b.around.deep; there = b.around.there };
        };
        stored = b.stored;
        room = room_kept limits.depth frame old new b.room keeps;
        goes = λ fuel.
            let next : Continuation = exec (module_tree m) limits d rest in
            let s : State = state k store in
            ap (after_sequence m limits k)
            (ap (λ (c : Code). leave 0 k.operands (exec (module_tree m) limits d c (inside s) fuel) next (exec (module_tree m) limits d (code_at e k.sequence here))) named
            ∙ ap (λ (c : Code). leave 0 k.operands (exec (module_tree m) limits d body (inside s) fuel) next (exec (module_tree m) limits d c)) b.is
            ∙ sym (exec-Loop (module_tree m) limits d t body rest s fuel))
            ∙ b.goes (suc fuel);
      }

  -- ---- ends of sequences, and the end of the fuel

  pub at_end : (machine : Machine) (store : Store) (r : ℕ → Ended) → Simulates m limits frame machine store r → op_at m machine ≡ None → SimulatesExit AtEnd m limits frame machine store r
  at_end machine store r e none =
      let k = e.configuration in
      let body = body_of m k in
      let found : slice_get (ops_of body k.sequence) k.place ≡ None = ap (λ (a : Position). slice_get (ops_of (function_of m a.function).body a.sequence) a.place) (sym e.represents.at) ∙ none in
      let code : code_at body k.sequence k.place ≡ End = code_at-past body k.sequence k.place found in
      let here : IsTypedCode m frame k.function k.blocks End (map type_of k.operands) = subst (λ (c : Code). IsTypedCode m frame k.function k.blocks c (map type_of k.operands)) code e.typed.here in
      record {
        configuration = k;
        represents = e.represents;
        around = e.typed.around;
        stored = e.stored;
        room = e.room;
        ready = here.typed;
        goes = λ fuel.
            ap (after_sequence m limits k) (sym (ap (λ (c : Code). exec (module_tree m) limits (length k.activations + 1) c (state k store) fuel) code ∙ exec-End (module_tree m) limits (length k.activations + 1) (state k store) fuel))
            ∙ e.goes fuel;
      }

  longer : (done : List Code) (o : Op) (ops : List Op) → code_of done (o ∷ ops) ≢ End
  longer done (op.Plain i) ops e = cc
  longer done (op.Block t n) ops e = cc
  longer done (op.Loop t n) ops e = cc
  longer done (op.If t n j) ops e = cc
  longer done (op.Call x) ops e = cc
  longer done (op.CallIndirect x) ops e = cc

  pub no_fuel : (machine : Machine) (store : Store) (r : ℕ → Ended) (o : Op) → Simulates m limits frame machine store r → op_at m machine ≡ Some o → r 0 ≡ (OutOfFuel store, 0)
  no_fuel machine store r o e there =
      let k = e.configuration in
      let body = body_of m k in
      let found : slice_get (ops_of body k.sequence) k.place ≡ Some o = ap (λ (a : Position). slice_get (ops_of (function_of m a.function).body a.sequence) a.place) (sym e.represents.at) ∙ there in
      let code : code_at body k.sequence k.place ≡ doing m o (record k { place = k.place + 1 }) = code_at-within body k.sequence k.place o found in
      sym (e.goes 0)
      ∙ ap (after_sequence m limits k) (ap (λ (c : Code). exec (module_tree m) limits (length k.activations + 1) c (state k store) 0) code
      ∙ exec-zero (module_tree m) limits (length k.activations + 1) (doing m o (record k { place = k.place + 1 })) (state k store) (longer (earlier body k.sequence) o (drop (k.place + 1) (ops_of body k.sequence))))
      ∙ after_sequence-OutOfFuel m limits k store 0
