-- The beginning of a run.
use Rattle.wasm_types.specs.declared.types.FuncType.{FuncType}
use Rattle.wasm_types.proofs.SequenceLemmas.{tree_is}
use Rattle.wasm_spec.specs.Execution.{Terms}
use Rattle.std.proofs.Common.{◌≡◌, ℕ, ◌+◌, ◌<◌, List, [], ◌++◌, false, length, map, take, drop, reverse, Option, Some, refl, sym, ap, ◌∙◌, arith, append-nil}
use Rattle.std.proofs.lemmas.List.{length-map, length-reverse, reverse-reverse, take_all, drop_all}
use Rattle.wasm_types.specs.declared.types.ValType.{ValType}
use Rattle.wasm_values.specs.declared.outcome.Val.{Val}
use Rattle.wasm_types.specs.declared.module.Module.{Module}
use Rattle.wasm_types.specs.Tree.{Code, FunctionTree, function_tree, module_tree}
use Rattle.wasm_spec.specs.Typing.{type_of, type_or_empty}
use Rattle.wasm_spec.specs.Validity.{has_float}
use Rattle.wasm_spec.specs.Store.{Store}
use Rattle.std.specs.Prelude.{option_map}
use Rattle.wasm_spec.specs.Functions.{Own}
use Rattle.wasm_spec.proofs.FunctionNumbers.{callee-own}
use Rattle.wasm_spec.specs.Execution.{State, Ended, exec, call as called, return, zero_of}
use Rattle.wasm_spec.specs.Result.{finish, run_function}
use Rattle.wasm_types.specs.Sequences.{code_at}
use Rattle.machine_steps.specs.declared.machine.Machine.{Machine}
use Rattle.wasm_machine.specs.Calls.{IsOwnCall}
use Rattle.wasm_machine.specs.Remaining.{body_type, resting, function_of, results}
use Rattle.machine_steps.specs.StackLayout.{HasRoom, KeepsRoom}
use Rattle.wasm_machine.specs.TypedConfiguration.{IsRunnable, IsTypedStore, local_types}
use Rattle.wasm_machine.specs.Simulation.{Simulates, start_of}
use Rattle.wasm_machine.proofs.FunctionLemmas.{own_there}
use Rattle.wasm_machine.proofs.LabelLemmas.{map-append}
use Rattle.machine_steps.proofs.StackLayoutLemmas.{room_kept}
use Rattle.wasm_machine.proofs.CallLemmas.{type_known, tree_known, body_resumes, no_floats, zero_types, same_return, entered_by}
use Rattle.wasm_machine.proofs.StepLemmas.{calls_it}

pub begins_run : (m : Module) (limits : Terms) (frame x : ℕ) (args : List Val) (old new : Machine) (store : Store) → IsRunnable m frame → IsOwnCall m x args → 0 < limits.depth → IsTypedStore m store → HasRoom limits.depth frame old → KeepsRoom old new
    → new.at ≡ record { function = x; sequence = start_of m x; place = 0; locals = 0; labels = 0 } → new.values.items ≡ args ++ map zero_of (function_tree (function_of m x)).locals → new.labels.items ≡ [] → new.frames.items ≡ []
    → Simulates m limits frame new store (run_function (module_tree m) limits (length m.imports + x) args store)
begins_run m limits frame x args old new store run call deep stored room keeps at values labels frames =
    let f = call.function in
    let t = call.type in
    let n = length t.params in
    let zeros = (function_tree (function_of m x)).locals in
    let known : body_type (module_tree m) x ≡ Some t = type_known m frame x f t run call.there call.typed in
    let tree : f ≡ function_tree (function_of m x) = tree_known m frame x f t run call.there call.typed in
    let gives : results m x ≡ t.results = ap (λ (o : Option FuncType). (type_or_empty o).results) known in
    let floats : has_float zeros ≡ false = ap (λ (g : FunctionTree). has_float g.locals) (sym tree) ∙ no_floats m x f run.supported call.there in
    let locals : map type_of (args ++ map zero_of zeros) ≡ local_types m frame x =
    map-append args (map zero_of zeros)
    ∙ ap (λ (l : List ValType). l ++ map type_of (map zero_of zeros)) (call.args_fit ∙ ap (λ (o : Option FuncType). (type_or_empty o).params) (sym known))
    ∙ ap (λ (l : List ValType). (type_or_empty (body_type (module_tree m) x)).params ++ l) (zero_types zeros floats) in
    let counted : length args ≡ n = sym (length-map args type_of) ∙ ap length call.args_fit in
    let whole : take n (reverse args) ≡ reverse args = take_all n (reverse args) (omega (arith, length-reverse args)) in
    let arguments : reverse (take n (reverse args)) ≡ args = ap reverse whole ∙ reverse-reverse args in
    let none : drop n (reverse args) ≡ [] = drop_all n (reverse args) (omega (arith, length-reverse args)) in
    let body : code_at (function_of m x).body (start_of m x) 0 ≡ f.body = sym (ap (λ (g : FunctionTree). g.body) tree ∙ tree_is (function_of m x).body (start_of m x)) in
    let s : State = record { locals = []; operands = reverse args; store = store } in
    record {
      configuration = record { function = x; sequence = start_of m x; place = 0; locals = args ++ map zero_of zeros; operands = []; blocks = []; activations = [] };
      represents = record { at = at; values = values ∙ sym (append-nil (args ++ map zero_of zeros)); labels = labels; frames = frames };
      typed = record {
        here = body_resumes m frame x f t run call.there call.typed;
        around = record { locals = locals; blocks = tt; activations = tt; deep = omega arith; there = own_there m x f call.there };
      };
      stored = stored;
      room = room_kept limits.depth frame old new room keeps;
      goes = λ fuel.
          let u : State = record { locals = args ++ map zero_of zeros; operands = []; store = store } in
          let e : Ended = exec (module_tree m) limits 1 f.body u fuel in
          ap (λ (c : Code). return (length (results m x)) (resting []) [] (exec (module_tree m) limits 1 c u fuel) finish) body
          ∙ ap (λ (z : ℕ). return z (resting []) [] e finish) (ap length gives)
          ∙ same_return (length t.results) (resting []) s [] e.0 e.1 finish refl
          ∙ ap (λ (below : List Val). return (length t.results) s below e finish) (sym none)
          ∙ ap (λ (ls : List Val). return (length t.results) s (drop n (reverse args)) (exec (module_tree m) limits 1 f.body (record { locals = ls ++ map zero_of zeros; operands = []; store = store }) fuel) finish) (sym arguments)
          ∙ ap (λ (g : FunctionTree). return (length t.results) s (drop n (reverse args)) (exec (module_tree m) limits 1 f.body (record { locals = reverse (take n (reverse args)) ++ map zero_of g.locals; operands = []; store = store }) fuel) finish) (sym tree)
          ∙ sym (entered_by limits 0 f t (exec (module_tree m) limits 1 f.body) finish s fuel (omega (arith, length-reverse args)) deep)
          ∙ sym (calls_it m (length m.imports + x) (Own f) t (called (module_tree m) limits 0 (exec (module_tree m) limits 1) finish) s fuel
          (callee-own (module_tree m) x ∙ ap (option_map (λ (g : FunctionTree). Own g)) call.there) call.typed);
    }
