-- A call of an import never ends for want of fuel, since it costs nothing itself.
use Rattle.std.proofs.Common.{◌≡◌, ℕ, ◌+◌, List, [], ◌∷◌, length, Bool, true, false, Option, Some, None, refl, ap, ◌∙◌}
use Rattle.std.specs.Prelude.{nat_lt, if◌then◌else◌}
use Rattle.wasm_types.specs.declared.types.FuncType.{FuncType}
use Rattle.wasm_values.specs.declared.outcome.Val.{Val}
use Rattle.wasm_types.specs.declared.instr.Width.{Width}
use Rattle.wasm_types.specs.declared.instr.Width.TheVariants.{W32}
use Rattle.wasm_types.specs.declared.module.Import.{Import}
use Rattle.wasm_types.specs.declared.host.HostFunction.{HostFunction}
use Rattle.wasm_types.specs.declared.host.HostFunction.TheVariants as host
use Rattle.wasm_types.specs.Tree.{ModuleTree}
use Rattle.wasm_spec.specs.Functions.{Callee, Imported, callee_at, callee_type, host_function}
use Rattle.wasm_spec.specs.Execution.{Terms, State, Signal, Next, Branch, Returned, Trapped, OutOfFuel, Stuck, number, given, pop_number, lies_within, most_answer, host_call, import_call, and_then, call, exec, if_there, with_function}
use Rattle.wasm_spec.specs.Result.{finish, result_of}
use Rattle.wasm_spec.specs.MoreFuel.{is_fuel_end}
use Rattle.wasm_spec.proofs.MoreFuel.{is_out}

given-ends : {A : Type 0} (o : Option A) (next : A → Signal) → ((x : A) → is_out (next x) ≡ false) → is_out (given o next) ≡ false
given-ends None next h = refl
given-ends (Some x) next h = h x

number-ends : (w : Width) (vs : List Val) (next : ℕ → List Val → Signal) → ((n : ℕ) (r : List Val) → is_out (next n r) ≡ false) → is_out (pop_number w vs next) ≡ false
number-ends w [] next h = refl
number-ends w (x ∷ r) next h = given-ends (number w x) (λ n. next n r) (λ n. h n r)

either-ends : (b : Bool) (x y : Signal) → is_out x ≡ false → is_out y ≡ false → is_out (if b then x else y) ≡ false
either-ends true x y h k = h
either-ends false x y h k = k

host-ends : (request : List ℕ) (h : HostFunction) (s : State) → is_out (host_call request h s) ≡ false
host-ends request host.Len s = refl
host-ends request host.Read s = number-ends W32 s.operands _ (λ n xs. number-ends W32 xs _ (λ from ys. number-ends W32 ys _ (λ to vs.
    either-ends (lies_within s.store to n) _ _ refl refl)))
host-ends request host.Write s = number-ends W32 s.operands _ (λ n xs. number-ends W32 xs _ (λ from vs.
    either-ends (lies_within s.store from n) _ _ (either-ends (nat_lt most_answer (length s.store.answer + n)) _ _ refl refl) refl))

import-ends : (request : List ℕ) (i : Import) (s : State) → is_out (import_call request i s) ≡ false
import-ends request i s = given-ends (host_function i) _ (λ h. host-ends request h s)

finish-ends : (signal : Signal) (fuel : ℕ) → is_out signal ≡ false → is_out (and_then signal fuel finish).0 ≡ false
finish-ends (Next s) fuel h = refl
finish-ends (Branch l s) fuel h = refl
finish-ends (Returned s) fuel h = refl
finish-ends (Trapped t store) fuel h = refl
finish-ends (OutOfFuel store) fuel h = h
finish-ends Stuck fuel h = refl

result-ends : (signal : Signal) (fuel : ℕ) → is_out signal ≡ false → is_fuel_end (result_of (signal, fuel)) ≡ false
result-ends (Next s) fuel h = refl
result-ends (Branch l s) fuel h = refl
result-ends (Returned s) fuel h = refl
result-ends (Trapped t store) fuel h = refl
result-ends (OutOfFuel store) fuel h = h
result-ends Stuck fuel h = refl

module _ (m : ModuleTree) (limits : Terms) where
  -- An import that is called from outside does not end for want of fuel.
  pub imported-ends : (x : ℕ) (i : Import) (s : State) (fuel : ℕ) → callee_at m x ≡ Some (Imported i)
      → is_fuel_end (result_of ((with_function m x (call m limits 0 (exec m limits 1) finish) s fuel).0, (with_function m x (call m limits 0 (exec m limits 1) finish) s fuel).1)) ≡ false
  imported-ends x i s fuel there =
      result-ends (with_function m x (call m limits 0 (exec m limits 1) finish) s fuel).0 (with_function m x (call m limits 0 (exec m limits 1) finish) s fuel).1
      (ap (λ (o : Option Callee). is_out (if_there o (λ c. if_there (callee_type m c) (call m limits 0 (exec m limits 1) finish c)) s fuel).0) there ∙ typed (callee_type m (Imported i))) where
        typed : (o : Option FuncType) → is_out (if_there o (call m limits 0 (exec m limits 1) finish (Imported i)) s fuel).0 ≡ false
        typed None = refl
        typed (Some t) = finish-ends (import_call limits.request i s) fuel (import-ends limits.request i s)
