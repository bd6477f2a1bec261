-- The equations of `exec`, one for each form of code. All that is proved about execution stands on these, and `exec` stays
-- shut.
use Rattle.std.proofs.Common.{◌≡◌, ◌≢◌, ℕ, suc, ◌+◌, ◌<◌, length, Option, refl, ap, ◌∙◌, arith}
use Rattle.std.specs.Prelude.{slice_get}
use Rattle.wasm_types.specs.declared.types.ValType.{ValType}
use Rattle.wasm_types.specs.declared.instr.Instr.{Instr}
use Rattle.wasm_values.specs.declared.outcome.TrapKind.TheVariants as trap
use Rattle.wasm_types.specs.SameTypes.{same_type}
use Rattle.wasm_types.specs.Tree.{Code, End, Plain, Block, Loop, If, Call, CallIndirect, ModuleTree}
use Rattle.wasm_spec.specs.Typing.{result_types}
use Rattle.wasm_spec.specs.Execution.{Terms, State, Next, Trapped, OutOfFuel, Ended, Continuation, plain, and_then, leave, pop_index, inside, arm, with_function, call, typed_call, element_call, exec_within, exec}
use Rattle.wasm_spec.proofs.FuelLaws.{Spends, Agree, within-spends, within-exec, and_then-same, leave-same, call-same, within_body, with_function-same, if_there-same, with_element-same, pop_index-same, choose, choose-same, choose-spends, if_so-same}

module _ (m : ModuleTree) (limits : Terms) where
  -- below k, any index from k on goes on as `exec` does
  agree : (n k : ℕ) (c : Code) (depth : ℕ) → k < n + 1 → Agree k (exec_within m limits n c depth) (exec m limits depth c)
  agree n k c depth le s fuel lt = within-exec m limits n c depth s fuel (omega arith)

  pub exec-End : (depth : ℕ) (s : State) (fuel : ℕ) → exec m limits depth End s fuel ≡ (Next s, fuel)
  unfolding exec
  exec-End depth s fuel = refl

  -- nothing but the end of a sequence is executed without fuel
  pub exec-zero : (depth : ℕ) (c : Code) (s : State) → c ≢ End → exec m limits depth c s 0 ≡ (OutOfFuel s.store, 0)
  unfolding exec
  exec-zero depth End s h = absurd (h refl)
  exec-zero depth (Plain i rest) s h = refl
  exec-zero depth (Block t body rest) s h = refl
  exec-zero depth (Loop t body rest) s h = refl
  exec-zero depth (If t first second rest) s h = refl
  exec-zero depth (Call x rest) s h = refl
  exec-zero depth (CallIndirect x rest) s h = refl

  pub exec-Plain : (depth : ℕ) (i : Instr) (rest : Code) (s : State) (fuel : ℕ)
      → exec m limits depth (Plain i rest) s (suc fuel) ≡ and_then (plain m limits i s) fuel (exec m limits depth rest)
  unfolding exec
  exec-Plain depth i rest s fuel =
      let n : ℕ = suc (suc fuel) in
      and_then-same (plain m limits i s) fuel (suc fuel) (exec_within m limits n rest depth) (exec m limits depth rest) (omega arith) (agree n (suc fuel) rest depth (omega arith))

  pub exec-Block : (depth : ℕ) (t : Option ValType) (body rest : Code) (s : State) (fuel : ℕ)
      → exec m limits depth (Block t body rest) s (suc fuel)
      ≡ leave (length (result_types t)) s.operands (exec m limits depth body (inside s) fuel) (exec m limits depth rest) (exec m limits depth rest)
  unfolding exec
  exec-Block depth t body rest s fuel =
      let n : ℕ = suc (suc fuel) in
      let go : Continuation = exec_within m limits n rest depth in
      let go' : Continuation = exec m limits depth rest in
      let h : Agree (suc fuel) go go' = agree n (suc fuel) rest depth (omega arith) in
      let inner : Ended = exec_within m limits n body depth (inside s) fuel in
      leave-same (length (result_types t)) s.operands inner.0 inner.1 (suc fuel) go go' go go' (omega (arith, within-spends m limits n body depth (inside s) fuel)) h h
      ∙ ap (λ (r : Ended). leave (length (result_types t)) s.operands r go' go') (within-exec m limits n body depth (inside s) fuel (omega arith))

  -- a branch to a loop goes back to the loop instruction
  pub exec-Loop : (depth : ℕ) (t : Option ValType) (body rest : Code) (s : State) (fuel : ℕ)
      → exec m limits depth (Loop t body rest) s (suc fuel)
      ≡ leave 0 s.operands (exec m limits depth body (inside s) fuel) (exec m limits depth rest) (exec m limits depth (Loop t body rest))
  unfolding exec
  exec-Loop depth t body rest s fuel =
      let n : ℕ = suc (suc fuel) in
      let go : Continuation = exec_within m limits n rest depth in
      let go' : Continuation = exec m limits depth rest in
      let again : Continuation = exec_within m limits (suc fuel) (Loop t body rest) depth in
      let again' : Continuation = exec m limits depth (Loop t body rest) in
      let h : Agree (suc fuel) go go' = agree n (suc fuel) rest depth (omega arith) in
      let back : Agree (suc fuel) again again' = agree (suc fuel) (suc fuel) (Loop t body rest) depth (omega arith) in
      let inner : Ended = exec_within m limits n body depth (inside s) fuel in
      leave-same 0 s.operands inner.0 inner.1 (suc fuel) go go' again again' (omega (arith, within-spends m limits n body depth (inside s) fuel)) h back
      ∙ ap (λ (r : Ended). leave 0 s.operands r go' again') (within-exec m limits n body depth (inside s) fuel (omega arith))

  pub exec-If : (depth : ℕ) (t : Option ValType) (first second rest : Code) (s : State) (fuel : ℕ)
      → exec m limits depth (If t first second rest) s (suc fuel) ≡ pop_index s.operands (arm t (exec m limits depth first) (exec m limits depth second) (exec m limits depth rest)) s fuel
  unfolding exec
  exec-If depth t first second rest s fuel =
      let n : ℕ = suc (suc fuel) in
      let go : Continuation = exec_within m limits n rest depth in
      let go' : Continuation = exec m limits depth rest in
      let h : Agree (suc fuel) go go' = agree n (suc fuel) rest depth (omega arith) in
      let a : Continuation = exec_within m limits n first depth in
      let b : Continuation = exec_within m limits n second depth in
      let a' : Continuation = exec m limits depth first in
      let b' : Continuation = exec m limits depth second in
      pop_index-same s.operands (suc fuel) _ (arm t (exec m limits depth first) (exec m limits depth second) (exec m limits depth rest)) (λ c s g l.
      let arm_spends : Spends (choose c a b) = choose-spends c a b (within-spends m limits n first depth) (within-spends m limits n second depth) in
      let arms : Agree (suc fuel) (choose c a b) (choose c a' b') = choose-same c (suc fuel) a a' b b' (agree n (suc fuel) first depth (omega arith)) (agree n (suc fuel) second depth (omega arith)) in
      leave-same (length (result_types t)) s.operands (choose c a b (inside s) g).0 (choose c a b (inside s) g).1 (suc fuel) go go' go go' (omega (arith, arm_spends (inside s) g)) h h
      ∙ ap (λ (r : Ended). leave (length (result_types t)) s.operands r go' go') (arms (inside s) g l)) s fuel (omega arith)

  pub exec-Call : (depth x : ℕ) (rest : Code) (s : State) (fuel : ℕ)
      → exec m limits depth (Call x rest) s (suc fuel) ≡ with_function m x (call m limits depth (exec m limits (depth + 1)) (exec m limits depth rest)) s fuel
  unfolding exec
  exec-Call depth x rest s fuel =
      let n : ℕ = suc fuel in
      with_function-same m x n _ (call m limits depth (exec m limits (depth + 1)) (exec m limits depth rest)) (λ c t.
      call-same m limits depth n (within_body m limits n depth) (exec m limits (depth + 1)) (exec_within m limits (suc n) rest depth) (exec m limits depth rest) c t
      (λ code. within-spends m limits n code (depth + 1)) (λ code. agree n n code (depth + 1) (omega arith)) (agree (suc n) n rest depth (omega arith))) s fuel (omega arith)

  pub exec-CallIndirect : (depth x : ℕ) (rest : Code) (s : State) (fuel : ℕ)
      → exec m limits depth (CallIndirect x rest) s (suc fuel) ≡ pop_index s.operands (element_call m limits depth (exec m limits (depth + 1)) (exec m limits depth rest) x) s fuel
  unfolding exec
  exec-CallIndirect depth x rest s fuel =
      let n : ℕ = suc fuel in
      pop_index-same s.operands n _ (element_call m limits depth (exec m limits (depth + 1)) (exec m limits depth rest) x) (λ i s. with_element-same (slice_get s.store.table i) n _ _ (λ y.
      if_there-same (slice_get m.types x) n _ _ (λ u. with_function-same m y n _ (typed_call m limits depth (exec m limits (depth + 1)) (exec m limits depth rest) u) (λ c t s.
      let run : Code → Continuation = within_body m limits n depth in
      let run' : Code → Continuation = exec m limits (depth + 1) in
      let go : Continuation = exec_within m limits (suc n) rest depth in
      let go' : Continuation = exec m limits depth rest in
      if_so-same (same_type u t) (Trapped trap.Signature s.store) n (call m limits depth run go c t) (call m limits depth run' go' c t)
      (call-same m limits depth n run run' go go' c t (λ code. within-spends m limits n code (depth + 1)) (λ code. agree n n code (depth + 1) (omega arith)) (agree (suc n) n rest depth (omega arith))) s))) s) s fuel (omega arith)
