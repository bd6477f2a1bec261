-- A run that does not end for want of fuel ends the same on more fuel, and leaves what it was given more.
use Rattle.std.proofs.Common.{◌≡◌, ℕ, zero, suc, ◌+◌, ◌<◌, ◌≤◌, List, [], ◌∷◌, ◌++◌, length, take, drop, Option, Some, None, Bool, true, false, refl, sym, ap, ◌∙◌, subst, arith, true≢false}
use Rattle.std.specs.Prelude.{nat_lt, nat_le, slice_get, reverse, if◌then◌else◌}
use Rattle.wasm_types.specs.declared.types.FuncType.{FuncType}
use Rattle.wasm_values.specs.declared.outcome.Val.{Val}
use Rattle.wasm_values.specs.declared.outcome.Val.TheVariants as val
use Rattle.wasm_values.specs.declared.outcome.Outcome.{Outcome}
use Rattle.wasm_values.specs.declared.outcome.Outcome.TheVariants as outcome
use Rattle.wasm_values.specs.declared.outcome.TrapKind.TheVariants as trap
use Rattle.wasm_types.specs.Tree.{Code, End, Plain, Block, Loop, If, Call, CallIndirect, FunctionTree, ModuleTree}
use Rattle.wasm_types.specs.SameTypes.{same_type}
use Rattle.wasm_spec.specs.Functions.{Callee, Imported, Own, callee_at, callee_type}
use Rattle.wasm_spec.specs.Store.{Store}
use Rattle.wasm_spec.specs.Typing.{result_types}
use Rattle.wasm_spec.specs.Execution.{Terms, call, import_call, State, Signal, Next, Branch, Returned, Trapped, OutOfFuel, Stuck, Ended, Continuation, plain, pay, and_then, keep, leave, pop_index, inside, return, entered, invoke, if_there, with_function, with_element, exec_within, exec}
use Rattle.wasm_spec.specs.Result.{CallResult, is_done, finish, run_function, result_of, function_result, if_done, after_start, result_from}
use Rattle.wasm_spec.specs.MoreFuel.{is_fuel, is_fuel_end, with_more}
use Rattle.wasm_spec.proofs.FuelLaws.{unless, if_so, choose, callee, Spends, within_body, within_call, within-spends, within-exec, choose-spends, exec-spends}

-- what follows a run that ended so, and else its own result
abbrev pub if_done_by : Outcome → CallResult → (Store → ℕ → Option CallResult) → Option CallResult
if_done_by o r next = if is_done o then next r.store r.fuel else Some r

abbrev pub is_out : Signal → Bool
is_out (OutOfFuel store) = true
is_out signal = false

-- the same end with so much more fuel left
abbrev pub more : ℕ → Ended → Ended
more d e = (e.0, e.1 + d)

module _ (d : ℕ) where
  -- on so much more fuel it ends the same, where no more than k is left
  abbrev pub Grows : ℕ → Continuation → Type 0
  Grows k next = (s : State) (fuel : ℕ) → fuel + d < k → is_out (next s fuel).0 ≡ false → next s (fuel + d) ≡ more d (next s fuel)

  pay-more : (store : Store) (fuel : ℕ) (next : ℕ → Ended) → ((g : ℕ) → fuel ≡ suc g → is_out (next g).0 ≡ false → next (g + d) ≡ more d (next g))
      → is_out (pay store fuel next).0 ≡ false → pay store (fuel + d) next ≡ more d (pay store fuel next)
  pay-more store zero next h out = absurd (true≢false out)
  pay-more store (suc g) next h out = let up : suc g + d ≡ suc (g + d) = omega arith in ap (λ (n : ℕ). pay store n next) up ∙ h g refl out

  and_then-more : (k : ℕ) (signal : Signal) (fuel : ℕ) (next : Continuation) → Grows k next → fuel + d < k → is_out (and_then signal fuel next).0 ≡ false
      → and_then signal (fuel + d) next ≡ more d (and_then signal fuel next)
  and_then-more k (Next s) fuel next h lt out = h s fuel lt out
  and_then-more k (Branch l s) fuel next h lt out = refl
  and_then-more k (Returned s) fuel next h lt out = refl
  and_then-more k (Trapped t store) fuel next h lt out = refl
  and_then-more k (OutOfFuel store) fuel next h lt out = absurd (true≢false out)
  and_then-more k Stuck fuel next h lt out = refl

  unless-more : (k : ℕ) (test : Bool) (signal : Signal) (next : Continuation) → Grows k next → Grows k (unless test signal next)
  unless-more k true signal next h s fuel lt out = refl
  unless-more k false signal next h s fuel lt out = h s fuel lt out

  if_so-more : (k : ℕ) (test : Bool) (signal : Signal) (next : Continuation) → Grows k next → Grows k (if_so test signal next)
  if_so-more k true signal next h s fuel lt out = h s fuel lt out
  if_so-more k false signal next h s fuel lt out = refl

  keep-more : (k n : ℕ) (below : List Val) (next : Continuation) → Grows k next → Grows k (keep n below next)
  keep-more k n below next h s fuel lt out = unless-more k (nat_lt (length s.operands) n) Stuck next h (record s { operands = take n s.operands ++ below }) fuel lt out

  leave-more : (k n : ℕ) (below : List Val) (signal : Signal) (fuel : ℕ) (next target : Continuation) → Grows k next → Grows k target → fuel + d < k
      → is_out (leave n below (signal, fuel) next target).0 ≡ false → leave n below (signal, fuel + d) next target ≡ more d (leave n below (signal, fuel) next target)
  leave-more k n below (Next s) fuel next target h h' lt out = h (record s { operands = s.operands ++ below }) fuel lt out
  leave-more k n below (Branch zero s) fuel next target h h' lt out = keep-more k n below target h' s fuel lt out
  leave-more k n below (Branch (suc l) s) fuel next target h h' lt out = refl
  leave-more k n below (Returned s) fuel next target h h' lt out = refl
  leave-more k n below (Trapped t store) fuel next target h h' lt out = refl
  leave-more k n below (OutOfFuel store) fuel next target h h' lt out = absurd (true≢false out)
  leave-more k n below Stuck fuel next target h h' lt out = refl

  leave-in : (n : ℕ) (below : List Val) (signal : Signal) (fuel : ℕ) (next target : Continuation) → is_out (leave n below (signal, fuel) next target).0 ≡ false → is_out signal ≡ false
  leave-in n below (Next s) fuel next target out = refl
  leave-in n below (Branch l s) fuel next target out = refl
  leave-in n below (Returned s) fuel next target out = refl
  leave-in n below (Trapped t store) fuel next target out = refl
  leave-in n below (OutOfFuel store) fuel next target out = out
  leave-in n below Stuck fuel next target out = refl

  -- a block whose inner sequence ends the same on more fuel
  block-more : (k n : ℕ) (below : List Val) (inner inner' : Ended) (next target : Continuation) → Grows k next → Grows k target → inner.1 + d < k
      → (is_out inner.0 ≡ false → inner' ≡ more d inner) → is_out (leave n below inner next target).0 ≡ false → leave n below inner' next target ≡ more d (leave n below inner next target)
  block-more k n below inner inner' next target h h' lt same out =
      ap (λ (e : Ended). leave n below e next target) (same (leave-in n below inner.0 inner.1 next target out)) ∙ leave-more k n below inner.0 inner.1 next target h h' lt out

  return-more : (k n : ℕ) (caller : State) (below : List Val) (signal : Signal) (fuel : ℕ) (next : Continuation) → Grows k next → fuel + d < k
      → is_out (return n caller below (signal, fuel) next).0 ≡ false → return n caller below (signal, fuel + d) next ≡ more d (return n caller below (signal, fuel) next)
  return-more k n caller below (Next s) fuel next h lt out = keep-more k n below next h (record s { locals = caller.locals }) fuel lt out
  return-more k n caller below (Branch zero s) fuel next h lt out = keep-more k n below next h (record s { locals = caller.locals }) fuel lt out
  return-more k n caller below (Branch (suc l) s) fuel next h lt out = refl
  return-more k n caller below (Returned s) fuel next h lt out = keep-more k n below next h (record s { locals = caller.locals }) fuel lt out
  return-more k n caller below (Trapped t store) fuel next h lt out = refl
  return-more k n caller below (OutOfFuel store) fuel next h lt out = absurd (true≢false out)
  return-more k n caller below Stuck fuel next h lt out = refl

  return-in : (n : ℕ) (caller : State) (below : List Val) (signal : Signal) (fuel : ℕ) (next : Continuation) → is_out (return n caller below (signal, fuel) next).0 ≡ false → is_out signal ≡ false
  return-in n caller below (Next s) fuel next out = refl
  return-in n caller below (Branch l s) fuel next out = refl
  return-in n caller below (Returned s) fuel next out = refl
  return-in n caller below (Trapped t store) fuel next out = refl
  return-in n caller below (OutOfFuel store) fuel next out = out
  return-in n caller below Stuck fuel next out = refl

  callee-more : (k : ℕ) (f : FunctionTree) (t : FuncType) (run next : Continuation) → Spends run → Grows k run → Grows k next → Grows k (callee f t run next)
  callee-more k f t run next spends hr h s fuel lt out =
      let n : ℕ = length t.results in
      let below : List Val = drop (length t.params) s.operands in
      let inner : Ended = run (entered f t s) fuel in
      ap (λ (e : Ended). return n s below e next) (hr (entered f t s) fuel lt (return-in n s below inner.0 inner.1 next out))
      ∙ return-more k n s below inner.0 inner.1 next h (omega (arith, spends (entered f t s) fuel)) out

  invoke-more : (k : ℕ) (limits : Terms) (depth : ℕ) (f : FunctionTree) (t : FuncType) (run next : Continuation) → Spends run → Grows k run → Grows k next → Grows k (invoke limits depth f t run next)
  invoke-more k limits depth f t run next spends hr h s fuel lt out =
      let deep : Bool = nat_le limits.depth depth in
      let exhausted : Signal = Trapped trap.Exhausted s.store in
      unless-more k (nat_lt (length s.operands) (length t.params)) Stuck (unless deep exhausted (callee f t run next))
      (unless-more k deep exhausted (callee f t run next) (callee-more k f t run next spends hr h)) s fuel lt out

  if_there-more : {A : Type 0} (k : ℕ) (o : Option A) (next : A → Continuation) → ((x : A) → Grows k (next x)) → Grows k (if_there o next)
  if_there-more k None next h s fuel lt out = refl
  if_there-more k (Some x) next h s fuel lt out = h x s fuel lt out

  with_function-more : (k : ℕ) (m : ModuleTree) (x : ℕ) (next : Callee → FuncType → Continuation) → ((c : Callee) (t : FuncType) → Grows k (next c t)) → Grows k (with_function m x next)
  with_function-more k m x next h =
      if_there-more k (callee_at m x) (λ c. if_there (callee_type m c) (next c)) (λ c. if_there-more k (callee_type m c) (next c) (h c))

  call-more : (k : ℕ) (m : ModuleTree) (limits : Terms) (depth : ℕ) (run : Code → Continuation) (rest : Continuation) (c : Callee) (t : FuncType)
      → ((code : Code) → Spends (run code)) → ((code : Code) → Grows k (run code)) → Grows k rest → Grows k (call m limits depth run rest c t)
  call-more k m limits depth run rest (Own f) t spends hr h s fuel lt out = invoke-more k limits depth f t (run f.body) rest (spends f.body) (hr f.body) h s fuel lt out
  call-more k m limits depth run rest (Imported i) t spends hr h s fuel lt out = and_then-more k (import_call limits.request i s) fuel rest h lt out

  pop_index-more : (k : ℕ) (vs : List Val) (next : ℕ → Continuation) → ((n : ℕ) → Grows k (next n)) → Grows k (pop_index vs next)
  pop_index-more k [] next h s fuel lt out = refl
  pop_index-more k (val.I64 n ∷ vs) next h s fuel lt out = refl
  pop_index-more k (val.I32 n ∷ vs) next h s fuel lt out = h n (record s { operands = vs }) fuel lt out

  with_element-more : (k : ℕ) (o : Option (Option ℕ)) (next : ℕ → Continuation) → ((n : ℕ) → Grows k (next n)) → Grows k (with_element o next)
  with_element-more k None next h s fuel lt out = refl
  with_element-more k (Some None) next h s fuel lt out = refl
  with_element-more k (Some (Some x)) next h s fuel lt out = h x s fuel lt out

  choose-more : (k n : ℕ) (first second : Continuation) → Grows k first → Grows k second → Grows k (choose n first second)
  choose-more k zero first second h h' s fuel lt out = h' s fuel lt out
  choose-more k (suc n) first second h h' s fuel lt out = h s fuel lt out

  module _ (m : ModuleTree) (limits : Terms) where
    within-more : (n : ℕ) (code : Code) (depth k : ℕ) → k ≤ n → Grows k (exec_within m limits n code depth)
    within-more n End depth k le s fuel lt out = refl
    within-more n (Plain i rest) depth k le s fuel lt out =
        pay-more s.store fuel _ (λ g e out. and_then-more k (plain m limits i s) g (exec_within m limits n rest depth) (within-more n rest depth k le) (omega arith) out) out
    within-more n (Block t body rest) depth k le s fuel lt out =
        pay-more s.store fuel _ (λ g e out. let go : Continuation = exec_within m limits n rest depth in let h : Grows k go = within-more n rest depth k le in
        block-more k (length (result_types t)) s.operands (exec_within m limits n body depth (inside s) g) (exec_within m limits n body depth (inside s) (g + d)) go go h h
        (omega (arith, within-spends m limits n body depth (inside s) g)) (within-more n body depth k le (inside s) g (omega arith)) out) out
    within-more n (If t first second rest) depth k le s fuel lt out =
        pay-more s.store fuel _ (λ g e out. pop_index-more k s.operands _ (λ c s g lt out.
        let go : Continuation = exec_within m limits n rest depth in let h : Grows k go = within-more n rest depth k le in
        let a : Continuation = exec_within m limits n first depth in let b : Continuation = exec_within m limits n second depth in
        let spends : Spends (choose c a b) = choose-spends c a b (within-spends m limits n first depth) (within-spends m limits n second depth) in
        block-more k (length (result_types t)) s.operands (choose c a b (inside s) g) (choose c a b (inside s) (g + d)) go go h h
        (omega (arith, spends (inside s) g)) (choose-more k c a b (within-more n first depth k le) (within-more n second depth k le) (inside s) g lt) out) s g (omega arith) out) out
    within-more zero (Loop t body rest) depth k le s fuel lt out = absurd (omega arith)
    within-more (suc n) (Loop t body rest) depth k le s fuel lt out =
        pay-more s.store fuel _ (λ g e out. let go : Continuation = exec_within m limits (suc n) rest depth in let again : Continuation = exec_within m limits n (Loop t body rest) depth in
        let j : ℕ = suc (g + d) in
        block-more j 0 s.operands (exec_within m limits (suc n) body depth (inside s) g) (exec_within m limits (suc n) body depth (inside s) (g + d)) go again
        (λ u f l. within-more (suc n) rest depth k le u f (omega arith)) (within-more n (Loop t body rest) depth j (omega arith))
        (omega (arith, within-spends m limits (suc n) body depth (inside s) g)) (within-more (suc n) body depth k le (inside s) g (omega arith)) out) out
    within-more zero (Call x rest) depth k le s fuel lt out = absurd (omega arith)
    within-more (suc n) (Call x rest) depth k le s fuel lt out =
        pay-more s.store fuel _ (λ g e out. let j : ℕ = suc (g + d) in with_function-more j m x _ (λ c t.
        call-more j m limits depth (within_body m limits n depth) (exec_within m limits (suc n) rest depth) c t
        (λ code. within-spends m limits n code (depth + 1)) (λ code. within-more n code (depth + 1) j (omega arith)) (λ u f l. within-more (suc n) rest depth k le u f (omega arith))) s g (omega arith) out) out
    within-more zero (CallIndirect x rest) depth k le s fuel lt out = absurd (omega arith)
    within-more (suc n) (CallIndirect x rest) depth k le s fuel lt out =
        pay-more s.store fuel _ (λ g e out. let j : ℕ = suc (g + d) in pop_index-more j s.operands _ (λ i s. with_element-more j (slice_get s.store.table i) _ (λ y.
        if_there-more j (slice_get m.types x) _ (λ u. with_function-more j m y _ (λ c t s.
        if_so-more j (same_type u t) (Trapped trap.Signature s.store) (within_call m limits n depth rest c t)
        (call-more j m limits depth (within_body m limits n depth) (exec_within m limits (suc n) rest depth) c t
        (λ code. within-spends m limits n code (depth + 1)) (λ code. within-more n code (depth + 1) j (omega arith)) (λ u f l. within-more (suc n) rest depth k le u f (omega arith))) s))) s) s g (omega arith) out) out

    pub exec-more : (depth : ℕ) (code : Code) (s : State) (fuel : ℕ) → is_out (exec m limits depth code s fuel).0 ≡ false → exec m limits depth code s (fuel + d) ≡ more d (exec m limits depth code s fuel)
    exec-more depth code s fuel out =
        let n : ℕ = suc (fuel + d) in
        let less = within-exec m limits n code depth s fuel (omega arith) in
        sym (within-exec m limits n code depth s (fuel + d) (omega arith))
        ∙ within-more n code depth n (omega arith) s fuel (omega arith) (subst (λ (e : Ended). is_out e.0 ≡ false) (sym less) out) ∙ ap (more d) less

-- ---- results

pub with_more-end : (d : ℕ) (o : Option CallResult) → is_fuel_end (with_more d o) ≡ is_fuel_end o
with_more-end d None = refl
with_more-end d (Some r) = refl

module _ (d : ℕ) where
  out-is : (signal : Signal) (fuel : ℕ) → is_fuel_end (result_of (signal, fuel)) ≡ false → is_out signal ≡ false
  out-is (Next s) fuel e = refl
  out-is (Branch l s) fuel e = refl
  out-is (Returned s) fuel e = refl
  out-is (Trapped t store) fuel e = refl
  out-is (OutOfFuel store) fuel e = e
  out-is Stuck fuel e = refl

  by-more : (signal : Signal) (fuel : ℕ) → result_of (signal, fuel + d) ≡ with_more d (result_of (signal, fuel))
  by-more (Next s) fuel = refl
  by-more (Branch l s) fuel = refl
  by-more (Returned s) fuel = refl
  by-more (Trapped t store) fuel = refl
  by-more (OutOfFuel store) fuel = refl
  by-more Stuck fuel = refl

  finish-more : (k : ℕ) → Grows d k finish
  finish-more k s fuel lt out = refl

  module _ (m : ModuleTree) (limits : Terms) where
    body-more : (code : Code) (k : ℕ) → Grows d k (exec m limits 1 code)
    body-more code k s fuel lt out = exec-more d m limits 1 code s fuel out

    pub function-more : (x : ℕ) (arguments : List Val) (store : Store) (fuel : ℕ) → is_fuel_end (function_result m limits x arguments store fuel) ≡ false
        → function_result m limits x arguments store (fuel + d) ≡ with_more d (function_result m limits x arguments store fuel)
    function-more x arguments store fuel e =
        let s : State = record { locals = []; operands = reverse arguments; store = store } in
        let r : Ended = run_function m limits x arguments store fuel in
        let k : ℕ = suc (fuel + d) in
        ap result_of (with_function-more d k m x (call m limits 0 (exec m limits 1) finish)
        (λ c t. call-more d k m limits 0 (exec m limits 1) finish c t (exec-spends m limits 1) (λ code. body-more code k) (finish-more k)) s fuel (omega arith) (out-is r.0 r.1 e))
        ∙ by-more r.0 r.1

    two-more : (x : ℕ) (arguments : List Val) (o : Outcome) (first : CallResult) → is_fuel_end (if_done_by o first (function_result m limits x arguments)) ≡ false → is_fuel first.outcome ≡ is_fuel o
        → if_done_by o (record first { fuel = first.fuel + d }) (function_result m limits x arguments) ≡ with_more d (if_done_by o first (function_result m limits x arguments))
    two-more x arguments (outcome.Done v) first e same = function-more x arguments first.store first.fuel e
    two-more x arguments (outcome.Trap t) first e same = refl
    two-more x arguments outcome.Fuel first e same = refl

    first-ended : (x : ℕ) (arguments : List Val) (o : Outcome) (first : CallResult) → o ≡ first.outcome → is_fuel_end (if_done_by o first (function_result m limits x arguments)) ≡ false → is_fuel o ≡ false
    first-ended x arguments (outcome.Done v) first is e = refl
    first-ended x arguments (outcome.Trap t) first is e = refl
    first-ended x arguments outcome.Fuel first is e = ap is_fuel is ∙ e

    done-more : (x : ℕ) (arguments : List Val) (o o' : Option CallResult) → (is_fuel_end o ≡ false → o' ≡ with_more d o) → is_fuel_end (if_done o (function_result m limits x arguments)) ≡ false
        → if_done o' (function_result m limits x arguments) ≡ with_more d (if_done o (function_result m limits x arguments))
    done-more x arguments None o' h e = ap (λ (p : Option CallResult). if_done p (function_result m limits x arguments)) (h refl)
    done-more x arguments (Some first) o' h e =
        ap (λ (p : Option CallResult). if_done p (function_result m limits x arguments)) (h (first-ended x arguments first.outcome first refl e))
        ∙ two-more x arguments first.outcome first e refl

    start-more : (start : Option ℕ) (x : ℕ) (arguments : List Val) (store : Store) (fuel : ℕ) → is_fuel_end (after_start m limits start (function_result m limits x arguments) store fuel) ≡ false
        → after_start m limits start (function_result m limits x arguments) store (fuel + d) ≡ with_more d (after_start m limits start (function_result m limits x arguments) store fuel)
    start-more None x arguments store fuel e = function-more x arguments store fuel e
    start-more (Some y) x arguments store fuel e =
        done-more x arguments (function_result m limits y [] store fuel) (function_result m limits y [] store (fuel + d)) (function-more y [] store fuel) e

    -- A call that does not end for want of fuel gives the same on more fuel, and leaves what it was given more.
    pub result-more : (x : ℕ) (arguments : List Val) (store : Store) (fuel : ℕ) → is_fuel_end (result_from m limits x arguments store fuel) ≡ false
        → result_from m limits x arguments store (fuel + d) ≡ with_more d (result_from m limits x arguments store fuel)
    result-more x arguments store fuel e = start-more m.start x arguments store fuel e

    -- A call that ends for want of fuel ends so on less fuel too.
    pub result-less : (x : ℕ) (arguments : List Val) (store : Store) (less : ℕ) → is_fuel_end (result_from m limits x arguments store (less + d)) ≡ true
        → is_fuel_end (result_from m limits x arguments store less) ≡ true
    result-less x arguments store less e =
        let split : (b : Bool) → is_fuel_end (result_from m limits x arguments store less) ≡ b → is_fuel_end (result_from m limits x arguments store less) ≡ true = elim [
          | true ↦ λ h. h
          | false ↦ λ h. absurd (true≢false (sym e ∙ ap is_fuel_end (result-more x arguments store less h) ∙ with_more-end d (result_from m limits x arguments store less) ∙ h))
        ] in split (is_fuel_end (result_from m limits x arguments store less)) refl
