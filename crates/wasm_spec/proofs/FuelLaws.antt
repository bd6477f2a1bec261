-- Fuel only falls, and an index above the fuel is enough.
use Rattle.std.proofs.Common.{◌≡◌, ℕ, zero, suc, ◌+◌, ◌<◌, ◌≤◌, List, [], ◌∷◌, ◌++◌, length, take, drop, Option, Some, None, Bool, true, false, refl, ap, ◌∙◌, arith}
use Rattle.std.specs.Prelude.{nat_lt, nat_le, slice_get, if◌then◌else◌}
use Rattle.wasm_types.specs.declared.types.FuncType.{FuncType}
use Rattle.wasm_types.specs.declared.types.ValType.{ValType}
use Rattle.wasm_values.specs.declared.outcome.Val.{Val}
use Rattle.wasm_values.specs.declared.outcome.Val.TheVariants as val
use Rattle.wasm_values.specs.declared.outcome.TrapKind.TheVariants as trap
use Rattle.wasm_types.specs.SameTypes.{same_type}
use Rattle.wasm_types.specs.Tree.{Code, End, Plain, Block, Loop, If, Call, CallIndirect, FunctionTree, ModuleTree}
use Rattle.wasm_spec.specs.Store.{Store}
use Rattle.wasm_spec.specs.Functions.{Callee, Imported, Own, callee_at, callee_type}
use Rattle.wasm_spec.specs.Typing.{result_types}
use Rattle.wasm_spec.specs.Execution.{Terms, element_call, import_call, typed_call, call, State, Signal, Next, Branch, Returned, Trapped, OutOfFuel, Stuck, Ended, Continuation, plain, pay, and_then, chosen, keep, leave, pop_index, inside, arm, return, entered, invoke, if_there, with_function, with_element, exec_within, exec}

-- this end where the test holds, and else what goes on
abbrev pub unless : Bool → Signal → Continuation → Continuation
unless test signal next s fuel = if test then (signal, fuel) else next s fuel

-- and the other way round
abbrev pub if_so : Bool → Signal → Continuation → Continuation
if_so test signal next s fuel = if test then next s fuel else (signal, fuel)

-- the first where the condition is not 0, and else the second
abbrev pub choose : ℕ → Continuation → Continuation → Continuation
choose n first second s fuel = chosen n (first s fuel) (second s fuel)

-- a function's body, and then the caller again
abbrev pub callee : FunctionTree → FuncType → Continuation → Continuation → Continuation
callee f t run next s fuel = return (length t.results) s (drop (length t.params) s.operands) (run (entered f t s) fuel) next

-- ---- fuel only falls

-- it leaves at most the fuel that it was given
abbrev pub Spends : Continuation → Type 0
Spends next = (s : State) (fuel : ℕ) → (next s fuel).1 ≤ fuel

pay-spends : (store : Store) (fuel : ℕ) (next : ℕ → Ended) → ((g : ℕ) → (next g).1 ≤ g) → (pay store fuel next).1 ≤ fuel
pay-spends store zero next h = omega arith
pay-spends store (suc fuel) next h = omega (arith, h fuel)

and_then-spends : (signal : Signal) (next : Continuation) → Spends next → (fuel : ℕ) → (and_then signal fuel next).1 ≤ fuel
and_then-spends (Next s) next h fuel = h s fuel
and_then-spends (Branch l s) next h fuel = omega arith
and_then-spends (Returned s) next h fuel = omega arith
and_then-spends (Trapped t store) next h fuel = omega arith
and_then-spends (OutOfFuel store) next h fuel = omega arith
and_then-spends Stuck next h fuel = omega arith

unless-spends : (test : Bool) (signal : Signal) (next : Continuation) → Spends next → Spends (unless test signal next)
unless-spends true signal next h s fuel = omega arith
unless-spends false signal next h s fuel = h s fuel

if_so-spends : (test : Bool) (signal : Signal) (next : Continuation) → Spends next → Spends (if_so test signal next)
if_so-spends true signal next h s fuel = h s fuel
if_so-spends false signal next h s fuel = omega arith

pub keep-spends : (n : ℕ) (below : List Val) (next : Continuation) → Spends next → Spends (keep n below next)
keep-spends n below next h s fuel =
    unless-spends (nat_lt (length s.operands) n) Stuck next h (record s { operands = take n s.operands ++ below }) fuel

pub leave-spends : (n : ℕ) (below : List Val) (signal : Signal) (fuel g : ℕ) (next target : Continuation)
    → Spends next → Spends target → g ≤ fuel → (leave n below (signal, g) next target).1 ≤ fuel
leave-spends n below (Next s) fuel g next target h k le = omega (arith, h (record s { operands = s.operands ++ below }) g)
leave-spends n below (Branch zero s) fuel g next target h k le = omega (arith, keep-spends n below target k s g)
leave-spends n below (Branch (suc l) s) fuel g next target h k le = le
leave-spends n below (Returned s) fuel g next target h k le = le
leave-spends n below (Trapped t store) fuel g next target h k le = le
leave-spends n below (OutOfFuel store) fuel g next target h k le = le
leave-spends n below Stuck fuel g next target h k le = le

pub return-spends : (n : ℕ) (caller : State) (below : List Val) (signal : Signal) (fuel g : ℕ) (next : Continuation)
    → Spends next → g ≤ fuel → (return n caller below (signal, g) next).1 ≤ fuel
return-spends n caller below (Next s) fuel g next h le = omega (arith, keep-spends n below next h (record s { locals = caller.locals }) g)
return-spends n caller below (Branch zero s) fuel g next h le = omega (arith, keep-spends n below next h (record s { locals = caller.locals }) g)
return-spends n caller below (Branch (suc l) s) fuel g next h le = le
return-spends n caller below (Returned s) fuel g next h le = omega (arith, keep-spends n below next h (record s { locals = caller.locals }) g)
return-spends n caller below (Trapped t store) fuel g next h le = le
return-spends n caller below (OutOfFuel store) fuel g next h le = le
return-spends n caller below Stuck fuel g next h le = le

callee-spends : (f : FunctionTree) (t : FuncType) (run next : Continuation) → Spends run → Spends next → Spends (callee f t run next)
callee-spends f t run next hr h s fuel =
    let inner : Ended = run (entered f t s) fuel in
    return-spends (length t.results) s (drop (length t.params) s.operands) inner.0 fuel inner.1 next h (hr (entered f t s) fuel)

pub invoke-spends : (limits : Terms) (depth : ℕ) (f : FunctionTree) (t : FuncType) (run next : Continuation)
    → Spends run → Spends next → Spends (invoke limits depth f t run next)
invoke-spends limits depth f t run next hr h s fuel =
    let within : Continuation = unless (nat_le limits.depth depth) (Trapped trap.Exhausted s.store) (callee f t run next) in
    unless-spends (nat_lt (length s.operands) (length t.params)) Stuck within
    (unless-spends (nat_le limits.depth depth) (Trapped trap.Exhausted s.store) (callee f t run next) (callee-spends f t run next hr h)) s fuel

if_there-spends : {A : Type 0} (o : Option A) (next : A → Continuation) → ((x : A) → Spends (next x)) → Spends (if_there o next)
if_there-spends None next h s fuel = omega arith
if_there-spends (Some x) next h s fuel = h x s fuel

pub with_function-spends : (m : ModuleTree) (x : ℕ) (next : Callee → FuncType → Continuation)
    → ((c : Callee) (t : FuncType) → Spends (next c t)) → Spends (with_function m x next)
with_function-spends m x next h =
    if_there-spends (callee_at m x) (λ c. if_there (callee_type m c) (next c)) (λ c. if_there-spends (callee_type m c) (next c) (h c))

pub call-spends : (m : ModuleTree) (limits : Terms) (depth : ℕ) (run : Code → Continuation) (rest : Continuation) (c : Callee) (t : FuncType)
    → ((code : Code) → Spends (run code)) → Spends rest → Spends (call m limits depth run rest c t)
call-spends m limits depth run rest (Own f) t hr h s fuel = invoke-spends limits depth f t (run f.body) rest (hr f.body) h s fuel
call-spends m limits depth run rest (Imported i) t hr h s fuel = and_then-spends (import_call limits.request i s) rest h fuel

pop_index-spends : (vs : List Val) (next : ℕ → Continuation) → ((n : ℕ) → Spends (next n)) → Spends (pop_index vs next)
pop_index-spends [] next h s fuel = omega arith
pop_index-spends (val.I64 n ∷ vs) next h s fuel = omega arith
pop_index-spends (val.I32 n ∷ vs) next h s fuel = h n (record s { operands = vs }) fuel

with_element-spends : (o : Option (Option ℕ)) (next : ℕ → Continuation) → ((n : ℕ) → Spends (next n)) → Spends (with_element o next)
with_element-spends None next h s fuel = omega arith
with_element-spends (Some None) next h s fuel = omega arith
with_element-spends (Some (Some x)) next h s fuel = h x s fuel

pub choose-spends : (n : ℕ) (first second : Continuation) → Spends first → Spends second → Spends (choose n first second)
choose-spends zero first second h k s fuel = k s fuel
choose-spends (suc n) first second h k s fuel = h s fuel

module _ (m : ModuleTree) (limits : Terms) where
  -- what a block, an `if` and the calls go on with at the index n
  abbrev within_block : ℕ → ℕ → Option ValType → Code → Code → Continuation
  within_block n depth t body rest s fuel =
      leave (length (result_types t)) s.operands (exec_within m limits n body depth (inside s) fuel) (exec_within m limits n rest depth) (exec_within m limits n rest depth)

  abbrev within_arm : ℕ → ℕ → Option ValType → Code → Code → Code → ℕ → Continuation
  within_arm n depth t first second rest =
      arm t (exec_within m limits n first depth) (exec_within m limits n second depth) (exec_within m limits n rest depth)

  abbrev pub within_body : ℕ → ℕ → Code → Continuation
  within_body n depth c = exec_within m limits n c (depth + 1)

  abbrev pub within_call : ℕ → ℕ → Code → Callee → FuncType → Continuation
  within_call n depth rest = call m limits depth (within_body n depth) (exec_within m limits (suc n) rest depth)

  abbrev within_typed_call : ℕ → ℕ → Code → FuncType → Callee → FuncType → Continuation
  within_typed_call n depth rest = typed_call m limits depth (within_body n depth) (exec_within m limits (suc n) rest depth)

  abbrev within_element : ℕ → ℕ → ℕ → Code → ℕ → Continuation
  within_element n depth x rest y = if_there (slice_get m.types x) (λ u. with_function m y (within_typed_call n depth rest u))

  abbrev within_element_call : ℕ → ℕ → ℕ → Code → ℕ → Continuation
  within_element_call n depth x rest = element_call m limits depth (within_body n depth) (exec_within m limits (suc n) rest depth) x

  pub within-spends : (n : ℕ) (c : Code) (depth : ℕ) → Spends (exec_within m limits n c depth)
  within-spends n End depth s fuel = omega arith
  within-spends n (Plain i rest) depth s fuel =
      pay-spends s.store fuel _ (λ g. and_then-spends (plain m limits i s) (exec_within m limits n rest depth) (within-spends n rest depth) g)
  within-spends n (Block t body rest) depth s fuel =
      pay-spends s.store fuel (within_block n depth t body rest s) (λ g.
      let go : Continuation = exec_within m limits n rest depth in
      let inner : Ended = exec_within m limits n body depth (inside s) g in
      leave-spends (length (result_types t)) s.operands inner.0 g inner.1 go go (within-spends n rest depth) (within-spends n rest depth) (within-spends n body depth (inside s) g))
  within-spends n (If t first second rest) depth s fuel =
      pay-spends s.store fuel (pop_index s.operands (within_arm n depth t first second rest) s)
      (pop_index-spends s.operands (within_arm n depth t first second rest) (λ c s g.
      let go : Continuation = exec_within m limits n rest depth in
      let arm : Continuation = choose c (exec_within m limits n first depth) (exec_within m limits n second depth) in
      let arm_spends : Spends arm = choose-spends c (exec_within m limits n first depth) (exec_within m limits n second depth) (within-spends n first depth) (within-spends n second depth) in
      leave-spends (length (result_types t)) s.operands (arm (inside s) g).0 g (arm (inside s) g).1 go go (within-spends n rest depth) (within-spends n rest depth) (arm_spends (inside s) g)) s)
  within-spends zero (Loop t body rest) depth s fuel = omega arith
  within-spends (suc n) (Loop t body rest) depth s fuel =
      pay-spends s.store fuel _ (λ g.
      let inner : Ended = exec_within m limits (suc n) body depth (inside s) g in
      leave-spends 0 s.operands inner.0 g inner.1 (exec_within m limits (suc n) rest depth) (exec_within m limits n (Loop t body rest) depth)
      (within-spends (suc n) rest depth) (within-spends n (Loop t body rest) depth) (within-spends (suc n) body depth (inside s) g))
  within-spends zero (Call x rest) depth s fuel = omega arith
  within-spends (suc n) (Call x rest) depth s fuel =
      pay-spends s.store fuel (with_function m x (within_call n depth rest) s)
      (with_function-spends m x (within_call n depth rest) (λ c t.
      call-spends m limits depth (within_body n depth) (exec_within m limits (suc n) rest depth) c t
      (λ code. within-spends n code (depth + 1)) (within-spends (suc n) rest depth)) s)
  within-spends zero (CallIndirect x rest) depth s fuel = omega arith
  within-spends (suc n) (CallIndirect x rest) depth s fuel =
      pay-spends s.store fuel (pop_index s.operands (within_element_call n depth x rest) s)
      (pop_index-spends s.operands (within_element_call n depth x rest) (λ i s.
      with_element-spends (slice_get s.store.table i) (within_element n depth x rest) (λ y.
      if_there-spends (slice_get m.types x) (λ u. with_function m y (within_typed_call n depth rest u)) (λ u.
      with_function-spends m y (within_typed_call n depth rest u) (λ c t s.
      if_so-spends (same_type u t) (Trapped trap.Signature s.store) (within_call n depth rest c t)
      (call-spends m limits depth (within_body n depth) (exec_within m limits (suc n) rest depth) c t
      (λ code. within-spends n code (depth + 1)) (within-spends (suc n) rest depth)) s))) s) s)

  pub exec-spends : (depth : ℕ) (c : Code) → Spends (exec m limits depth c)
  unfolding exec
  exec-spends depth c s fuel = within-spends (suc fuel) c depth s fuel

-- ---- an index above the fuel is enough

-- two ways to go on that are one where less than k fuel is left
abbrev pub Agree : ℕ → Continuation → Continuation → Type 0
Agree k next next' = (s : State) (fuel : ℕ) → fuel < k → next s fuel ≡ next' s fuel

pay-same : (store : Store) (fuel : ℕ) (next next' : ℕ → Ended) → ((g : ℕ) → g < fuel → next g ≡ next' g) → pay store fuel next ≡ pay store fuel next'
pay-same store zero next next' h = refl
pay-same store (suc fuel) next next' h = h fuel (omega arith)

pub and_then-same : (signal : Signal) (fuel k : ℕ) (next next' : Continuation) → fuel < k → Agree k next next' → and_then signal fuel next ≡ and_then signal fuel next'
and_then-same (Next s) fuel k next next' lt h = h s fuel lt
and_then-same (Branch l s) fuel k next next' lt h = refl
and_then-same (Returned s) fuel k next next' lt h = refl
and_then-same (Trapped t store) fuel k next next' lt h = refl
and_then-same (OutOfFuel store) fuel k next next' lt h = refl
and_then-same Stuck fuel k next next' lt h = refl

pub unless-same : (test : Bool) (signal : Signal) (k : ℕ) (next next' : Continuation) → Agree k next next' → Agree k (unless test signal next) (unless test signal next')
unless-same true signal k next next' h s fuel lt = refl
unless-same false signal k next next' h s fuel lt = h s fuel lt

pub if_so-same : (test : Bool) (signal : Signal) (k : ℕ) (next next' : Continuation) → Agree k next next' → Agree k (if_so test signal next) (if_so test signal next')
if_so-same true signal k next next' h s fuel lt = h s fuel lt
if_so-same false signal k next next' h s fuel lt = refl

keep-same : (n : ℕ) (below : List Val) (k : ℕ) (next next' : Continuation) → Agree k next next' → Agree k (keep n below next) (keep n below next')
keep-same n below k next next' h s fuel lt =
    unless-same (nat_lt (length s.operands) n) Stuck k next next' h (record s { operands = take n s.operands ++ below }) fuel lt

pub leave-same : (n : ℕ) (below : List Val) (signal : Signal) (fuel k : ℕ) (next next' target target' : Continuation)
    → fuel < k → Agree k next next' → Agree k target target' → leave n below (signal, fuel) next target ≡ leave n below (signal, fuel) next' target'
leave-same n below (Next s) fuel k next next' target target' lt h h' = h (record s { operands = s.operands ++ below }) fuel lt
leave-same n below (Branch zero s) fuel k next next' target target' lt h h' = keep-same n below k target target' h' s fuel lt
leave-same n below (Branch (suc l) s) fuel k next next' target target' lt h h' = refl
leave-same n below (Returned s) fuel k next next' target target' lt h h' = refl
leave-same n below (Trapped t store) fuel k next next' target target' lt h h' = refl
leave-same n below (OutOfFuel store) fuel k next next' target target' lt h h' = refl
leave-same n below Stuck fuel k next next' target target' lt h h' = refl

pub return-same : (n : ℕ) (caller : State) (below : List Val) (signal : Signal) (fuel k : ℕ) (next next' : Continuation)
    → fuel < k → Agree k next next' → return n caller below (signal, fuel) next ≡ return n caller below (signal, fuel) next'
return-same n caller below (Next s) fuel k next next' lt h = keep-same n below k next next' h (record s { locals = caller.locals }) fuel lt
return-same n caller below (Branch zero s) fuel k next next' lt h = keep-same n below k next next' h (record s { locals = caller.locals }) fuel lt
return-same n caller below (Branch (suc l) s) fuel k next next' lt h = refl
return-same n caller below (Returned s) fuel k next next' lt h = keep-same n below k next next' h (record s { locals = caller.locals }) fuel lt
return-same n caller below (Trapped t store) fuel k next next' lt h = refl
return-same n caller below (OutOfFuel store) fuel k next next' lt h = refl
return-same n caller below Stuck fuel k next next' lt h = refl

callee-same : (f : FunctionTree) (t : FuncType) (k : ℕ) (run run' next next' : Continuation)
    → Spends run → Agree k run run' → Agree k next next' → Agree k (callee f t run next) (callee f t run' next')
callee-same f t k run run' next next' spends hr h s fuel lt =
    let n : ℕ = length t.results in
    let below : List Val = drop (length t.params) s.operands in
    let inner : Ended = run (entered f t s) fuel in
    return-same n s below inner.0 inner.1 k next next' (omega (arith, spends (entered f t s) fuel)) h
    ∙ ap (λ (r : Ended). return n s below r next') (hr (entered f t s) fuel lt)

pub invoke-same : (limits : Terms) (depth : ℕ) (f : FunctionTree) (t : FuncType) (k : ℕ) (run run' next next' : Continuation)
    → Spends run → Agree k run run' → Agree k next next' → Agree k (invoke limits depth f t run next) (invoke limits depth f t run' next')
invoke-same limits depth f t k run run' next next' spends hr h s fuel lt =
    let deep : Bool = nat_le limits.depth depth in
    let exhausted : Signal = Trapped trap.Exhausted s.store in
    unless-same (nat_lt (length s.operands) (length t.params)) Stuck k (unless deep exhausted (callee f t run next)) (unless deep exhausted (callee f t run' next'))
    (unless-same deep exhausted k (callee f t run next) (callee f t run' next') (callee-same f t k run run' next next' spends hr h)) s fuel lt

pub if_there-same : {A : Type 0} (o : Option A) (k : ℕ) (next next' : A → Continuation)
    → ((x : A) → Agree k (next x) (next' x)) → Agree k (if_there o next) (if_there o next')
if_there-same None k next next' h s fuel lt = refl
if_there-same (Some x) k next next' h s fuel lt = h x s fuel lt

pub with_function-same : (m : ModuleTree) (x k : ℕ) (next next' : Callee → FuncType → Continuation)
    → ((c : Callee) (t : FuncType) → Agree k (next c t) (next' c t)) → Agree k (with_function m x next) (with_function m x next')
with_function-same m x k next next' h =
    if_there-same (callee_at m x) k (λ c. if_there (callee_type m c) (next c)) (λ c. if_there (callee_type m c) (next' c))
    (λ c. if_there-same (callee_type m c) k (next c) (next' c) (h c))

pub call-same : (m : ModuleTree) (limits : Terms) (depth k : ℕ) (run run' : Code → Continuation) (rest rest' : Continuation) (c : Callee) (t : FuncType)
    → ((code : Code) → Spends (run code)) → ((code : Code) → Agree k (run code) (run' code)) → Agree k rest rest'
    → Agree k (call m limits depth run rest c t) (call m limits depth run' rest' c t)
call-same m limits depth k run run' rest rest' (Own f) t spends hr h s fuel lt =
    invoke-same limits depth f t k (run f.body) (run' f.body) rest rest' (spends f.body) (hr f.body) h s fuel lt
call-same m limits depth k run run' rest rest' (Imported i) t spends hr h s fuel lt =
    and_then-same (import_call limits.request i s) fuel k rest rest' lt h

pub pop_index-same : (vs : List Val) (k : ℕ) (next next' : ℕ → Continuation) → ((n : ℕ) → Agree k (next n) (next' n)) → Agree k (pop_index vs next) (pop_index vs next')
pop_index-same [] k next next' h s fuel lt = refl
pop_index-same (val.I64 n ∷ vs) k next next' h s fuel lt = refl
pop_index-same (val.I32 n ∷ vs) k next next' h s fuel lt = h n (record s { operands = vs }) fuel lt

pub with_element-same : (o : Option (Option ℕ)) (k : ℕ) (next next' : ℕ → Continuation) → ((n : ℕ) → Agree k (next n) (next' n)) → Agree k (with_element o next) (with_element o next')
with_element-same None k next next' h s fuel lt = refl
with_element-same (Some None) k next next' h s fuel lt = refl
with_element-same (Some (Some x)) k next next' h s fuel lt = h x s fuel lt

pub choose-same : (n k : ℕ) (a a' b b' : Continuation) → Agree k a a' → Agree k b b' → Agree k (choose n a b) (choose n a' b')
choose-same zero k a a' b b' h h' s fuel lt = h' s fuel lt
choose-same (suc n) k a a' b b' h h' s fuel lt = h s fuel lt

module _ (m : ModuleTree) (limits : Terms) where
  pub within-enough : (n n' : ℕ) (c : Code) (depth : ℕ) (s : State) (fuel : ℕ) → fuel < n → fuel < n'
      → exec_within m limits n c depth s fuel ≡ exec_within m limits n' c depth s fuel
  within-enough n n' End depth s fuel lt lt' = refl
  within-enough n n' (Plain i rest) depth s fuel lt lt' =
      pay-same s.store fuel _ _ (λ g l. and_then-same (plain m limits i s) g fuel (exec_within m limits n rest depth) (exec_within m limits n' rest depth) l
      (λ t h l'. within-enough n n' rest depth t h (omega arith) (omega arith)))
  within-enough n n' (Block t body rest) depth s fuel lt lt' =
      let go : Continuation = exec_within m limits n rest depth in
      let go' : Continuation = exec_within m limits n' rest depth in
      let h : Agree fuel go go' = λ u j l. within-enough n n' rest depth u j (omega arith) (omega arith) in
      pay-same s.store fuel _ _ (λ g l.
      leave-same (length (result_types t)) s.operands (exec_within m limits n body depth (inside s) g).0 (exec_within m limits n body depth (inside s) g).1 fuel go go' go go'
      (omega (arith, within-spends m limits n body depth (inside s) g)) h h
      ∙ ap (λ (r : Ended). leave (length (result_types t)) s.operands r go' go') (within-enough n n' body depth (inside s) g (omega arith) (omega arith)))
  within-enough n n' (If t first second rest) depth s fuel lt lt' =
      let go : Continuation = exec_within m limits n rest depth in
      let go' : Continuation = exec_within m limits n' rest depth in
      let h : Agree fuel go go' = λ u j l. within-enough n n' rest depth u j (omega arith) (omega arith) in
      pay-same s.store fuel _ _ (λ g l. pop_index-same s.operands fuel _ _ (λ c s g l'.
      let a : Continuation = exec_within m limits n first depth in
      let a' : Continuation = exec_within m limits n' first depth in
      let b : Continuation = exec_within m limits n second depth in
      let b' : Continuation = exec_within m limits n' second depth in
      let arm_spends : Spends (choose c a b) = choose-spends c a b (within-spends m limits n first depth) (within-spends m limits n second depth) in
      let arms : Agree fuel (choose c a b) (choose c a' b') = choose-same c fuel a a' b b' (λ u j l. within-enough n n' first depth u j (omega arith) (omega arith)) (λ u j l. within-enough n n' second depth u j (omega arith) (omega arith)) in
      leave-same (length (result_types t)) s.operands (choose c a b (inside s) g).0 (choose c a b (inside s) g).1 fuel go go' go go' (omega (arith, arm_spends (inside s) g)) h h
      ∙ ap (λ (r : Ended). leave (length (result_types t)) s.operands r go' go') (arms (inside s) g l')) s g l)
  within-enough zero n' (Loop t body rest) depth s fuel lt lt' = absurd (omega arith)
  within-enough (suc n) zero (Loop t body rest) depth s fuel lt lt' = absurd (omega arith)
  within-enough (suc n) (suc n') (Loop t body rest) depth s fuel lt lt' =
      let go : Continuation = exec_within m limits (suc n) rest depth in
      let go' : Continuation = exec_within m limits (suc n') rest depth in
      let h : Agree fuel go go' = λ u j l. within-enough (suc n) (suc n') rest depth u j (omega arith) (omega arith) in
      let again : Continuation = exec_within m limits n (Loop t body rest) depth in
      let again' : Continuation = exec_within m limits n' (Loop t body rest) depth in
      let back : Agree fuel again again' = λ u j l. within-enough n n' (Loop t body rest) depth u j (omega arith) (omega arith) in
      pay-same s.store fuel _ _ (λ g l.
      leave-same 0 s.operands (exec_within m limits (suc n) body depth (inside s) g).0 (exec_within m limits (suc n) body depth (inside s) g).1 fuel go go' again again'
      (omega (arith, within-spends m limits (suc n) body depth (inside s) g)) h back
      ∙ ap (λ (r : Ended). leave 0 s.operands r go' again') (within-enough (suc n) (suc n') body depth (inside s) g (omega arith) (omega arith)))
  within-enough zero n' (Call x rest) depth s fuel lt lt' = absurd (omega arith)
  within-enough (suc n) zero (Call x rest) depth s fuel lt lt' = absurd (omega arith)
  within-enough (suc n) (suc n') (Call x rest) depth s fuel lt lt' =
      let h : Agree fuel (exec_within m limits (suc n) rest depth) (exec_within m limits (suc n') rest depth) = λ u j l. within-enough (suc n) (suc n') rest depth u j (omega arith) (omega arith) in
      pay-same s.store fuel _ _ (λ g l. with_function-same m x fuel _ _ (λ c t.
      call-same m limits depth fuel (within_body m limits n depth) (within_body m limits n' depth) (exec_within m limits (suc n) rest depth) (exec_within m limits (suc n') rest depth) c t
      (λ code. within-spends m limits n code (depth + 1)) (λ code u j l. within-enough n n' code (depth + 1) u j (omega arith) (omega arith)) h) s g l)
  within-enough zero n' (CallIndirect x rest) depth s fuel lt lt' = absurd (omega arith)
  within-enough (suc n) zero (CallIndirect x rest) depth s fuel lt lt' = absurd (omega arith)
  within-enough (suc n) (suc n') (CallIndirect x rest) depth s fuel lt lt' =
      let go : Continuation = exec_within m limits (suc n) rest depth in
      let go' : Continuation = exec_within m limits (suc n') rest depth in
      let h : Agree fuel go go' = λ u j l. within-enough (suc n) (suc n') rest depth u j (omega arith) (omega arith) in
      pay-same s.store fuel _ _ (λ g l. pop_index-same s.operands fuel _ _ (λ i s. with_element-same (slice_get s.store.table i) fuel _ _ (λ y.
      if_there-same (slice_get m.types x) fuel _ _ (λ u. with_function-same m y fuel _ _ (λ c t s.
      let run : Code → Continuation = within_body m limits n depth in
      let run' : Code → Continuation = within_body m limits n' depth in
      if_so-same (same_type u t) (Trapped trap.Signature s.store) fuel (call m limits depth run go c t) (call m limits depth run' go' c t)
      (call-same m limits depth fuel run run' go go' c t (λ code. within-spends m limits n code (depth + 1)) (λ code u j l. within-enough n n' code (depth + 1) u j (omega arith) (omega arith)) h) s))) s) s g l)

  -- so the index of `exec` is of no account
  pub within-exec : (n : ℕ) (c : Code) (depth : ℕ) (s : State) (fuel : ℕ) → fuel < n → exec_within m limits n c depth s fuel ≡ exec m limits depth c s fuel
  unfolding exec
  within-exec n c depth s fuel lt = within-enough n (suc fuel) c depth s fuel lt (omega arith)
