-- What a call keeps of the store that it begins with.
use Rattle.std.proofs.Common.{◌≡◌, ℕ, ◌+◌, ◌*◌, ◌/◌, ◌≤◌, List, [], ◌∷◌, ◌++◌, length, Option, Some, None, Bool, true, false, true≢false, cond, refl, sym, ap, ◌∙◌, subst, arith, length-append, length-set}
use Rattle.std.specs.Prelude.{nat_lt, slice_get, replicate, reverse, fold, find, map}
use Rattle.std.specs.List.{enumerate_from}
use Rattle.std.proofs.lemmas.List.{length-map, length-replicate}
use Rattle.std.proofs.lemmas.Bool.{ltb-false}
use Rattle.wasm_types.specs.declared.types.FuncType.{FuncType}
use Rattle.wasm_types.specs.declared.types.Limits.{Limits}
use Rattle.wasm_values.specs.declared.outcome.Val.{Val}
use Rattle.wasm_values.specs.declared.outcome.Outcome.{Outcome}
use Rattle.wasm_values.specs.declared.outcome.Outcome.TheVariants as outcome
use Rattle.wasm_types.specs.Tree.{Code, End, Plain, Block, Loop, If, Call, CallIndirect, FunctionTree, ModuleTree}
use Rattle.wasm_spec.specs.Store.{Store, Extent, page_size, minimum_of, memory_size, table_size, element_extent, data_extent, first_misfit, written, fresh_store, offset_of}
use Rattle.wasm_types.specs.declared.module.Import.{Import}
use Rattle.wasm_types.specs.declared.host.HostFunction.{HostFunction}
use Rattle.wasm_types.specs.declared.host.HostFunction.TheVariants as host
use Rattle.wasm_spec.specs.Functions.{Callee, Imported, Own, callee_at, host_function}
use Rattle.wasm_spec.specs.Execution.{Terms, host_call, import_call, call, State, Signal, Next, Branch, Returned, Trapped, OutOfFuel, Stuck, pages_of, most_pages, entered, exec}
use Rattle.wasm_spec.specs.Result.{CallResult, finish, run_function, result_of, function_result, if_done, after_start, result_from}
use Rattle.wasm_spec.specs.MoreFuel.{is_fuel, is_fuel_end}
use Rattle.wasm_spec.specs.Instances.{IsInstance, room_for}
use Rattle.wasm_spec.proofs.FuelLaws.{with_function-spends, call-spends, exec-spends}
use Rattle.wasm_spec.proofs.StoreSizes.{length-written, whole_pages}
use Rattle.wasm_spec.proofs.MoreFuel.{if_done_by}
use Rattle.wasm_spec.proofs.ImportLaws.{imported-ends}
use Rattle.wasm_spec.proofs.StoreLaws.{KeptIn, Keeps, IsKeptByChanges, given-keeps, and_then-keeps, import-keeps, invoke-keeps_at, with_function-keeps_at, exec-keeps}

-- ---- results

finish-keeps : (P : Store → Type 0) → Keeps P finish
finish-keeps P s fuel p = p

abbrev store_in : Store → Option CallResult → Store
store_in other None = other
store_in other (Some r) = r.store

same_store : (a r : CallResult) → ◌≡◌ {A = Option CallResult} (Some a) (Some r) → a.store ≡ r.store
same_store a r e = ap (store_in a.store) e

abbrev fuel_in : ℕ → Option CallResult → ℕ
fuel_in other None = other
fuel_in other (Some r) = r.fuel

same_fuel : (signal : Signal) (fuel : ℕ) (r : CallResult) → result_of (signal, fuel) ≡ Some r → r.fuel ≡ fuel
same_fuel (Next s) fuel r e = sym (ap (fuel_in fuel) e)
same_fuel (Trapped t store) fuel r e = sym (ap (fuel_in fuel) e)
same_fuel (OutOfFuel store) fuel r e = sym (ap (fuel_in fuel) e)
same_fuel (Branch l s) fuel r e = absurd (cc)
same_fuel (Returned s) fuel r e = absurd (cc)
same_fuel Stuck fuel r e = absurd (cc)

result-has : (P : Store → Type 0) (signal : Signal) (fuel : ℕ) (r : CallResult) → KeptIn P signal → result_of (signal, fuel) ≡ Some r → P r.store
result-has P (Next s) fuel r p e = subst P (same_store (record { outcome = outcome.Done (slice_get s.operands 0); store = s.store; fuel = fuel }) r e) p
result-has P (Trapped t store) fuel r p e = subst P (same_store (record { outcome = outcome.Trap t; store = store; fuel = fuel }) r e) p
result-has P (OutOfFuel store) fuel r p e = subst P (same_store (record { outcome = outcome.Fuel; store = store; fuel = fuel }) r e) p
result-has P (Branch l s) fuel r p e = absurd (cc)
result-has P (Returned s) fuel r p e = absurd (cc)
result-has P Stuck fuel r p e = absurd (cc)

module _ (m : ModuleTree) (limits : Terms) where
  -- the state in which a function is called from outside
  abbrev outside : List Val → Store → State
  outside arguments store = record { locals = []; operands = reverse arguments; store = store }

  -- what one function keeps, where its body does, or the import
  function-has : (P : Store → Type 0) (x : ℕ) (arguments : List Val) (store : Store) (fuel : ℕ) (r : CallResult) → P store
      → ((f : FunctionTree) (t : FuncType) (s : State) → s.store ≡ store → KeptIn P (exec m limits 1 f.body (entered f t s) fuel).0)
      → ((i : Import) → callee_at m x ≡ Some (Imported i) → KeptIn P (import_call limits.request i (outside arguments store)))
      → function_result m limits x arguments store fuel ≡ Some r → P r.store
  function-has P x arguments store fuel r p h hi e =
      let s : State = outside arguments store in
      result-has P (run_function m limits x arguments store fuel).0 (run_function m limits x arguments store fuel).1 r
      (with_function-keeps_at P m x (call m limits 0 (exec m limits 1) finish) s fuel kept) e where
        kept : (c : Callee) (t : FuncType) → callee_at m x ≡ Some c → KeptIn P (call m limits 0 (exec m limits 1) finish c t (outside arguments store) fuel).0
        kept (Own f) t there = invoke-keeps_at P limits 0 f t (exec m limits 1 f.body) finish (outside arguments store) fuel p (h f t (outside arguments store) refl) (finish-keeps P)
        kept (Imported i) t there = and_then-keeps P (import_call limits.request i (outside arguments store)) finish (finish-keeps P) fuel (hi i there)

  pub function-keeps : (P : Store → Type 0) → IsKeptByChanges (most_pages m.memories limits.pages) P
      → (x : ℕ) (arguments : List Val) (store : Store) (fuel : ℕ) (r : CallResult) → P store → function_result m limits x arguments store fuel ≡ Some r → P r.store
  function-keeps P c x arguments store fuel r p e = function-has P x arguments store fuel r p (λ f t s same. exec-keeps P m limits c 1 f.body (entered f t s) fuel (subst P (sym same) p))
      (λ i _. import-keeps P m limits c i (outside arguments store) p) e

  -- what a call keeps, where each of its two runs does
  two-keep : (P : Store → Type 0) (next : Store → ℕ → Option CallResult) → ((s : Store) (g : ℕ) (r : CallResult) → P s → next s g ≡ Some r → P r.store)
      → (o : Outcome) (first r : CallResult) → P first.store → if_done_by o first next ≡ Some r → P r.store
  two-keep P next h (outcome.Done v) first r p e = h first.store first.fuel r p e
  two-keep P next h (outcome.Trap t) first r p e = subst P (same_store first r e) p
  two-keep P next h outcome.Fuel first r p e = subst P (same_store first r e) p

  done-keeps : (P : Store → Type 0) (next : Store → ℕ → Option CallResult) → ((s : Store) (g : ℕ) (r : CallResult) → P s → next s g ≡ Some r → P r.store)
      → (o : Option CallResult) (r : CallResult) → ((first : CallResult) → o ≡ Some first → P first.store) → if_done o next ≡ Some r → P r.store
  done-keeps P next h None r k e = absurd (cc)
  done-keeps P next h (Some first) r k e = two-keep P next h first.outcome first r (k first refl) e

  start-keeps : (P : Store → Type 0) → IsKeptByChanges (most_pages m.memories limits.pages) P → (start : Option ℕ) (x : ℕ) (arguments : List Val) (store : Store) (fuel : ℕ) (r : CallResult)
      → P store → after_start m limits start (function_result m limits x arguments) store fuel ≡ Some r → P r.store
  start-keeps P c None x arguments store fuel r p e = function-keeps P c x arguments store fuel r p e
  start-keeps P c (Some y) x arguments store fuel r p e =
      done-keeps P (function_result m limits x arguments) (λ s g r p e. function-keeps P c x arguments s g r p e) (function_result m limits y [] store fuel) r
      (λ first e. function-keeps P c y [] store fuel first p e) e

  -- What all changes of a store keep, a call keeps.
  pub result-keeps : (P : Store → Type 0) → IsKeptByChanges (most_pages m.memories limits.pages) P
      → (x : ℕ) (arguments : List Val) (store : Store) (fuel : ℕ) (r : CallResult) → P store → result_from m limits x arguments store fuel ≡ Some r → P r.store
  result-keeps P c x arguments store fuel r p e = start-keeps P c m.start x arguments store fuel r p e

  -- ---- no fuel

  code-at_zero : (depth : ℕ) (code : Code) (s : State) → KeptIn (λ t. t ≡ s.store) (exec m limits depth code s 0).0
  unfolding exec
  code-at_zero depth End s = refl
  code-at_zero depth (Plain i rest) s = refl
  code-at_zero depth (Block t body rest) s = refl
  code-at_zero depth (Loop t body rest) s = refl
  code-at_zero depth (If t first second rest) s = refl
  code-at_zero depth (Call x rest) s = refl
  code-at_zero depth (CallIndirect x rest) s = refl

  -- where the function is imported, if its effect leaves the store
  at_zero : (x : ℕ) (arguments : List Val) (store : Store) (r : CallResult)
      → ((i : Import) → callee_at m x ≡ Some (Imported i) → KeptIn (λ t. t ≡ store) (import_call limits.request i (outside arguments store)))
      → function_result m limits x arguments store 0 ≡ Some r → r.store ≡ store
  at_zero x arguments store r hi e =
      function-has (λ t. t ≡ store) x arguments store 0 r refl (λ f t s same. subst (λ (u : Store). KeptIn (λ t. t ≡ u) (exec m limits 1 f.body (entered f t s) 0).0) same (code-at_zero 1 f.body (entered f t s))) hi e

  own-no_import : (x : ℕ) (f : FunctionTree) (i : Import) → callee_at m x ≡ Some (Own f) → callee_at m x ≡ Some (Imported i) → ⊥
  own-no_import x f i own there = cc (own, there)

  pub function-at_zero : (x : ℕ) (f : FunctionTree) (arguments : List Val) (store : Store) (r : CallResult) → callee_at m x ≡ Some (Own f)
      → function_result m limits x arguments store 0 ≡ Some r → r.store ≡ store
  function-at_zero x f arguments store r own e = at_zero x arguments store r (λ i there. absurd (own-no_import x f i own there)) e

  -- no import that is given nothing changes the store
  given-nothing : (h : HostFunction) (store : Store) → KeptIn (λ t. t ≡ store) (host_call limits.request h (outside [] store))
  given-nothing host.Len store = refl
  given-nothing host.Read store = tt
  given-nothing host.Write store = tt

  start-function-at_zero : (x : ℕ) (store : Store) (r : CallResult) → function_result m limits x [] store 0 ≡ Some r → r.store ≡ store
  start-function-at_zero x store r e = at_zero x [] store r (λ i _. given-keeps (λ t. t ≡ store) (host_function i) _ (λ h. given-nothing h store)) e

  pub function-spends : (x : ℕ) (arguments : List Val) (store : Store) (fuel : ℕ) (r : CallResult) → function_result m limits x arguments store fuel ≡ Some r → r.fuel ≤ fuel
  function-spends x arguments store fuel r e =
      let s : State = record { locals = []; operands = reverse arguments; store = store } in
      let spent : (run_function m limits x arguments store fuel).1 ≤ fuel =
      with_function-spends m x (call m limits 0 (exec m limits 1) finish)
      (λ c t. call-spends m limits 0 (exec m limits 1) finish c t (exec-spends m limits 1) (λ s g. omega arith)) s fuel in
      let same = same_fuel (run_function m limits x arguments store fuel).0 (run_function m limits x arguments store fuel).1 r e in omega arith

  two-spend : (next : Store → ℕ → Option CallResult) → ((s : Store) (g : ℕ) (r : CallResult) → next s g ≡ Some r → r.fuel ≤ g)
      → (o : Outcome) (first r : CallResult) (fuel : ℕ) → first.fuel ≤ fuel → if_done_by o first next ≡ Some r → r.fuel ≤ fuel
  two-spend next h (outcome.Done v) first r fuel le e = let k = h first.store first.fuel r e in omega arith
  two-spend next h (outcome.Trap t) first r fuel le e = let same : first.fuel ≡ r.fuel = ap (fuel_in 0) e in omega arith
  two-spend next h outcome.Fuel first r fuel le e = let same : first.fuel ≡ r.fuel = ap (fuel_in 0) e in omega arith

  done-spends : (next : Store → ℕ → Option CallResult) → ((s : Store) (g : ℕ) (r : CallResult) → next s g ≡ Some r → r.fuel ≤ g)
      → (o : Option CallResult) (r : CallResult) (fuel : ℕ) → ((first : CallResult) → o ≡ Some first → first.fuel ≤ fuel) → if_done o next ≡ Some r → r.fuel ≤ fuel
  done-spends next h None r fuel k e = absurd (cc)
  done-spends next h (Some first) r fuel k e = two-spend next h first.outcome first r fuel (k first refl) e

  start-spends : (start : Option ℕ) (x : ℕ) (arguments : List Val) (store : Store) (fuel : ℕ) (r : CallResult)
      → after_start m limits start (function_result m limits x arguments) store fuel ≡ Some r → r.fuel ≤ fuel
  start-spends None x arguments store fuel r e = function-spends x arguments store fuel r e
  start-spends (Some y) x arguments store fuel r e =
      done-spends (function_result m limits x arguments) (λ s g r e. function-spends x arguments s g r e) (function_result m limits y [] store fuel) r fuel (λ first e. function-spends y [] store fuel first e) e

  -- a call leaves at most the fuel that it was given
  pub result-spends : (x : ℕ) (arguments : List Val) (store : Store) (fuel : ℕ) (r : CallResult) → result_from m limits x arguments store fuel ≡ Some r → r.fuel ≤ fuel
  result-spends x arguments store fuel r e = start-spends m.start x arguments store fuel r e

  -- where the call ends with this, and each of its two runs leaves the store
  two-at_zero : (next : Store → ℕ → Option CallResult) (store : Store) (r : CallResult) → ((s : Store) → next s 0 ≡ Some r → r.store ≡ s)
      → (o : Outcome) (first : CallResult) → first.store ≡ store → first.fuel ≡ 0 → if_done_by o first next ≡ Some r → r.store ≡ store
  two-at_zero next store r h (outcome.Done v) first p z e = h first.store (ap (next first.store) (sym z) ∙ e) ∙ p
  two-at_zero next store r h (outcome.Trap t) first p z e = sym (same_store first r e) ∙ p
  two-at_zero next store r h outcome.Fuel first p z e = sym (same_store first r e) ∙ p

  done-at_zero : (next : Store → ℕ → Option CallResult) (store : Store) (r : CallResult) → ((s : Store) → next s 0 ≡ Some r → r.store ≡ s)
      → (o : Option CallResult) → ((first : CallResult) → o ≡ Some first → (first.store ≡ store) × (first.fuel ≡ 0)) → if_done o next ≡ Some r → r.store ≡ store
  done-at_zero next store r h None k e = absurd (cc)
  done-at_zero next store r h (Some first) k e = let f = k first refl in two-at_zero next store r h first.outcome first f.0 f.1 e

  start-at_zero : (start : Option ℕ) (x : ℕ) (arguments : List Val) (store : Store) (r : CallResult) → ((s : Store) → function_result m limits x arguments s 0 ≡ Some r → r.store ≡ s)
      → after_start m limits start (function_result m limits x arguments) store 0 ≡ Some r → r.store ≡ store
  start-at_zero None x arguments store r h e = h store e
  start-at_zero (Some y) x arguments store r h e =
      done-at_zero (function_result m limits x arguments) store r h (function_result m limits y [] store 0)
      (λ first e. (start-function-at_zero y store first e, let le = function-spends y [] store 0 first e in omega arith)) e

  -- without fuel a call of an own function leaves the store as it is
  pub result-at_zero : (x : ℕ) (f : FunctionTree) (arguments : List Val) (store : Store) (r : CallResult) → callee_at m x ≡ Some (Own f)
      → result_from m limits x arguments store 0 ≡ Some r → r.store ≡ store
  result-at_zero x f arguments store r own e = start-at_zero m.start x arguments store r (λ s e. function-at_zero x f arguments s r own e) e

  unfinished-function : (x : ℕ) (arguments : List Val) (store : Store) (r : CallResult) → is_fuel r.outcome ≡ true
      → function_result m limits x arguments store 0 ≡ Some r → r.store ≡ store
  unfinished-function x arguments store r out e = at_zero x arguments store r
      (λ i there. absurd (true≢false (sym out ∙ ap is_fuel_end (sym e) ∙ imported-ends m limits x i (outside arguments store) 0 there))) e

  -- and so does a call of any that ends for want of it
  pub result-unfinished : (x : ℕ) (arguments : List Val) (store : Store) (r : CallResult) → is_fuel r.outcome ≡ true
      → result_from m limits x arguments store 0 ≡ Some r → r.store ≡ store
  result-unfinished x arguments store r out e = start-at_zero m.start x arguments store r (λ s e. unfinished-function x arguments s r out e) e

-- ---- one instance

most-in_room : (ms : List Limits) (pages n : ℕ) → n ≤ most_pages ms pages → n ≤ room_for ms pages
most-in_room [] pages n h = h
most-in_room (l ∷ ms) pages n h = omega arith

sum_is : (a b k n : ℕ) → a ≡ k * page_size → b ≡ n * page_size → a + b ≡ (k + n) * page_size
sum_is a b k n e f = omega arith

least_in_room : (ms : List Limits) (pages : ℕ) → minimum_of ms ≤ pages → minimum_of ms ≤ room_for ms pages
least_in_room [] pages h = omega arith
least_in_room (l ∷ ms) pages h = h

pub instance-kept : (m : ModuleTree) (limits : Terms) (table : List (Option ℕ)) → IsKeptByChanges (most_pages m.memories limits.pages) (IsInstance m limits.pages table)
instance-kept m limits table = record {
  global = λ store x v i. record { table_is = i.table_is; globals_are = length-set store.globals x v ∙ i.globals_are; size = i.size; whole = i.whole; within = i.within; answered = i.answered };
  bytes = λ store at bytes h i. record { table_is = i.table_is; globals_are = i.globals_are; size = i.size; whole = length-written store.memory at bytes h ∙ i.whole; within = i.within; answered = i.answered };
  answer = λ store bytes h i. record { table_is = i.table_is; globals_are = i.globals_are; size = i.size; whole = i.whole; within = i.within; answered = h };
  pages = λ store n h i. let old : pages_of store ≡ i.size = ap (λ (k : ℕ). k / page_size) i.whole ∙ whole_pages i.size in record {
    table_is = i.table_is;
    globals_are = i.globals_are;
    size = i.size + n;
    whole = length-append store.memory (replicate (n * page_size) 0) ∙ sum_is (length store.memory) (length (replicate (n * page_size) 0)) i.size n i.whole (length-replicate (n * page_size) 0);
    within = most-in_room m.memories limits.pages (i.size + n) (omega arith);
    answered = i.answered;
  };
}

-- a segment that fits does not change a size
fits-from : {A B : Type 0} (extent : ℕ × A → Extent) (write : List B → A → List B) (size : ℕ) → ((i : ℕ) (s : A) (list : List B) → (extent (i, s)).end ≤ (extent (i, s)).size → length list ≡ size → length (write list s) ≡ length list)
    → (i : ℕ) (segments : List A) (list : List B) → length list ≡ size → find (λ e. nat_lt e.size e.end) (map extent (enumerate_from i segments)) ≡ None → length (fold write list segments) ≡ size
fits-from extent write size h i [] list long none = long
fits-from extent write size h i (s ∷ segments) list long none = let e : Extent = extent (i, s) in
    let split : (b : Bool) → nat_lt e.size e.end ≡ b → ◌≡◌ {A = Option Extent} (cond b (Some e) (find (λ e. nat_lt e.size e.end) (map extent (enumerate_from (i + 1) segments)))) None → length (fold write (write list s) segments) ≡ size = elim [
      | true ↦ λ q n. absurd (cc)
      | false ↦ λ q n. fits-from extent write size h (i + 1) segments (write list s) (h i s list (ltb-false e.size e.end q) long ∙ long) n
    ] in split (nat_lt e.size e.end) refl none

find-left : (test : Extent → Bool) (xs ys : List Extent) → find test (xs ++ ys) ≡ None → find test xs ≡ None
find-left test [] ys e = refl
find-left test (x ∷ xs) ys e = let split : (b : Bool) → ◌≡◌ {A = Option Extent} (cond b (Some x) (find test (xs ++ ys))) None → ◌≡◌ {A = Option Extent} (cond b (Some x) (find test xs)) None = elim [
  | true ↦ λ q. q
  | false ↦ λ q. find-left test xs ys q
] in split (test x) e

find-right : (test : Extent → Bool) (xs ys : List Extent) → find test (xs ++ ys) ≡ None → find test ys ≡ None
find-right test [] ys e = e
find-right test (x ∷ xs) ys e = let split : (b : Bool) → ◌≡◌ {A = Option Extent} (cond b (Some x) (find test (xs ++ ys))) None → find test ys ≡ None = elim [
  | true ↦ λ q. absurd (cc)
  | false ↦ λ q. find-right test xs ys q
] in split (test x) e

module _ (m : ModuleTree) (fits : first_misfit m ≡ None) where
  pub length-fresh_memory : length (fresh_store m).memory ≡ memory_size m
  length-fresh_memory = fits-from (data_extent m) (λ bytes s. written bytes (offset_of m s.offset) s.bytes) (memory_size m) (λ i s list h long. length-written list (offset_of m s.offset) s.bytes (omega arith)) 0 m.data_segments (replicate (memory_size m) 0) (length-replicate (memory_size m) 0)
      (find-right (λ e. nat_lt e.size e.end) (map (element_extent m) (enumerate_from 0 m.element_segments)) (map (data_extent m) (enumerate_from 0 m.data_segments)) fits)

  pub length-fresh_table : length (fresh_store m).table ≡ table_size m
  length-fresh_table = fits-from (element_extent m) (λ table s. written table (offset_of m s.offset) (map (λ f. Some f) s.functions)) (table_size m) (λ i s list h long. length-written list (offset_of m s.offset) (map (λ f. Some f) s.functions) (rw length-map (omega arith))) 0 m.element_segments (replicate (table_size m) None) (length-replicate (table_size m) None)
      (find-left (λ e. nat_lt e.size e.end) (map (element_extent m) (enumerate_from 0 m.element_segments)) (map (data_extent m) (enumerate_from 0 m.data_segments)) fits)

  pub fresh-instance : (pages : ℕ) → minimum_of m.memories ≤ pages → IsInstance m pages (fresh_store m).table (fresh_store m)
  fresh-instance pages le = record { table_is = refl; globals_are = length-map m.globals _; size = minimum_of m.memories; whole = length-fresh_memory; within = least_in_room m.memories pages le; answered = omega arith }
