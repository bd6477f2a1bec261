-- What every instruction keeps of a store, a run keeps.
use Rattle.std.proofs.Common.{◌≡◌, ℕ, zero, suc, ◌+◌, ◌*◌, ◌≤◌, List, [], ◌∷◌, ◌++◌, length, take, drop, length-append, Option, Some, None, Bool, true, false, refl, ap, arith}
use Rattle.std.specs.Prelude.{Result, Ok, Err, nat_lt, nat_le, slice_get, slice_set, ◌&&◌, replicate, if◌then◌else◌, ◌^◌, ◌-◌}
use Rattle.std.specs.Int as int
use Rattle.std.specs.Int.{byte_len, to_le_bytes, bytes_low_first}
use Rattle.std.proofs.lemmas.Bool.{and_parts, leb-true, ltb-false}
use Rattle.std.proofs.lemmas.List.{length-replicate, length-take, length-drop}
use Rattle.wasm_types.specs.declared.types.FuncType.{FuncType}
use Rattle.wasm_values.specs.declared.outcome.Val.{Val}
use Rattle.wasm_values.specs.declared.outcome.Val.TheVariants as val
use Rattle.wasm_values.specs.declared.outcome.TrapKind.{TrapKind}
use Rattle.wasm_values.specs.declared.outcome.TrapKind.TheVariants as trap
use Rattle.wasm_types.specs.declared.instr.Width.{Width}
use Rattle.wasm_types.specs.declared.instr.Width.TheVariants.{W32, W64}
use Rattle.wasm_types.specs.declared.instr.Instr.{Instr}
use Rattle.wasm_types.specs.declared.instr.Instr.TheVariants as instr
use Rattle.wasm_types.specs.Tree.{Code, End, Plain, Block, Loop, If, Call, CallIndirect, FunctionTree, ModuleTree}
use Rattle.wasm_types.specs.SameTypes.{same_type}
use Rattle.wasm_types.specs.declared.module.Import.{Import}
use Rattle.wasm_types.specs.declared.host.HostFunction.{HostFunction}
use Rattle.wasm_types.specs.declared.host.HostFunction.TheVariants as host
use Rattle.wasm_spec.specs.Functions.{Callee, Imported, Own, callee_at, callee_type, host_function}
use Rattle.wasm_spec.specs.Operators.{bit_width, int_width, pack_width, pack_bits, binary, wrap}
use Rattle.wasm_spec.specs.Store.{Store, page_size, written, loaded}
use Rattle.wasm_spec.specs.Typing.{result_types}
use Rattle.wasm_spec.specs.Execution.{Terms, most_answer, lies_within, part, read_request, write_answer, pop_pair, pop_numbers, host_call, import_call, call, State, Signal, Next, Branch, Returned, Trapped, OutOfFuel, Stuck, Ended, Continuation, number, given, with_operands, pop, or_trap, store_number, pages_of, most_pages, grow, write_where, copy_bytes, fill_bytes, plain, pay, and_then, keep, leave, pop_index, inside, return, entered, invoke, if_there, with_function, with_element, exec_within, exec, pop_number, pop_address, chosen, load_number, value, extended}
use Rattle.wasm_spec.proofs.FuelLaws.{unless, if_so, choose, callee}

-- the store in which a sequence ends has this property
abbrev pub KeptIn : (Store → Type 0) → Signal → Type 0
KeptIn P (Next s) = P s.store
KeptIn P (Branch l s) = P s.store
KeptIn P (Returned s) = P s.store
KeptIn P (Trapped t store) = P store
KeptIn P (OutOfFuel store) = P store
KeptIn P Stuck = Unit {0}

-- what goes on from a store with this property ends in one
abbrev pub Keeps : (Store → Type 0) → Continuation → Type 0
Keeps P next = (s : State) (fuel : ℕ) → P s.store → KeptIn P (next s fuel).0

-- the ways in which an instruction or an import changes a store keep the property
pub record IsKeptByChanges (most : ℕ) (P : Store → Type 0) : Type 0 where
  pub global : (store : Store) (x : ℕ) (v : Val) → P store → P (record store { globals = slice_set store.globals x v })
  pub bytes : (store : Store) (at : ℕ) (bytes : List ℕ) → at + length bytes ≤ length store.memory → P store → P (record store { memory = written store.memory at bytes })
  pub answer : (store : Store) (bytes : List ℕ) → length bytes ≤ most_answer → P store → P (record store { answer = bytes })
  pub pages : (store : Store) (n : ℕ) → pages_of store + n ≤ most → P store → P (record store { memory = store.memory ++ replicate (n * page_size) 0 })

length-bytes : (i k n : ℕ) → length (bytes_low_first i k n) ≡ k
length-bytes i zero n = refl
length-bytes i (suc k) n = ap suc (length-bytes (suc i) k n)

module _ (P : Store → Type 0) where
  -- ---- plain instructions

  pub given-keeps : {A : Type 0} (o : Option A) (next : A → Signal) → ((x : A) → KeptIn P (next x)) → KeptIn P (given o next)
  given-keeps None next h = tt
  given-keeps (Some x) next h = h x

  pop-keeps : (vs : List Val) (next : Val → List Val → Signal) → ((x : Val) (r : List Val) → KeptIn P (next x r)) → KeptIn P (pop vs next)
  pop-keeps [] next h = tt
  pop-keeps (x ∷ r) next h = h x r

  pop_number-keeps : (w : Width) (vs : List Val) (next : ℕ → List Val → Signal) → ((n : ℕ) (r : List Val) → KeptIn P (next n r)) → KeptIn P (pop_number w vs next)
  pop_number-keeps w vs next h = pop-keeps vs (λ x r. given (number w x) (λ n. next n r)) (λ x r. given-keeps (number w x) (λ n. next n r) (λ n. h n r))

  pair-keeps : (vs : List Val) (next : ℕ → ℕ → List Val → Signal) → ((a b : ℕ) (r : List Val) → KeptIn P (next a b r)) → KeptIn P (pop_pair vs next)
  pair-keeps vs next h =
      pop_number-keeps W32 vs (λ b xs. pop_number W32 xs (λ a r. next a b r)) (λ b xs. pop_number-keeps W32 xs (λ a r. next a b r) (λ a r. h a b r))

  numbers-keep : (vs : List Val) (next : ℕ → ℕ → ℕ → List Val → Signal) → ((a b n : ℕ) (r : List Val) → KeptIn P (next a b n r)) → KeptIn P (pop_numbers vs next)
  numbers-keep vs next h =
      pop_number-keeps W32 vs (λ n xs. pop_pair xs (λ a b r. next a b n r)) (λ n xs. pair-keeps xs (λ a b r. next a b n r) (λ a b r. h a b n r))

  address-keeps : (offset : ℕ) (vs : List Val) (next : ℕ → List Val → Signal) → ((at : ℕ) (r : List Val) → KeptIn P (next at r)) → KeptIn P (pop_address offset vs next)
  address-keeps offset vs next h = pop_number-keeps W32 vs (λ base r. next (base + offset) r) (λ base r. h (base + offset) r)

  if-keeps : (b : Bool) (x y : Signal) → KeptIn P x → (b ≡ false → KeptIn P y) → KeptIn P (if b then x else y)
  if-keeps true x y h k = h
  if-keeps false x y h k = k refl

  if-within : (b : Bool) (x y : Signal) → (b ≡ true → KeptIn P x) → KeptIn P y → KeptIn P (if b then x else y)
  if-within true x y h k = h refl
  if-within false x y h k = k

  chosen-keeps : (n : ℕ) (x y : Signal) → KeptIn P x → KeptIn P y → KeptIn P (chosen n x y)
  chosen-keeps zero x y h k = k
  chosen-keeps (suc n) x y h k = h

  or_trap-keeps : (r : Result ℕ TrapKind) (s : State) (next : ℕ → Signal) → P s.store → ((n : ℕ) → KeptIn P (next n)) → KeptIn P (or_trap r s next)
  or_trap-keeps (Ok n) s next p h = h n
  or_trap-keeps (Err t) s next p h = p

  -- ---- going on

  pay-keeps : (store : Store) (fuel : ℕ) (next : ℕ → Ended) → P store → ((g : ℕ) → KeptIn P (next g).0) → KeptIn P (pay store fuel next).0
  pay-keeps store zero next p h = p
  pay-keeps store (suc fuel) next p h = h fuel

  pub and_then-keeps : (signal : Signal) (next : Continuation) → Keeps P next → (fuel : ℕ) → KeptIn P signal → KeptIn P (and_then signal fuel next).0
  and_then-keeps (Next s) next h fuel p = h s fuel p
  and_then-keeps (Branch l s) next h fuel p = p
  and_then-keeps (Returned s) next h fuel p = p
  and_then-keeps (Trapped t store) next h fuel p = p
  and_then-keeps (OutOfFuel store) next h fuel p = p
  and_then-keeps Stuck next h fuel p = tt

  unless-keeps : (test : Bool) (signal : Signal) (next : Continuation) (s : State) (fuel : ℕ) → KeptIn P signal → KeptIn P (next s fuel).0 → KeptIn P (unless test signal next s fuel).0
  unless-keeps true signal next s fuel p h = p
  unless-keeps false signal next s fuel p h = h

  if_so-keeps : (test : Bool) (signal : Signal) (next : Continuation) (s : State) (fuel : ℕ) → KeptIn P signal → KeptIn P (next s fuel).0 → KeptIn P (if_so test signal next s fuel).0
  if_so-keeps true signal next s fuel p h = h
  if_so-keeps false signal next s fuel p h = p

  keep-keeps : (n : ℕ) (below : List Val) (next : Continuation) → Keeps P next → Keeps P (keep n below next)
  keep-keeps n below next h s fuel p = let t : State = record s { operands = take n s.operands ++ below } in
      unless-keeps (nat_lt (length s.operands) n) Stuck next t fuel tt (h t fuel p)

  leave-keeps : (n : ℕ) (below : List Val) (signal : Signal) (fuel : ℕ) (next target : Continuation)
      → Keeps P next → Keeps P target → KeptIn P signal → KeptIn P (leave n below (signal, fuel) next target).0
  leave-keeps n below (Next s) fuel next target h k p = h (record s { operands = s.operands ++ below }) fuel p
  leave-keeps n below (Branch zero s) fuel next target h k p = keep-keeps n below target k s fuel p
  leave-keeps n below (Branch (suc l) s) fuel next target h k p = p
  leave-keeps n below (Returned s) fuel next target h k p = p
  leave-keeps n below (Trapped t store) fuel next target h k p = p
  leave-keeps n below (OutOfFuel store) fuel next target h k p = p
  leave-keeps n below Stuck fuel next target h k p = tt

  return-keeps : (n : ℕ) (caller : State) (below : List Val) (signal : Signal) (fuel : ℕ) (next : Continuation)
      → Keeps P next → KeptIn P signal → KeptIn P (return n caller below (signal, fuel) next).0
  return-keeps n caller below (Next s) fuel next h p = keep-keeps n below next h (record s { locals = caller.locals }) fuel p
  return-keeps n caller below (Branch zero s) fuel next h p = keep-keeps n below next h (record s { locals = caller.locals }) fuel p
  return-keeps n caller below (Branch (suc l) s) fuel next h p = tt
  return-keeps n caller below (Returned s) fuel next h p = keep-keeps n below next h (record s { locals = caller.locals }) fuel p
  return-keeps n caller below (Trapped t store) fuel next h p = p
  return-keeps n caller below (OutOfFuel store) fuel next h p = p
  return-keeps n caller below Stuck fuel next h p = tt

  -- a call, where its body's run keeps the property
  pub invoke-keeps_at : (limits : Terms) (depth : ℕ) (f : FunctionTree) (t : FuncType) (run next : Continuation) (s : State) (fuel : ℕ)
      → P s.store → KeptIn P (run (entered f t s) fuel).0 → Keeps P next → KeptIn P (invoke limits depth f t run next s fuel).0
  invoke-keeps_at limits depth f t run next s fuel p hr h =
      let calls : Continuation = callee f t run next in
      let deep : Bool = nat_le limits.depth depth in
      let inner : Ended = run (entered f t s) fuel in
      unless-keeps (nat_lt (length s.operands) (length t.params)) Stuck (unless deep (Trapped trap.Exhausted s.store) calls) s fuel tt
      (unless-keeps deep (Trapped trap.Exhausted s.store) calls s fuel p
      (return-keeps (length t.results) s (drop (length t.params) s.operands) inner.0 inner.1 next h hr))

  invoke-keeps : (limits : Terms) (depth : ℕ) (f : FunctionTree) (t : FuncType) (run next : Continuation)
      → Keeps P run → Keeps P next → Keeps P (invoke limits depth f t run next)
  invoke-keeps limits depth f t run next hr h s fuel p = invoke-keeps_at limits depth f t run next s fuel p (hr (entered f t s) fuel p) h

  if_there-keeps : {A : Type 0} (o : Option A) (next : A → Continuation) → ((x : A) → Keeps P (next x)) → Keeps P (if_there o next)
  if_there-keeps None next h s fuel p = tt
  if_there-keeps (Some x) next h s fuel p = h x s fuel p

  pub with_function-keeps : (m : ModuleTree) (x : ℕ) (next : Callee → FuncType → Continuation)
      → ((c : Callee) (t : FuncType) → Keeps P (next c t)) → Keeps P (with_function m x next)
  with_function-keeps m x next h =
      if_there-keeps (callee_at m x) (λ c. if_there (callee_type m c) (next c)) (λ c. if_there-keeps (callee_type m c) (next c) (h c))

  -- what goes on behind an item that is there keeps the state, of one state alone
  if_there-keeps_at : {A : Type 0} (o : Option A) (next : A → Continuation) (s : State) (fuel : ℕ)
      → ((x : A) → o ≡ Some x → KeptIn P (next x s fuel).0) → KeptIn P (if_there o next s fuel).0
  if_there-keeps_at None next s fuel h = tt
  if_there-keeps_at (Some x) next s fuel h = h x refl

  pub with_function-keeps_at : (m : ModuleTree) (x : ℕ) (next : Callee → FuncType → Continuation) (s : State) (fuel : ℕ)
      → ((c : Callee) (t : FuncType) → callee_at m x ≡ Some c → KeptIn P (next c t s fuel).0) → KeptIn P (with_function m x next s fuel).0
  with_function-keeps_at m x next s fuel h =
      if_there-keeps_at (callee_at m x) (λ c. if_there (callee_type m c) (next c)) s fuel
      (λ c there. if_there-keeps_at (callee_type m c) (next c) s fuel (λ t _. h c t there))

  pop_index-keeps : (vs : List Val) (next : ℕ → Continuation) → ((n : ℕ) → Keeps P (next n)) → Keeps P (pop_index vs next)
  pop_index-keeps [] next h s fuel p = tt
  pop_index-keeps (val.I64 n ∷ vs) next h s fuel p = tt
  pop_index-keeps (val.I32 n ∷ vs) next h s fuel p = h n (record s { operands = vs }) fuel p

  with_element-keeps : (o : Option (Option ℕ)) (next : ℕ → Continuation) → ((n : ℕ) → Keeps P (next n)) → Keeps P (with_element o next)
  with_element-keeps None next h s fuel p = p
  with_element-keeps (Some None) next h s fuel p = p
  with_element-keeps (Some (Some x)) next h s fuel p = h x s fuel p

  choose-keeps : (n : ℕ) (first second : Continuation) → Keeps P first → Keeps P second → Keeps P (choose n first second)
  choose-keeps zero first second h k s fuel p = k s fuel p
  choose-keeps (suc n) first second h k s fuel p = h s fuel p

module _ (P : Store → Type 0) (m : ModuleTree) (limits : Terms) (c : IsKeptByChanges (most_pages m.memories limits.pages) P) where
  grow-keeps : (n : ℕ) (vs : List Val) (s : State) → P s.store → KeptIn P (grow (most_pages m.memories limits.pages) n vs s)
  grow-keeps n vs s p = let old : ℕ = pages_of s.store in
      if-keeps P (nat_lt (most_pages m.memories limits.pages) (old + n)) (with_operands (val.I32 (2 ^ 32 - 1) ∷ vs) s)
      (Next (record s { operands = val.I32 old ∷ vs; store = record s.store { memory = s.store.memory ++ replicate (n * page_size) 0 } })) p
      (λ e. c.pages s.store n (ltb-false (most_pages m.memories limits.pages) (old + n) e) p)

  placed-keeps : (fits : Bool) (to : ℕ) (bytes : List ℕ) (vs : List Val) (s : State) → P s.store → (fits ≡ true → to + length bytes ≤ length s.store.memory) → KeptIn P (write_where fits to bytes vs s)
  placed-keeps true to bytes vs s p h = c.bytes s.store to bytes (h refl) p
  placed-keeps false to bytes vs s p h = p

  written-keeps : (width : int.Width) (n at : ℕ) (vs : List Val) (s : State) → P s.store → KeptIn P (store_number width n at vs s)
  written-keeps width n at vs s p =
      placed-keeps (lies_within s.store at (byte_len width)) at (to_le_bytes width n) vs s p
      (λ e. let room = leb-true (at + byte_len width) (length s.store.memory) e in let long = length-bytes 0 (byte_len width) n in omega arith)

  loaded-keeps : (width : int.Width) (what : ℕ → Val) (at : ℕ) (vs : List Val) (s : State) → P s.store → KeptIn P (load_number width what at vs s)
  loaded-keeps width what at vs s p = if-within P (lies_within s.store at (byte_len width)) (with_operands (what (loaded width s.store.memory at) ∷ vs) s) (Trapped trap.Memory s.store) (λ _. p) p

  copied-keeps : (to from n : ℕ) (vs : List Val) (s : State) → P s.store → KeptIn P (copy_bytes to from n vs s)
  copied-keeps to from n vs s p =
      placed-keeps (lies_within s.store to n && lies_within s.store from n) to (take n (drop from s.store.memory)) vs s p
      (λ e. let both = and_parts (lies_within s.store to n) (lies_within s.store from n) e in
      let at = leb-true (to + n) (length s.store.memory) both.0 in
      let long = length-take n (drop from s.store.memory) in
      let left = length-drop from s.store.memory in
      omega arith)

  filled-keeps : (to value n : ℕ) (vs : List Val) (s : State) → P s.store → KeptIn P (fill_bytes to value n vs s)
  filled-keeps to value n vs s p =
      placed-keeps (lies_within s.store to n) to (replicate n (wrap 8 value)) vs s p
      (λ e. let at = leb-true (to + n) (length s.store.memory) e in let long = length-replicate n (wrap 8 value) in omega arith)

  plain-keeps : (i : Instr) (s : State) → P s.store → KeptIn P (plain m limits i s)
  plain-keeps instr.Unreachable s p = p
  plain-keeps instr.Nop s p = p
  plain-keeps (instr.Br l) s p = p
  plain-keeps (instr.BrIf l) s p = pop_number-keeps P W32 s.operands _ (λ c vs. chosen-keeps P c _ _ p p)
  plain-keeps (instr.BrTable labels l) s p = pop_number-keeps P W32 s.operands _ (λ i vs. p)
  plain-keeps instr.Return s p = p
  plain-keeps instr.Drop s p = pop-keeps P s.operands _ (λ x vs. p)
  plain-keeps instr.Select s p = pop_number-keeps P W32 s.operands _ (λ c vs. pop-keeps P vs _ (λ y rest. pop-keeps P rest _ (λ x below. chosen-keeps P c _ _ p p)))
  plain-keeps (instr.LocalGet x) s p = given-keeps P (slice_get s.locals x) _ (λ v. p)
  plain-keeps (instr.LocalSet x) s p = pop-keeps P s.operands _ (λ v vs. given-keeps P (slice_get s.locals x) _ (λ old. p))
  plain-keeps (instr.LocalTee x) s p = pop-keeps P s.operands _ (λ v vs. given-keeps P (slice_get s.locals x) _ (λ old. p))
  plain-keeps (instr.GlobalGet x) s p = given-keeps P (slice_get s.store.globals x) _ (λ v. p)
  plain-keeps (instr.GlobalSet x) s p = pop-keeps P s.operands _ (λ v vs. given-keeps P (slice_get s.store.globals x) _ (λ old. c.global s.store x v p))
  plain-keeps (instr.Load w a) s p = address-keeps P a.offset s.operands _ (λ at vs. loaded-keeps (int_width w) (value w) at vs s p)
  plain-keeps (instr.LoadPacked w k sign a) s p = address-keeps P a.offset s.operands _ (λ at vs. loaded-keeps (pack_width k) (λ n. value w (extended (pack_bits k) (bit_width w) sign n)) at vs s p)
  plain-keeps (instr.Store w a) s p = pop_number-keeps P w s.operands _ (λ n vs. address-keeps P a.offset vs _ (λ at rest. written-keeps (int_width w) n at rest s p))
  plain-keeps (instr.StorePacked w k a) s p = pop_number-keeps P w s.operands _ (λ n vs. address-keeps P a.offset vs _ (λ at rest. written-keeps (pack_width k) (wrap (pack_bits k) n) at rest s p))
  plain-keeps instr.MemorySize s p = p
  plain-keeps instr.MemoryGrow s p = pop_number-keeps P W32 s.operands _ (λ n vs. grow-keeps n vs s p)
  plain-keeps instr.MemoryCopy s p = numbers-keep P s.operands _ (λ to from n vs. copied-keeps to from n vs s p)
  plain-keeps instr.MemoryFill s p = numbers-keep P s.operands _ (λ to value n vs. filled-keeps to value n vs s p)
  plain-keeps (instr.Const v) s p = p
  plain-keeps (instr.Eqz w) s p = pop_number-keeps P w s.operands _ (λ a vs. p)
  plain-keeps (instr.Compare w op) s p = pop_number-keeps P w s.operands _ (λ b vs. pop_number-keeps P w vs _ (λ a rest. p))
  plain-keeps (instr.Unary w op) s p = pop_number-keeps P w s.operands _ (λ a vs. p)
  plain-keeps (instr.Binary w op) s p = pop_number-keeps P w s.operands _ (λ b vs. pop_number-keeps P w vs _ (λ a rest. or_trap-keeps P (binary (bit_width w) op a b) s _ p (λ c. p)))
  plain-keeps instr.Wrap s p = pop_number-keeps P W64 s.operands _ (λ a vs. p)
  plain-keeps (instr.Extend sign) s p = pop_number-keeps P W32 s.operands _ (λ a vs. p)
  plain-keeps instr.Float s p = tt

  -- ---- imports

  read-keeps : (to from n : ℕ) (vs : List Val) (s : State) → P s.store → KeptIn P (read_request limits.request to from n vs s)
  read-keeps to from n vs s p = let bytes : List ℕ = part limits.request from n in
      placed-keeps (lies_within s.store to n) to bytes (val.I32 (length bytes) ∷ vs) s p
      (λ e. let room = leb-true (to + n) (length s.store.memory) e in let long = length-take n (drop from limits.request) in omega arith)

  write-keeps : (from n : ℕ) (vs : List Val) (s : State) → P s.store → KeptIn P (write_answer from n vs s)
  write-keeps from n vs s p = let bytes : List ℕ = part s.store.memory from n in
      let appended : Signal = Next (record s { operands = val.I32 (length s.store.answer + n) ∷ vs; store = record s.store { answer = s.store.answer ++ bytes } }) in
      if-within P (lies_within s.store from n) (if nat_lt most_answer (length s.store.answer + n) then with_operands (val.I32 (2 ^ 32 - 1) ∷ vs) s else appended) (Trapped trap.Memory s.store)
      (λ _. if-keeps P (nat_lt most_answer (length s.store.answer + n)) (with_operands (val.I32 (2 ^ 32 - 1) ∷ vs) s) appended p
      (λ e. let room = ltb-false most_answer (length s.store.answer + n) e in
      let long = length-append s.store.answer bytes in
      let short = length-take n (drop from s.store.memory) in
      c.answer s.store (s.store.answer ++ bytes) (omega arith) p)) p

  host-keeps : (h : HostFunction) (s : State) → P s.store → KeptIn P (host_call limits.request h s)
  host-keeps host.Len s p = p
  host-keeps host.Read s p = numbers-keep P s.operands _ (λ to from n vs. read-keeps to from n vs s p)
  host-keeps host.Write s p = pair-keeps P s.operands _ (λ from n vs. write-keeps from n vs s p)

  pub import-keeps : (i : Import) (s : State) → P s.store → KeptIn P (import_call limits.request i s)
  import-keeps i s p = given-keeps P (host_function i) _ (λ h. host-keeps h s p)

  call-keeps : (depth : ℕ) (run : Code → Continuation) (rest : Continuation) (callee : Callee) (t : FuncType)
      → ((code : Code) → Keeps P (run code)) → Keeps P rest → Keeps P (call m limits depth run rest callee t)
  call-keeps depth run rest (Own f) t hr h s fuel p = invoke-keeps P limits depth f t (run f.body) rest (hr f.body) h s fuel p
  call-keeps depth run rest (Imported i) t hr h s fuel p = and_then-keeps P (import_call limits.request i s) rest h fuel (import-keeps i s p)

  pub within-keeps : (n : ℕ) (code : Code) (depth : ℕ) → Keeps P (exec_within m limits n code depth)
  within-keeps n End depth s fuel p = p
  within-keeps n (Plain i rest) depth s fuel p =
      pay-keeps P s.store fuel _ p (λ g. and_then-keeps P (plain m limits i s) (exec_within m limits n rest depth) (within-keeps n rest depth) g (plain-keeps i s p))
  within-keeps n (Block t body rest) depth s fuel p =
      pay-keeps P s.store fuel _ p (λ g.
      let go : Continuation = exec_within m limits n rest depth in
      let inner : Ended = exec_within m limits n body depth (inside s) g in
      leave-keeps P (length (result_types t)) s.operands inner.0 inner.1 go go (within-keeps n rest depth) (within-keeps n rest depth) (within-keeps n body depth (inside s) g p))
  within-keeps n (If t first second rest) depth s fuel p =
      pay-keeps P s.store fuel _ p (λ g. pop_index-keeps P s.operands _ (λ c s g p.
      let go : Continuation = exec_within m limits n rest depth in
      let a : Continuation = exec_within m limits n first depth in
      let b : Continuation = exec_within m limits n second depth in
      let inner : Ended = choose c a b (inside s) g in
      leave-keeps P (length (result_types t)) s.operands inner.0 inner.1 go go (within-keeps n rest depth) (within-keeps n rest depth)
      (choose-keeps P c a b (within-keeps n first depth) (within-keeps n second depth) (inside s) g p)) s g p)
  within-keeps zero (Loop t body rest) depth s fuel p = p
  within-keeps (suc n) (Loop t body rest) depth s fuel p =
      pay-keeps P s.store fuel _ p (λ g.
      let inner : Ended = exec_within m limits (suc n) body depth (inside s) g in
      leave-keeps P 0 s.operands inner.0 inner.1 (exec_within m limits (suc n) rest depth) (exec_within m limits n (Loop t body rest) depth)
      (within-keeps (suc n) rest depth) (within-keeps n (Loop t body rest) depth) (within-keeps (suc n) body depth (inside s) g p))
  within-keeps zero (Call x rest) depth s fuel p = p
  within-keeps (suc n) (Call x rest) depth s fuel p =
      let run : Code → Continuation = λ code. exec_within m limits n code (depth + 1) in
      let next : Callee → FuncType → Continuation = call m limits depth run (exec_within m limits (suc n) rest depth) in
      pay-keeps P s.store fuel (with_function m x next s) p (λ g. with_function-keeps P m x next (λ callee t.
      call-keeps depth run (exec_within m limits (suc n) rest depth) callee t
      (λ code. within-keeps n code (depth + 1)) (within-keeps (suc n) rest depth)) s g p)
  within-keeps zero (CallIndirect x rest) depth s fuel p = p
  within-keeps (suc n) (CallIndirect x rest) depth s fuel p =
      pay-keeps P s.store fuel _ p (λ g. pop_index-keeps P s.operands _ (λ i s.
      with_element-keeps P (slice_get s.store.table i) _ (λ y.
      if_there-keeps P (slice_get m.types x) _ (λ u.
      with_function-keeps P m y _ (λ callee t s fuel p.
      let run : Code → Continuation = λ code. exec_within m limits n code (depth + 1) in
      if_so-keeps P (same_type u t) (Trapped trap.Signature s.store) (call m limits depth run (exec_within m limits (suc n) rest depth) callee t) s fuel p
      (call-keeps depth run (exec_within m limits (suc n) rest depth) callee t
      (λ code. within-keeps n code (depth + 1)) (within-keeps (suc n) rest depth) s fuel p)))) s) s g p)

  pub exec-keeps : (depth : ℕ) (code : Code) → Keeps P (exec m limits depth code)
  unfolding exec
  exec-keeps depth code s fuel p = within-keeps (suc fuel) code depth s fuel p
