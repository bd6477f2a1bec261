-- Execution (WebAssembly Core Specification 1.0, section 4.4), with fuel and a bounded depth of calls.
--
-- Each plain instruction, block, loop, if and call costs one unit of fuel, and so does each branch back to a loop, which
-- executes the loop instruction again. The end of a sequence costs nothing. An instruction that is due where no fuel is
-- left is not executed.
--
-- The operands are those of the innermost block alone, the topmost first: a block's inner sequence begins with none, and
-- what lay below comes back when it is left. A run is `Stuck` where it asks for an operand, a local, a global, a function
-- or a type that isn't there, or that has another type. No run of a valid module is.
use Rattle.wasm_types.specs.declared.limits.RunLimits.{RunLimits}
use Rattle.wasm_types.specs.declared.host.HostFunction.{HostFunction}
use Rattle.wasm_types.specs.declared.host.HostFunction.TheVariants as host
use Rattle.wasm_types.specs.declared.module.Import.{Import}
use Rattle.std.specs.Prelude.{ℕ, zero, suc, ◌+◌, ◌-◌, ◌*◌, ◌/◌, ◌^◌, List, [], ◌∷◌, ◌++◌, Bool, true, false, Result, Ok, Err, Option, Some, None, nat_lt, nat_le, ◌&&◌, if◌then◌else◌, slice_get, slice_set, length, take, drop, reverse, map, replicate, min, unwrap_or}
use Rattle.std.specs.Option.{option_map_or}
use Rattle.std.specs.Int as int
use Rattle.std.specs.Int.{byte_len, to_le_bytes}
use Rattle.wasm_types.specs.declared.types.ValType.{ValType}
use Rattle.wasm_types.specs.declared.types.ValType.TheVariants as type
use Rattle.wasm_types.specs.declared.types.FuncType.{FuncType}
use Rattle.wasm_types.specs.declared.types.Limits.{Limits}
use Rattle.wasm_values.specs.declared.outcome.Val.{Val}
use Rattle.wasm_values.specs.declared.outcome.Val.TheVariants as val
use Rattle.wasm_values.specs.declared.outcome.TrapKind.{TrapKind}
use Rattle.wasm_values.specs.declared.outcome.TrapKind.TheVariants as trap
use Rattle.wasm_types.specs.declared.instr.Width.{Width}
use Rattle.wasm_types.specs.declared.instr.Width.TheVariants.{W32, W64}
use Rattle.wasm_types.specs.declared.instr.Sign.{Sign}
use Rattle.wasm_types.specs.declared.instr.Sign.TheVariants.{Signed, Unsigned}
use Rattle.wasm_types.specs.declared.instr.Instr.{Instr}
use Rattle.wasm_types.specs.declared.instr.Instr.TheVariants as instr
use Rattle.wasm_types.specs.Tree.{Code, End, Plain, Block, Loop, If, Call, CallIndirect, FunctionTree, ModuleTree}
use Rattle.wasm_types.specs.SameTypes.{same_type}
use Rattle.wasm_spec.specs.Functions.{host_function, Callee, Imported, Own, callee_at, callee_type}
use Rattle.wasm_spec.specs.Typing.{result_types}
pub use Rattle.wasm_spec.specs.Typing.{number}
use Rattle.wasm_spec.specs.Operators.{bit_width, int_width, pack_width, pack_bits, unary, binary, compare, eqz, extend_s, wrap}
use Rattle.wasm_spec.specs.Store.{Store, page_size, written, loaded}

-- What a run is given beside its arguments: the pages that its memory may have, how many calls may be open, and the bytes of
-- the request.
pub record Terms : Type 0 where
  pub pages : ℕ
  pub depth : ℕ
  pub request : List ℕ

abbrev pub terms_of : RunLimits → List ℕ → Terms
terms_of limits request = record { pages = limits.pages; depth = limits.depth; request = request }

-- the current function's locals, the operands, and the store
pub record State : Type 0 where
  pub locals : List Val
  pub operands : List Val
  pub store : Store

-- how a sequence of instructions ends: at its end, on the way to a label (the innermost is 0) or out of the function, by a
-- trap, for want of fuel, or where something that it asks for isn't there
pub data Signal : Type 0 where
  Next : (s : State) → Signal
  Branch : (l : ℕ) (s : State) → Signal
  Returned : (s : State) → Signal
  Trapped : (t : TrapKind) (store : Store) → Signal
  OutOfFuel : (store : Store) → Signal
  Stuck : Signal

-- and with how much fuel left
abbrev pub Ended : Type 0
Ended = Signal × ℕ

-- what is done from a state and the fuel left on
abbrev pub Continuation : Type 0
Continuation = State → ℕ → Ended

-- ---- values and operands

abbrev pub value : Width → ℕ → Val
value W32 n = val.I32 n
value W64 n = val.I64 n

abbrev pub given : {A : Type 0} → Option A → (A → Signal) → Signal
given o next = option_map_or next o Stuck

-- goes on with these operands
abbrev pub with_operands : List Val → State → Signal
with_operands vs s = Next (record s { operands = vs })

-- pops the topmost operand
abbrev pub pop : List Val → (Val → List Val → Signal) → Signal
pop [] next = Stuck
pop (x ∷ rest) next = next x rest

-- pops a number of this width
abbrev pub pop_number : Width → List Val → (ℕ → List Val → Signal) → Signal
pop_number w operands next = pop operands (λ x rest. given (number w x) (λ n. next n rest))

-- pops two and three numbers of 32 bits, which are given in the order in which they were pushed
abbrev pub pop_pair : List Val → (ℕ → ℕ → List Val → Signal) → Signal
pop_pair operands next = pop_number W32 operands (λ b xs. pop_number W32 xs (λ a rest. next a b rest))

abbrev pub pop_numbers : List Val → (ℕ → ℕ → ℕ → List Val → Signal) → Signal
pop_numbers operands next = pop_number W32 operands (λ c xs. pop_pair xs (λ a b rest. next a b c rest))

-- the first if the number is not 0, and else the second
abbrev pub chosen : {A : Type 0} → ℕ → A → A → A
chosen zero first second = second
chosen (suc n) first second = first

abbrev pub or_trap : Result ℕ TrapKind → State → (ℕ → Signal) → Signal
or_trap (Ok n) s next = next n
or_trap (Err t) s next = Trapped t s.store

-- ---- memory (section 4.4.4)

-- a number of so many bits in a type of n bits
abbrev pub extended : ℕ → ℕ → Sign → ℕ → ℕ
extended m n Signed i = extend_s m n i
extended m n Unsigned i = i

-- whether so many bytes from an address on lie in the memory; no bytes do at its very end, but not past that
abbrev pub lies_within : Store → ℕ → ℕ → Bool
lies_within store at n = nat_le (at + n) (length store.memory)

-- so many bytes of a list from a place on, or those of them that there are
abbrev pub part : List ℕ → ℕ → ℕ → List ℕ
part bytes from n = take n (drop from bytes)

-- these bytes to an address, where the test says that all that is named lies in the memory; else nothing is written
abbrev pub write_where : Bool → ℕ → List ℕ → List Val → State → Signal
write_where fits to bytes vs s =
    if fits then Next (record s { operands = vs; store = record s.store { memory = written s.store.memory to bytes } })
    else Trapped trap.Memory s.store

-- pops an address: the operand and the offset as a whole number, which does not wrap
abbrev pub pop_address : ℕ → List Val → (ℕ → List Val → Signal) → Signal
pop_address offset operands next = pop_number W32 operands (λ base rest. next (base + offset) rest)

-- the number at an address, if its bytes lie in the memory, goes onto these operands as `what` makes it
abbrev pub load_number : int.Width → (ℕ → Val) → ℕ → List Val → State → Signal
load_number width what at vs s =
    if lies_within s.store at (byte_len width) then with_operands (what (loaded width s.store.memory at) ∷ vs) s
    else Trapped trap.Memory s.store

-- a number's bytes to an address, if they fit the memory
abbrev pub store_number : int.Width → ℕ → ℕ → List Val → State → Signal
store_number width n at vs s = write_where (lies_within s.store at (byte_len width)) at (to_le_bytes width n) vs s

abbrev pub pages_of : Store → ℕ
pages_of store = length store.memory / page_size

-- the pages that the memory may have: at most the declared maximum of the memory, if it declares one; none where there is none
abbrev pub most_pages : List Limits → ℕ → ℕ
most_pages [] pages = 0
most_pages (limits ∷ _) pages = min pages (unwrap_or limits.max pages)

-- so many pages of zeros more, and the old size; or -1 exactly where that would be too many
abbrev pub grow : ℕ → ℕ → List Val → State → Signal
grow most n vs s =
    let old = pages_of s.store in
    if nat_lt most (old + n) then with_operands (val.I32 (2 ^ 32 - 1) ∷ vs) s
    else Next (record s { operands = val.I32 old ∷ vs; store = record s.store { memory = s.store.memory ++ replicate (n * page_size) 0 } })

-- `memory.copy` and `memory.fill` of a later version. What is copied is read as it was before, so both parts may overlap; a
-- byte is filled with the low 8 bits of the value.
abbrev pub copy_bytes : (to from n : ℕ) → List Val → State → Signal
copy_bytes to from n vs s = write_where (lies_within s.store to n && lies_within s.store from n) to (part s.store.memory from n) vs s

abbrev pub fill_bytes : (to value n : ℕ) → List Val → State → Signal
fill_bytes to value n vs s = write_where (lies_within s.store to n) to (replicate n (wrap 8 value)) vs s

-- ---- plain instructions (sections 4.4.1 to 4.4.5)

-- an instruction that holds no other and calls none
abbrev pub plain : ModuleTree → Terms → Instr → State → Signal
plain m terms instr.Unreachable s = Trapped trap.Unreachable s.store
plain m terms instr.Nop s = Next s
plain m terms (instr.Br l) s = Branch l s
plain m terms (instr.BrIf l) s = pop_number W32 s.operands (λ c vs. let t = record s { operands = vs } in chosen c (Branch l t) (Next t))
plain m terms (instr.BrTable labels l) s =
    pop_number W32 s.operands (λ i vs. Branch (unwrap_or (slice_get labels i) l) (record s { operands = vs }))
plain m terms instr.Return s = Returned s
plain m terms instr.Drop s = pop s.operands (λ x vs. with_operands vs s)
plain m terms instr.Select s =
    pop_number W32 s.operands (λ c vs. pop vs (λ y rest. pop rest (λ x below.
    chosen c (with_operands (x ∷ below) s) (with_operands (y ∷ below) s))))
plain m terms (instr.LocalGet x) s = given (slice_get s.locals x) (λ v. with_operands (v ∷ s.operands) s)
plain m terms (instr.LocalSet x) s =
    pop s.operands (λ v vs. given (slice_get s.locals x) (λ old. Next (record s { operands = vs; locals = slice_set s.locals x v })))
plain m terms (instr.LocalTee x) s =
    pop s.operands (λ v vs. given (slice_get s.locals x) (λ old. Next (record s { locals = slice_set s.locals x v })))
plain m terms (instr.GlobalGet x) s = given (slice_get s.store.globals x) (λ v. with_operands (v ∷ s.operands) s)
plain m terms (instr.GlobalSet x) s =
    pop s.operands (λ v vs. given (slice_get s.store.globals x) (λ old.
    Next (record s { operands = vs; store = record s.store { globals = slice_set s.store.globals x v } })))
plain m terms (instr.Load w a) s = pop_address a.offset s.operands (λ at vs. load_number (int_width w) (value w) at vs s)
plain m terms (instr.LoadPacked w p sign a) s =
    pop_address a.offset s.operands (λ at vs.
    load_number (pack_width p) (λ n. value w (extended (pack_bits p) (bit_width w) sign n)) at vs s)
plain m terms (instr.Store w a) s =
    pop_number w s.operands (λ n vs. pop_address a.offset vs (λ at rest. store_number (int_width w) n at rest s))
plain m terms (instr.StorePacked w p a) s =
    pop_number w s.operands (λ n vs. pop_address a.offset vs (λ at rest.
    store_number (pack_width p) (wrap (pack_bits p) n) at rest s))
plain m terms instr.MemorySize s = with_operands (val.I32 (pages_of s.store) ∷ s.operands) s
plain m terms instr.MemoryGrow s = pop_number W32 s.operands (λ n vs. grow (most_pages m.memories terms.pages) n vs s)
plain m terms instr.MemoryCopy s = pop_numbers s.operands (λ to from n vs. copy_bytes to from n vs s)
plain m terms instr.MemoryFill s = pop_numbers s.operands (λ to value n vs. fill_bytes to value n vs s)
plain m terms (instr.Const v) s = with_operands (v ∷ s.operands) s
plain m terms (instr.Eqz w) s = pop_number w s.operands (λ a vs. with_operands (val.I32 (eqz a) ∷ vs) s)
plain m terms (instr.Compare w op) s =
    pop_number w s.operands (λ b vs. pop_number w vs (λ a rest. with_operands (val.I32 (compare (bit_width w) op a b) ∷ rest) s))
plain m terms (instr.Unary w op) s = pop_number w s.operands (λ a vs. with_operands (value w (unary (bit_width w) op a) ∷ vs) s)
plain m terms (instr.Binary w op) s =
    pop_number w s.operands (λ b vs. pop_number w vs (λ a rest.
    or_trap (binary (bit_width w) op a b) s (λ c. with_operands (value w c ∷ rest) s)))
plain m terms instr.Wrap s = pop_number W64 s.operands (λ a vs. with_operands (val.I32 (wrap 32 a) ∷ vs) s)
plain m terms (instr.Extend sign) s = pop_number W32 s.operands (λ a vs. with_operands (val.I64 (extended 32 64 sign a) ∷ vs) s)
plain m terms instr.Float s = Stuck

-- ---- functions of the host

-- how many bytes an answer may have
abbrev pub most_answer : ℕ
most_answer = 65536

-- Bytes of the request to an address, and how many: n of them from a place on, or those that there are. The whole of the n
-- bytes must lie in the memory.
abbrev pub read_request : List ℕ → (to from n : ℕ) → List Val → State → Signal
read_request request to from n vs s =
    let bytes = part request from n in write_where (lies_within s.store to n) to bytes (val.I32 (length bytes) ∷ vs) s

-- n bytes of memory onto the answer, and its length then; or -1 and nothing exactly where it would be too long
abbrev pub write_answer : (from n : ℕ) → List Val → State → Signal
write_answer from n vs s =
    if lies_within s.store from n then
    if nat_lt most_answer (length s.store.answer + n) then with_operands (val.I32 (2 ^ 32 - 1) ∷ vs) s
    else Next (record s { operands = val.I32 (length s.store.answer + n) ∷ vs; store = record s.store { answer = s.store.answer ++ part s.store.memory from n } })
    else Trapped trap.Memory s.store

-- what a function of the host does with this request, in place of a body
abbrev pub host_call : List ℕ → HostFunction → State → Signal
host_call request host.Len s = with_operands (val.I32 (length request) ∷ s.operands) s
host_call request host.Read s = pop_numbers s.operands (λ to from n vs. read_request request to from n vs s)
host_call request host.Write s = pop_pair s.operands (λ from n vs. write_answer from n vs s)

-- an import that is none of the host's functions is not run
abbrev pub import_call : List ℕ → Import → State → Signal
import_call request i s = given (host_function i) (λ h. host_call request h s)

-- ---- going on

-- one unit of fuel, or the end of the fuel where none is left
abbrev pub pay : Store → ℕ → (ℕ → Ended) → Ended
pay store zero next = (OutOfFuel store, 0)
pay store (suc fuel) next = next fuel

-- What follows an instruction, if it does not leave its sequence. All other ends are handed on.
abbrev pub and_then : Signal → ℕ → Continuation → Ended
and_then (Next s) fuel next = next s fuel
and_then signal fuel next = (signal, fuel)

-- the topmost n operands on what lay below
abbrev pub keep : ℕ → List Val → Continuation → Continuation
keep n below next s fuel =
    if nat_lt (length s.operands) n then (Stuck, fuel) else next (record s { operands = take n s.operands ++ below }) fuel

-- pops a number of 32 bits
abbrev pub pop_index : List Val → (ℕ → Continuation) → Continuation
pop_index (val.I32 n ∷ vs) next s fuel = next n (record s { operands = vs }) fuel
pop_index _ next s fuel = (Stuck, fuel)

-- ---- blocks (section 4.4.6)

-- How a block's inner sequence leaves it: at its end, or by a branch to its label of n values, which goes to `target`. A
-- branch to a label further out counts from outside.
abbrev pub leave : ℕ → List Val → Ended → Continuation → Continuation → Ended
leave n below (Next s, fuel) next target = next (record s { operands = s.operands ++ below }) fuel
leave n below (Branch zero s, fuel) next target = keep n below target s fuel
leave n below (Branch (suc l) s, fuel) next target = (Branch l s, fuel)
leave n below inner next target = inner

-- a block's inner sequence begins with no operands
abbrev pub inside : State → State
inside s = record s { operands = [] }

-- the first arm as a block if the condition is not 0, and else the second
abbrev pub arm : Option ValType → Continuation → Continuation → Continuation → ℕ → Continuation
arm t first second rest c s fuel =
    leave (length (result_types t)) s.operands (chosen c (first (inside s) fuel) (second (inside s) fuel)) rest rest

-- ---- calls (section 4.4.7)

-- The value that a local begins with. A local of a float type, which no module that is run has, is given one of i32.
abbrev pub zero_of : ValType → Val
zero_of type.I64 = val.I64 0
zero_of _ = val.I32 0

-- How a function's body leaves it: the caller goes on with its own locals, and with the n results on its operands below
-- the arguments. The body is the outermost block: its label is that of the results.
abbrev pub return : ℕ → State → List Val → Ended → Continuation → Ended
return n caller below (Next s, fuel) next = keep n below next (record s { locals = caller.locals }) fuel
return n caller below (Branch zero s, fuel) next = keep n below next (record s { locals = caller.locals }) fuel
return n caller below (Branch (suc l) s, fuel) next = (Stuck, fuel)
return n caller below (Returned s, fuel) next = keep n below next (record s { locals = caller.locals }) fuel
return n caller below inner next = inner

-- a function's locals as it begins: its arguments, and then zeros
abbrev pub entered : FunctionTree → FuncType → State → State
entered f t s = record s { locals = reverse (take (length t.params) s.operands) ++ map zero_of f.locals; operands = [] }

-- Invokes a function of this type, whose body `run` executes, where so many calls are open, and goes on with the caller.
abbrev pub invoke : Terms → ℕ → FunctionTree → FuncType → Continuation → Continuation → Continuation
invoke terms depth f t run next s fuel =
    if nat_lt (length s.operands) (length t.params) then (Stuck, fuel)
    else if nat_le terms.depth depth then (Trapped trap.Exhausted s.store, fuel)
    else return (length t.results) s (drop (length t.params) s.operands) (run (entered f t s) fuel) next

-- what is done with what is there
abbrev pub if_there : {A : Type 0} → Option A → (A → Continuation) → Continuation
if_there o next s fuel = option_map_or (λ x. next x s fuel) o (Stuck, fuel)

-- the function with a number, and its type
abbrev pub with_function : ModuleTree → ℕ → (Callee → FuncType → Continuation) → Continuation
with_function m x next = if_there (callee_at m x) (λ c. if_there (callee_type m c) (next c))

-- the function that an element of the table is, if there is such an element and it is not empty
abbrev pub with_element : Option (Option ℕ) → (ℕ → Continuation) → Continuation
with_element None next s fuel = (Trapped trap.Element s.store, fuel)
with_element (Some None) next s fuel = (Trapped trap.Uninit s.store, fuel)
with_element (Some (Some x)) next s fuel = next x s fuel

-- ---- sequences of instructions

module _ (m : ModuleTree) (terms : Terms) where
  -- Calls, where so many calls are open, `run` executes a body and `rest` is what follows: of a function, of one that must
  -- have the type that the instruction names, and of an element of the table. A call of an import opens none, and costs
  -- nothing itself.
  module _ (depth : ℕ) (run : Code → Continuation) (rest : Continuation) where
    abbrev pub call : Callee → FuncType → Continuation
    call (Own f) t s fuel = invoke terms depth f t (run f.body) rest s fuel
    call (Imported i) t s fuel = and_then (import_call terms.request i s) fuel rest

    abbrev pub typed_call : FuncType → Callee → FuncType → Continuation
    typed_call u c t s fuel = if same_type u t then call c t s fuel else (Trapped trap.Signature s.store, fuel)

    abbrev pub element_call : ℕ → ℕ → Continuation
    element_call x i s = with_element (slice_get s.store.table i) (λ y. if_there (slice_get m.types x) (λ u. with_function m y (typed_call u))) s

  -- A sequence, where so many calls are open. A loop that is executed again and a call take one from the index n. Each takes
  -- one from the fuel first, so an index above the fuel is enough, and a higher one gives the same. The clauses at the index
  -- 0 are never reached from `exec`, whose index stays above the fuel.
  abbrev pub exec_within : ℕ → Code → ℕ → Continuation
  exec_within n End depth s fuel = (Next s, fuel)
  exec_within n (Plain i rest) depth s fuel = pay s.store fuel (λ g. and_then (plain m terms i s) g (exec_within n rest depth))
  exec_within n (Block t body rest) depth s fuel =
      pay s.store fuel (λ g.
      leave (length (result_types t)) s.operands (exec_within n body depth (inside s) g) (exec_within n rest depth) (exec_within n rest depth))
  exec_within n (If t first second rest) depth s fuel =
      pay s.store fuel (pop_index s.operands (arm t (exec_within n first depth) (exec_within n second depth) (exec_within n rest depth)) s)
  exec_within zero (Loop t body rest) depth s fuel = (OutOfFuel s.store, 0)
  exec_within (suc n) (Loop t body rest) depth s fuel =
      pay s.store fuel (λ g.
      leave 0 s.operands (exec_within (suc n) body depth (inside s) g)
      (exec_within (suc n) rest depth) (exec_within n (Loop t body rest) depth))
  exec_within zero (Call x rest) depth s fuel = (OutOfFuel s.store, 0)
  exec_within (suc n) (Call x rest) depth s fuel =
      pay s.store fuel (with_function m x (call depth (λ c. exec_within n c (depth + 1)) (exec_within (suc n) rest depth)) s)
  exec_within zero (CallIndirect x rest) depth s fuel = (OutOfFuel s.store, 0)
  exec_within (suc n) (CallIndirect x rest) depth s fuel =
      pay s.store fuel (pop_index s.operands (element_call depth (λ c. exec_within n c (depth + 1)) (exec_within (suc n) rest depth) x) s)

  -- what a sequence does, where so many calls are open
  unfoldable pub exec : ℕ → Code → Continuation
  exec depth code s fuel = exec_within (suc fuel) code depth s fuel
