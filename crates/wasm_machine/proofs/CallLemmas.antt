-- A function is called.
use Rattle.wasm_types.proofs.SequenceLemmas.{tree_is}
use Rattle.wasm_types.proofs.Found.{all_found}
use Rattle.wasm_spec.specs.Execution.{Terms}
use Rattle.std.proofs.Common.{◌≡◌, ℕ, zero, suc, ◌+◌, ◌-◌, ◌*◌, ◌<◌, ◌≤◌, List, [], ◌∷◌, ◌++◌, Bool, true, false, length, map, take, drop, get_or, reverse, Option, Some, refl, sym, ap, ◌∙◌, subst, arith, append_assoc, append-nil, length-append, length-take-le, mul-le-mul_right}
use Rattle.std.specs.Prelude.{slice_get, nat_lt, nat_le, ◌||◌, option_and_then}
use Rattle.std.specs.List.{list_any}
use Rattle.std.proofs.lemmas.List.{length-reverse, length-map, reverse-reverse, reverse-append}
use Rattle.std.proofs.lemmas.Bool.{or_parts}
use Rattle.std.proofs.lemmas.Bool.Decides.{nat_tests}
use Rattle.wasm_types.specs.declared.types.ValType.{ValType}
use Rattle.wasm_types.specs.declared.types.ValType.TheVariants as type
use Rattle.wasm_types.specs.declared.types.FuncType.{FuncType}
use Rattle.wasm_values.specs.declared.outcome.Val.{Val}
use Rattle.wasm_values.specs.declared.outcome.TrapKind.TheVariants as trap
use Rattle.wasm_types.specs.declared.module.Function.{Function}
use Rattle.wasm_types.specs.declared.module.Module.{Module}
use Rattle.wasm_types.specs.Tree.{Code, FunctionTree, function_tree, module_tree}
use Rattle.wasm_spec.specs.Typing.{Context, Typed, type_of, type_or_empty, body_context, IsTypedFunction}
use Rattle.wasm_spec.specs.Need.{highest, deepest}
use Rattle.wasm_values.specs.declared.profile.Profile.TheVariants.{Three}
use Rattle.wasm_spec.specs.Validity.{IsSupported, has_float, code_uses_floats}
use Rattle.wasm_spec.specs.Store.{Store}
use Rattle.wasm_spec.specs.Execution.{State, Signal, Next, Branch, Returned, Trapped, OutOfFuel, Stuck, Ended, Continuation, exec, return, invoke, entered, zero_of}
use Rattle.wasm_types.specs.Sequences.{code_at}
use Rattle.machine_steps.specs.declared.machine.Position.{Position}
use Rattle.machine_steps.specs.declared.machine.Machine.{Machine}
use Rattle.machine_steps.specs.Configuration.{Activation, Configuration, state}
use Rattle.wasm_machine.specs.Remaining.{body_type, resting, function_of, results, resume_at, after_sequence}
use Rattle.machine_steps.specs.StackLayout as flat
use Rattle.machine_steps.specs.StackLayout.{frames_under, bottom_of, labels_of, labels_under, position_of, frames_of, Represents, KeepsRoom}
use Rattle.wasm_machine.specs.TypedConfiguration.{operand_count, IsRunnable, IsTypedAt, context, local_types}
use Rattle.wasm_spec.specs.Bulk.{code_uses_bulk}
use Rattle.wasm_spec.proofs.NarrowModules.{narrow_function}
use Rattle.wasm_machine.specs.Simulation.{SimulatesCall, Simulates, in_function, start_of}
use Rattle.machine_steps.proofs.StackLists.{cut}
use Rattle.wasm_machine.proofs.FunctionLemmas.{own_there}
use Rattle.wasm_machine.proofs.RemainingLemmas.{not_below, after_sequence-Trapped}
use Rattle.wasm_machine.proofs.LabelLemmas.{Cut, types_cut, map-append}
use Rattle.machine_steps.proofs.StackLayoutLemmas.{room_kept, count_values}
use Rattle.wasm_machine.proofs.BlockLemmas.{beneath_fits, frame_fits, length-under}

pub frames-length : (cs : List Activation) → length (frames_of cs) ≡ length cs
frames-length [] = refl
frames-length (c ∷ cs) = omega (arith, frames-length cs, length-append (frames_of cs) (position_of c.function c.sequence c.after cs ∷ []))

pub deep_as : (k : Configuration) (old : Machine) → Represents k old → length old.frames.items ≡ length k.activations
deep_as k old sh = ap length sh.frames ∙ frames-length k.activations

cong_position : (x q b b' l l' : ℕ) → b ≡ b' → l ≡ l' → let p : Position = record { function = x; sequence = q; place = 0; locals = b; labels = l } in p ≡ record { function = x; sequence = q; place = 0; locals = b'; labels = l' }
cong_position x q b b' l l' e f = cc

-- the stacks of the function that is called
pub shown_called : (m : Module) (k : Configuration) (x n : ℕ) (old new : Machine) (base labels : ℕ) → Represents k old → n ≤ length k.operands → base ≡ length old.values.items - n → labels ≡ length old.labels.items
    → new.at ≡ record { function = x; sequence = start_of m x; place = 0; locals = base; labels = labels }
    → new.values.items ≡ old.values.items ++ map zero_of (function_tree (function_of m x)).locals → new.labels.items ≡ old.labels.items → new.frames.items ≡ old.frames.items ++ old.at ∷ []
    → Represents (in_function m k x n) new
shown_called m k x n old new base labels sh le eb el at values labels_same frames =
    let zeros = map zero_of (function_tree (function_of m x)).locals in
    let lower = flat.operands_under (bottom_of k) k.blocks ++ reverse (drop n k.operands) in
    let args = reverse (take n k.operands) in
    let split : old.values.items ≡ lower ++ args = sh.values ∙ cut (flat.operands_under (bottom_of k) k.blocks) k.operands n in
    let some : length args ≡ n = length-reverse (take n k.operands) ∙ length-take-le n k.operands le in
    let here : base ≡ length lower = omega (arith, ap length split, length-append lower args) in
    record {
      at = at ∙ cong_position x (start_of m x) base (length lower) labels (length (labels_under k.activations ++ labels_of (bottom_of k) k.blocks)) here (el ∙ ap length sh.labels);
      values = values ∙ ap (λ (l : List Val). l ++ zeros) split ∙ append_assoc lower args zeros ∙ sym (append-nil (lower ++ (args ++ zeros)));
      labels = labels_same ∙ sh.labels ∙ sym (append-nil (labels_under k.activations ++ labels_of (bottom_of k) k.blocks));
      frames = frames ∙ ap (λ (l : List Position). l ++ old.at ∷ []) sh.frames ∙ ap (λ (a : Position). frames_of k.activations ++ a ∷ []) sh.at;
    }

-- ---- what is known of the function

function_there : (functions : List Function) (x : ℕ) (f : FunctionTree) (d : Function) → slice_get (map function_tree functions) x ≡ Some f → f ≡ function_tree (get_or functions x d)
function_there [] x f d there = cc
function_there (h ∷ functions) zero f d there = cc
function_there (h ∷ functions) (suc x) f d there = function_there functions x f d there

map-reverse : (vs : List Val) → map type_of (reverse vs) ≡ reverse (map type_of vs)
map-reverse [] = refl
map-reverse (v ∷ vs) = ap (map type_of) (reverse-append (v ∷ []) vs) ∙ map-append (reverse vs) (v ∷ []) ∙ ap (λ (l : List ValType). l ++ type_of v ∷ []) (map-reverse vs) ∙ sym (reverse-append (type_of v ∷ []) (map type_of vs))

-- the context of a body, from the function's type and its declared locals
abbrev context_of : Module → Option FuncType → List ValType → Context
context_of m o ls = record { defined = module_tree m; locals = (type_or_empty o).params ++ ls; labels = (type_or_empty o).results ∷ []; results = (type_or_empty o).results }

-- typed code that fits a frame by itself
record Fits (m : Module) (frame : ℕ) (C : Context) (code : Code) : Type 0 where
  typed : Typed C code [] C.results
  fits : length C.locals + highest 0 C code 0 + deepest 1 code ≤ frame

module _ (m : Module) (frame x : ℕ) (f : FunctionTree) (t : FuncType) (run : IsRunnable m frame) (there : slice_get (module_tree m).functions x ≡ Some f) (has : slice_get m.types f.type_index ≡ Some t) where
  type_is : body_type (module_tree m) x ≡ slice_get m.types f.type_index
  type_is = ap (option_and_then (λ (g : FunctionTree). slice_get m.types g.type_index)) there

  pub type_known : body_type (module_tree m) x ≡ Some t
  type_known = type_is ∙ has

  pub tree_known : f ≡ function_tree (function_of m x)
  tree_known = function_there m.functions x f _ there

  -- its body can be run in a frame of its own
  pub body_resumes : IsTypedAt m frame x [] [] (start_of m x) 0
  body_resumes =
      let typed : IsTypedFunction (module_tree m) f = all_found (IsTypedFunction (module_tree m)) (module_tree m).functions x f run.valid.functions there in
      let whole : Fits m frame (body_context (module_tree m) f) f.body = record { typed = typed.1; fits = run.needs x f there } in
      let tree : f.body ≡ code_at (function_of m x).body (start_of m x) 0 = ap (λ (g : FunctionTree). g.body) tree_known ∙ tree_is (function_of m x).body (start_of m x) in
      let named : body_context (module_tree m) f ≡ context m frame x [] =
      ap (λ (o : Option FuncType). context_of m o f.locals) (sym type_is) ∙ ap (λ (g : FunctionTree). context_of m (body_type (module_tree m) x) g.locals) tree_known in
      let here : Fits m frame (context m frame x []) (code_at (function_of m x).body (start_of m x) 0) = subst (λ (C : Context). Fits m frame C (code_at (function_of m x).body (start_of m x) 0)) named (subst (λ (c : Code). Fits m frame (body_context (module_tree m) f) c) tree whole) in
      record {
        typed = here.typed;
        fits = here.fits;
        narrow = λ e. subst (λ (c : Code). code_uses_bulk c ≡ false) tree (narrow_function (module_tree m).functions x f e there);
      }

-- ---- the call

pub same_return : (n : ℕ) (s s' : State) (below : List Val) (signal : Signal) (fuel : ℕ) (next : Continuation) → s.locals ≡ s'.locals → return n s below (signal, fuel) next ≡ return n s' below (signal, fuel) next
same_return n s s' below (Next u) fuel next e = rw e
same_return n s s' below (Branch zero u) fuel next e = rw e
same_return n s s' below (Branch (suc l) u) fuel next e = refl
same_return n s s' below (Returned u) fuel next e = rw e
same_return n s s' below (Trapped t store) fuel next e = refl
same_return n s s' below (OutOfFuel store) fuel next e = refl
same_return n s s' below Stuck fuel next e = refl

-- a call that may be made
pub entered_by : (limits : Terms) (d : ℕ) (f : FunctionTree) (t : FuncType) (run next : Continuation) (s : State) (fuel : ℕ) → length t.params ≤ length s.operands → d < limits.depth
    → invoke limits d f t run next s fuel ≡ return (length t.results) s (drop (length t.params) s.operands) (run (entered f t s) fuel) next
entered_by limits d f t run next s fuel enough deep =
    let short : nat_lt (length s.operands) (length t.params) ≡ false = not_below (length s.operands) (length t.params) enough in
    let open_ : nat_le limits.depth d ≡ false = grind (arith, nat_tests) in
    rw (short, open_)

-- and one that may not
exhausted_by : (limits : Terms) (d : ℕ) (f : FunctionTree) (t : FuncType) (run next : Continuation) (s : State) (fuel : ℕ) → length t.params ≤ length s.operands → limits.depth ≤ d
    → invoke limits d f t run next s fuel ≡ (Trapped trap.Exhausted s.store, fuel)
exhausted_by limits d f t run next s fuel enough deep =
    let short : nat_lt (length s.operands) (length t.params) ≡ false = not_below (length s.operands) (length t.params) enough in
    let shut : nat_le limits.depth d ≡ true = grind (arith, nat_tests) in
    rw (short, shut)

-- the locals that a body begins with have their types, where there are no floats
pub zero_types : (ts : List ValType) → has_float ts ≡ false → map type_of (map zero_of ts) ≡ ts
zero_types [] e = refl
zero_types (type.I32 ∷ ts) e = ap (λ (l : List ValType). type.I32 ∷ l) (zero_types ts e)
zero_types (type.I64 ∷ ts) e = ap (λ (l : List ValType). type.I64 ∷ l) (zero_types ts e)
zero_types (type.F32 ∷ ts) e = absurd (cc)
zero_types (type.F64 ∷ ts) e = absurd (cc)

any_at : {A : Type 0} (p : A → Bool) (xs : List A) (i : ℕ) (x : A) → list_any p xs ≡ false → slice_get xs i ≡ Some x → p x ≡ false
any_at p [] i x e got = absurd (cc)
any_at p (y ∷ xs) zero x e got = let h = (or_parts (p y) (list_any p xs) e).0 in let s : y ≡ x = cc in ap p (sym s) ∙ h
any_at p (y ∷ xs) (suc i) x e got = any_at p xs i x (or_parts (p y) (list_any p xs) e).1 got

pub no_floats : (m : Module) (x : ℕ) (f : FunctionTree) → IsSupported Three (module_tree m) → slice_get (module_tree m).functions x ≡ Some f → has_float f.locals ≡ false
no_floats m x f s there =
    let functions : list_any (λ (g : FunctionTree). has_float g.locals || code_uses_floats g.body) (module_tree m).functions ≡ false = (or_parts _ _ (or_parts _ _ (or_parts _ _ (or_parts _ _ s.no_float).0).0).0).1 in
    (or_parts (has_float f.locals) (code_uses_floats f.body) (any_at (λ (g : FunctionTree). has_float g.locals || code_uses_floats g.body) (module_tree m).functions x f functions there)).0

module _ (m : Module) (limits : Terms) (frame : ℕ) where
  arguments_cut : (k : Configuration) (t : FuncType) (below : List ValType) → map type_of k.operands ≡ reverse t.params ++ below → Cut k.operands (reverse t.params) below
  arguments_cut k t below e = types_cut k.operands (reverse t.params) below e

  pub enough_arguments : (old : Machine) (store : Store) (x : ℕ) (r : ℕ → Ended) (c : SimulatesCall m limits frame old store x r) → length c.type.params ≤ length c.configuration.operands
  enough_arguments old store x r c = let cut = arguments_cut c.configuration c.type c.below c.arguments in omega (arith, cut.enough, length-reverse c.type.params)

  pub call_stops : (old : Machine) (store : Store) (x : ℕ) (r : ℕ → Ended) → SimulatesCall m limits frame old store x r → limits.depth ≤ length old.frames.items + 1 → (g : ℕ) → r g ≡ (Trapped trap.Exhausted store, g)
  call_stops old store x r c deep g =
      let k = c.configuration in
      let d = length k.activations + 1 in
      sym (c.goes g)
      ∙ ap (after_sequence m limits k) (exhausted_by limits d c.function c.type (exec (module_tree m) limits (d + 1) c.function.body) (resume_at m limits d k.function k.sequence k.place) (state k store) g (enough_arguments old store x r c) (omega (arith, deep_as k old c.represents)))
      ∙ after_sequence-Trapped m limits k trap.Exhausted store g

  pub call_goes : (old new : Machine) (store : Store) (x : ℕ) (r : ℕ → Ended) → IsRunnable m frame → (c : SimulatesCall m limits frame old store x r) → length old.frames.items + 1 < limits.depth
      → ((k : Configuration) → Represents k old → length c.type.params ≤ length k.operands → Represents (in_function m k x (length c.type.params)) new) → KeepsRoom old new → Simulates m limits frame new store r
  call_goes old new store x r run c deep represents keeps =
      let k = c.configuration in
      let f = c.function in
      let t = c.type in
      let n = length t.params in
      let d = length k.activations + 1 in
      let cut = arguments_cut k t c.below c.arguments in
      let enough = enough_arguments old store x r c in
      let count : length (reverse t.params) ≡ n = length-reverse t.params in
      let known : body_type (module_tree m) x ≡ Some t = type_known m frame x f t run c.there c.typed in
      let gives : results m x ≡ t.results = ap (λ (o : Option FuncType). (type_or_empty o).results) known in
      let tree : f ≡ function_tree (function_of m x) = tree_known m frame x f t run c.there c.typed in
      let args : map type_of (take n k.operands) ≡ reverse t.params = ap (λ (z : ℕ). map type_of (take z k.operands)) (sym count) ∙ cut.upper in
      let left : map type_of (drop n k.operands) ≡ c.below = ap (λ (z : ℕ). map type_of (drop z k.operands)) (sym count) ∙ cut.lower in
      let zeros = (function_tree (function_of m x)).locals in
      let floats : has_float zeros ≡ false = ap (λ (g : FunctionTree). has_float g.locals) (sym tree) ∙ no_floats m x f run.supported c.there in
      let locals : map type_of (reverse (take n k.operands) ++ map zero_of zeros) ≡ local_types m frame x =
      map-append (reverse (take n k.operands)) (map zero_of zeros)
      ∙ ap (λ (l : List ValType). l ++ map type_of (map zero_of zeros)) (map-reverse (take n k.operands) ∙ ap reverse args ∙ reverse-reverse t.params ∙ ap (λ (o : Option FuncType). (type_or_empty o).params) (sym known))
      ∙ ap (λ (l : List ValType). (type_or_empty (body_type (module_tree m) x)).params ++ l) (zero_types zeros floats) in
      let resumes : IsTypedAt m frame k.function k.blocks (results m x ++ map type_of (drop n k.operands)) k.sequence k.place =
      subst (λ (us : List ValType). IsTypedAt m frame k.function k.blocks us k.sequence k.place) (ap (λ (us : List ValType). us ++ c.below) (sym gives) ∙ ap (λ (us : List ValType). results m x ++ us) (sym left)) c.resumes in
      let next : Continuation = resume_at m limits d k.function k.sequence k.place in
      let s : State = state k store in
      let body : code_at (function_of m x).body (start_of m x) 0 ≡ f.body = sym (ap (λ (g : FunctionTree). g.body) tree ∙ tree_is (function_of m x).body (start_of m x)) in
      record {
        configuration = in_function m k x n;
        represents = represents k c.represents enough;
        typed = record {
          here = body_resumes m frame x f t run c.there c.typed;
          around = record { locals = locals; blocks = tt; activations = (record { resumes = resumes; blocks = c.around.blocks; locals = c.around.locals; there = c.around.there }, c.around.activations); deep = omega (arith, deep_as k old c.represents); there = own_there m x f c.there };
        };
        stored = c.stored;
        room = room_kept limits.depth frame old new c.room keeps;
        goes = λ fuel.
            let u : State = record { locals = reverse (take n k.operands) ++ map zero_of zeros; operands = []; store = store } in
            let e : Ended = exec (module_tree m) limits (d + 1) f.body u fuel in
            ap (λ (y : Ended). after_sequence m limits k (return (length (results m x)) (resting k.locals) (drop n k.operands) y next))
            (ap (λ (z : ℕ). exec (module_tree m) limits z (code_at (function_of m x).body (start_of m x) 0) u fuel) (omega arith)
            ∙ ap (λ (z : Code). exec (module_tree m) limits (d + 1) z u fuel) body)
            ∙ ap (λ (z : ℕ). after_sequence m limits k (return z (resting k.locals) (drop n k.operands) e next)) (ap length gives)
            ∙ ap (after_sequence m limits k) (same_return (length t.results) (resting k.locals) s (drop n k.operands) e.0 e.1 next refl)
            ∙ ap (λ (g : FunctionTree). after_sequence m limits k (return (length t.results) s (drop n k.operands) (exec (module_tree m) limits (d + 1) f.body (record { locals = reverse (take n k.operands) ++ map zero_of g.locals; operands = []; store = store }) fuel) next)) (sym tree)
            ∙ ap (after_sequence m limits k) (sym (entered_by limits d f t (exec (module_tree m) limits (d + 1) f.body) next s fuel enough (omega (arith, deep_as k old c.represents))))
            ∙ c.goes fuel;
      }

  -- room for what a call puts on the stacks
  pub call_values : (old : Machine) (store : Store) (x : ℕ) (r : ℕ → Ended) → IsRunnable m frame → SimulatesCall m limits frame old store x r → length old.frames.items + 1 < limits.depth
      → length old.values.items + length (function_tree (function_of m x)).locals ≤ old.values.room
  call_values old store x r run c deep =
      let k = c.configuration in
      let f = c.function in
      let t = c.type in
      let cs = length k.activations in
      let cut = arguments_cut k t c.below c.arguments in
      let enough = enough_arguments old store x r c in
      let (values, labels) = beneath_fits m frame k.function k.activations c.around.activations in
      let here = frame_fits m frame k.function k.blocks _ _ c.resumes in
      let there = frame_fits m frame x [] _ _ (body_resumes m frame x f t run c.there c.typed) in
      let left : length c.below + length t.params ≡ length k.operands =
      omega (arith, ap length c.arguments, length-map k.operands type_of, length-append (reverse t.params) c.below, length-reverse t.params) in
      let as_many : length k.locals ≡ length (local_types m frame k.function) = sym (length-map k.locals type_of) ∙ ap length c.around.locals in
      let own : length (local_types m frame x) ≡ length t.params + length (function_tree (function_of m x)).locals =
      ap (λ (o : Option FuncType). length ((type_or_empty o).params ++ (function_tree (function_of m x)).locals)) (type_known m frame x f t run c.there c.typed)
      ∙ length-append t.params (function_tree (function_of m x)).locals in
      let all : length old.values.items ≡ length (frames_under k.activations) + length k.locals + operand_count k.blocks + length k.operands =
      omega (arith, count_values k old c.represents, length-append (frames_under k.activations) k.locals, length-under m frame (bottom_of k) k.blocks) in
      let deeper : cs + 2 ≤ limits.depth = omega (arith, deep_as k old c.represents) in
      let frames : (cs + 2) * frame ≤ limits.depth * frame = mul-le-mul_right frame deeper in
      let split : (cs + 2) * frame ≡ cs * frame + frame + frame = grind arith in
      let room = c.room.values in
      omega (arith, length-append t.results c.below)
