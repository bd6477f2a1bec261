-- Whole runs.
use Rattle.std.proofs.Common.{◌≡◌, ℕ, ◌+◌, ◌-◌, ◌*◌, ◌<◌, ◌≤◌, List, [], ◌∷◌, ◌++◌, length, take, reverse, Option, Some, refl, sym, ap, ◌∙◌, subst, arith, length-append, length-take, mul-le-mul_right}
use Rattle.std.specs.Prelude.{slice_get}
use Rattle.std.proofs.Math.Seq.{take-append_seam}
use Rattle.std.proofs.lemmas.List.{reverse-append, reverse-reverse, length-reverse, length-map}
use Rattle.wasm_types.specs.declared.types.FuncType.{FuncType}
use Rattle.wasm_values.specs.declared.outcome.Val.{Val}
use Rattle.wasm_values.specs.declared.outcome.TrapKind.{TrapKind}
use Rattle.wasm_values.specs.declared.outcome.Outcome.{Outcome}
use Rattle.wasm_values.specs.declared.outcome.Outcome.TheVariants as outcome
use Rattle.wasm_types.specs.declared.module.Module.{Module}
use Rattle.wasm_values.specs.declared.profile.Profile.TheVariants.{Three}
use Rattle.wasm_types.specs.Tree.{function_tree, global_tree, module_tree}
use Rattle.wasm_spec.specs.Typing.{type_or_empty, type_of}
use Rattle.wasm_spec.specs.Store.{Store}
use Rattle.wasm_spec.specs.Validity.{IsSupported, IsValid}
use Rattle.wasm_spec.specs.Execution.{Terms, Trapped, Ended}
use Rattle.wasm_spec.specs.Result.{CallResult, result_of}
use Rattle.wasm_validate.specs.Locals.{HaveNoEmptyRun}
use Rattle.linear_memory.specs.declared.memory.Memory.{Memory}
use Rattle.machine_steps.specs.declared.machine.Machine.{Machine}
use Rattle.machine_steps.specs.Lent.{store_of}
use Rattle.machine_steps.specs.StackLayout.{HasRoom}
use Rattle.wasm_machine.specs.Calls.{FitsFrame, IsOwnCall}
use Rattle.wasm_machine.specs.Remaining.{function_of}
use Rattle.wasm_machine.specs.Lent.{lent_store, own}
use Rattle.wasm_machine.specs.TypedConfiguration.{IsRunnable, IsTypedStore, local_types}
use Rattle.wasm_machine.specs.Resuming.{HasEnded, IsOutOfFuel}
use Rattle.wasm_machine.specs.Simulation.{IsOver, Simulates, after}
use Rattle.wasm_machine.proofs.CallLemmas.{body_resumes, type_known}
use Rattle.wasm_machine.proofs.BlockLemmas.{frame_fits}

at_last : (ys : List Val) (z : Val) → slice_get (ys ++ z ∷ []) (length ys) ≡ Some z
at_last [] z = refl
at_last (y ∷ ys) z = at_last ys z

first_of : (zs : List Val) → slice_get zs 0 ≡ slice_get (reverse zs) (length zs - 1)
first_of [] = refl
first_of (z ∷ zs) =
    let n : length (z ∷ zs) - 1 ≡ length (reverse zs) = omega (arith, length-reverse zs) in
    sym (ap (λ (k : ℕ). slice_get (reverse (z ∷ zs)) k) n ∙ ap (λ (l : List Val). slice_get l (length (reverse zs))) (reverse-append (z ∷ []) zs) ∙ at_last (reverse zs) z)

pub top_is : (xs : List Val) → slice_get (reverse xs) 0 ≡ slice_get xs (length xs - 1)
top_is xs = first_of (reverse xs) ∙ ap (λ (l : List Val). slice_get l (length (reverse xs) - 1)) (reverse-reverse xs) ∙ ap (λ (n : ℕ). slice_get xs (n - 1)) (length-reverse xs)

-- it ends after so much fuel, and leaves the rest
pub at_fuel : (r : ℕ → Ended) (fuel left : ℕ) (y : ℕ → Option CallResult) → left ≤ fuel → ((more : ℕ) → result_of (r (fuel - left + more)) ≡ y more) → result_of (r fuel) ≡ y left
at_fuel r fuel left y le h = ap (λ (n : ℕ). result_of (r n)) (omega arith) ∙ h left

pub done_at : (m : Module) (machine : Machine) (store : Store) (r : ℕ → Ended) (spent : ℕ) (v : Option Val) → v ≡ slice_get (reverse machine.values.items) 0 → IsOver m machine store (after spent r)
    → (more : ℕ) → result_of (r (spent + more)) ≡ Some (record { outcome = outcome.Done v; store = store; fuel = more })
done_at m machine store r spent v top over more = ap result_of (over.goes more) ∙ ap (λ (o : Option Val). Some (record { outcome = outcome.Done o; store = store; fuel = more })) (sym top)

pub trapped_at : (store : Store) (r : ℕ → Ended) (spent : ℕ) (t : TrapKind) → ((g : ℕ) → r (spent + g) ≡ (Trapped t store, g))
    → (more : ℕ) → result_of (r (spent + more)) ≡ Some (record { outcome = outcome.Trap t; store = store; fuel = more })
trapped_at store r spent t h more = ap result_of (h more)

-- what has ended is not out of fuel
pub not_both : (o : Outcome) → HasEnded o → IsOutOfFuel o → ⊥
not_both outcome.Fuel ended out = ended
not_both (outcome.Done v) ended out = out
not_both (outcome.Trap t) ended out = out

-- room for the first frame
pub first_frame : (m : Module) (limits : Terms) (frame x : ℕ) (args : List Val) (machine : Machine) → IsRunnable m frame → IsOwnCall m x args → 0 < limits.depth → HasRoom limits.depth frame machine
    → length args + length (function_tree (function_of m x)).locals ≤ machine.values.room
first_frame m limits frame x args machine run call deep room =
    let there = frame_fits m frame x [] _ _ (body_resumes m frame x call.function call.type run call.there call.typed) in
    let own : length (local_types m frame x) ≡ length call.type.params + length (function_tree (function_of m x)).locals =
    ap (λ (o : Option FuncType). length ((type_or_empty o).params ++ (function_tree (function_of m x)).locals)) (type_known m frame x call.function call.type run call.there call.typed)
    ∙ length-append call.type.params (function_tree (function_of m x)).locals in
    let counted : length args ≡ length call.type.params = sym (length-map args type_of) ∙ ap length call.args_fit in
    let one : 1 * frame ≤ limits.depth * frame = mul-le-mul_right frame deep in
    let r = room.values in
    omega arith

pub less_room : (depth frame depth' : ℕ) (machine : Machine) → depth' ≤ depth → HasRoom depth frame machine → HasRoom depth' frame machine
less_room depth frame depth' machine le room =
    let less : depth' * frame ≤ depth * frame = mul-le-mul_right frame le in
    record { values = let a = room.values in omega arith; labels = let a = room.labels in omega arith; frames = let a = room.frames in omega arith }

-- ---- runs on lent parts

-- the machine has a module that equals the valid one
pub runnable_as : (n m : Module) (frame : ℕ) → n ≡ m → IsSupported Three (module_tree m) → IsValid (module_tree m) → FitsFrame m frame → HaveNoEmptyRun m → IsRunnable n frame
runnable_as n m frame same supported valid needs locals =
    subst (λ (p : Module). IsRunnable p frame) (sym same) (record { supported = supported; valid = valid; needs = needs; locals = locals })

-- of the globals it is lent as many as the module has
pub stands_inside : (n m : Module) (limits : Terms) (frame : ℕ) (machine : Machine) (memory : Memory) (table : List (Option ℕ)) (globals : List Val) (answer : List ℕ) (count : ℕ) (r : ℕ → Ended) → n ≡ m → count ≡ length n.globals
    → Simulates m limits frame machine (lent_store m memory table globals answer) r → Simulates n limits frame machine (store_of memory table (take count globals) answer) r
stands_inside n m limits frame machine memory table globals answer count r same counted h =
    subst (λ (k : ℕ). Simulates n limits frame machine (store_of memory table (take k globals) answer) r) (sym (counted ∙ ap (λ (p : Module). length p.globals) same))
    (subst (λ (p : Module). Simulates p limits frame machine (lent_store m memory table globals answer) r) (sym same) h)

-- the module's own globals are as many as it has
own_there : (m : Module) (store : Store) (globals : List Val) → store.globals ≡ own m globals → IsTypedStore m store → length (own m globals) ≡ length m.globals
own_there m store globals is typed =
    ap length (sym is) ∙ sym (length-map store.globals type_of) ∙ ap length typed.globals ∙ length-map (module_tree m).globals _ ∙ length-map m.globals global_tree

-- so that there are no fewer
pub enough_globals : (n m : Module) (store : Store) (globals : List Val) (count : ℕ) → n ≡ m → count ≡ length n.globals → store.globals ≡ own m globals → IsTypedStore m store → count ≤ length globals
enough_globals n m store globals count same counted is typed =
    let many : count ≡ length m.globals = counted ∙ ap (λ (p : Module). length p.globals) same in
    omega (arith, own_there m store globals is typed, length-take (length m.globals) globals)

-- and the first of what they were written back into
pub globals_back : (n m : Module) (store : Store) (globals new rest : List Val) (count : ℕ) → n ≡ m → count ≡ length n.globals → store.globals ≡ own m globals → IsTypedStore m store
    → length new ≡ length (take count globals) → new ≡ own m (new ++ rest)
globals_back n m store globals new rest count same counted is typed long =
    let all : length new ≡ length m.globals = long ∙ ap (λ (k : ℕ). length (take k globals)) (counted ∙ ap (λ (p : Module). length p.globals) same) ∙ own_there m store globals is typed in
    sym (ap (λ (k : ℕ). take k (new ++ rest)) (sym all) ∙ take-append_seam new rest)
