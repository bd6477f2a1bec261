-- A call that is paused on parts which are equal.
use Rattle.std.proofs.Common.{◌≡◌, ◌≢◌, ℕ, ◌+◌, ◌-◌, ◌<◌, ◌≤◌, List, [], Bool, true, false, Option, Some, None, ⊎_elim, length, ap, sym, ◌∙◌, subst, arith, length-append}
use Rattle.std.specs.Prelude.{is_some}
use Rattle.std.proofs.lemmas.Bool.{cases_lt}
use Rattle.std.proofs.lemmas.List.{length-map}
use Rattle.wasm_types.specs.declared.types.FuncType.{FuncType}
use Rattle.wasm_types.specs.declared.host.HostFunction.{HostFunction}
use Rattle.wasm_types.specs.declared.host.HostFunction.TheVariants as host
use Rattle.wasm_types.specs.declared.limits.RunLimits.{RunLimits}
use Rattle.wasm_types.specs.declared.module.Module.{Module}
use Rattle.wasm_values.specs.declared.outcome.Outcome.{Outcome}
use Rattle.wasm_values.specs.declared.outcome.Val.{Val}
use Rattle.wasm_types.specs.Tree.{ModuleTree, module_tree}
use Rattle.wasm_spec.specs.Functions.{host_type}
use Rattle.wasm_spec.specs.Typing.{own_type, type_or_empty, type_of}
use Rattle.wasm_spec.specs.Execution.{Terms, terms_of}
use Rattle.machine_steps.specs.Lent.{answer_set}
use Rattle.wasm_spec.specs.Instances.{room_for}
use Rattle.wasm_spec.specs.Result.{CallResult, result_from}
use Rattle.wasm_spec.specs.Store.{Store, fresh_store}
use Rattle.wasm_machine.specs.Calls.{IsCall}
use Rattle.wasm_machine.specs.Room.{StacksView}
use Rattle.wasm_machine.specs.TypedConfiguration.{IsRunnable}
use Rattle.wasm_machine.proofs.OutsideLemmas.{outside_callee, own_call}
use Rattle.slot_words.specs.declared.leases.Lease.{Lease}
use Rattle.pool_limits.specs.declared.numbers.Numbers.{Numbers}
use Rattle.pool_model.specs.Contents.{Contents, MemoryContents, Named, needs, shown_store}
use Rattle.pool_model.specs.declared.kinds.Kind.{Kind}
use Rattle.pool_model.specs.declared.kinds.Kind.TheVariants.{Memory, Table}
use Rattle.pool_model.specs.Runs.{LeavesFrom}
use Rattle.memory_slots.specs.Lent.{IsReady, parts, store_in}
use Rattle.paused_call.specs.declared.call.PausedCall.{PausedCall}
use Rattle.paused_call.specs.declared.call.SliceEnd.{SliceEnd}
use Rattle.paused_call.specs.declared.call.SliceEnd.TheVariants as turned
use Rattle.paused_call.specs.Fuel.{LeavesFuel, left_in}
use Rattle.paused_call.specs.Standing.{HasTurned, Stands, upto, whole}
use Rattle.instance_calls.specs.declared.instance.Instance.{Instance}
use Rattle.instance_calls.specs.CallWords.{EndsAs, HasSliced, comes_of, run_limits}
use Rattle.instance_calls.specs.Instances.{bare_store, instance_contents}
use Rattle.instance_calls.specs.Parts.{memory_in, table_in}
use Rattle.instance_calls.specs.Paused.{IsPausedOn, WentOn}
use Rattle.instance_calls.proofs.InstanceLemmas.{with_memory, without_memory}

module _ (m : Module) (limits : Terms) (begun : Store) (call : PausedCall) where
  pub stands_same : (a a' : List Val) (s s' : StacksView) (t t' : Store) → a ≡ a' → s ≡ s' → t ≡ t' → Stands m limits begun a call s t → Stands m limits begun a' call s' t'
  stands_same a a' s s' t t' p q r h =
      subst (λ (x : Store). Stands m limits begun a' call s' x) r (subst (λ (x : StacksView). Stands m limits begun a' call x t) q (subst (λ (x : List Val). Stands m limits begun x call s t) p h))

  pub turned_same : (slice : ℕ) (t : SliceEnd) (a a' : List Val) (s s' : Store) → a ≡ a' → s ≡ s'
      → HasTurned (whole m limits call a begun) call slice s t → HasTurned (whole m limits call a' begun) call slice s' t
  turned_same slice t a a' s s' p q h =
      subst (λ (x : Store). HasTurned (whole m limits call a' begun) call slice x t) q (subst (λ (x : List Val). HasTurned (whole m limits call x begun) call slice s t) p h)

  pub left_same : (t : SliceEnd) (left : ℕ) (a a' : List Val) → a ≡ a' → LeavesFuel (whole m limits call a begun) call.fuel t left → LeavesFuel (whole m limits call a' begun) call.fuel t left
  left_same t left a a' p h = subst (λ (x : List Val). LeavesFuel (whole m limits call x begun) call.fuel t left) p h

  pub leaves_same : (pages : ℕ) (slice : ℕ) (x y : MemoryContents) (owner : Option Named) (table : List (Option ℕ)) (marks : List Bool) (r : CallResult) (a a' : List Val) (old old' new new' : List Val) → a ≡ a' → old ≡ old' → new ≡ new'
      → LeavesFrom pages (module_tree m) (whole m limits call a begun) call.turns (upto call slice) (parts x owner table old) (parts y owner table new) marks r
      → LeavesFrom pages (module_tree m) (whole m limits call a' begun) call.turns (upto call slice) (parts x owner table old') (parts y owner table new') marks r
  leaves_same pages slice x y owner table marks r a a' old old' new new' p q e h =
      subst (λ (g : List Val). LeavesFrom pages (module_tree m) (whole m limits call a' begun) call.turns (upto call slice) (parts x owner table old') (parts y owner table g) marks r) e
      (subst (λ (g : List Val). LeavesFrom pages (module_tree m) (whole m limits call a' begun) call.turns (upto call slice) (parts x owner table g) (parts y owner table new) marks r) q
      (subst (λ (l : List Val). LeavesFrom pages (module_tree m) (whole m limits call l begun) call.turns (upto call slice) (parts x owner table old) (parts y owner table new) marks r) p h))

-- a function of the host takes at most three arguments
three_at_most : (f : HostFunction) → length (host_type f).params ≤ 3
three_at_most host.Len = omega arith
three_at_most host.Read = omega arith
three_at_most host.Write = omega arith

-- a call's arguments are at most as many as a frame has entries, or as an import takes
pub args_within : (m : Module) (frame x : ℕ) (args : List Val) (room : ℕ) → IsRunnable m frame → IsCall m x args → frame ≤ room → 3 ≤ room → length args ≤ room
args_within m frame x args room run call le three = ⊎_elim imported own (cases_lt x (length m.imports)) where
  imported : x < length m.imports → length args ≤ room
  imported lt =
      let limits : Terms = record { pages = 0; depth = 0; request = [] } in
      let h = outside_callee m limits frame x args run call lt in
      let counted : length args ≡ length (host_type h.function).params = sym (length-map args type_of) ∙ ap length call.args_fit ∙ ap length h.params in
      let few = three_at_most h.function in omega arith

  own : length m.imports ≤ x → length args ≤ room
  own past =
      let o = own_call m x args call past in
      let f = o.function in
      let there = run.needs (x - length m.imports) f o.there in
      let params : (own_type (module_tree m) f).params ≡ o.type.params = ap (λ (o : Option FuncType). (type_or_empty o).params) o.typed in
      let counted : length args ≡ length (own_type (module_tree m) f).params = sym (length-map args type_of) ∙ ap length o.args_fit ∙ ap length (sym params) in
      omega (arith, there, counted, length-append (own_type (module_tree m) f).params f.locals)

-- ---- a call that is paused on an instance, and on what is lent of it

-- it is paused there, and a slice is lent the module's code, the limits of its runs, and the table's entries
pub record IsLent {N : Type 0} (config : Numbers) (m : Named) (request : List ℕ) (call : PausedCall) (said : List ℕ) (x : Instance N) (valid : Module) (limits : RunLimits) (entries : List (Option ℕ)) : Type 0 where
  pub paused : IsPausedOn config m request call said x
  pub code : valid ≡ m.code
  pub limits_are : limits ≡ run_limits config
  pub entries_are : entries ≡ (table_in x.table).entries

module _ {N : Type 0} {config : Numbers} {m : Named} {request : List ℕ} {call : PausedCall} {said : List ℕ} {x : Instance N} {valid : Module} {limits : RunLimits} {entries : List (Option ℕ)}
    (h : IsLent config m request call said x valid limits entries) where
  -- it began on a fresh instance
  abbrev begun : Store
  begun = fresh_store m.tree

  tree_is : module_tree valid ≡ m.tree
  tree_is = ap module_tree h.code ∙ h.paused.code

  had_memory : is_some x.memory ≡ needs Memory (module_tree valid)
  had_memory = h.paused.parts.memory ∙ ap (needs Memory) (sym tree_is)

  had_table : is_some x.table ≡ needs Table (module_tree valid)
  had_table = h.paused.parts.table ∙ ap (needs Table) (sym tree_is)

  -- in the words of what runs it
  stands_lent : Stands valid (terms_of limits request) begun x.ticket.value.args call x.ticket.value.stacks (answer_set said (shown_store (module_tree valid) (instance_contents x)))
  stands_lent =
      subst (λ (t : ModuleTree). Stands valid (terms_of limits request) begun x.ticket.value.args call x.ticket.value.stacks (answer_set said (shown_store t (instance_contents x)))) (sym tree_is)
      (subst (λ (k : Module). Stands k (terms_of limits request) begun x.ticket.value.args call x.ticket.value.stacks (answer_set said (shown_store m.tree (instance_contents x)))) (sym h.code)
      (subst (λ (l : RunLimits). Stands m.code (terms_of l request) begun x.ticket.value.args call x.ticket.value.stacks (answer_set said (shown_store m.tree (instance_contents x)))) (sym h.limits_are) h.paused.stands))

  pub stands_with_memory : (l : Lease MemoryContents) → x.memory ≡ Some l → Stands valid (terms_of limits request) begun x.ticket.value.args call x.ticket.value.stacks (store_in valid l.value entries x.ticket.value.globals said)
  stands_with_memory l is =
      let needed : needs Memory (module_tree valid) ≡ true = sym had_memory ∙ ap is_some is in
      let shows : answer_set said (shown_store (module_tree valid) (instance_contents x)) ≡ store_in valid l.value entries x.ticket.value.globals said =
      ap (λ (o : Option (Lease MemoryContents)). answer_set said (shown_store (module_tree valid) (parts (memory_in o) (table_in x.table).holds (table_in x.table).entries x.ticket.value.globals))) is
      ∙ with_memory valid x.ticket.value.globals l.value x.table had_table said needed
      ∙ ap (λ (es : List (Option ℕ)). store_in valid l.value es x.ticket.value.globals said) (sym h.entries_are) in
      subst (λ (s : Store). Stands valid (terms_of limits request) begun x.ticket.value.args call x.ticket.value.stacks s) shows stands_lent

  pub stands_without_memory : x.memory ≡ None → Stands valid (terms_of limits request) begun x.ticket.value.args call x.ticket.value.stacks (bare_store valid entries x.ticket.value.globals said)
  stands_without_memory is =
      let unneeded : needs Memory (module_tree valid) ≡ false = sym had_memory ∙ ap is_some is in
      let shows : answer_set said (shown_store (module_tree valid) (instance_contents x)) ≡ bare_store valid entries x.ticket.value.globals said =
      without_memory valid x.ticket.value.globals (memory_in x.memory) x.table had_table said unneeded
      ∙ ap (λ (es : List (Option ℕ)). bare_store valid es x.ticket.value.globals said) (sym h.entries_are) in
      subst (λ (s : Store). Stands valid (terms_of limits request) begun x.ticket.value.args call x.ticket.value.stacks s) shows stands_lent

  -- what a slice on what is lent comes to, it comes to for the call
  pub turned_there : (slice : ℕ) (t : SliceEnd) (s : Store) (says : List ℕ) (y : (k : Kind) → Contents k) → s ≡ answer_set says (shown_store (module_tree valid) y)
      → HasTurned (whole valid (terms_of limits request) call x.ticket.value.args begun) call slice s t
      → HasTurned (comes_of config m.tree request call.function x.ticket.value.args) call slice (answer_set says (shown_store m.tree y)) t
  turned_there slice t s says y shows was =
      subst (λ (tree : ModuleTree). HasTurned (result_from tree (terms_of (run_limits config) request) call.function x.ticket.value.args begun) call slice (answer_set says (shown_store m.tree y)) t) h.paused.code
      (subst (λ (tree : ModuleTree). HasTurned (whole m.code (terms_of (run_limits config) request) call x.ticket.value.args begun) call slice (answer_set says (shown_store tree y)) t) tree_is
      (subst (λ (l : RunLimits). HasTurned (whole m.code (terms_of l request) call x.ticket.value.args begun) call slice (answer_set says (shown_store (module_tree valid) y)) t) h.limits_are
      (subst (λ (k : Module). HasTurned (whole k (terms_of limits request) call x.ticket.value.args begun) call slice (answer_set says (shown_store (module_tree valid) y)) t) h.code
      (subst (λ (u : Store). HasTurned (whole valid (terms_of limits request) call x.ticket.value.args begun) call slice u t) shows was))))

  -- what it leaves of its fuel, the call leaves
  pub left_there : (t : SliceEnd) (left : ℕ) → LeavesFuel (whole valid (terms_of limits request) call x.ticket.value.args begun) call.fuel t left
      → LeavesFuel (comes_of config m.tree request call.function x.ticket.value.args) call.fuel t left
  left_there t left was =
      subst (λ (tree : ModuleTree). LeavesFuel (result_from tree (terms_of (run_limits config) request) call.function x.ticket.value.args begun) call.fuel t left) h.paused.code
      (subst (λ (l : RunLimits). LeavesFuel (whole m.code (terms_of l request) call x.ticket.value.args begun) call.fuel t left) h.limits_are
      (subst (λ (k : Module). LeavesFuel (whole k (terms_of limits request) call x.ticket.value.args begun) call.fuel t left) h.code was))

  -- a slice on what is lent is one on the instance
  pub went_there : (slice : ℕ) (y : MemoryContents) (globals : List Val) (marks : List Bool) (r : CallResult)
      → LeavesFrom config.pages (module_tree valid) (whole valid (terms_of limits request) call x.ticket.value.args begun) call.turns (upto call slice)
      (parts (memory_in x.memory) (table_in x.table).holds entries x.ticket.value.globals) (parts y (table_in x.table).holds entries globals) marks r
      → WentOn config.pages m.tree (comes_of config m.tree request call.function x.ticket.value.args) call.turns (upto call slice) (instance_contents x) (parts y (table_in x.table).holds (table_in x.table).entries globals)
  went_there slice y globals marks r leaves = record {
    marks = marks;
    at = r;
    leaves = subst (λ (tree : ModuleTree). LeavesFrom config.pages m.tree (result_from tree (terms_of (run_limits config) request) call.function x.ticket.value.args begun) call.turns (upto call slice)
        (instance_contents x) (parts y (table_in x.table).holds (table_in x.table).entries globals) marks r) h.paused.code
        (subst (λ (es : List (Option ℕ)). LeavesFrom config.pages m.tree (whole m.code (terms_of (run_limits config) request) call x.ticket.value.args begun) call.turns (upto call slice)
        (parts (memory_in x.memory) (table_in x.table).holds es x.ticket.value.globals) (parts y (table_in x.table).holds es globals) marks r) h.entries_are
        (subst (λ (l : RunLimits). LeavesFrom config.pages m.tree (whole m.code (terms_of l request) call x.ticket.value.args begun) call.turns (upto call slice)
        (parts (memory_in x.memory) (table_in x.table).holds entries x.ticket.value.globals) (parts y (table_in x.table).holds entries globals) marks r) h.limits_are
        (subst (λ (k : Module). LeavesFrom config.pages m.tree (whole k (terms_of limits request) call x.ticket.value.args begun) call.turns (upto call slice)
        (parts (memory_in x.memory) (table_in x.table).holds entries x.ticket.value.globals) (parts y (table_in x.table).holds entries globals) marks r) h.code
        (subst (λ (t : ModuleTree). LeavesFrom config.pages t (whole valid (terms_of limits request) call x.ticket.value.args begun) call.turns (upto call slice)
        (parts (memory_in x.memory) (table_in x.table).holds entries x.ticket.value.globals) (parts y (table_in x.table).holds entries globals) marks r) tree_is leaves))));
  }

  -- the call that comes of it is paused on the instance that comes of it
  pub paused_there : (next : PausedCall) (says : List ℕ) (y : Instance N) → y.table ≡ x.table → is_some y.memory ≡ is_some x.memory
      → (m.code.memories ≢ [] → IsReady (room_for m.code.memories config.pages) (memory_in y.memory))
      → Stands valid (terms_of limits request) begun y.ticket.value.args next y.ticket.value.stacks (answer_set says (shown_store (module_tree valid) (instance_contents y))) → IsPausedOn config m request next says y
  paused_there next says y table memory ready stands = record {
    code = h.paused.code;
    parts = record { memory = memory ∙ h.paused.parts.memory; table = ap is_some table ∙ h.paused.parts.table };
    frame = h.paused.frame;
    memory = ready;
    stands = subst (λ (t : ModuleTree). Stands m.code (terms_of (run_limits config) request) begun y.ticket.value.args next y.ticket.value.stacks (answer_set says (shown_store t (instance_contents y)))) tree_is
        (subst (λ (l : RunLimits). Stands m.code (terms_of l request) begun y.ticket.value.args next y.ticket.value.stacks (answer_set says (shown_store (module_tree valid) (instance_contents y)))) h.limits_are
        (subst (λ (k : Module). Stands k (terms_of limits request) begun y.ticket.value.args next y.ticket.value.stacks (answer_set says (shown_store (module_tree valid) (instance_contents y)))) h.code stands));
  }

  pub shown_with : (l : Lease MemoryContents) (y : MemoryContents) (globals : List Val) (says : List ℕ) → x.memory ≡ Some l
      → store_in valid y entries globals says ≡ answer_set says (shown_store (module_tree valid) (parts y (table_in x.table).holds (table_in x.table).entries globals))
  shown_with l y globals says is =
      let needed : needs Memory (module_tree valid) ≡ true = sym had_memory ∙ ap is_some is in
      ap (λ (es : List (Option ℕ)). store_in valid y es globals says) h.entries_are ∙ sym (with_memory valid globals y x.table had_table says needed)

  pub shown_bare : (globals : List Val) (says : List ℕ) → x.memory ≡ None
      → bare_store valid entries globals says ≡ answer_set says (shown_store (module_tree valid) (parts (memory_in x.memory) (table_in x.table).holds (table_in x.table).entries globals))
  shown_bare globals says is =
      let unneeded : needs Memory (module_tree valid) ≡ false = sym had_memory ∙ ap is_some is in
      ap (λ (es : List (Option ℕ)). bare_store valid es globals says) h.entries_are ∙ sym (without_memory valid globals (memory_in x.memory) x.table had_table says unneeded)

-- ---- a call that was given all its fuel at once

module _ (config : Numbers) (m : ModuleTree) (request : List ℕ) (x : ℕ) (args : List Val) (fuel : ℕ) (call : PausedCall) (given : List Val)
    (function_is : call.function ≡ x) (args_are : given ≡ args) (fuel_is : call.fuel ≡ fuel) (turns_are : call.turns ≡ 0) where
  abbrev result : ℕ → List Val → ℕ → Option CallResult
  result f values = comes_of config m request f values

  pub went_whole : (old mid new : (k : Kind) → Contents k) → ((k : Kind) → mid k ≡ old k)
      → WentOn config.pages m (result call.function given) call.turns (upto call fuel) mid new → WentOn config.pages m (result x args) 0 fuel old new
  went_whole old mid new same went =
      let to : upto call fuel ≡ fuel = omega (arith, fuel_is, turns_are) in
      subst (λ (o : (k : Kind) → Contents k). WentOn config.pages m (result x args) 0 fuel o new) (λ i k. same k i)
      (subst (λ (n : ℕ). WentOn config.pages m (result x args) 0 n mid new) to
      (subst (λ (n : ℕ). WentOn config.pages m (result x args) n (upto call fuel) mid new) turns_are
      (subst (λ (l : List Val). WentOn config.pages m (result x l) call.turns (upto call fuel) mid new) args_are
      (subst (λ (f : ℕ). WentOn config.pages m (result f given) call.turns (upto call fuel) mid new) function_is went))))

  pub never_again : (bytes : List ℕ) → HasSliced (result call.function given) call.fuel (call.turns + fuel) turned.Again bytes → ⊥
  never_again bytes waits = let more = waits.more in absurd (omega (arith, more, fuel_is, turns_are))

  pub ends_whole : (outcome : Outcome) (bytes : List ℕ) → HasSliced (result call.function given) call.fuel (call.turns + fuel) (turned.Done outcome) bytes → EndsAs (result x args) fuel outcome bytes
  ends_whole outcome bytes h =
      subst (λ (n : ℕ). EndsAs (result x args) n outcome bytes) fuel_is
      (subst (λ (l : List Val). EndsAs (result x l) call.fuel outcome bytes) args_are
      (subst (λ (f : ℕ). EndsAs (result f given) call.fuel outcome bytes) function_is h.1))

  pub left_whole : (outcome : Outcome) (left : ℕ) → LeavesFuel (result call.function given) call.fuel (turned.Done outcome) left → left_in (result x args fuel) ≡ Some left
  left_whole outcome left h =
      subst (λ (n : ℕ). left_in (result x args n) ≡ Some left) fuel_is
      (subst (λ (l : List Val). left_in (result x l call.fuel) ≡ Some left) args_are
      (subst (λ (f : ℕ). left_in (result f given call.fuel) ≡ Some left) function_is h))
