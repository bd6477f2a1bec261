-- The ways out of a sequence.
use Rattle.wasm_spec.specs.Execution.{Terms}
use Rattle.std.proofs.Common.{◌≡◌, ℕ, ◌+◌, ◌≤◌, List, [], ◌∷◌, ◌++◌, length, map, take, drop, reverse, refl, sym, ap, ◌∙◌, subst, arith, append-nil, length-append}
use Rattle.std.proofs.lemmas.List.{reverse-reverse, length-reverse, take_at, same_from_push}
use Rattle.wasm_types.specs.declared.types.ValType.{ValType}
use Rattle.wasm_values.specs.declared.outcome.Val.{Val}
use Rattle.wasm_types.specs.declared.module.Module.{Module}
use Rattle.wasm_spec.specs.Typing.{type_of}
use Rattle.wasm_spec.specs.Store.{Store}
use Rattle.wasm_spec.specs.Execution.{State, Next, Returned, Ended, Continuation}
use Rattle.wasm_spec.specs.Result.{finish}
use Rattle.machine_steps.specs.declared.machine.Position.{Position}
use Rattle.machine_steps.specs.declared.machine.Machine.{Machine}
use Rattle.machine_steps.specs.Configuration.{OpenBlock, Activation, Configuration, state}
use Rattle.wasm_machine.specs.Remaining.{results, resume_at, leave_blocks, return_to, after_sequence}
use Rattle.machine_steps.specs.StackLayout.{operands_under, frames_under, bottom_of, labels_of, labels_under, position_of, frames_of, Represents, HasRoom, KeepsRoom}
use Rattle.wasm_machine.specs.TypedConfiguration.{IsTypedContext, IsTypedStore, IsTypedAt}
use Rattle.wasm_machine.specs.Simulation.{ByReturn, HasExitOperands, Simulates, SimulatesExit, IsOver}
use Rattle.machine_steps.proofs.StackLists.{put_back}
use Rattle.wasm_machine.proofs.RemainingLemmas.{kept_on, leave_blocks-Returned}
use Rattle.wasm_machine.proofs.LabelLemmas.{Cut, types_cut, map-append}
use Rattle.machine_steps.proofs.StackLayoutLemmas.{room_kept, values_on}

abbrev pub configuration_of : (x q p : ℕ) (ls vs : List Val) (os : List OpenBlock) (cs : List Activation) → Configuration
configuration_of x q p ls vs os cs = record { function = x; sequence = q; place = p; locals = ls; operands = vs; blocks = os; activations = cs }

-- what `keep` does
abbrev pub KeptTo : (old new : List Val) (n base : ℕ) → Type 0
KeptTo old new n base = (lower middle operands : List Val) → old ≡ lower ++ middle ++ reverse operands → length lower ≡ base → n ≤ length operands → new ≡ lower ++ reverse (take n operands)

-- after a function's end, but for where it goes on
pub record IsCut (m : Module) (old new : Machine) : Type 0 where
  pub count : ℕ
  pub count_is : count ≡ length (results m old.at.function)
  pub values : KeptTo old.values.items new.values.items count old.at.locals
  pub labels : new.labels.items ≡ take old.at.labels old.labels.items

module _ (m : Module) (limits : Terms) (frame : ℕ) where
  -- the results are there
  results_cut : (k : Configuration) → HasExitOperands m frame ByReturn k → Cut k.operands (results m k.function) (map type_of (drop (length (results m k.function)) k.operands))
  results_cut k (below, e) = let c = types_cut k.operands (results m k.function) below e in record { enough = c.enough; upper = c.upper; lower = refl }

  pub results_there : (old : Machine) (n : ℕ) (store : Store) (r : ℕ → Ended) → SimulatesExit ByReturn m limits frame old store r → n ≡ length (results m old.at.function) → old.at.locals + n ≤ length old.values.items
  results_there old n store r e en =
      let k = e.configuration in
      let c = results_cut k e.ready in
      let enough : length (results m k.function) ≤ length k.operands = c.enough in
      let same : length (results m old.at.function) ≡ length (results m k.function) = ap (λ (a : Position). length (results m a.function)) e.represents.at in
      let at : old.at.locals ≡ length (frames_under k.activations) = ap (λ (a : Position). a.locals) e.represents.at in
      let long : length old.values.items ≡ length (frames_under k.activations ++ (k.locals ++ operands_under [] k.blocks)) + length k.operands =
      ap length (values_on k old e.represents) ∙ omega (arith, length-append (frames_under k.activations ++ (k.locals ++ operands_under [] k.blocks)) (reverse k.operands), length-reverse k.operands) in
      omega (arith, length-append (frames_under k.activations) (k.locals ++ operands_under [] k.blocks))

  cut_values : (k : Configuration) (old new : Machine) → Represents k old → IsCut m old new → length (results m k.function) ≤ length k.operands
      → new.values.items ≡ frames_under k.activations ++ reverse (take (length (results m k.function)) k.operands)
  cut_values k old new sh cut le =
      let n : cut.count ≡ length (results m k.function) = cut.count_is ∙ ap (λ (a : Position). length (results m a.function)) sh.at in
      cut.values (frames_under k.activations) (k.locals ++ operands_under [] k.blocks) k.operands (values_on k old sh) (sym (ap (λ (a : Position). a.locals) sh.at)) (omega arith)
      ∙ ap (λ (z : ℕ). frames_under k.activations ++ reverse (take z k.operands)) n

  cut_labels : (k : Configuration) (old new : Machine) → Represents k old → IsCut m old new → new.labels.items ≡ labels_under k.activations
  cut_labels k old new sh cut =
      cut.labels ∙ ap (take old.at.labels) sh.labels ∙ take_at (labels_under k.activations) (labels_of (bottom_of k) k.blocks) old.at.labels (sym (ap (λ (a : Position). a.labels) sh.at))

  to_caller : (x q p : ℕ) (ls vs : List Val) (os : List OpenBlock) (cs : List Activation) (old new : Machine) (store : Store) (r : ℕ → Ended)
      → Represents (configuration_of x q p ls vs os cs) old → IsTypedContext m frame limits.depth (configuration_of x q p ls vs os cs) → HasExitOperands m frame ByReturn (configuration_of x q p ls vs os cs)
      → IsTypedStore m store → HasRoom limits.depth frame old
      → ((fuel : ℕ) → after_sequence m limits (configuration_of x q p ls vs os cs) (Returned (state (configuration_of x q p ls vs os cs) store), fuel) ≡ r fuel)
      → IsCut m old new → KeepsRoom old new → old.frames.items ≡ new.frames.items ++ new.at ∷ [] → Simulates m limits frame new store r
  to_caller x q p ls vs os [] old new store r sh ar ready stored room goes cut keeps fr =
      absurd (omega (arith, ap length (sym fr ∙ sh.frames), length-append new.frames.items (new.at ∷ [])))
  to_caller x q p ls vs os (c ∷ cs) old new store r sh ar ready stored room goes cut keeps fr =
      let k : Configuration = configuration_of x q p ls vs os (c ∷ cs) in
      let n : ℕ = length (results m x) in
      let typed = results_cut k ready in
      let enough : n ≤ length vs = typed.enough in
      let last = same_from_push new.frames.items (frames_of cs) new.at (position_of c.function c.sequence c.after cs) (sym fr ∙ sh.frames) in
      let (caller, activations) = ar.activations in
      let deep = ar.deep in
      let types : map type_of (take n vs ++ c.below) ≡ results m x ++ map type_of c.below =
      map-append (take n vs) c.below ∙ ap (λ (l : List ValType). l ++ map type_of c.below) typed.upper in
      record {
        configuration = configuration_of c.function c.sequence c.after c.locals (take n vs ++ c.below) c.blocks cs;
        represents = record {
          at = last.1;
          values = cut_values k old new sh cut enough ∙ sym (put_back (operands_under (frames_under cs ++ c.locals) c.blocks) (take n vs) c.below);
          labels = cut_labels k old new sh cut;
          frames = last.0;
        };
        typed = record {
          here = subst (λ (ts : List ValType). IsTypedAt m frame c.function c.blocks ts c.sequence c.after) (sym types) caller.resumes;
          around = record { locals = caller.locals; blocks = caller.blocks; activations = activations; deep = omega arith; there = caller.there };
        };
        stored = stored;
        room = room_kept limits.depth frame old new room keeps;
        goes = λ fuel.
            let s : State = state k store in
            let next : Continuation = resume_at m limits (length cs + 1) c.function c.sequence c.after in
            sym (ap (λ (e : Ended). return_to m limits c.function cs (leave_blocks m limits (length cs + 1) c.function c.blocks e))
            (kept_on n c.below next (record s { locals = c.locals }) fuel enough))
            ∙ sym (ap (return_to m limits x (c ∷ cs)) (leave_blocks-Returned m limits (length (c ∷ cs) + 1) x os s fuel))
            ∙ goes fuel;
      }

  to_end : (x q p : ℕ) (ls vs : List Val) (os : List OpenBlock) (cs : List Activation) (old new : Machine) (store : Store) (r : ℕ → Ended)
      → Represents (configuration_of x q p ls vs os cs) old → HasExitOperands m frame ByReturn (configuration_of x q p ls vs os cs)
      → ((fuel : ℕ) → after_sequence m limits (configuration_of x q p ls vs os cs) (Returned (state (configuration_of x q p ls vs os cs) store), fuel) ≡ r fuel)
      → IsCut m old new → old.frames.items ≡ [] → (fuel : ℕ) → r fuel ≡ (Next (record { locals = []; operands = reverse new.values.items; store = store }), fuel)
  to_end x q p ls vs os (c ∷ cs) old new store r sh ready goes cut fr fuel =
      absurd (omega (arith, ap length (sym fr ∙ sh.frames), length-append (frames_of cs) (position_of c.function c.sequence c.after cs ∷ [])))
  to_end x q p ls vs os [] old new store r sh ready goes cut fr fuel =
      let k : Configuration = configuration_of x q p ls vs os [] in
      let n : ℕ = length (results m x) in
      let enough : n ≤ length vs = (results_cut k ready).enough in
      let s : State = state k store in
      let left : new.values.items ≡ reverse (take n vs) = cut_values k old new sh cut enough in
      sym (goes fuel)
      ∙ ap (return_to m limits x []) (leave_blocks-Returned m limits 1 x os s fuel)
      ∙ kept_on n [] finish (record s { locals = [] }) fuel enough
      ∙ ap (λ (l : List Val). (Next (record { locals = []; operands = l; store = store }), fuel)) (append-nil (take n vs) ∙ sym (reverse-reverse (take n vs)) ∙ ap reverse (sym left))

  pub shown_caller : (old new : Machine) (store : Store) (r : ℕ → Ended) → SimulatesExit ByReturn m limits frame old store r → IsCut m old new → KeepsRoom old new → old.frames.items ≡ new.frames.items ++ new.at ∷ [] → Simulates m limits frame new store r
  shown_caller old new store r e cut keeps fr =
      let k = e.configuration in
      to_caller k.function k.sequence k.place k.locals k.operands k.blocks k.activations old new store r e.represents e.around e.ready e.stored e.room e.goes cut keeps fr

  pub shown_end : (old new : Machine) (store : Store) (r : ℕ → Ended) → SimulatesExit ByReturn m limits frame old store r → IsCut m old new → old.frames.items ≡ [] → IsOver m new store r
  shown_end old new store r e cut fr =
      let k = e.configuration in
      record { stored = e.stored; goes = to_end k.function k.sequence k.place k.locals k.operands k.blocks k.activations old new store r e.represents e.ready e.goes cut fr }
