-- Branches to open blocks, and ends of blocks.
use Rattle.wasm_spec.specs.Execution.{Terms}
use Rattle.std.proofs.Common.{◌≡◌, ◌≢◌, ℕ, zero, suc, ◌+◌, ◌-◌, ◌<◌, ◌≤◌, List, [], ◌∷◌, ◌++◌, length, map, take, drop, get_or, reverse, refl, sym, ap, ◌∙◌, subst, arith, append_assoc, append-nil, length-append}
use Rattle.std.proofs.lemmas.List.{same_from_push}
use Rattle.wasm_types.specs.declared.types.ValType.{ValType}
use Rattle.wasm_values.specs.declared.outcome.Val.{Val}
use Rattle.wasm_types.specs.declared.module.Module.{Module}
use Rattle.wasm_spec.specs.Typing.{type_of}
use Rattle.wasm_spec.specs.Store.{Store}
use Rattle.wasm_spec.specs.Execution.{State, Next, Ended}
use Rattle.machine_steps.specs.declared.machine.Position.{Position}
use Rattle.machine_steps.specs.declared.machine.Label.{Label}
use Rattle.machine_steps.specs.declared.machine.Machine.{Machine}
use Rattle.machine_steps.specs.Configuration.{OpenBlock, Activation, Configuration, state}
use Rattle.wasm_machine.specs.Remaining.{results, resume_at, leave_blocks, return_to, after_sequence}
use Rattle.machine_steps.specs.StackLayout.{operands_under, frames_under, bottom_of, label_of, labels_of, labels_under, Represents, HasRoom, KeepsRoom}
use Rattle.wasm_machine.specs.TypedConfiguration.{IsTypedContext, IsTypedStore, IsTypedAt, AreTypedBlocks}
use Rattle.wasm_machine.specs.Simulation.{AtEnd, ToLabel, ByReturn, HasExitOperands, Simulates, SimulatesExit}
use Rattle.machine_steps.proofs.StackLists.{put_back}
use Rattle.wasm_machine.proofs.RemainingLemmas.{kept_on, leave_blocks-Returned, next_back, branch_back, close_in, close_out}
use Rattle.wasm_machine.proofs.LabelLemmas.{Cut, types_cut, map-append, Found, found, label_found, label_last, under_split, open_count, label_place}
use Rattle.machine_steps.proofs.StackLayoutLemmas.{room_kept, count_values}
use Rattle.wasm_machine.proofs.ReturnLemmas.{configuration_of, KeptTo}

module _ (m : Module) (limits : Terms) (frame : ℕ) where
  -- what surrounds a block that a branch finds
  pub record Target (x : ℕ) (o : OpenBlock) (rest : List OpenBlock) : Type 0 where
    pub resumes : IsTypedAt m frame x rest (o.label ++ map type_of o.below) o.sequence o.target
    pub blocks : AreTypedBlocks m frame x rest

  target : (x : ℕ) (os : List OpenBlock) (l : ℕ) (o : OpenBlock) (rest : List OpenBlock) → drop l os ≡ o ∷ rest → AreTypedBlocks m frame x os → Target x o rest
  target x [] zero o rest e t = absurd (cc)
  target x [] (suc l) o rest e t = absurd (cc)
  target x (p ∷ os) zero o rest e (block, blocks) =
      let same : p ≡ o = cc in
      let others : os ≡ rest = cc in
      record {
        resumes = subst (λ (u : OpenBlock). IsTypedAt m frame x rest (u.label ++ map type_of u.below) u.sequence u.target) same
            (subst (λ (us : List OpenBlock). IsTypedAt m frame x us (p.label ++ map type_of p.below) p.sequence p.target) others block.at_branch);
        blocks = subst (λ (us : List OpenBlock). AreTypedBlocks m frame x us) others blocks;
      }
  target x (p ∷ os) (suc l) o rest e (block, blocks) = target x os l o rest e blocks

  -- the values that the branch takes are there
  label_cut : (k : Configuration) (l : ℕ) (g : Found k.blocks l) → HasExitOperands m frame (ToLabel l) k → Cut k.operands g.here.label (map type_of (drop (length g.here.label) k.operands))
  label_cut k l g taken =
      let same : taken.label ≡ g.here.label = label_found k.blocks (results m k.function) l g.here g.rest taken.label g.is taken.there in
      let c = types_cut k.operands g.here.label taken.below (taken.types ∙ ap (λ (us : List ValType). us ++ taken.below) same) in
      record { enough = c.enough; upper = c.upper; lower = refl }

  pub base_there : (old : Machine) (l index : ℕ) (label : Label) (store : Store) (r : ℕ → Ended) (e : SimulatesExit (ToLabel l) m limits frame old store r) → l < length e.configuration.blocks
      → index ≡ length old.labels.items - 1 - l → label ≡ get_or old.labels.items index label → label.base + label.arity ≤ length old.values.items
  base_there old l index label store r e lt ei el =
      let k = e.configuration in
      let g = found k.blocks l lt in
      let at = label_place k old l index g e.represents lt ei in
      let here : label ≡ label_of (length (operands_under (bottom_of k) (g.here ∷ g.rest))) g.here = el ∙ at.label label in
      let enough : length g.here.label ≤ length k.operands = (label_cut k l g e.ready).enough in
      let (more, split) = under_split (bottom_of k) k.blocks l g.here g.rest g.is in
      omega (arith, count_values k old e.represents, ap length split, length-append (operands_under (bottom_of k) (g.here ∷ g.rest)) more, ap (λ (x : Label). x.base) here, ap (λ (x : Label). x.arity) here)

  pub shown_jump : (old new : Machine) (l index : ℕ) (label : Label) (store : Store) (r : ℕ → Ended) (e : SimulatesExit (ToLabel l) m limits frame old store r) → l < length e.configuration.blocks
      → index ≡ length old.labels.items - 1 - l → label ≡ get_or old.labels.items index label → KeptTo old.values.items new.values.items label.arity label.base
      → new.labels.items ≡ take index old.labels.items → new.frames.items ≡ old.frames.items → new.at ≡ record old.at { sequence = label.sequence; place = label.target } → KeepsRoom old new
      → Simulates m limits frame new store r
  shown_jump old new l index label store r e lt ei el kept labels frames ats keeps =
      let k = e.configuration in
      let g = found k.blocks l lt in
      let o = g.here in
      let rest = g.rest in
      let at = label_place k old l index g e.represents lt ei in
      let here : label ≡ label_of (length (operands_under (bottom_of k) (o ∷ rest))) o = el ∙ at.label label in
      let cut = label_cut k l g e.ready in
      let enough : length o.label ≤ length k.operands = cut.enough in
      let (more, split) = under_split (bottom_of k) k.blocks l o rest g.is in
      let lower = operands_under (bottom_of k) (o ∷ rest) in
      let arity : label.arity ≡ length o.label = ap (λ (x : Label). x.arity) here in
      let vs = take (length o.label) k.operands in
      let t = target k.function k.blocks l o rest g.is e.around.blocks in
      let types : map type_of (vs ++ o.below) ≡ o.label ++ map type_of o.below = map-append vs o.below ∙ ap (λ (us : List ValType). us ++ map type_of o.below) cut.upper in
      let d = length k.activations + 1 in
      record {
        configuration = configuration_of k.function o.sequence o.target k.locals (vs ++ o.below) rest k.activations;
        represents = record {
          at = ats ∙ ap (λ (x : Label). record old.at { sequence = x.sequence; place = x.target }) here ∙ ap (λ (a : Position). record a { sequence = o.sequence; place = o.target }) e.represents.at;
          values = kept lower more k.operands (e.represents.values ∙ ap (λ (us : List Val). us ++ reverse k.operands) split) (sym (ap (λ (x : Label). x.base) here)) (omega arith)
              ∙ ap (λ (z : ℕ). lower ++ reverse (take z k.operands)) arity ∙ sym (put_back (operands_under (bottom_of k) rest) vs o.below);
          labels = labels ∙ at.before;
          frames = frames ∙ e.represents.frames;
        };
        typed = record {
          here = subst (λ (us : List ValType). IsTypedAt m frame k.function rest us o.sequence o.target) (sym types) t.resumes;
          around = record { locals = e.around.locals; blocks = t.blocks; activations = e.around.activations; deep = e.around.deep; there = e.around.there };
        };
        stored = e.stored;
        room = room_kept limits.depth frame old new e.room keeps;
        goes = λ fuel.
            let s : State = state k store in
            sym (ap (λ (x : Ended). return_to m limits k.function k.activations (leave_blocks m limits d k.function rest x))
            (kept_on (length o.label) o.below (resume_at m limits d k.function o.sequence o.target) s fuel enough))
            ∙ sym (ap (return_to m limits k.function k.activations) (close_in m limits d k.function k.blocks l o rest s fuel g.is))
            ∙ e.goes fuel;
      }

  -- a branch past the open blocks is a return
  pub branch_returns : (machine : Machine) (l : ℕ) (store : Store) (r : ℕ → Ended) (e : SimulatesExit (ToLabel l) m limits frame machine store r) → length e.configuration.blocks ≤ l → SimulatesExit ByReturn m limits frame machine store r
  branch_returns machine l store r e le =
      let k = e.configuration in
      let taken = e.ready in
      let (here, last) = label_last k.blocks (results m k.function) l taken.label le taken.there in
      let d = length k.activations + 1 in
      record {
        configuration = k;
        represents = e.represents;
        around = e.around;
        stored = e.stored;
        room = e.room;
        ready = (taken.below, taken.types ∙ ap (λ (us : List ValType). us ++ taken.below) last);
        goes = λ fuel.
            let s : State = state k store in
            ap (return_to m limits k.function k.activations) (leave_blocks-Returned m limits d k.function k.blocks s fuel)
            ∙ sym (branch_back m limits k.function k.activations s fuel)
            ∙ sym (ap (return_to m limits k.function k.activations) (close_out m limits d k.function k.blocks l s fuel here))
            ∙ e.goes fuel;
      }

  -- ---- ends

  closes : (x q p : ℕ) (ls vs : List Val) (os : List OpenBlock) (cs : List Activation) (old new : Machine) (label : Label) (store : Store) (r : ℕ → Ended)
      → Represents (configuration_of x q p ls vs os cs) old → IsTypedContext m frame limits.depth (configuration_of x q p ls vs os cs) → HasExitOperands m frame AtEnd (configuration_of x q p ls vs os cs)
      → IsTypedStore m store → HasRoom limits.depth frame old
      → ((fuel : ℕ) → after_sequence m limits (configuration_of x q p ls vs os cs) (Next (state (configuration_of x q p ls vs os cs) store), fuel) ≡ r fuel)
      → length old.labels.items ≢ old.at.labels → old.labels.items ≡ new.labels.items ++ label ∷ [] → new.values.items ≡ old.values.items → new.frames.items ≡ old.frames.items
      → new.at ≡ record old.at { sequence = label.sequence; place = label.after } → KeepsRoom old new → Simulates m limits frame new store r
  closes x q p ls vs [] cs old new label store r sh ar ready stored room goes some labels values frames ats keeps =
      absurd (some (omega (arith, open_count (configuration_of x q p ls vs [] cs) old sh)))
  closes x q p ls vs (o ∷ os) cs old new label store r sh ar ready stored room goes some labels values frames ats keeps =
      let bottom = frames_under cs ++ ls in
      let here = label_of (length (operands_under bottom (o ∷ os))) o in
      let last = same_from_push new.labels.items (labels_under cs ++ labels_of bottom os) label here
      (sym labels ∙ sh.labels ∙ sym (append_assoc (labels_under cs) (labels_of bottom os) (here ∷ []))) in
      let (block, blocks) = ar.blocks in
      let types : map type_of (vs ++ o.below) ≡ o.ends ++ map type_of o.below = map-append vs o.below ∙ ap (λ (us : List ValType). us ++ map type_of o.below) ready in
      record {
        configuration = configuration_of x o.sequence o.after ls (vs ++ o.below) os cs;
        represents = record {
          at = ats ∙ ap (λ (y : Label). record old.at { sequence = y.sequence; place = y.after }) last.1 ∙ ap (λ (a : Position). record a { sequence = o.sequence; place = o.after }) sh.at;
          values = values ∙ sh.values ∙ sym (put_back (operands_under bottom os) vs o.below);
          labels = last.0;
          frames = frames ∙ sh.frames;
        };
        typed = record {
          here = subst (λ (us : List ValType). IsTypedAt m frame x os us o.sequence o.after) (sym types) block.at_end;
          around = record { locals = ar.locals; blocks = blocks; activations = ar.activations; deep = ar.deep; there = ar.there };
        };
        stored = stored;
        room = room_kept limits.depth frame old new room keeps;
        goes = goes;
      }

  pub shown_close : (old new : Machine) (label : Label) (store : Store) (r : ℕ → Ended) → SimulatesExit AtEnd m limits frame old store r
      → length old.labels.items ≢ old.at.labels → old.labels.items ≡ new.labels.items ++ label ∷ [] → new.values.items ≡ old.values.items → new.frames.items ≡ old.frames.items
      → new.at ≡ record old.at { sequence = label.sequence; place = label.after } → KeepsRoom old new → Simulates m limits frame new store r
  shown_close old new label store r e =
      let k = e.configuration in
      closes k.function k.sequence k.place k.locals k.operands k.blocks k.activations old new label store r e.represents e.around e.ready e.stored e.room e.goes

  -- the end of the body is a return
  ends : (x q p : ℕ) (ls vs : List Val) (os : List OpenBlock) (cs : List Activation) (machine : Machine) (store : Store) (r : ℕ → Ended)
      → Represents (configuration_of x q p ls vs os cs) machine → IsTypedContext m frame limits.depth (configuration_of x q p ls vs os cs) → HasExitOperands m frame AtEnd (configuration_of x q p ls vs os cs)
      → IsTypedStore m store → HasRoom limits.depth frame machine
      → ((fuel : ℕ) → after_sequence m limits (configuration_of x q p ls vs os cs) (Next (state (configuration_of x q p ls vs os cs) store), fuel) ≡ r fuel)
      → length os ≡ 0 → SimulatesExit ByReturn m limits frame machine store r
  ends x q p ls vs (o ∷ os) cs machine store r sh ar ready stored room goes none = absurd (omega arith)
  ends x q p ls vs [] cs machine store r sh ar ready stored room goes none =
      let k = configuration_of x q p ls vs [] cs in
      record {
        configuration = k;
        represents = sh;
        around = ar;
        stored = stored;
        room = room;
        ready = ([], ready ∙ sym (append-nil (results m x)));
        goes = λ fuel. sym (next_back m limits x cs (state k store) fuel) ∙ goes fuel;
      }

  pub end_returns : (machine : Machine) (store : Store) (r : ℕ → Ended) → SimulatesExit AtEnd m limits frame machine store r → length machine.labels.items ≡ machine.at.labels → SimulatesExit ByReturn m limits frame machine store r
  end_returns machine store r e none =
      let k = e.configuration in
      ends k.function k.sequence k.place k.locals k.operands k.blocks k.activations machine store r e.represents e.around e.ready e.stored e.room e.goes (omega (arith, open_count k machine e.represents))
