-- Into an arm of an `if`.
use Rattle.wasm_spec.specs.Execution.{Terms}
use Rattle.std.proofs.Common.{◌≡◌, ℕ, zero, suc, ◌+◌, ◌-◌, ◌<◌, ◌≤◌, List, [], ◌∷◌, ◌++◌, length, map, Option, refl, sym, ap, ◌∙◌, subst, arith, length-append, false}
use Rattle.std.specs.Prelude.{vec_capacity, ◌||◌}
use Rattle.std.proofs.lemmas.List.{length-map}
use Rattle.wasm_types.specs.declared.types.ValType.{ValType}
use Rattle.wasm_types.specs.declared.types.ValType.TheVariants as type
use Rattle.wasm_values.specs.declared.outcome.Val.{Val}
use Rattle.wasm_values.specs.declared.outcome.Val.TheVariants as val
use Rattle.wasm_types.specs.declared.instr.Op.TheVariants as op
use Rattle.wasm_types.specs.declared.module.Module.{Module}
use Rattle.wasm_types.specs.Tree.{Code, module_tree}
use Rattle.wasm_spec.specs.Typing.{Context, type_of, result_types, Typed, under}
use Rattle.wasm_spec.specs.Need.{highest, deepest}
use Rattle.wasm_spec.specs.Store.{Store}
use Rattle.wasm_spec.specs.Execution.{State, Ended, Continuation, exec, leave, pop_index, chosen, arm}
use Rattle.wasm_spec.proofs.Equations.{exec-If}
use Rattle.wasm_types.specs.Sequences.{code_at, named_in}
use Rattle.machine_steps.specs.declared.machine.Position.{Position}
use Rattle.machine_steps.specs.declared.machine.Machine.{Machine}
use Rattle.machine_steps.specs.Configuration.{Configuration, state}
use Rattle.wasm_machine.specs.Remaining.{after_sequence}
use Rattle.machine_steps.specs.StackLayout.{Represents, KeepsRoom}
use Rattle.wasm_machine.specs.TypedConfiguration.{operand_count, IsTypedAt, context, ends_of, local_types}
use Rattle.wasm_spec.specs.Bulk.{code_uses_bulk, uses_bulk}
use Rattle.wasm_spec.proofs.NarrowModules.{neither}
use Rattle.wasm_machine.specs.Simulation.{HasFetched, Simulates, body_of, paid, chosen_arm}
use Rattle.machine_steps.specs.PlainSteps.{HasNumber, in_block}
use Rattle.machine_steps.proofs.StackLayoutLemmas.{room_kept}
use Rattle.wasm_spec.proofs.NeedLaws.{deepest-least}
use Rattle.wasm_machine.proofs.RoomLemmas.{free_label}

-- an i32 on the top of typed operands
pub record Condition (vs : List Val) (below : List ValType) : Type 0 where
  pub n : ℕ
  pub rest : List Val
  pub are : vs ≡ val.I32 n ∷ rest
  pub types : map type_of rest ≡ below

pub condition_of : (vs : List Val) (below : List ValType) → map type_of vs ≡ type.I32 ∷ below → Condition vs below
condition_of [] below e = absurd (cc)
condition_of (val.I64 n ∷ vs) below e = absurd (cc)
condition_of (val.I32 n ∷ vs) below e = record { n = n; rest = vs; are = refl; types = cc }

module _ (m : Module) (limits : Terms) (frame : ℕ) where
  chosen_is : (d c : ℕ) (trees : ℕ → Code) (n j : ℕ) (u : State) (fuel : ℕ)
      → chosen c (exec (module_tree m) limits d (trees n) u fuel) (exec (module_tree m) limits d (trees j) u fuel) ≡ exec (module_tree m) limits d (trees (chosen_arm c n j)) u fuel
  chosen_is d zero trees n j u fuel = refl
  chosen_is d (suc c) trees n j u fuel = refl

  either_one : (P : Code → Type 0) (c : ℕ) (trees : ℕ → Code) (n j : ℕ) → P (trees n) → P (trees j) → P (trees (chosen_arm c n j))
  either_one P zero trees n j p q = q
  either_one P (suc c) trees n j p q = p

  pub if_number : (machine : Machine) (store : Store) (here n j : ℕ) (t : Option ValType) (r : ℕ → Ended) → HasFetched m limits frame machine store here (op.If t n j) r → HasNumber machine
  if_number machine store here n j t r b =
      let (below, takes, first_typed, second_typed, rest_typed) = b.typed.typed in
      let c = condition_of b.configuration.operands below takes in
      record { configuration = b.configuration; represents = b.represents; top = c.n; rest = c.rest; are = c.are }

  abbrev pub Pops32 : Machine → ℕ → Machine → Type 0
  Pops32 old c mid = (k : Configuration) (x : ℕ) (vs : List Val) → Represents k old → k.operands ≡ val.I32 x ∷ vs → (c ≡ x) × Represents (record k { operands = vs }) mid

  pub if_label : (old mid : Machine) (store : Store) (here n j c : ℕ) (t : Option ValType) (r : ℕ → Ended) → HasFetched m limits frame old store here (op.If t n j) r → Pops32 old c mid → KeepsRoom old mid
      → length mid.labels.items < vec_capacity mid.labels
  if_label old mid store here n j c t r b pops keeps =
      let k = b.configuration in
      let (below, takes, first_typed, second_typed, rest_typed) = b.typed.typed in
      let cond = condition_of k.operands below takes in
      let p = pops k cond.n cond.rest b.represents cond.are in
      let first : Code = named_in (body_of m k) k.sequence n in
      let f = b.typed.fits in
      free_label m limits frame (record k { operands = cond.rest }) mid p.1
      (record { locals = b.around.locals; blocks = b.around.blocks; activations = b.around.activations; deep = b.around.deep; there = b.around.there })
      (room_kept limits.depth frame old mid b.room keeps) (omega (arith, deepest-least (length k.blocks + 1 + 1) first))

  pub if_goes : (old mid new : Machine) (store : Store) (here inner n j c : ℕ) (t : Option ValType) (r : ℕ → Ended) (b : HasFetched m limits frame old store here (op.If t n j) r)
      → Pops32 old c mid → old.at.place ≡ here + 1
      → ((k : Configuration) → Represents k mid → code_at (body_of m k) inner 0 ≡ named_in (body_of m k) k.sequence (chosen_arm c n j))
      → ((k : Configuration) → Represents k mid → Represents (in_block k (result_types t) (result_types t) (here + 1) inner) new) → KeepsRoom old new → Simulates m limits frame new store (paid r)
  if_goes old mid new store here inner n j c t r b pops stands names represents keeps =
      let k = b.configuration in
      let e = body_of m k in
      let x = k.function in
      let os = k.blocks in
      let C : Context = context m frame x os in
      let trees : ℕ → Code = named_in e k.sequence in
      let rest : Code = code_at e k.sequence k.place in
      let ts = map type_of k.operands in
      let (below, takes, first_typed, second_typed, rest_typed) = b.typed.typed in
      let cond = condition_of k.operands below takes in
      let p = pops k cond.n cond.rest b.represents cond.are in
      let named = names (record k { operands = cond.rest }) p.1 in
      let place : here + 1 ≡ k.place = sym stands ∙ ap (λ (a : Position). a.place) b.represents.at in
      let fits = b.typed.fits in
      let high : length ts ≡ suc (length cond.rest) = omega (arith, length-map k.operands type_of, ap length cond.are) in
      let lower : length (map type_of cond.rest) ≡ length cond.rest = length-map cond.rest type_of in
      let base_first : highest (operand_count os + length cond.rest) (under (result_types t) C) (trees n) 0 ≡ highest (operand_count os + (length ts - 1)) (under (result_types t) C) (trees n) 0 = ap (λ (z : ℕ). highest (operand_count os + z) (under (result_types t) C) (trees n) 0) (omega arith) in
      let base_second : highest (operand_count os + length cond.rest) (under (result_types t) C) (trees j) 0 ≡ highest (operand_count os + (length ts - 1)) (under (result_types t) C) (trees j) 0 = ap (λ (z : ℕ). highest (operand_count os + z) (under (result_types t) C) (trees j) 0) (omega arith) in
      let after : highest (operand_count os) C rest (length (result_types t ++ map type_of cond.rest)) ≡ highest (operand_count os) C rest ((length ts - 1) + length (result_types t)) =
      ap (λ (z : ℕ). highest (operand_count os) C rest z) (omega (arith, length-append (result_types t) (map type_of cond.rest))) in
      let deep_first : deepest (suc (length os) + 1) (trees n) ≡ deepest (length os + 1 + 1) (trees n) = ap (λ (z : ℕ). deepest z (trees n)) (omega arith) in
      let deep_second : deepest (suc (length os) + 1) (trees j) ≡ deepest (length os + 1 + 1) (trees j) = ap (λ (z : ℕ). deepest z (trees j)) (omega arith) in
      let parts : uses_bulk (module_tree m) ≡ false → (code_uses_bulk (trees n) || code_uses_bulk (trees j) ≡ false) × (code_uses_bulk rest ≡ false) =
      λ e. neither (code_uses_bulk (trees n) || code_uses_bulk (trees j)) (code_uses_bulk rest) (b.typed.narrow e) in
      let arms : uses_bulk (module_tree m) ≡ false → (code_uses_bulk (trees n) ≡ false) × (code_uses_bulk (trees j) ≡ false) =
      λ e. neither (code_uses_bulk (trees n)) (code_uses_bulk (trees j)) (parts e).0 in
      let resumes : IsTypedAt m frame x os (result_types t ++ map type_of cond.rest) k.sequence k.place = record {
        typed = subst (λ (us : List ValType). Typed C rest (result_types t ++ us) (ends_of m frame x os)) (sym cond.types) rest_typed;
        fits = omega arith;
        narrow = λ e. (parts e).1;
      } in
      let arm_typed : Typed (under (result_types t) C) (trees (chosen_arm c n j)) [] (result_types t) = either_one (λ (z : Code). Typed (under (result_types t) C) z [] (result_types t)) c trees n j first_typed second_typed in
      let arm_fits : length (local_types m frame x) + highest (operand_count os + length cond.rest) (under (result_types t) C) (trees (chosen_arm c n j)) 0 + deepest (suc (length os) + 1) (trees (chosen_arm c n j)) ≤ frame =
      either_one (λ (z : Code). length (local_types m frame x) + highest (operand_count os + length cond.rest) (under (result_types t) C) z 0 + deepest (suc (length os) + 1) z ≤ frame) c trees n j (omega arith) (omega arith) in
      let d = length k.activations + 1 in
      let k' : Configuration = record k { operands = cond.rest } in
      record {
        configuration = in_block k' (result_types t) (result_types t) k.place inner;
        represents = subst (λ (q : ℕ). Represents (in_block k' (result_types t) (result_types t) q inner) new) place (represents k' p.1);
        typed = record {
          here = record {
            typed = subst (λ (z : Code). Typed (under (result_types t) C) z [] (result_types t)) (sym named) arm_typed;
            fits = subst (λ (z : Code). length (local_types m frame x) + highest (operand_count os + length cond.rest) (under (result_types t) C) z 0 + deepest (suc (length os) + 1) z ≤ frame) (sym named) arm_fits;
            narrow = subst (λ (z : Code). uses_bulk (module_tree m) ≡ false → code_uses_bulk z ≡ false) (sym named)
                (either_one (λ (z : Code). uses_bulk (module_tree m) ≡ false → code_uses_bulk z ≡ false) c trees n j (λ e. (arms e).0) (λ e. (arms e).1));
          };
          around = record { locals = b.around.locals; blocks = (record { at_end = resumes; at_branch = resumes }, b.around.blocks); activations = b.around.activations; deep = b.around.deep; there = b.around.there };
        };
        stored = b.stored;
        room = room_kept limits.depth frame old new b.room keeps;
        goes = λ fuel.
            let next : Continuation = exec (module_tree m) limits d rest in
            let s : State = state k store in
            let u : State = record { locals = k.locals; operands = []; store = store } in
            ap (after_sequence m limits k)
            (ap (λ (z : Code). leave (length (result_types t)) cond.rest (exec (module_tree m) limits d z u fuel) next next) named
            ∙ ap (λ (z : Ended). leave (length (result_types t)) cond.rest z next next) (sym (chosen_is d c trees n j u fuel))
            ∙ ap (λ (z : ℕ). leave (length (result_types t)) cond.rest (chosen z (exec (module_tree m) limits d (trees n) u fuel) (exec (module_tree m) limits d (trees j) u fuel)) next next) p.0
            ∙ ap (λ (vs : List Val). pop_index vs (arm t (exec (module_tree m) limits d (trees n)) (exec (module_tree m) limits d (trees j)) (exec (module_tree m) limits d rest)) s fuel) (sym cond.are)
            ∙ sym (exec-If (module_tree m) limits d t (trees n) (trees j) rest s fuel))
            ∙ b.goes (suc fuel);
      }
