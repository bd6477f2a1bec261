-- A module's parts, one after the other.
use Rattle.std.proofs.Common.{◌≡◌, ℕ, ◌<◌, List, [], ◌∷◌, Bool, true, false, length, map, refl, subst, arith}
use Rattle.std.specs.Prelude.{All, AllPairs, MatchBool, HoldsAt, IsTrue, ◌↔◌}
use Rattle.std.specs.List.{AllWithin}
use Rattle.std.proofs.lemmas.List.{get_or-map, length-map}
use Rattle.std.proofs.lemmas.List.Elements.{All-map}
use Rattle.wasm_types.specs.declared.module.Module.{Module}
use Rattle.wasm_types.specs.Tree.{module_tree, global_tree, element_tree, data_tree}
use Rattle.wasm_spec.specs.Typing.{IsTypedFunction}
use Rattle.wasm_spec.specs.Validity.{IsValid, IsInitialised, IsElementSegment, IsDataSegment}
use Rattle.wasm_validate.specs.Checked.{HasValidParts}

no_such : {X : Type 0} (P : X → Type 0) (xs : List X) → (k : ℕ) × (k < length xs) × HoldsAt (λ x. P x → ⊥) xs k → All P xs → ⊥
no_such P [] h all = omega (arith, h.1)
no_such P (x ∷ xs) h all = h.2 x (all h.0 x h.1)

-- a test of each element that stops at the first that fails
pub all_decided : {X : Type 0} (P : X → Type 0) (xs : List X) (r : Bool) → MatchBool r (AllWithin P xs 0 (length xs)) ((k : ℕ) × (k < length xs) × HoldsAt (λ x. P x → ⊥) xs k) → (IsTrue r ↔ All P xs)
all_decided P xs true h = (λ t k d lt. h k d (omega arith) lt, λ all. refl)
all_decided {X} P xs false h = (λ t. cc (t), λ all. absurd (no_such P xs h all))

-- what holds of each mapped element holds of each
each_of : {X Y : Type 0} (P : Y → Type 0) (f : X → Y) (xs : List X) → All P (map f xs) → All (λ x. P (f x)) xs
each_of P f xs all k d lt = subst P (get_or-map f xs k d (f d) lt) (all k (f d) (omega (arith, length-map xs f)))

-- a valid module's parts, and back with its functions and names
pub parts_of : (m : Module) → IsValid (module_tree m) → HasValidParts m
parts_of m v = record {
  function_types = v.function_types;
  imports = v.imports;
  tables = (v.one_table, v.table_types);
  memories = (v.one_memory, v.memory_types);
  globals = each_of IsInitialised global_tree m.globals v.globals;
  element_segments = each_of (IsElementSegment (module_tree m)) element_tree m.element_segments v.element_segments;
  data_segments = each_of (IsDataSegment (module_tree m)) data_tree m.data_segments v.data_segments;
  start = v.start;
  exports = v.exports;
}

pub valid_from : (m : Module) → HasValidParts m → All (IsTypedFunction (module_tree m)) (module_tree m).functions → AllPairs (λ a b. a.name ≡ b.name → ⊥) m.exports → IsValid (module_tree m)
valid_from m p functions names = record {
  function_types = p.function_types;
  imports = p.imports;
  functions = functions;
  one_table = p.tables.0;
  table_types = p.tables.1;
  one_memory = p.memories.0;
  memory_types = p.memories.1;
  globals = All-map IsInitialised global_tree m.globals p.globals;
  element_segments = All-map (IsElementSegment (module_tree m)) element_tree m.element_segments p.element_segments;
  data_segments = All-map (IsDataSegment (module_tree m)) data_tree m.data_segments p.data_segments;
  start = p.start;
  exports = p.exports;
  names_differ = names;
}
