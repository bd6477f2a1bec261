-- Results on more fuel, and what the stores of an instance have in common.
use Rattle.std.proofs.Common.{◌≡◌, ℕ, ◌*◌, ◌≤◌, true, false, [], ◌∷◌, refl, arith}
use Rattle.std.specs.Prelude.{Some, None, replicate}
use Rattle.wasm_types.specs.declared.types.ValType.TheVariants as type
use Rattle.wasm_values.specs.declared.outcome.Val.TheVariants.{I32}
use Rattle.wasm_values.specs.declared.outcome.TrapKind.TheVariants as trap
use Rattle.wasm_values.specs.declared.outcome.Outcome.{Outcome}
use Rattle.wasm_values.specs.declared.outcome.Outcome.TheVariants.{Done, Trap, Fuel}
use Rattle.wasm_types.specs.Tree.{End, ModuleTree}
use Rattle.wasm_spec.specs.Store.{Store}
use Rattle.wasm_spec.specs.Result.{CallResult}
use Rattle.wasm_spec.specs.MoreFuel.{is_fuel, is_fuel_end, with_more}
use Rattle.wasm_spec.specs.Instances.{IsInstance, room_for}
use Rattle.wasm_examples.proofs.Modules.{straight, i32_const, at_least, bare}

abbrev nothing : Store
nothing = record { memory = []; table = []; globals = []; answer = [] }

abbrev result_with : Outcome → ℕ → CallResult
result_with o fuel = record { outcome = o; store = nothing; fuel = fuel }

-- ---- more fuel

fuel_alone : is_fuel Fuel ∷ is_fuel (Done None) ∷ is_fuel (Trap trap.Divide) ∷ [] ≡ true ∷ false ∷ false ∷ []
fuel_alone = refl

fuel_ends : is_fuel_end (Some (result_with Fuel 0)) ∷ is_fuel_end (Some (result_with (Done None) 0)) ∷ is_fuel_end None ∷ [] ≡ true ∷ false ∷ false ∷ []
fuel_ends = refl

seven_more : with_more 7 (Some (result_with (Done None) 3)) ≡ Some (result_with (Done None) 10)
seven_more = refl

more_of_nothing : with_more 7 None ≡ None
more_of_nothing = refl

-- ---- stores of an instance

rooms : room_for [] 32 ∷ room_for (at_least 1 ∷ []) 32 ∷ [] ≡ 0 ∷ 32 ∷ []
rooms = refl

-- a memory and a global
abbrev small : ModuleTree
small = record (bare [] [] []) {
  memories = at_least 0 ∷ [];
  globals = record { global_type = record { value = type.I32; mutable = true }; init = straight (i32_const 0 ∷ []) End } ∷ [];
}

abbrev store_of : ℕ → Store
store_of bytes = record { memory = replicate bytes 0; table = None ∷ []; globals = I32 4 ∷ []; answer = [] }

one_page_of_two : IsInstance small 2 (None ∷ []) (store_of 65536)
one_page_of_two = record { table_is = refl; globals_are = refl; size = 1; whole = refl; within = omega arith; answered = omega arith }

no_more_pages : IsInstance small 0 (None ∷ []) (store_of 65536) → ⊥
no_more_pages is = let whole : 65536 ≡ is.size * 65536 = is.whole in let within = is.within in omega (arith, whole, within)

no_part_of_a_page : IsInstance small 2 (None ∷ []) (store_of 65537) → ⊥
no_part_of_a_page is = let whole : 65537 ≡ is.size * 65536 = is.whole in let within : is.size ≤ 2 = is.within in omega (arith, whole, within)

no_memory_without_one : IsInstance (record small { memories = [] }) 2 (None ∷ []) (store_of 65536) → ⊥
no_memory_without_one is = let whole : 65536 ≡ is.size * 65536 = is.whole in let within : is.size ≤ 0 = is.within in omega (arith, whole, within)

no_other_table : IsInstance small 2 [] (store_of 65536) → ⊥
no_other_table is = let e = is.table_is in cc (e)

no_global_more : IsInstance (record small { globals = [] }) 2 (None ∷ []) (store_of 65536) → ⊥
no_global_more is = let e = is.globals_are in omega (arith, e)

no_longer_answer : IsInstance small 2 (None ∷ []) (record (store_of 65536) { answer = replicate 65537 7 }) → ⊥
no_longer_answer is = let few : 65537 ≤ 65536 = is.answered in omega (arith, few)
