-- The fresh store of a valid module is typed.
use Rattle.std.proofs.Common.{◌≡◌, ℕ, ◌+◌, ◌<◌, ◌≤◌, List, [], ◌∷◌, ◌++◌, length, take, drop, get_or, refl, ◌∙◌, arith, subst}
use Rattle.std.specs.Prelude.{Option, Some, None, IsSome, All, map, option_map, unwrap_or, replicate, fold}
use Rattle.std.proofs.lemmas.List.{length-append, length-map}
use Rattle.std.proofs.lemmas.List.Elements.{All-head, All-tail, All-append, All-take, All-drop, All-map, All-replicate, All-weaker, All-get_or}
use Rattle.std.proofs.lemmas.Option.{slice_get_within, get_or_from_slice_get}
use Rattle.wasm_types.specs.declared.limits.LoadLimits.{LoadLimits}
use Rattle.wasm_types.specs.declared.types.ValType.{ValType}
use Rattle.wasm_values.specs.declared.outcome.Val.{Val}
use Rattle.wasm_values.specs.declared.outcome.Val.TheVariants as val
use Rattle.wasm_types.specs.declared.module.Module.{Module}
use Rattle.wasm_types.specs.Tree.{GlobalTree, ElementTree, FunctionTree, ModuleTree, function_tree, module_tree}
use Rattle.wasm_spec.specs.Typing.{type_of}
use Rattle.wasm_spec.specs.Functions.{Callee, Imported, Own, callees, callee_at}
use Rattle.wasm_spec.specs.Need.{need}
use Rattle.wasm_spec.specs.Validity.{IsInitialised, IsElementSegment, initial_value}
use Rattle.wasm_spec.specs.Store.{fresh_store, written, offset_of, table_size}
use Rattle.wasm_machine.specs.Calls.{FitsFrame}
use Rattle.wasm_machine.specs.TypedConfiguration.{IsTypedStore}
use Rattle.wasm_spec.specs.Within.{IsWithin}

-- ---- globals

value_typed : (v : Option Val) (t : ValType) → option_map type_of v ≡ Some t → type_of (unwrap_or v (val.I32 0)) ≡ t
value_typed None t h = absurd (cc)
value_typed (Some v) t h = cc

globals_typed : (gs : List GlobalTree) → All IsInitialised gs
    → map type_of (map (λ g. unwrap_or (initial_value g) (val.I32 0)) gs) ≡ map (λ g. g.global_type.value) gs
globals_typed [] all = refl
globals_typed (g ∷ gs) all =
    let first = value_typed (initial_value g) g.global_type.value (All-head IsInitialised g gs all) in
    let rest = globals_typed gs (All-tail IsInitialised g gs all) in
    λ i. first i ∷ rest i

-- ---- tables

abbrev Names : ℕ → Option ℕ → Type 0
Names n None = Unit {0}
Names n (Some x) = x < n

named-is : (n x : ℕ) (e : Option ℕ) → e ≡ Some x → Names n e → x < n
named-is n x e is names = subst (Names n) is names

-- how many numbers of functions there are
abbrev numbers : ModuleTree → ℕ
numbers m = length m.imports + length m.functions

there : (m : ModuleTree) (x : ℕ) → IsSome (callee_at m x) → Names (numbers m) (Some x)
there m x some = inside (callee_at m x) refl some where
  long : length (callees m) ≡ numbers m
  long = length-append (map (λ i. Imported i) m.imports) (map (λ f. Own f) m.functions) ∙ (let a = length-map m.imports (λ i. Imported i) in let b = length-map m.functions (λ f. Own f) in omega arith)

  inside : (c : Option Callee) → callee_at m x ≡ c → IsSome c → x < numbers m
  inside None is h = absurd (cc)
  inside (Some c) is h = let lt = slice_get_within (callees m) x c is in omega (arith, lt, long)

abbrev write_elements : ModuleTree → List (Option ℕ) → ElementTree → List (Option ℕ)
write_elements m table s = written table (offset_of m s.offset) (map (λ f. Some f) s.functions)

segment_named : (m : ModuleTree) (table : List (Option ℕ)) (s : ElementTree) → All (Names (numbers m)) table → IsElementSegment m s
    → All (Names (numbers m)) (write_elements m table s)
segment_named m table s all is =
    let n : ℕ = numbers m in
    let items : List (Option ℕ) = map (λ f. Some f) s.functions in
    let named : All (Names n) items = All-map (Names n) (λ (f : ℕ). Some f) s.functions (All-weaker (λ x. IsSome (callee_at m x)) (λ x. Names n (Some x)) (there m) s.functions is.functions) in
    All-append (Names n) (take (offset_of m s.offset) table) (items ++ drop (offset_of m s.offset + length items) table)
    (All-take (Names n) (offset_of m s.offset) table all)
    (All-append (Names n) items (drop (offset_of m s.offset + length items) table) named (All-drop (Names n) (offset_of m s.offset + length items) table all))

segments_named : (m : ModuleTree) (ss : List ElementTree) (table : List (Option ℕ)) → All (Names (numbers m)) table → All (IsElementSegment m) ss
    → All (Names (numbers m)) (fold (write_elements m) table ss)
segments_named m [] table all is = all
segments_named m (s ∷ ss) table all is =
    segments_named m ss (write_elements m table s) (segment_named m table s all (All-head (IsElementSegment m) s ss is)) (All-tail (IsElementSegment m) s ss is)

-- ---- the store

pub fresh-typed : (limits : LoadLimits) (m : Module) → IsWithin limits (module_tree m) → IsTypedStore m (fresh_store (module_tree m))
fresh-typed limits m within =
    let tree : ModuleTree = module_tree m in
    let n : ℕ = numbers tree in
    let table : List (Option ℕ) = (fresh_store tree).table in
    let all : All (Names n) table = segments_named tree tree.element_segments (replicate (table_size tree) None) (All-replicate (Names n) (table_size tree) None tt) within.valid.element_segments in
    record {
      globals = globals_typed tree.globals within.valid.globals;
      table = λ i x is.
          subst (λ (k : ℕ). x < length m.imports + k) (length-map m.functions function_tree)
          (named-is n x (get_or table i None) (get_or_from_slice_get table i (Some x) None is) (All-get_or (Names n) table i None (slice_get_within table i (Some x) is) all));
    }

pub frames-fit : (limits : LoadLimits) (m : Module) → IsWithin limits (module_tree m) → FitsFrame m limits.frame
frames-fit limits m within x f is =
    let tree : ModuleTree = module_tree m in
    subst (λ (g : FunctionTree). need tree g ≤ limits.frame) (get_or_from_slice_get tree.functions x f f is)
    (All-get_or (λ g. need tree g ≤ limits.frame) tree.functions x f (slice_get_within tree.functions x f is) within.frames)
