-- From what the walk finds to what checking a function promises.
use Rattle.std.proofs.Common.{◌≡◌, ℕ, zero, suc, ◌+◌, ◌-◌, ◌<◌, ◌≤◌, List, [], ◌∷◌, Option, Some, None, Result, Ok, Err, length, refl, sym, ap, ◌∙◌, subst, arith}
use Rattle.std.specs.Prelude.{slice_get, IsSome, IsErrAnd}
use Rattle.wasm_types.specs.declared.types.ValType.{ValType}
use Rattle.wasm_types.specs.declared.types.FuncType.{FuncType}
use Rattle.wasm_types.specs.declared.module.Function.{Function}
use Rattle.wasm_types.specs.declared.module.Module.{Module}
use Rattle.wasm_types.specs.Tree.{Code, module_tree, function_tree, expr_tree}
use Rattle.wasm_spec.specs.Typing.{result_types, Context, own_type, type_or_empty, Typed, IsTypedFunction}
use Rattle.wasm_spec.specs.Need.{need, highest, deepest}
use Rattle.wasm_checker.specs.declared.fault.CheckFault.{CheckFault}
use Rattle.wasm_checker.specs.declared.fault.CheckFault.TheVariants.{Invalid, NoMemory}
use Rattle.wasm_checker.specs.Check.{Stack}
use Rattle.wasm_types.specs.Sequences.{code_at}
use Rattle.wasm_checker.specs.Subject.{HaveOneResult, result_of, all_locals}
use Rattle.wasm_checker.specs.Position.{inside}
use Rattle.wasm_checker.specs.Steps.{Refuses}
use Rattle.wasm_checker.specs.Walk.{whole, Counted}
use Rattle.wasm_checker.proofs.Exact.{Decides, body_exact}
use Rattle.wasm_checker.proofs.Needs.{body_need}
use Rattle.wasm_types.proofs.SequenceLemmas.{tree_is}
use Rattle.wasm_types.proofs.Found.{all_found}

one_value : (ts : List ValType) → length ts ≤ 1 → result_types (slice_get ts 0) ≡ ts
one_value [] le = refl
one_value (t ∷ []) le = refl
one_value (t ∷ u ∷ ts) le = absurd (omega arith)

result_values : (o : Option FuncType) → ((t : FuncType) → o ≡ Some t → length t.results ≤ 1) → result_types (slice_get (type_or_empty o).results 0) ≡ (type_or_empty o).results
result_values None le = refl
result_values (Some t) le = one_value t.results (le t refl)

-- a function's results are its one result or none
results_are : (m : Module) (f : Function) → HaveOneResult m → result_types (result_of m f) ≡ (own_type (module_tree m) (function_tree f)).results
results_are m f one =
    result_values (slice_get m.types f.type_index) (λ t e. all_found (λ (t : FuncType). length t.results ≤ 1) m.types f.type_index t one e)

module _ (m : Module) (f : Function) (one : HaveOneResult m) where
  body_is : code_at f.body (length f.body.sequences - 1) 0 ≡ expr_tree f.body
  body_is = sym (tree_is f.body (length f.body.sequences - 1))

  abbrev outer : List ValType → Context
  outer ts = record { defined = module_tree m; locals = all_locals m f; labels = ts ∷ []; results = ts }

  abbrev code : Code
  code = code_at f.body (length f.body.sequences - 1) 0

  typed_to : Typed (outer (result_types (result_of m f))) code [] (result_types (result_of m f)) → Typed (outer (own_type (module_tree m) (function_tree f)).results) (expr_tree f.body) [] (own_type (module_tree m) (function_tree f)).results
  typed_to h =
      subst (λ (ts : List ValType). Typed (outer ts) (expr_tree f.body) [] ts) (results_are m f one)
      (subst (λ (c : Code). Typed (outer (result_types (result_of m f))) c [] (result_types (result_of m f))) body_is h)

  typed_from : Typed (outer (own_type (module_tree m) (function_tree f)).results) (expr_tree f.body) [] (own_type (module_tree m) (function_tree f)).results → Typed (outer (result_types (result_of m f))) code [] (result_types (result_of m f))
  typed_from h =
      subst (λ (c : Code). Typed (outer (result_types (result_of m f))) c [] (result_types (result_of m f))) (sym body_is)
      (subst (λ (ts : List ValType). Typed (outer ts) (expr_tree f.body) [] ts) (sym (results_are m f one)) h)

  highest_is : highest 0 (outer (result_types (result_of m f))) code 0 ≡ highest 0 (outer (own_type (module_tree m) (function_tree f)).results) (expr_tree f.body) 0
  highest_is =
      ap (λ (c : Code). highest 0 (outer (result_types (result_of m f))) c 0) body_is
      ∙ ap (λ (ts : List ValType). highest 0 (outer ts) (expr_tree f.body) 0) (results_are m f one)

  decides_none : (P : Type 0) (o : Option Stack) → o ≡ None → Decides P o → P → ⊥
  decides_none P None e d = d
  decides_none P (Some s) e d = cc

  decides_some : (P : Type 0) (o : Option Stack) (s : Stack) → o ≡ Some s → Decides P o → P
  decides_some P None s e d = cc
  decides_some P (Some t) s e d = d

  abbrev Body : Type 0
  Body = Typed (inside m f []) code [] (result_types (result_of m f))

  -- where nothing is found
  pub untyped : whole m f ≡ None → IsTypedFunction (module_tree m) (function_tree f) → ⊥
  untyped e h = decides_none Body (whole m f) e (body_exact (inside m f []) (result_of m f) code) (typed_from h.1)

  -- where a stack is found
  pub typed : (n : ℕ × ℕ) → IsSome (slice_get m.types f.type_index) → Counted (whole m f) n
      → IsTypedFunction (module_tree m) (function_tree f) × (length (all_locals m f) + n.0 + n.1 ≡ need (module_tree m) (function_tree f))
  typed n there c =
      let b = body_need (inside m f []) (result_of m f) code c.stack refl c.is in
      let d : deepest 1 code ≡ deepest 1 (expr_tree f.body) = ap (deepest 1) body_is in (
        (there, typed_to (decides_some Body (whole m f) c.stack c.is (body_exact (inside m f []) (result_of m f) code))),
        omega (arith, c.operands, c.labels, b.peak_operands_is, b.peak_labels_is, highest_is, d),
      )

-- an index within a list
pub found_within : {X : Type 0} (xs : List X) (i : ℕ) → i < length xs → IsSome (slice_get xs i)
found_within [] i lt = absurd (omega arith)
found_within (x ∷ xs) zero lt = refl
found_within (x ∷ xs) (suc i) lt = found_within xs i (omega arith)

-- a refusal that is passed on
pub refused_by : {T : Type 0} (P : Type 0) (r : Result T CheckFault) (e : CheckFault) → IsErrAnd r (λ x. x ≡ e) → Refuses P e → r ≡ Err Invalid → P
refused_by P r Invalid is h same = h
refused_by P (Ok x) NoMemory is h same = absurd is
refused_by P (Err x) NoMemory is h same = cc (is, same)
