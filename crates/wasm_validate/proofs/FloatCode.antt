-- Floats in numbered sequences, one after the other.
use Rattle.std.proofs.Common.{◌≡◌, ℕ, zero, suc, ◌+◌, ◌-◌, ◌<◌, ◌≤◌, List, [], ◌∷◌, ◌++◌, Bool, true, false, ◌||◌, length, map, replicate, take, get_or, refl, sym, ap, ◌∙◌, arith}
use Rattle.std.specs.List.{list_any, flat_map}
use Rattle.std.proofs.lemmas.List.{take_more, take_all, map-append}
use Rattle.std.proofs.lemmas.List.Folds.{list_any-append}
use Rattle.wasm_types.specs.declared.instr.Op.{Op}
use Rattle.wasm_types.specs.declared.instr.Op.TheVariants as op
use Rattle.wasm_types.specs.declared.instr.Expr.{Expr}
use Rattle.wasm_types.specs.declared.types.ValType.{ValType}
use Rattle.wasm_types.specs.declared.module.LocalRun.{LocalRun}
use Rattle.wasm_types.specs.Tree.{Code, End, code_of, codes_from, codes, expr_tree, locals_of}
use Rattle.wasm_types.proofs.SequenceLemmas.{codes_from-push}
use Rattle.wasm_spec.specs.Typing.{result_types}
use Rattle.wasm_spec.specs.Validity.{is_float, has_float, is_float_instruction, code_uses_floats}
use Rattle.wasm_validate.specs.Floats.{op_uses_floats}

-- a list past its end, through a map
at_map : (codes : List Code) (k : ℕ) → get_or (map code_uses_floats codes) k false ≡ code_uses_floats (get_or codes k End)
at_map [] k = refl
at_map (c ∷ cs) zero = refl
at_map (c ∷ cs) (suc k) = at_map cs k

or_assoc : (a b c : Bool) → ((a || b) || c) ≡ (a || b || c)
or_assoc true b c = refl
or_assoc false b c = refl

or_assoc4 : (a b c d : Bool) → ((a || b || c) || d) ≡ (a || b || c || d)
or_assoc4 true b c d = refl
or_assoc4 false b c d = or_assoc b c d

-- code uses floats where one of its instructions does
ops_use : (codes : List Code) (ops : List Op) → list_any (op_uses_floats (map code_uses_floats codes)) ops ≡ code_uses_floats (code_of codes ops)
ops_use codes [] = refl
ops_use codes (op.Plain i ∷ ops) = ap (λ (b : Bool). is_float_instruction i || b) (ops_use codes ops)
ops_use codes (op.Block t k ∷ ops) = rw (at_map codes k, ops_use codes ops) (or_assoc (has_float (result_types t)) (code_uses_floats (get_or codes k End)) (code_uses_floats (code_of codes ops)))
ops_use codes (op.Loop t k ∷ ops) = rw (at_map codes k, ops_use codes ops) (or_assoc (has_float (result_types t)) (code_uses_floats (get_or codes k End)) (code_uses_floats (code_of codes ops)))
ops_use codes (op.If t k j ∷ ops) =
    rw (at_map codes k, at_map codes j, ops_use codes ops) (or_assoc4 (has_float (result_types t)) (code_uses_floats (get_or codes k End)) (code_uses_floats (get_or codes j End)) (code_uses_floats (code_of codes ops)))
ops_use codes (op.Call x ∷ ops) = ops_use codes ops
ops_use codes (op.CallIndirect x ∷ ops) = ops_use codes ops

pub floats_more : (sequences : List (List Op)) (i : ℕ) (ops : List Op) (earlier : List Bool) (b : Bool) → ops ≡ get_or sequences i ops → i < length sequences
    → earlier ≡ map code_uses_floats (codes_from [] (take i sequences)) → b ≡ list_any (op_uses_floats earlier) ops
    → earlier ++ b ∷ [] ≡ map code_uses_floats (codes_from [] (take (i + 1) sequences))
floats_more sequences i ops earlier b here lt e is =
    let so_far : List Code = codes_from [] (take i sequences) in
    let t : take (i + 1) sequences ≡ take i sequences ++ ops ∷ [] = take_more sequences i ops lt ∙ ap (λ (x : List Op). take i sequences ++ x ∷ []) (sym here) in
    let b_is : b ≡ code_uses_floats (code_of so_far ops) = is ∙ ap (λ (l : List Bool). list_any (op_uses_floats l) ops) e ∙ ops_use so_far ops in
    ap (λ (l : List Bool). l ++ b ∷ []) e ∙ ap (λ (x : Bool). map code_uses_floats so_far ++ x ∷ []) b_is ∙ sym (map-append code_uses_floats so_far (code_of so_far ops ∷ []))
    ∙ ap (map code_uses_floats) (sym (codes_from-push [] (take i sequences) ops)) ∙ ap (λ (l : List (List Op)). map code_uses_floats (codes_from [] l)) (sym t)

-- the outermost sequence is the last
pub expr_floats : (e : Expr) (earlier : List Bool) (n k : ℕ) → length e.sequences ≤ n → k ≡ length e.sequences - 1 → earlier ≡ map code_uses_floats (codes_from [] (take n e.sequences)) → get_or earlier k false ≡ code_uses_floats (expr_tree e)
unfolding codes
expr_floats e earlier n k le at is =
    ap (λ (l : List Bool). get_or l k false) is ∙ ap (λ (l : List (List Op)). get_or (map code_uses_floats (codes_from [] l)) k false) (take_all n e.sequences le)
    ∙ at_map (codes_from [] e.sequences) k ∙ ap (λ (i : ℕ). code_uses_floats (get_or (codes_from [] e.sequences) i End)) at

-- a test through a map
pub any_map : {X Y : Type 0} (p : Y → Bool) (f : X → Y) (xs : List X) → list_any p (map f xs) ≡ list_any (λ x. p (f x)) xs
any_map p f [] = refl
any_map p f (x ∷ xs) = ap (λ (b : Bool). p (f x) || b) (any_map p f xs)

-- a run of locals, and all runs
none_float : (n : ℕ) (t : ValType) → is_float t ≡ false → has_float (replicate n t) ≡ false
none_float zero t e = refl
none_float (suc n) t e = ap (λ (b : Bool). b || has_float (replicate n t)) e ∙ none_float n t e

some_floats : (n : ℕ) (b : Bool) (t : ValType) → is_float t ≡ b → (is_float t || has_float (replicate n t)) ≡ is_float t
some_floats n true t e = ap (λ (b : Bool). b || has_float (replicate n t)) e ∙ sym e
some_floats n false t e = ap (λ (b : Bool). b || has_float (replicate n t)) e ∙ none_float n t e ∙ sym e

pub run_floats : (n : ℕ) (t : ValType) → 0 < n → has_float (replicate n t) ≡ is_float t
run_floats zero t lt = absurd (omega arith)
run_floats (suc n) t lt = some_floats n (is_float t) t refl

pub runs_float : (runs : List LocalRun) → has_float (flat_map locals_of runs) ≡ list_any (λ run. has_float (locals_of run)) runs
runs_float [] = refl
runs_float (r ∷ rs) = list_any-append is_float (locals_of r) (flat_map locals_of rs) ∙ ap (λ (b : Bool). has_float (locals_of r) || b) (runs_float rs)
