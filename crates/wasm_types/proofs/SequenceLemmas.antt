-- The trees of numbered sequences.
use Rattle.std.proofs.Common.{◌≡◌, ℕ, zero, suc, ◌+◌, ◌-◌, ◌<◌, ◌≤◌, List, [], ◌∷◌, ◌++◌, length, take, drop, get_or, Some, None, refl, sym, ap, ◌∙◌, arith, append_assoc, append-nil, length-append, ◌⊎◌, ⊎_elim, inl, inr}
use Rattle.std.specs.Prelude.{slice_get}
use Rattle.std.proofs.lemmas.List.{drop_all, drop_more, get_or_past, get_or_push, get_or_append_left, get_or-take, length-take}
use Rattle.std.proofs.lemmas.Option.{get_or_from_slice_get, slice_get_cases, slice_get_within}
use Rattle.std.proofs.Math.Seq.{take-append_seam}
use Rattle.wasm_types.specs.declared.instr.Op.{Op}
use Rattle.wasm_types.specs.declared.instr.Expr.{Expr}
use Rattle.wasm_types.specs.Tree.{Code, End, code_of, codes_from, codes, expr_tree}
use Rattle.wasm_types.specs.Sequences.{ops_of, earlier, code_at, named_in}

-- the trees of more sequences stand behind those of the earlier ones
record Behind (before : List Code) (sequences : List (List Op)) : Type 0 where
  rest : List Code
  is : codes_from before sequences ≡ before ++ rest
  as_many : length rest ≡ length sequences

behind : (before : List Code) (sequences : List (List Op)) → Behind before sequences
behind before [] = record { rest = []; is = sym (append-nil before); as_many = refl }
behind before (ops ∷ sequences) =
    let b = behind (before ++ code_of before ops ∷ []) sequences in
    record { rest = code_of before ops ∷ b.rest; is = b.is ∙ append_assoc before (code_of before ops ∷ []) b.rest; as_many = omega (arith, b.as_many) }

-- a sequence's tree is what its instructions say, over the trees before it
tree_from : (before : List Code) (sequences : List (List Op)) (q n : ℕ) → n ≡ length before + q → q < length sequences
    → get_or (codes_from before sequences) n End ≡ code_of (take n (codes_from before sequences)) (get_or sequences q [])
tree_from before [] q n e lt = absurd (omega arith)
tree_from before (ops ∷ sequences) zero n e lt =
    let c = code_of before ops in
    let b = behind (before ++ c ∷ []) sequences in
    let is : codes_from (before ++ c ∷ []) sequences ≡ before ++ (c ∷ b.rest) = b.is ∙ append_assoc before (c ∷ []) b.rest in
    let m : n ≡ length before = omega arith in
    let one : get_or (codes_from (before ++ c ∷ []) sequences) n End ≡ c =
    ap (λ (l : List Code). get_or l n End) b.is ∙ get_or_append_left (before ++ c ∷ []) b.rest End n (omega (arith, length-append before (c ∷ []))) ∙ get_or_push before c End n (sym m) in
    let two : take n (codes_from (before ++ c ∷ []) sequences) ≡ before =
    ap (λ (k : ℕ). take k (codes_from (before ++ c ∷ []) sequences)) m ∙ ap (take (length before)) is ∙ take-append_seam before (c ∷ b.rest) in
    one ∙ ap (λ (l : List Code). code_of l ops) (sym two)
tree_from before (ops ∷ sequences) (suc q) n e lt =
    tree_from (before ++ code_of before ops ∷ []) sequences q n (omega (arith, length-append before (code_of before ops ∷ []))) (omega arith)

-- each sequence has a tree
pub length-codes_from : (before : List Code) (sequences : List (List Op)) → length (codes_from before sequences) ≡ length before + length sequences
length-codes_from before sequences = let b = behind before sequences in omega (arith, ap length b.is, b.as_many, length-append before b.rest)

length-codes : (e : Expr) → length (codes e) ≡ length e.sequences
unfolding codes
length-codes e = omega (arith, length-codes_from [] e.sequences)

-- one sequence more
pub codes_from-push : (before : List Code) (sequences : List (List Op)) (ops : List Op)
    → codes_from before (sequences ++ ops ∷ []) ≡ codes_from before sequences ++ code_of (codes_from before sequences) ops ∷ []
codes_from-push before [] ops = refl
codes_from-push before (s ∷ sequences) ops = codes_from-push (before ++ code_of before s ∷ []) sequences ops

tree_within : (e : Expr) (q : ℕ) → q < length e.sequences → get_or (codes e) q End ≡ code_at e q 0
unfolding codes
tree_within e q lt = tree_from [] e.sequences q q (omega arith) lt

-- a sequence that isn't there is empty
pub no_ops : (e : Expr) (q : ℕ) → length e.sequences ≤ q → ops_of e q ≡ []
no_ops e q h = get_or_past e.sequences q [] h

pub no_code : (e : Expr) (q : ℕ) → length e.sequences ≤ q → code_at e q 0 ≡ End
no_code e q h = ap (code_of (earlier e q)) (no_ops e q h)

below : (a b : ℕ) → (a < b) ⊎ (b ≤ a)
below a zero = inr (omega arith)
below zero (suc b) = inl (omega arith)
below (suc a) (suc b) = elim (below a b) [ inl x ↦ inl (omega (arith, x)) | inr x ↦ inr (omega (arith, x)) ]

pub tree_is : (e : Expr) (q : ℕ) → get_or (codes e) q End ≡ code_at e q 0
tree_is e q =
    ⊎_elim (λ lt. tree_within e q lt) (λ le. get_or_past (codes e) q End (omega (arith, length-codes e)) ∙ sym (no_code e q le)) (below q (length e.sequences))

-- the code at an instruction, and past the last one
pub code_at-within : (e : Expr) (q place : ℕ) (o : Op) → slice_get (ops_of e q) place ≡ Some o → code_at e q place ≡ code_of (earlier e q) (o ∷ drop (place + 1) (ops_of e q))
code_at-within e q place o there =
    let ops = ops_of e q in
    ap (code_of (earlier e q))
    (drop_more ops place o (slice_get_within ops place o there) ∙ ap (λ (x : Op). x ∷ drop (place + 1) ops) (get_or_from_slice_get ops place o o there))

pub code_at-past : (e : Expr) (q place : ℕ) → slice_get (ops_of e q) place ≡ None → code_at e q place ≡ End
code_at-past e q place none = ap (code_of (earlier e q)) (⊎_elim (λ within. cc (none, within.2)) (λ past. drop_all place (ops_of e q) past.0) (slice_get_cases (ops_of e q) place).1)

-- a named sequence that stands before
pub named_before : (e : Expr) (q inner : ℕ) → inner < q → code_at e inner 0 ≡ named_in e q inner
named_before e q inner lt = sym (tree_is e inner) ∙ sym (get_or-take q (codes e) inner End lt)

-- one that doesn't
pub named_later : (e : Expr) (q inner n : ℕ) → q ≤ inner → length e.sequences ≤ n → code_at e n 0 ≡ named_in e q inner
named_later e q inner n le past =
    no_code e n past ∙ sym (get_or_past (earlier e q) inner End (omega (arith, length-take q (codes e))))

-- the outermost sequence is the last
pub outermost : (e : Expr) (q : ℕ) → q ≡ length e.sequences - 1 → code_of (earlier e q) (ops_of e q) ≡ expr_tree e
outermost e q at = sym (tree_is e q) ∙ ap (λ (n : ℕ). get_or (codes e) n End) at
